-- What is found is the definition's step; the budget is checked before the ceiling of the rule, and that before the next term's length.
--
-- Why it is right: a redex that the search finds is the first one (`first_redex_lem`), so its place is one of the term's and the gap can go
-- there (`at_redex`). Where the ceiling decides, the budget is not spent, so 13 is answered only there. Where the redex is rewritten, its
-- ceiling is not met either, so 11 is answered only there; and where the next term is in the buffer the gap can go to where the search goes
-- on (`next_seekable`).
use Rattle.std.proofs.Common.{Some, ◌≡◌, ℕ, ◌+◌, List, length, sym, ◌∙◌, arith, rules}
use Rattle.std.proofs.lemmas.Result.{err_from_is_err_and}
use Rattle.reduction.specs.declared.Phase.{Phase}
use Rattle.reduction.specs.declared.Redex.{Redex}
use Rattle.words.specs.Fronts.{from}
use Rattle.search.specs.Finds.{Finds}
use Rattle.step.specs.Gaps.{Seeks}
use Rattle.step.specs.declared.gap.Gap.{Gap}
use Rattle.step.proofs.TurnIsStep.{GapAtRedex, turned_stops, first_redex_lem, turned_spent}
use Rattle.step.proofs.TurnIsStep.{place_small, redex_seekable, turn_rewritable, turned_full, next_seekable, turned_goes}
use Rattle.step.proofs.turn.take_turn.Goals as goal

-- the gap is at the redex that the search found
at_redex : {phase : Phase} {calls before : List ℕ} {start end : ℕ} {sought : List ℕ} {gap : Gap} {r : Redex}
    → Finds phase calls (from before end) (Some r)
    → (gap.start ≡ start + r.place) × Seeks before start end (start + r.place) sought gap.end → length sought ≡ length before
    → GapAtRedex phase calls before start end r.rule gap.start sought gap.end
at_redex f s l = rw s.0 (record { redex = first_redex_lem f; seeks = s.1; same = l })

pub returns-in_default : goal.returns-in_default
returns-in_default c = turned_stops c.in_default.ensures

pub returns-then-spent : goal.returns-then-spent
returns-then-spent c = turned_spent (first_redex_lem c.in-Some.ensures) c.if-spent.true

pub overflow_add-place : goal.overflow_add-place
overflow_add-place c = omega (arith, place_small (first_redex_lem c.in-Some.ensures) c.requires.0)

pub seek-at_redex-requires : goal.seek-at_redex-requires
seek-at_redex-requires c = redex_seekable (first_redex_lem c.in-Some.ensures) c.requires.0

pub rewrite-requires : goal.rewrite-requires
rewrite-requires c = (
  rw c.words.ensures (turn_rewritable
      (at_redex c.in-Some.ensures c.seek-at_redex.ensures c.seek-at_redex.auto.words)
      c.requires.0 _ (search rules)),
  c.requires.1,
)

pub returns-in_err-rewritten : goal.returns-in_err-rewritten
returns-in_err-rewritten c =
    let p = err_from_is_err_and c.from_residual.result c.from_residual.ensures.1 in
    rw (p.1, p.2) (turned_full
    (at_redex c.in-Some.ensures c.seek-at_redex.ensures c.seek-at_redex.auto.words)
    (omega (arith, c.if-spent.false)) (sym c.ceiling_met-met.ensures ∙ search)
    (rw c.words.ensures at c.in_err-rewritten.ensures))

pub seek-gap-requires : goal.seek-gap-requires
seek-gap-requires c =
    next_seekable
    (at_redex c.in-Some.ensures c.seek-at_redex.ensures c.seek-at_redex.auto.words)
    (rw c.words.ensures at c.in_ok-rewritten.ensures) c.requires.0 (rw c.seek-at_redex.ensures.0 c.next_from-from.ensures)

pub returns : goal.returns
returns c =
    turned_goes
    (at_redex c.in-Some.ensures c.seek-at_redex.ensures c.seek-at_redex.auto.words)
    (rw c.words.ensures at c.in_ok-rewritten.ensures) (omega (arith, c.if-spent.false))
    (sym c.ceiling_met-met.ensures ∙ search) (rw c.seek-at_redex.ensures.0 c.next_from-from.ensures) c.seek-gap.ensures
