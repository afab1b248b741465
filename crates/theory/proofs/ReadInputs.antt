-- Input i is marked if and only if the term has variable d + i at some position under d binders. The refusal is that of `check`, and the
-- count is the sum of the ones.
use mathlib.Core.Path.{◌≡◌, refl, sym, ◌∙◌, ap, subst}
use mathlib.Core.List.{List}
use mathlib.Core.Option.{Option}
use lib.Dec.{T, ltb→lt}
use lib.Count.{ones}
use lib.ListN.{length}
use borrow.Author.Tests.{ltb-true, lt-ltb}
use Prim.Native.Nat.{ℕ, ◌+◌, ◌<◌}
use native.Mathlib.Omega.{arith}
use Rattle.syntax.specs.Tables.{Tables}
use Rattle.syntax.specs.Term.{Term, as_var}
use Rattle.syntax.specs.Positions.{positions}
use Rattle.syntax.specs.Values.{counts, uses}
use Rattle.syntax.proofs.Options.{counts_is_1}
use Rattle.syntax.proofs.UsesPositions.{Found, used_found, found_used}
use Rattle.typing.specs.TermChecks.{below, scoped_at, scoped}
use Rattle.typing.specs.Refusals.{Verdict, refused, accepted, TypedTerm, elaborate, other_limit}
use Rattle.outcomes.specs.Check.{checked_of, check_outcome}
use Rattle.typing.proofs.Accepted.{accepted_passed}
use Rattle.typing.proofs.ScopedNode.{every_member}
use Rattle.outcomes.specs.FreeInputs.{reads, read_of, free_inputs_outcome}
use Rattle.outcomes.specs.declared.FreeInputs.{FreeInputs}
use Rattle.outcomes.proofs.Marks.{ones_of, ones_masks, mark_at, mark_masks}

-- a variable that some position holds is in scope, so it is one of the inputs
pub found_scoped : (m : ℕ) (t : Term) (i : ℕ) → Found i (positions t) → T (scoped_at m t) → i < m
unfolding scoped_at
found_scoped m t i f h =
    let p = f.position in
    let b = every_member (λ q. below (q.depth + m) (as_var q.subterm)) f.among h in
    let l = ltb→lt (p.depth + i) (p.depth + m) (subst (λ (o : Option ℕ). T (below (p.depth + m) o)) f.names b) in
    omega (arith, l)

-- the refusal is that of `check`
refusal_of_lem : (v : Verdict TypedTerm) → (read_of v).refusal ≡ (checked_of v).refusal
refusal_of_lem (refused n) = refl
refusal_of_lem (accepted x) = refl

pub refusal_as_check : (tables : Tables) (words : List ℕ) → (free_inputs_outcome tables words).refusal ≡ (check_outcome tables words).refusal
unfolding free_inputs_outcome check_outcome
refusal_as_check tables words = refusal_of_lem (elaborate other_limit tables words)

-- the count is the sum of the ones in the four words, where it is refused too
ones_of_lem : (v : Verdict TypedTerm) → ones_of (read_of v).marks ≡ (read_of v).count
unfolding ones
ones_of_lem (refused n) = refl
ones_of_lem (accepted x) = ones_masks (reads x.term)

pub count_is_ones : (tables : Tables) (words : List ℕ)
    → ones_of (free_inputs_outcome tables words).marks ≡ (free_inputs_outcome tables words).count
unfolding free_inputs_outcome
count_is_ones tables words = ones_of_lem (elaborate other_limit tables words)

module _ (tables : Tables) (words : List ℕ) (x : TypedTerm) (e : elaborate other_limit tables words ≡ accepted x) where
  -- the answer for a term that the checks accept
  pub accepted_marks : free_inputs_outcome tables words ≡ read_of (accepted x)
  unfolding free_inputs_outcome
  accepted_marks = ap read_of e

  pub mark_reads : (i : ℕ) → i < 256 → mark_at (free_inputs_outcome tables words).marks i ≡ counts (reads x.term i)
  mark_reads i l = ap (λ (r : FreeInputs). mark_at r.marks i) accepted_marks ∙ mark_masks 4 i (reads x.term) (omega (arith, l))

  -- input i is marked if and only if, at some position under d binders, the term has variable d + i
  pub marked_named : (i : ℕ) → i < 256 → mark_at (free_inputs_outcome tables words).marks i ≡ 1 → Found i (positions x.term)
  unfolding reads
  marked_named i l m =
      used_found x.term i (ltb-true 0 (uses x.term i) (counts_is_1 (reads x.term i) (sym (mark_reads i l) ∙ m)))

  pub named_marked : (i : ℕ) → i < 256 → Found i (positions x.term) → mark_at (free_inputs_outcome tables words).marks i ≡ 1
  unfolding reads
  named_marked i l f = mark_reads i l ∙ ap counts (lt-ltb 0 (uses x.term i) (found_used x.term i f))

  -- no mark stands past the last input
  pub marked_input : (i : ℕ) → i < 256 → mark_at (free_inputs_outcome tables words).marks i ≡ 1 → i < length tables.inputs
  unfolding scoped
  marked_input i l m =
      found_scoped (length tables.inputs) x.term i (marked_named i l m) (accepted_passed other_limit tables words x e).in_scope
