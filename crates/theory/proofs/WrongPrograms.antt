-- The contract of `normalize` rules out wrong programs (paper 01, c): one that refuses each term, one that hands back a fixed normal form,
-- one that invents the counts, and one that refuses with 10, 13 or 11 too early. A reduction is determined by its steps, so where the
-- checks accept, the answer is too; and the ten counts say how many steps it took.
use mathlib.Core.Path.{◌≡◌, refl, sym, ◌∙◌, ap, subst}
use mathlib.Core.Bool.{Bool}
use mathlib.Core.List.{List, [], ◌∷◌}
use mathlib.Core.Option.{some, some-injective, none-ne-some}
use lib.ListN.{length, get_or, set}
use Prim.Native.Nat.{ℕ, zero, suc, ◌+◌, ◌≤◌, ◌<◌}
use native.Mathlib.Omega.{arith}
use Rattle.syntax.specs.Tables.{Tables}
use Rattle.syntax.specs.Term.{Term}
use Rattle.syntax.specs.Encoding.{size}
use Rattle.typing.specs.Refusals.{accepted, TypedTerm, elaborate, normalize_limit}
use Rattle.reduction.specs.MayDrop.{may_drop}
use Rattle.reduction.specs.declared.Phase.{Phase}
use Rattle.reduction.specs.declared.Phase.TheVariants.{Insertion}
use Rattle.reduction.specs.Redex.{Step, step}
use Rattle.reduction.specs.declared.Settings.{Settings}
use Rattle.reduction.specs.Reduction.{Counts, index, of_rule, raise, zero_counts, Progress, stopped, reached, reduce}
use Rattle.reduction.specs.Sequence.{tally, Sequence}
use Rattle.reduction.proofs.Ceilings.{met_reached}
use Rattle.reduction.proofs.CountOfRule.{index_below, steps_by, count_by}
use Rattle.reduction.proofs.CountsBounded.{raise_ten}
use Rattle.reduction.proofs.Exact.{Refused, budget_spent, ceiling_met_lem, next_too_long, first_too_long, reduce_refused}
use Rattle.reduction.proofs.Path.{first_second, second_third, Within, fits, nexts, Path, here, taken, onward, steps}
use Rattle.reduction.proofs.WithinSettings.{Stays}
use Rattle.outcomes.specs.Normalize.{reduced_to, Buffers, capacity_of, Outcome}
use Rattle.outcomes.specs.Contract.{Normalizes}
use Rattle.outcomes.proofs.WithinSettings.{outcome_is, stays_accepted}
use Rattle.outcomes.specs.declared.Answer.{Answer}

-- all counts together
unfoldable pub total : Counts → ℕ
total [] = 0
total (n ∷ ns) = n + total ns

total_raised : (ns : Counts) (j : ℕ) → j < length ns → total (set ns j (get_or ns j 0 + 1)) ≡ suc (total ns)
unfolding total
total_raised [] j l = absurd (omega (arith, l))
total_raised (n ∷ ns) zero l = omega arith
total_raised (n ∷ ns) (suc j) l = omega (arith, total_raised ns j (omega (arith, l)))

total_tally : (ss : List Step) (counts : Counts) → length counts ≡ 10 → total (tally ss counts) ≡ length ss + total counts
unfolding tally
total_tally [] counts l = omega arith
total_tally (s ∷ ss) counts l =
    let j = index s.rule in
    omega (
      arith,
      total_tally ss (raise s.rule counts) (raise_ten s.rule counts l),
      total_raised counts j (subst (λ (n : ℕ). j < n) (sym l) (index_below s.rule)),
    )

-- each step raises one count by one
pub counts_total : (ss : List Step) → total (tally ss zero_counts) ≡ length ss
unfolding total
counts_total ss = omega (arith, total_tally ss zero_counts refl)

-- after as many steps from one term, the next step is the same
module _ (pure : Term → Bool) where
  next_unique : {phase last last' : Phase} {t t' w w' : Term} {ss rs : List Step} {s r : Step} → t ≡ t' → Path pure phase t ss last w
      → step pure last w ≡ some s → Path pure phase t' rs last' w' → step pure last' w' ≡ some r → length ss ≡ length rs → s ≡ r
  next_unique {phase} {s = s} {r = r} p here e here d l = some-injective s r (sym e ∙ ap (step pure phase) p ∙ d)
  next_unique p here e (taken b q) d l = absurd (omega (arith, l))
  next_unique {phase} {s = s} p here e (onward n f q) d l = absurd (none-ne-some s (sym n ∙ ap (step pure phase) (sym p) ∙ e))
  next_unique p (taken a q) e here d l = absurd (omega (arith, l))
  next_unique {phase} p (taken {s = x} a q) e (taken {s = y} b o) d l =
      next_unique (ap (λ (z : Step). z.next) (some-injective x y (sym a ∙ ap (step pure phase) p ∙ b))) q e o d (omega (arith, l))
  next_unique {phase} p (taken {s = x} a q) e (onward n f o) d l =
      absurd (none-ne-some x (sym n ∙ ap (step pure phase) (sym p) ∙ a))
  next_unique {phase} {r = r} p (onward n f q) e here d l = absurd (none-ne-some r (sym n ∙ ap (step pure phase) p ∙ d))
  next_unique {phase} p (onward n f q) e (taken {s = y} b o) d l = absurd (none-ne-some y (sym n ∙ ap (step pure phase) p ∙ b))
  next_unique p (onward n first_second q) e (onward m first_second o) d l = next_unique p q e o d l
  next_unique p (onward n second_third q) e (onward m second_third o) d l = next_unique p q e o d l

-- Of words that the checks accept as a term and its type.
module _ {settings : Settings} {tables : Tables} {words : List ℕ} {before : Buffers} {x : TypedTerm}
    (checked : elaborate normalize_limit tables words ≡ accepted x) {answer : Answer} {after : Buffers}
    (contract : Normalizes settings tables words before answer after) where
  abbrev pure : Term → Bool
  pure = may_drop tables.calls

  abbrev capacity : ℕ
  capacity = capacity_of before

  -- the answer is what the reduction comes to
  answer_is : (p : Progress) → reduce pure capacity settings x.term ≡ p → answer ≡ (reduced_to x.type p).answer
  answer_is p r = ap (λ (o : Outcome). o.answer) (contract.outcome ∙ outcome_is settings tables words before x checked p r)

  -- the answer to a term whose whole reduction stays within the budget, the ceilings and the capacity
  module _ {u : Term} (q : Sequence pure x.term u) (stays : Stays pure capacity settings q) where
    in_full : answer ≡ record { refusal = 0; ty = x.type; length = size u; counts = tally (steps pure q) zero_counts }
    in_full = ap (λ (o : Outcome). o.answer) (contract.outcome ∙ stays_accepted settings tables words before x checked u q stays)

    -- the program that refuses
    pub refusing_ruled_out : (answer.refusal ≡ 0 → ⊥) → ⊥
    refusing_ruled_out h = h (ap (λ (a : Answer). a.refusal) in_full)

    -- the program that invents the counts
    pub counts_ruled_out : (answer.counts ≡ tally (steps pure q) zero_counts → ⊥) → ⊥
    counts_ruled_out h = h (ap (λ (a : Answer). a.counts) in_full)

  -- The program that answers 10, 13 or 11 too early: it refuses, and by its counts it took the steps ss, though the step after
  -- these is within the budget, its ceiling and the capacity.
  pub early_refusal_ruled_out : {phase : Phase} {w : Term} {ss : List Step} {s : Step} → Path pure Insertion x.term ss phase w
      → Within capacity (x.term ∷ nexts ss) → step pure phase w ≡ some s → length ss < settings.budget
      → steps_by s.rule ss < of_rule s.rule settings.ceilings → size s.next ≤ capacity
      → (answer.refusal ≡ 0 → ⊥) → answer.counts ≡ tally ss zero_counts → ⊥
  unfolding reduced_to
  early_refusal_ruled_out {ss = ss} {s = s} path (fits first rest) e budget below room refuses counted =
      go (reduce pure capacity settings x.term) refl
    where
      as_many : (rs : List Step) → tally rs zero_counts ≡ tally ss zero_counts → length rs ≡ length ss
      as_many rs d = omega (arith, counts_total rs, counts_total ss, ap total d)

      stops : {n : ℕ} {counts : Counts} → Refused pure capacity settings x.term n counts → counts ≡ tally ss zero_counts → ⊥
      stops (budget_spent {ss = rs} p h a d l t) c = omega (arith, as_many rs (t ∙ c), l, budget)
      stops {counts = counts} (ceiling_met_lem {ss = rs} {s = r} p h a d l u t) c =
          let same = next_unique pure refl p d path e (as_many rs (t ∙ c)) in
          omega (
            arith,
            met_reached settings.ceilings r.rule counts u,
            ap (λ (z : Step). of_rule z.rule settings.ceilings) same,
            ap (λ (z : Step). of_rule z.rule counts) same,
            ap (of_rule s.rule) c,
            count_by s.rule ss,
            below,
          )
      stops (next_too_long {ss = rs} p h a d l u k t) c =
          let same = next_unique pure refl p d path e (as_many rs (t ∙ c)) in
          omega (arith, k, room, ap (λ (z : Step). size z.next) same)
      stops (first_too_long l) c = omega (arith, l, first)

      go : (p : Progress) → reduce pure capacity settings x.term ≡ p → ⊥
      go (stopped n counts) r =
          stops (reduce_refused pure capacity settings x.term n counts r)
          (sym (ap (λ (a : Answer). a.counts) (answer_is (stopped n counts) r)) ∙ counted)
      go (reached left u counts) r = refuses (ap (λ (a : Answer). a.refusal) (answer_is (reached left u counts) r))
