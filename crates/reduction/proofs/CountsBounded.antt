-- There are ten counts, and each is at most the number of steps taken, since a step raises one count by one; so it is at most the budget.
use mathlib.Core.Path.{◌≡◌, refl, sym, ◌∙◌, ap}
use mathlib.Core.Bool.{Bool}
use mathlib.Core.List.{List, [], ◌∷◌}
use Prim.Native.Nat.{ℕ, zero, suc, ◌+◌, ◌≤◌}
use native.Mathlib.Omega.{arith}
use lib.ListN.{length, get_or, set, replicate, length-set}
use Rattle.syntax.specs.Term.{Term}
use Rattle.reduction.specs.declared.Rule.{Rule}
use Rattle.reduction.specs.Redex.{Step}
use Rattle.reduction.specs.declared.Settings.{Settings}
use Rattle.reduction.specs.Reduction.{Counts, index, raise, zero_counts, Progress, stopped, reached, reduce}
use Rattle.reduction.specs.Sequence.{tally}
use Rattle.reduction.proofs.Exact.{budget_spent, ceiling_met_lem, next_too_long, first_too_long, Exact, refused, normal, reduce_exact}
use Rattle.reduction.proofs.Path.{steps}

-- one count raised
pub raised : (counts : Counts) (j i : ℕ) → get_or (set counts j (get_or counts j 0 + 1)) i 0 ≤ suc (get_or counts i 0)
raised [] j i = omega arith
raised (x ∷ xs) zero zero = omega arith
raised (x ∷ xs) zero (suc i) = omega arith
raised (x ∷ xs) (suc j) zero = omega arith
raised (x ∷ xs) (suc j) (suc i) = raised xs j i

tally_bound : (ss : List Step) (counts : Counts) (i : ℕ) → get_or (tally ss counts) i 0 ≤ length ss + get_or counts i 0
unfolding tally
tally_bound [] counts i = omega arith
tally_bound (s ∷ ss) counts i = omega (arith, tally_bound ss (raise s.rule counts) i, raised counts (index s.rule) i)

pub raise_ten : (r : Rule) (counts : Counts) → length counts ≡ 10 → length (raise r counts) ≡ 10
raise_ten r counts h = length-set counts (index r) (get_or counts (index r) 0 + 1) ∙ h

tally_ten : (ss : List Step) (counts : Counts) → length counts ≡ 10 → length (tally ss counts) ≡ 10
unfolding tally
tally_ten [] counts h = h
tally_ten (s ∷ ss) counts h = tally_ten ss (raise s.rule counts) (raise_ten s.rule counts h)

pub zeros : (n i : ℕ) → ◌≡◌ {A = ℕ} (get_or (replicate n 0) i 0) 0
zeros zero i = refl
zeros (suc n) zero = refl
zeros (suc n) (suc i) = zeros n i

-- each count is at most the number of steps
pub count_steps : (ss : List Step) (i : ℕ) → get_or (tally ss zero_counts) i 0 ≤ length ss
count_steps ss i = omega (arith, tally_bound ss zero_counts i, zeros 10 i)

-- the counts of a reduction, refused or not
abbrev pub counts_of : Progress → Counts
counts_of (stopped n counts) = counts
counts_of (reached left u counts) = counts

module _ (pure : Term → Bool) (capacity : ℕ) where
  exact_count : {settings : Settings} {t : Term} {x : Progress} → Exact pure capacity settings t x → (i : ℕ)
      → get_or (counts_of x) i 0 ≤ settings.budget
  exact_count (refused (budget_spent {ss = ss} p h a e l d)) i =
      omega (arith, count_steps ss i, l, ap (λ (c : Counts). get_or c i 0) d)
  exact_count (refused (ceiling_met_lem {ss = ss} p h a e l u d)) i =
      omega (arith, count_steps ss i, l, ap (λ (c : Counts). get_or c i 0) d)
  exact_count (refused (next_too_long {ss = ss} p h a e l u k d)) i =
      omega (arith, count_steps ss i, l, ap (λ (c : Counts). get_or c i 0) d)
  exact_count (refused (first_too_long l)) i = omega (arith, zeros 10 i)
  exact_count (normal q h a l d) i =
      omega (arith, count_steps (steps pure q) i, l, ap (λ (c : Counts). get_or c i 0) d)

  exact_ten : {settings : Settings} {t : Term} {x : Progress} → Exact pure capacity settings t x → length (counts_of x) ≡ 10
  exact_ten (refused (budget_spent {ss = ss} p h a e l d)) = ap length (sym d) ∙ tally_ten ss zero_counts refl
  exact_ten (refused (ceiling_met_lem {ss = ss} p h a e l u d)) = ap length (sym d) ∙ tally_ten ss zero_counts refl
  exact_ten (refused (next_too_long {ss = ss} p h a e l u k d)) = ap length (sym d) ∙ tally_ten ss zero_counts refl
  exact_ten (refused (first_too_long l)) = refl
  exact_ten (normal q h a l d) = ap length (sym d) ∙ tally_ten (steps pure q) zero_counts refl

  pub ten_counts : (settings : Settings) (t : Term) → length (counts_of (reduce pure capacity settings t)) ≡ 10
  ten_counts settings t = exact_ten (reduce_exact pure capacity settings t)

  -- each count is at most the budget
  pub count_budget : (settings : Settings) (t : Term) (i : ℕ)
      → get_or (counts_of (reduce pure capacity settings t)) i 0 ≤ settings.budget
  count_budget settings t i = exact_count (reduce_exact pure capacity settings t) i
