-- A rule's count is the number of steps by that rule: a step raises its own rule's count by one and leaves the others.
use mathlib.Core.Path.{◌≡◌, refl, sym, ◌∙◌, ap, subst}
use mathlib.Core.Bool.{Bool, true, false, not}
use mathlib.Core.List.{List, [], ◌∷◌}
use Prim.Native.Nat.{ℕ, ◌+◌, ◌<◌}
use native.Mathlib.Omega.{arith}
use lib.Dec.{T, eqb, eqb→eq, eqb_refl, T_not}
use lib.ListN.{length, get_or, set}
use lib.Seq.{get_or-set_same, get_or-set_other}
use Rattle.syntax.specs.Values.{counts}
use Rattle.reduction.specs.declared.Rule.{Rule}
use Rattle.reduction.specs.declared.Rule.TheVariants.{LetInsertion, LetOfLet, LetOfCase, Apply, First, Second, LeftCase, RightCase}
use Rattle.reduction.specs.declared.Rule.TheVariants.{LetValue, Drop}
use Rattle.reduction.specs.Redex.{Step}
use Rattle.reduction.specs.Reduction.{Counts, index, raise, zero_counts}
use Rattle.reduction.specs.Sequence.{tally}
use Rattle.reduction.proofs.CountsBounded.{raise_ten, zeros}

-- how many of the steps are by a rule
unfoldable pub steps_by : Rule → List Step → ℕ
steps_by r [] = 0
steps_by r (s ∷ ss) = counts (eqb (index s.rule) (index r)) + steps_by r ss

pub index_below : (r : Rule) → index r < 10
index_below LetInsertion = omega arith
index_below LetOfLet = omega arith
index_below LetOfCase = omega arith
index_below Apply = omega arith
index_below First = omega arith
index_below Second = omega arith
index_below LeftCase = omega arith
index_below RightCase = omega arith
index_below LetValue = omega arith
index_below Drop = omega arith

-- one count of a list raised, read at an index
pub raised_at : (xs : Counts) (j i : ℕ) → i < length xs → get_or (set xs j (get_or xs j 0 + 1)) i 0 ≡ counts (eqb j i) + get_or xs i 0
raised_at xs j i l = go (eqb j i) (eqb→eq j i) (λ f e. T_not (eqb j i) f (subst (λ (k : ℕ). T (eqb j k)) e (eqb_refl j)))
  where
    go : (b : Bool) → (T b → j ≡ i) → (T (not b) → j ≡ i → ⊥) → get_or (set xs j (get_or xs j 0 + 1)) i 0 ≡ counts b + get_or xs i 0
    go true h k =
        let e = h tt in
        ap (λ (n : ℕ). get_or (set xs n (get_or xs n 0 + 1)) i 0) e ∙ get_or-set_same xs i (get_or xs i 0 + 1) 0 l ∙ omega arith
    go false h k = get_or-set_other xs j i (get_or xs j 0 + 1) 0 (λ e. k tt (sym e)) ∙ omega arith

pub tally_by : (r : Rule) (ss : List Step) (xs : Counts) → length xs ≡ 10
    → get_or (tally ss xs) (index r) 0 ≡ steps_by r ss + get_or xs (index r) 0
unfolding tally steps_by
tally_by r [] xs l = omega arith
tally_by r (s ∷ ss) xs l =
    omega (
      arith,
      tally_by r ss (raise s.rule xs) (raise_ten s.rule xs l),
      raised_at xs (index s.rule) (index r) (subst (λ (n : ℕ). index r < n) (sym l) (index_below r)),
    )

pub count_by : (r : Rule) (ss : List Step) → get_or (tally ss zero_counts) (index r) 0 ≡ steps_by r ss
count_by r ss = omega (arith, tally_by r ss zero_counts refl, zeros 10 (index r))
