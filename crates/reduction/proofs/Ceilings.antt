-- Steps that the ceilings allow are steps that use no rule more often than its ceiling says.
use mathlib.Core.Path.{◌≡◌, refl, sym, ap, subst}
use mathlib.Core.Bool.{Bool, true, false}
use mathlib.Core.List.{List, [], ◌∷◌}
use Prim.Native.Nat.{ℕ, ◌+◌, ◌≤◌, ◌<◌}
use native.Mathlib.Omega.{arith}
use lib.Dec.{T, eqb, eqb→eq}
use borrow.Author.Tests.{leb-true, leb-false, lt-leb}
use lib.ListN.{length, get_or}
use lib.Seq.{get_or-set_same}
use Rattle.syntax.specs.Values.{counts}
use Rattle.reduction.specs.declared.Rule.{Rule}
use Rattle.reduction.specs.Redex.{Step}
use Rattle.reduction.specs.Reduction.{Counts, index, of_rule, raise, ceiling_met, zero_counts}
use Rattle.reduction.specs.Sequence.{tally}
use Rattle.reduction.proofs.Path.{Allowed, all_allowed, allows}
use Rattle.reduction.proofs.CountsBounded.{raise_ten, zeros}
use Rattle.reduction.proofs.CountOfRule.{steps_by, index_below, raised_at, tally_by, count_by}

-- no rule's number is over its ceiling
abbrev pub Under : List ℕ → List ℕ → Type 0
Under ns ceilings = (r : Rule) → of_rule r ns ≤ of_rule r ceilings

-- what the test says of the numbers
pub met_reached : (ceilings : List ℕ) (r : Rule) (ns : Counts) → ceiling_met ceilings r ns ≡ true → of_rule r ceilings ≤ of_rule r ns
met_reached ceilings r ns e = leb-true (of_rule r ceilings) (of_rule r ns) e

pub unmet_below : (ceilings : List ℕ) (r : Rule) (ns : Counts) → ceiling_met ceilings r ns ≡ false → of_rule r ns < of_rule r ceilings
unmet_below ceilings r ns e = leb-false (of_rule r ceilings) (of_rule r ns) e

pub below_unmet : (ceilings : List ℕ) (r : Rule) (ns : Counts) → of_rule r ns < of_rule r ceilings → ceiling_met ceilings r ns ≡ false
below_unmet ceilings r ns h = lt-leb (of_rule r ceilings) (of_rule r ns) h

module _ (ceilings : List ℕ) where
  raised_under : (s : Rule) (xs : Counts) → length xs ≡ 10 → of_rule s xs < of_rule s ceilings → Under xs ceilings
      → Under (raise s xs) ceilings
  raised_under s xs l h k r = go (eqb (index s) (index r)) (eqb→eq (index s) (index r))
      (raised_at xs (index s) (index r) (subst (λ (n : ℕ). index r < n) (sym l) (index_below r)))
    where
      go : (b : Bool) → (T b → index s ≡ index r) → of_rule r (raise s xs) ≡ counts b + of_rule r xs
          → of_rule r (raise s xs) ≤ of_rule r ceilings
      go true f e = omega (arith, e, h, ap (λ (i : ℕ). get_or xs i 0) (f tt), ap (λ (i : ℕ). get_or ceilings i 0) (f tt))
      go false f e = omega (arith, e, k r)

  allowed_under : {ss : List Step} {xs : Counts} → length xs ≡ 10 → Under xs ceilings → Allowed ceilings xs ss
      → Under (tally ss xs) ceilings
  unfolding tally
  allowed_under l h all_allowed = h
  allowed_under {xs = xs} l h (allows {s = s} u a) =
      allowed_under (raise_ten s.rule xs l) (raised_under s.rule xs l (unmet_below ceilings s.rule xs u) h) a

  under_allowed : (ss : List Step) (xs : Counts) → length xs ≡ 10 → Under (tally ss xs) ceilings → Allowed ceilings xs ss
  unfolding tally
  under_allowed [] xs l h = all_allowed
  under_allowed (s ∷ ss) xs l h =
      let below : of_rule s.rule xs < of_rule s.rule ceilings = omega (
        arith,
        h s.rule,
        tally_by s.rule ss (raise s.rule xs) (raise_ten s.rule xs l),
        get_or-set_same xs (index s.rule) (of_rule s.rule xs + 1) 0
            (subst (λ (n : ℕ). index s.rule < n) (sym l) (index_below s.rule)),
      ) in
      allows (below_unmet ceilings s.rule xs below)
      (under_allowed ss (raise s.rule xs) (raise_ten s.rule xs l) h)

  -- from the first step on, by the number of steps of each rule
  pub allowed_uses : {ss : List Step} → Allowed ceilings zero_counts ss → (r : Rule) → steps_by r ss ≤ of_rule r ceilings
  allowed_uses {ss = ss} a r = omega (arith, count_by r ss, allowed_under refl (λ r. omega (arith, zeros 10 (index r))) a r)

  pub uses_allowed : (ss : List Step) → ((r : Rule) → steps_by r ss ≤ of_rule r ceilings) → Allowed ceilings zero_counts ss
  uses_allowed ss h = under_allowed ss zero_counts refl (λ r. omega (arith, count_by r ss, h r))

  -- ceilings that are raised allow them too
  pub allowed_raised : (higher : List ℕ) → Under ceilings higher → {ss : List Step} {xs : Counts} → Allowed ceilings xs ss
      → Allowed higher xs ss
  allowed_raised higher h all_allowed = all_allowed
  allowed_raised higher h {xs = xs} (allows {s = s} u a) =
      let below : of_rule s.rule xs < of_rule s.rule higher = omega (arith, unmet_below ceilings s.rule xs u, h s.rule) in
      allows (below_unmet higher s.rule xs below) (allowed_raised higher h a)
