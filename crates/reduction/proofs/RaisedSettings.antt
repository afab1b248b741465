-- Raising the budget or a ceiling keeps what is reached, and a ceiling that is not below the budget is never met.
use mathlib.Core.Path.{◌≡◌, refl, ap, subst}
use mathlib.Core.Bool.{Bool}
use Prim.Native.Nat.{ℕ, ◌+◌, ◌-◌, ◌≤◌}
use native.Mathlib.Omega.{arith}
use Rattle.syntax.specs.Term.{Term}
use Rattle.reduction.specs.declared.Rule.{Rule}
use Rattle.reduction.specs.declared.Settings.{Settings}
use Rattle.reduction.specs.Reduction.{Counts, index, of_rule, Progress, stopped, reached, reduce}
use Rattle.reduction.proofs.Exact.{Refused, budget_spent, ceiling_met_lem, next_too_long, first_too_long, Exact, normal, exact_reduce}
use Rattle.reduction.proofs.Exact.{reduce_exact, reduce_refused}
use Rattle.reduction.proofs.CountsBounded.{count_steps}
use Rattle.reduction.proofs.Ceilings.{Under, met_reached, allowed_raised}

-- the budget and each ceiling as before, or raised
pub record Raised (settings higher : Settings) : Type 0 where
  pub budget : settings.budget ≤ higher.budget
  pub ceilings : Under settings.ceilings higher.ceilings

module _ (pure : Term → Bool) (capacity : ℕ) (settings : Settings) where
  -- the same term with the same counts, and what the budget was raised by is left over
  pub raised_reduce : (higher : Settings) → Raised settings higher → (t u : Term) (left : ℕ) (counts : Counts)
      → reduce pure capacity settings t ≡ reached left u counts
      → reduce pure capacity higher t ≡ reached (left + (higher.budget - settings.budget)) u counts
  raised_reduce higher g t u left counts e =
      keeps (subst (λ (x : Progress). Exact pure capacity settings t x) e (reduce_exact pure capacity settings t))
    where
      keeps : Exact pure capacity settings t (reached left u counts)
          → reduce pure capacity higher t ≡ reached (left + (higher.budget - settings.budget)) u counts
      keeps (normal q h a l d) = exact_reduce pure capacity higher t
          (normal q h (allowed_raised settings.ceilings higher.ceilings g.ceilings a) (omega (arith, l, g.budget)) d)

  module _ (high : (r : Rule) → settings.budget ≤ of_rule r settings.ceilings) where
    not_thirteen : {t : Term} {n : ℕ} {counts : Counts} → Refused pure capacity settings t n counts → n ≡ 13 → ⊥
    not_thirteen (budget_spent p h a e l d) z = omega (arith, z)
    not_thirteen {counts = counts} (ceiling_met_lem {ss = ss} {s = s} p h a e l u d) z =
        omega (
          arith,
          l,
          met_reached settings.ceilings s.rule counts u,
          high s.rule,
          count_steps ss (index s.rule),
          ap (λ (c : Counts). of_rule s.rule c) d,
        )
    not_thirteen (next_too_long p h a e l u k d) z = omega (arith, z)
    not_thirteen (first_too_long l) z = omega (arith, z)

    pub never_met : (t : Term) (counts : Counts) → reduce pure capacity settings t ≡ stopped 13 counts → ⊥
    never_met t counts e = not_thirteen (reduce_refused pure capacity settings t 13 counts e) refl
