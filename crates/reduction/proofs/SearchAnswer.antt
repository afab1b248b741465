-- The search answers a rule and a place exactly if the step is by that rule at that place, and nothing exactly if there is no step.
use mathlib.Core.Path.{◌≡◌, refl, ◌∙◌, ap, ap₂}
use mathlib.Core.Bool.{Bool}
use mathlib.Core.Option.{Option, some, none}
use Prim.Native.Nat.{ℕ}
use Rattle.std.proofs.Common.{Some, None}
use Rattle.syntax.specs.Term.{Term}
use Rattle.reduction.specs.declared.Phase.{Phase}
use Rattle.reduction.specs.declared.Rule.{Rule}
use Rattle.reduction.specs.declared.Redex.{Redex}
use Rattle.reduction.specs.Redex.{Step, step, found_of, first_redex}

-- a step by a rule at a place
pub record StepAt (pure : Term → Bool) (phase : Phase) (t : Term) (r : Rule) (i : ℕ) : Type 0 where
  pub taken : Step
  pub is : step pure phase t ≡ some taken
  pub by : taken.rule ≡ r
  pub at : taken.place ≡ i

-- the redex of a rule at a place
abbrev pub redex : Rule → ℕ → Redex
redex r i = record { rule = r; place = i }

module _ (pure : Term → Bool) (phase : Phase) (t : Term) where
  pub step_redex : (r : Rule) (i : ℕ) → StepAt pure phase t r i → first_redex pure phase t ≡ Some (redex r i)
  unfolding first_redex
  step_redex r i s = ap found_of s.is ∙ ap₂ (λ (q : Rule) (j : ℕ). Some (redex q j)) s.by s.at

  pub redex_step : (r : Rule) (i : ℕ) → first_redex pure phase t ≡ Some (redex r i) → StepAt pure phase t r i
  unfolding first_redex
  redex_step r i e = go (step pure phase t) refl e
    where
      go : (o : Option Step) → step pure phase t ≡ o → found_of o ≡ Some (redex r i) → StepAt pure phase t r i
      go none d f = absurd cc
      go (some s) d f =
          let same : redex s.rule s.place ≡ redex r i = cc in
          record { taken = s; is = d; by = ap (λ (x : Redex). x.rule) same; at = ap (λ (x : Redex). x.place) same }

  pub none_nothing : step pure phase t ≡ none → first_redex pure phase t ≡ None
  unfolding first_redex
  none_nothing e = ap found_of e

  pub nothing_none : first_redex pure phase t ≡ None → step pure phase t ≡ none
  unfolding first_redex
  nothing_none e = go (step pure phase t) e
    where
      go : (o : Option Step) → found_of o ≡ None → o ≡ none
      go none f = refl
      go (some s) f = absurd cc
