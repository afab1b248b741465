-- Which rule of phase 1 or 2 fits the node at the front: let insertion if an operand is a computation; in phase 2, since phase 1 is over
-- and every operand is a value, the rule that three kinds decide.
use Prim.Native.Nat.{ℕ}
use mathlib.Core.Path.{◌≡◌, refl, sym, ◌∙◌, ap, subst}
use mathlib.Core.Bool.{Bool, true, false}
use mathlib.Core.List.{List}
use mathlib.Core.Option.{Option, some, none, map}
use Rattle.std.proofs.Common as code
use Rattle.std.specs.Bool.{then_some}
use lib.ListN.{get_or}
use Rattle.syntax.specs.Maybe.{given, is_some, option_of}
use Rattle.syntax.specs.Words.{kind_of}
use Rattle.syntax.specs.Term.{Term}
use Rattle.reduction.specs.MayDrop.{may_drop}
use Rattle.reduction.specs.Rules.{let_insertion, fire, rules}
use Rattle.reduction.specs.FitByKinds.{rule_by_kinds}
use Rattle.reduction.specs.declared.Phase.{Phase}
use Rattle.reduction.specs.declared.Phase.TheVariants.{Insertion, Reduction, Dropping}
use Rattle.reduction.specs.declared.Rule.TheVariants.{LetInsertion}
use Rattle.reduction.specs.declared.Rule.{Rule}
use Rattle.reduction.specs.Redex.{Contraction, contract}
use Rattle.theory.proofs.Operands.{inserted}
use Rattle.theory.proofs.FitByKinds.{fit_by_kinds}
use Rattle.search.specs.Operands.{FindsOperand}
use Rattle.search.specs.Fits.{rule_of, Scannable, Fits}
use Rattle.search.specs.declared.fits.Operand.{Operand}

rule_insertion : (calls : List ℕ) (t : Term) → given (is_some (let_insertion t)) LetInsertion ≡ rule_of calls Insertion t
unfolding rule_of contract rules fire
rule_insertion calls t = go (let_insertion t)
  where
    go : (o : Option Term) → given (is_some o) LetInsertion
        ≡ map (λ (c : Contraction). c.rule)
        (elim o as (λ _. Option Contraction) [ some u ↦ some (record { rule = LetInsertion; contractum = u }) | none ↦ none ])
    go none = refl
    go (some u) = refl

-- what the library's `then_some` gives
pub given_is : {X : Type 0} (b : Bool) (x : X) → then_some b x ≡ option_of (given b x)
given_is true x = refl
given_is false x = refl

module _ {phase : Phase} (calls words : List ℕ) {r : code.Option Rule} where
  pub fits_insertion : {o : code.Option Operand} → phase ≡ Insertion → FindsOperand calls words o
      → r ≡ then_some (code.is_some o) LetInsertion
      → Fits phase calls words r
  fits_insertion {o} e f d = record {
    told = λ t rest h ready.
        d ∙ given_is (code.is_some o) LetInsertion
        ∙ ap (λ (b : Bool). option_of (given b LetInsertion)) (f.told t rest h).found_is ∙ ap option_of (rule_insertion calls t)
        ∙ ap (λ (p : Phase). option_of (rule_of calls p t)) (sym e);
  }

  pub fits_reduction : {k₀ k₁ k₂ : ℕ} → phase ≡ Reduction → k₀ ≡ kind_of (get_or words 0 0) → k₁ ≡ kind_of (get_or words 1 0)
      → k₂ ≡ kind_of (get_or words 2 0) → r ≡ option_of (rule_by_kinds k₀ k₁ k₂) → Fits phase calls words r
  unfolding rule_of
  fits_reduction e e₀ e₁ e₂ d = record {
    told = λ t rest h ready.
        d ∙ (λ i. option_of (rule_by_kinds (e₀ i) (e₁ i) (e₂ i)))
        ∙ ap (λ (ws : List ℕ). option_of (rule_by_kinds (kind_of (get_or ws 0 0)) (kind_of (get_or ws 1 0)) (kind_of (get_or ws 2 0)))) h.is
        ∙ ap option_of (sym (fit_by_kinds calls (may_drop calls) t rest h.shaped
        (inserted (may_drop calls) t (subst (λ p. Scannable calls p t) e ready))))
        ∙ ap (λ (p : Phase). option_of (rule_of calls p t)) (sym e);
  }

  -- phase 3 has another search
  pub fits_dropping : phase ≡ Dropping → Fits phase calls words r
  fits_dropping e = record { told = λ t rest h ready. absurd (subst (λ p. Scannable calls p t) e ready) }
