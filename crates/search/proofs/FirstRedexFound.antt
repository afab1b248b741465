-- The search of each phase answers the definition's first redex.
use Prim.Native.Nat.{ℕ, ◌+◌}
use native.Mathlib.Omega.{arith}
use mathlib.Core.Path.{◌≡◌, refl, sym, ◌∙◌, ap}
use mathlib.Core.List.{List, [], append-nil}
use lib.ListN.{length, drop}
use Rattle.std.proofs.Common.{Option, Some, None, ◌⊎◌}
use mathlib.Core.Logic.◌⊎◌.{inl, inr}
use Rattle.reduction.specs.MayDrop.{may_drop}
use Rattle.reduction.specs.Redex.{first_redex}
use Rattle.syntax.specs.Term.{Term}
use Rattle.syntax.specs.Encoding.{encode}
use Rattle.reduction.specs.declared.Phase.{Phase}
use Rattle.reduction.specs.declared.Phase.TheVariants.{Insertion, Reduction, Dropping}
use Rattle.reduction.specs.declared.Redex.{Redex}
use Rattle.words.specs.Fronts.{Starts}
use Rattle.search.specs.Fits.{Scannable}
use Rattle.search.specs.Searches.{Onward, Continues, moved_by, FindsFirst}
use Rattle.search.specs.Unused.{MarkSpace, FindsUnused}
use Rattle.search.specs.PhasePremise.{PhasePremise}
use Rattle.search.specs.Finds.{SearchAt, Searchable, Finds}

-- phases 1 and 2
module _ {phase : Phase} (ready : (calls : List ℕ) (t : Term) (i : ℕ) → PhasePremise calls phase t i → Scannable calls phase t)
    {calls rest : List ℕ} where
  onward : (t : Term) (i : ℕ) → SearchAt phase calls rest i t → Onward phase calls rest t i
  onward t i a = record { shaped = a.shaped; is = a.is; clear = a.clear; ready = ready calls t i a.premise }

  pub continues : {marks : List ℕ} → Searchable phase calls rest marks → Continues phase calls rest
  continues s = record { term = s.term; index = s.from; onward = onward s.term s.from s.at }

  pub finds_first : {r : Option Redex} → FindsFirst phase calls rest r → Finds phase calls rest r
  finds_first f = record { told = λ t i a. f.told t i (onward t i a) }

-- what they take as known
pub scanned : (phase : Phase) → (phase ≡ Insertion) ⊎ (phase ≡ Reduction) → (calls : List ℕ) (t : Term) (i : ℕ)
    → PhasePremise calls phase t i → Scannable calls phase t
scanned Insertion e calls t i p = tt
scanned Reduction e calls t i p = p
scanned Dropping e calls t i p = elim e [ inl d ↦ absurd cc | inr d ↦ absurd cc ]

-- what is found in the whole is found at its place
at_front : (r : Option Redex) → moved_by 0 r ≡ r
at_front None = refl
at_front (Some r) =
    let e : 0 + r.place ≡ r.place = omega arith in ap (λ (p : ℕ). Some (record { rule = r.rule; place = p })) e

-- phase 3
at_zero : (phase : Phase) (calls : List ℕ) (t : Term) (i : ℕ) → phase ≡ Dropping → PhasePremise calls phase t i → i ≡ 0
at_zero Insertion calls t i e p = absurd cc
at_zero Reduction calls t i e p = absurd cc
at_zero Dropping calls t i e p = p

module _ {phase : Phase} {calls rest : List ℕ} where
  pub marks_open : {marks : List ℕ} → Searchable phase calls rest marks → MarkSpace marks 0 (length rest)
  marks_open s = record { deep = omega (arith, s.deep); small = s.marks_small; low = λ d l. absurd (omega (arith, l)) }

  module _ (e : phase ≡ Dropping) where
    whole : {t : Term} {i : ℕ} → SearchAt phase calls rest i t → rest ≡ encode t
    whole {t} {i} a = a.is ∙ ap (λ (k : ℕ). drop k (encode t)) (at_zero phase calls t i e a.premise)

    pub whole_starts : {marks : List ℕ} → Searchable phase calls rest marks → Starts calls rest
    whole_starts s = record {
      term = s.term;
      rest = [];
      holds = record { shaped = s.at.shaped; is = whole s.at ∙ sym (append-nil (encode s.term)) };
    }

    pub finds_unused : {r : Option Redex} → FindsUnused calls rest r → Finds phase calls rest r
    finds_unused {r} f = record {
      told = λ t i a.
          ap (λ (k : ℕ). moved_by k r) (at_zero phase calls t i e a.premise) ∙ at_front r ∙ f.told t a.shaped (whole a)
          ∙ ap (λ (p : Phase). first_redex (may_drop calls) p t) (sym e);
    }
