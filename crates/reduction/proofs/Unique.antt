-- There is one reduction sequence from a term: a step is a function of the phase and the term.
use mathlib.Core.Path.{◌≡◌, refl, sym, ◌∙◌, ap, ap₂}
use mathlib.Core.Bool.{Bool}
use mathlib.Core.List.{List, ◌∷◌, ◌++◌, map}
use mathlib.Core.Option.{some-injective, none-ne-some}
use Rattle.syntax.specs.Term.{Term}
use Rattle.reduction.specs.declared.Phase.{Phase}
use Rattle.reduction.specs.declared.Phase.TheVariants.{Insertion, Reduction, Dropping}
use Rattle.reduction.specs.Redex.{Step, step}
use Rattle.reduction.specs.Sequence.{Steps, ended, stepped, Sequence, terms}

module _ (pure : Term → Bool) (phase : Phase) where
  -- the steps of a phase from one term
  pub steps_unique : {t t' u w : Term} {ss rs : List Step} → t ≡ t' → Steps pure phase t ss u → Steps pure phase t' rs w → (ss ≡ rs)
      × (u ≡ w)
  steps_unique p (ended e) (ended d) = (refl, p)
  steps_unique p (ended e) (stepped {s = r} d v) = absurd (none-ne-some r (sym e ∙ ap (step pure phase) p ∙ d))
  steps_unique p (stepped {s = s} e q) (ended d) = absurd (none-ne-some s (sym d ∙ ap (step pure phase) (sym p) ∙ e))
  steps_unique p (stepped {s = s} e q) (stepped {s = r} d v) =
      let x : s ≡ r = some-injective s r (sym e ∙ ap (step pure phase) p ∙ d) in
      let y = steps_unique (ap (λ (z : Step). z.next) x) q v in
      (ap₂ {C = List Step} (λ z zs. z ∷ zs) x y.0, y.1)

-- so the terms of the sequence, and the last one, are determined by the first
pub sequence_unique : (pure : Term → Bool) (t u w : Term) (p : Sequence pure t u) (q : Sequence pure t w) → (terms pure p ≡ terms pure q)
    × (u ≡ w)
sequence_unique pure t u w p q =
    let a = steps_unique pure Insertion refl p.phase₁ q.phase₁ in
    let b = steps_unique pure Reduction a.1 p.phase₂ q.phase₂ in
    let c = steps_unique pure Dropping b.1 p.phase₃ q.phase₃ in (
      ap {B = List Term} (λ xs. t ∷ map (λ s. s.next) xs)
          (ap₂ {C = List Step} (λ xs ys. xs ++ ys) a.0 (ap₂ {C = List Step} (λ xs ys. xs ++ ys) b.0 c.0)),
      c.1,
    )
