-- Types are kept by every rule at every place: a step is a rule at some node, each rule keeps the node's type, and the term around the
-- node sees only that type.
use mathlib.Core.Path.{◌≡◌}
use mathlib.Core.Bool.{Bool}
use mathlib.Core.List.{List}
use mathlib.Core.Option.{some}
use Prim.Native.Nat.{ℕ}
use Rattle.syntax.specs.Tables.{Tables}
use Rattle.syntax.specs.Term.{Term}
use Rattle.typing.specs.Infer.{Context, infer}
use Rattle.typing.proofs.Typing.{Typed}
use Rattle.typing.proofs.InferTyped.{typing_of, typed_infer}
use Rattle.reduction.specs.declared.Phase.{Phase}
use Rattle.reduction.specs.declared.Phase.TheVariants.{Insertion, Reduction, Dropping}
use Rattle.reduction.specs.Redex.{Step as Stepped, step}
use Rattle.reduction.specs.Sequence.{Steps, ended, stepped}
use Rattle.reduction.proofs.Fits.{Root}
use Rattle.reduction.proofs.Search.{one_step}
use Rattle.theory.proofs.Preserve.{keep₁, keep₂, keep₃, keeps}

module _ (tables : Tables) (ok : ℕ → Type 0) (pure : Term → Bool) where
  keep_root : (phase : Phase) (t t' : Term) → Root pure phase t t' → (Γ : Context) (A : ℕ) → Typed tables ok Γ t A → Typed tables ok Γ t' A
  keep_root Insertion t t' r Γ A x = keep₁ tables ok r x
  keep_root Reduction t t' r Γ A x = keep₂ tables ok r x
  keep_root Dropping t t' r Γ A x = keep₃ tables ok pure r x

  -- a step, as derivations
  pub step_typed : (phase : Phase) {Γ : Context} {A : ℕ} (t : Term) (s : Stepped) → step pure phase t ≡ some s → Typed tables ok Γ t A
      → Typed tables ok Γ s.next A
  step_typed phase t s e x = keeps tables ok (Root pure phase) (keep_root phase) (one_step pure phase t s e) x

  -- the steps of a phase
  pub steps_typed : (phase : Phase) {Γ : Context} {A : ℕ} {t u : Term} {ss : List Stepped} → Steps pure phase t ss u → Typed tables ok Γ t A
      → Typed tables ok Γ u A
  steps_typed phase (ended e) x = x
  steps_typed phase (stepped {t = t} {s = s} e q) x = steps_typed phase q (step_typed phase t s e x)

-- the same of the check on type numbers: if a term has a type, the next term has that type
pub infer_step : (tables : Tables) (pure : Term → Bool) (phase : Phase) (Γ : Context) (A : ℕ) (t : Term) (s : Stepped)
    → infer tables t Γ ≡ some A → step pure phase t ≡ some s → infer tables s.next Γ ≡ some A
infer_step tables pure phase Γ A t s h e = typed_infer tables (λ k. Unit)
    (step_typed tables (λ k. Unit) pure phase t s e (typing_of tables (λ k. Unit) t Γ A h (λ k i. tt)))
