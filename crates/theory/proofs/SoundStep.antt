-- A step anywhere keeps what a run ends with, if the rule at the node does; a drop of one operation only strikes out the calls it makes.
use mathlib.Core.List.{List, ◌∷◌, ◌++◌}
use mathlib.Core.Bool.{Bool}
use lib.Dec.{T, eqb→eq}
use Prim.Native.Nat.{ℕ, ◌≤◌}
use native.Mathlib.Omega.{arith}
use Rattle.syntax.specs.Term.{Term, Terms}
use Rattle.syntax.specs.Values.{uses}
use Rattle.typing.specs.Infer.{Context}
use Rattle.reduction.specs.Rules.{lower}
use Rattle.reduction.specs.NormalForm.{Operation}
use Rattle.semantics.specs.Value.{Value, Values, also, Trace}
use Rattle.semantics.specs.Run.{Ends}
use Rattle.typing.proofs.Typing.{At, here, there, Typed, TypedAll, t_call, t_lam, t_app, t_bind, t_pair, t_fst, t_snd, t_inl, t_inr, t_case}
use Rattle.typing.proofs.Typing.{t_arg}
use Rattle.theory.proofs.Ends.{ends_bind}
use Rattle.theory.proofs.Forms.{never}
use Rattle.theory.proofs.DropsOfOperations.{DropsOperation, drops}
use Rattle.theory.proofs.Relation.{Model, E, EAll, ends_related}
use Rattle.theory.proofs.Compatible.{Bound, past_left, e_lam, e_app, e_bind, e_pair, e_fst, e_snd, e_inl, e_inr, e_case}
use Rattle.theory.proofs.Compatible.{e_arg, e_call}
use Rattle.theory.proofs.Fundamental.{renamed, Same, same_up, same, same_all}
use Rattle.reduction.proofs.Roots.{Step, StepAll, s_root, s_call, s_lam, s_app₁, s_app₂, s_bind₁, s_bind₂, s_pair₁, s_pair₂}
use Rattle.reduction.proofs.Roots.{s_fst, s_snd, s_inl, s_inr, s_case₁, s_case₂, s_case₃, s_this, s_next}

module _ (M : Model) where
  -- the calls that an operation makes may be struck out, if it may be dropped
  pub record Strikes (pure : Term → Bool) : Type 0 where
    pub strike : {e : Term} {ρ : Values} {v : Value} (a c d : Trace) → Operation never e → T (pure e) → Ends M.answer ρ e v a
        → M.C c d → M.C (a ++ c) d

  pub sound₃ : {pure : Term → Bool} → Strikes pure → {t t' : Term} → DropsOperation pure t t'
      → {Γ : Context} {A : ℕ} {ρ ρ' : Values} → Typed M.tables M.ok Γ t A → Same M Γ ρ ρ' → E M A ρ t ρ' t'
  sound₃ s (drops {b = b} i k h) {Γ = Γ} {ρ = ρ} {ρ' = ρ'} (t_bind {A = A} x y) o =
      let e = same M x o in
      let f = renamed M y (record { at = go e.v }) in
      ends_related M (ends_bind M.answer e.p f.p) f.q (s.strike e.c f.c f.d i k e.p f.calls) f.vals
    where
      go : (v : Value) (n D : ℕ) → At (A ∷ Γ) n D → 1 ≤ uses b n → Bound M D (also v ρ) n ρ' (lower n)
      go v n D here u = absurd (omega (arith, eqb→eq (uses b 0) 0 h, u))
      go v n D (there {n = m} z) u = past_left M (o.at m D z)

  module _ (R : Term → Term → Type 0)
      (root : (t t' : Term) → R t t' → (Γ : Context) (A : ℕ) (ρ ρ' : Values) → Typed M.tables M.ok Γ t A → Same M Γ ρ ρ'
      → E M A ρ t ρ' t') where
    mutual
      pub sounds : {t t' : Term} → Step R t t' → {Γ : Context} {A : ℕ} {ρ ρ' : Values} → Typed M.tables M.ok Γ t A → Same M Γ ρ ρ'
          → E M A ρ t ρ' t'
      sounds (s_root {t = t} {t' = t'} r) {Γ = Γ} {A = A} {ρ = ρ} {ρ' = ρ'} x o = root t t' r Γ A ρ ρ' x o
      sounds (s_call s) (t_call z e d xs) o = e_call M z e d (sounds_all s xs o)
      sounds (s_lam s) (t_lam e x) o = e_lam M e λ v w r. sounds s x (same_up M r o)
      sounds (s_app₁ s) (t_app e x y) o = e_app M e (sounds s x o) (same M y o)
      sounds (s_app₂ s) (t_app e x y) o = e_app M e (same M x o) (sounds s y o)
      sounds (s_bind₁ s) (t_bind x y) o = e_bind M (sounds s x o) λ v w r. same M y (same_up M r o)
      sounds (s_bind₂ s) (t_bind x y) o = e_bind M (same M x o) λ v w r. sounds s y (same_up M r o)
      sounds (s_pair₁ s) (t_pair e x y) o = e_pair M e (sounds s x o) (same M y o)
      sounds (s_pair₂ s) (t_pair e x y) o = e_pair M e (same M x o) (sounds s y o)
      sounds (s_fst s) (t_fst e x) o = e_fst M e (sounds s x o)
      sounds (s_snd s) (t_snd e x) o = e_snd M e (sounds s x o)
      sounds (s_inl s) (t_inl e x) o = e_inl M e (sounds s x o)
      sounds (s_inr s) (t_inr e x) o = e_inr M e (sounds s x o)
      sounds (s_case₁ s) (t_case e x y z) o = e_case M e (sounds s x o) (λ v w r. same M y (same_up M r o))
          (λ v w r. same M z (same_up M r o))
      sounds (s_case₂ s) (t_case e x y z) o = e_case M e (same M x o) (λ v w r. sounds s y (same_up M r o))
          (λ v w r. same M z (same_up M r o))
      sounds (s_case₃ s) (t_case e x y z) o = e_case M e (same M x o) (λ v w r. same M y (same_up M r o))
          (λ v w r. sounds s z (same_up M r o))

      pub sounds_all : {ts us : Terms} → StepAll R ts us → {Γ : Context} {As : List ℕ} {ρ ρ' : Values} → TypedAll M.tables M.ok Γ ts As
          → Same M Γ ρ ρ' → EAll M As ρ ts ρ' us
      sounds_all (s_this s) (t_arg x xs) o = e_arg M (sounds s x o) (same_all M xs o)
      sounds_all (s_next s) (t_arg x xs) o = e_arg M (same M x o) (sounds_all s xs o)
