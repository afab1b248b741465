-- Each rule keeps the type, and so does a step anywhere: renaming and substitution keep it where what they put for each used variable has
-- the variable's type.
use mathlib.Core.Path.{subst}
use mathlib.Core.List.{List, ◌∷◌}
use mathlib.Core.Bool.{Bool}
use lib.Dec.{eqb→eq}
use Prim.Native.Nat.{ℕ, zero, suc, ◌+◌, ◌≤◌}
use native.Mathlib.Omega.{arith}
use Rattle.syntax.specs.Tables.{Tables, arrow, product, sum}
use Rattle.syntax.specs.Term.{Term, Terms, lam, pair, inl, inr}
use Rattle.syntax.specs.Substitution.{Kit, under, traverse, traverse_all, renaming, rename, weaken, weaken_body, substitution, only, ◌⟦◌⟧}
use Rattle.syntax.specs.Values.{uses, uses_all}
use Rattle.typing.specs.Infer.{Context}
use Rattle.reduction.specs.Rules.{lower}
use Rattle.syntax.proofs.Options.{uses_itself, add_left, add_right}
use Rattle.typing.proofs.Typing.{Of, of_one, At, here, there, Typed, TypedAll, t_var, t_call, t_lam, t_app, t_bind, t_pair, t_fst, t_snd}
use Rattle.typing.proofs.Typing.{t_inl, t_inr, t_case, t_unit, t_done, t_arg}
use Rattle.reduction.proofs.Roots.{Names, this, next, Insert, i_call, i_app₁, i_app₂, i_pair₁, i_pair₂, i_fst, i_snd, i_inl, i_inr, i_case}
use Rattle.reduction.proofs.Roots.{Reduce, r_let, r_case, r_apply, r_fst, r_snd, r_left, r_right, r_value, Drops, r_drop, Step, StepAll}
use Rattle.reduction.proofs.Roots.{s_root, s_call, s_lam, s_app₁, s_app₂, s_bind₁, s_bind₂, s_pair₁, s_pair₂, s_fst, s_snd, s_inl, s_inr}
use Rattle.reduction.proofs.Roots.{s_case₁, s_case₂, s_case₃, s_this, s_next}

module _ (tables : Tables) (ok : ℕ → Type 0) where
  module _ {X : Type 0} (K : Kit X) (Has : Context → X → ℕ → Type 0)
      (h-new : (Γ : Context) (A : ℕ) → Has (A ∷ Γ) (K.variable zero) A)
      (h-weaken : (Γ : Context) (x : X) (A B : ℕ) → Has Γ x A → Has (B ∷ Γ) (K.weaken x) A)
      (h-term : (Γ : Context) (x : X) (A : ℕ) → Has Γ x A → Typed tables ok Γ (K.term x) A) where
    pub record Into (Γ : Context) (u : ℕ → ℕ) (f : ℕ → X) (Δ : Context) : Type 0 where
      pub at : (n A : ℕ) → At Γ n A → 1 ≤ u n → Has Δ (f n) A

    unfoldable pub into_up : {Γ Δ : Context} {A : ℕ} {u : ℕ → ℕ} {f : ℕ → X} → Into Γ (λ n. u (suc n)) f Δ
        → Into (A ∷ Γ) u (under K f) (A ∷ Δ)
    into_up {Γ} {Δ} {A} {u} {f} o = record { at = go }
      where
        go : (n B : ℕ) → At (A ∷ Γ) n B → 1 ≤ u n → Has (A ∷ Δ) (under K f n) B
        go n B here h = h-new Δ A
        go n B (there {n = m} x) h = h-weaken Δ (f m) B A (o.at m B x h)

    unfoldable pub into_of : {Γ Δ : Context} {u u' : ℕ → ℕ} {f : ℕ → X} → ((n : ℕ) → 1 ≤ u n → 1 ≤ u' n) → Into Γ u' f Δ → Into Γ u f Δ
    into_of h o = record { at = λ n A x s. o.at n A x (h n s) }

    unfoldable mutual
      unfolding traverse uses

      pub traversed : {Γ Δ : Context} {t : Term} {A : ℕ} {f : ℕ → X} → Typed tables ok Γ t A → Into Γ (uses t) f Δ
          → Typed tables ok Δ (traverse K t f) A
      traversed {Δ = Δ} {A = A} {f = f} (t_var {n = n} x) o = h-term Δ (f n) A (o.at n A x (uses_itself n))
      traversed (t_call z e d xs) o = t_call z e d (traversed_all xs o)
      traversed (t_lam e b) o = t_lam e (traversed b (into_up o))
      traversed (t_app {f = f} {a = a} e x y) o = t_app e (traversed x (into_of (λ n. add_left (uses f n) (uses a n)) o))
          (traversed y (into_of (λ n. add_right (uses f n) (uses a n)) o))
      traversed (t_bind {e = e} {b = b} x y) o = t_bind (traversed x (into_of (λ n. add_left (uses e n) (uses b (suc n))) o))
          (traversed y (into_up (into_of (λ n. add_right (uses e n) (uses b (suc n))) o)))
      traversed (t_pair {a = a} {b = b} e x y) o = t_pair e (traversed x (into_of (λ n. add_left (uses a n) (uses b n)) o))
          (traversed y (into_of (λ n. add_right (uses a n) (uses b n)) o))
      traversed (t_fst e x) o = t_fst e (traversed x o)
      traversed (t_snd e x) o = t_snd e (traversed x o)
      traversed (t_inl e x) o = t_inl e (traversed x o)
      traversed (t_inr e x) o = t_inr e (traversed x o)
      traversed (t_case {s = s} {l = l} {r = r} e x y z) o =
          let o' = into_of {u = λ n. uses l (suc n) + uses r (suc n)} (λ n. add_right (uses s n) (uses l (suc n) + uses r (suc n))) o in
          t_case e (traversed x (into_of (λ n. add_left (uses s n) (uses l (suc n) + uses r (suc n))) o))
          (traversed y (into_up (into_of (λ n. add_left (uses l (suc n)) (uses r (suc n))) o')))
          (traversed z (into_up (into_of (λ n. add_right (uses l (suc n)) (uses r (suc n))) o')))
      traversed (t_unit e) o = t_unit e

      pub traversed_all : {Γ Δ : Context} {ts : Terms} {As : List ℕ} {f : ℕ → X} → TypedAll tables ok Γ ts As → Into Γ (uses_all ts) f Δ
          → TypedAll tables ok Δ (traverse_all K ts f) As
      traversed_all t_done o = t_done
      traversed_all (t_arg {t = t} {ts = ts} x xs) o = t_arg (traversed x (into_of (λ n. add_left (uses t n) (uses_all ts n)) o))
          (traversed_all xs (into_of (λ n. add_right (uses t n) (uses_all ts n)) o))

  abbrev Points : Context → ℕ → ℕ → Type 0
  Points Γ n A = At Γ n A

  abbrev pub Renames : Context → (ℕ → ℕ) → (ℕ → ℕ) → Context → Type 0
  Renames = Into renaming Points (λ Γ A. here) (λ Γ x A B h. there h) (λ Γ x A h. t_var h)

  unfoldable pub renamed : {Γ Δ : Context} {t : Term} {A : ℕ} {f : ℕ → ℕ} → Typed tables ok Γ t A → Renames Γ (uses t) f Δ
      → Typed tables ok Δ (rename t f) A
  renamed x o = traversed renaming Points (λ Γ A. here) (λ Γ x A B h. there h) (λ Γ x A h. t_var h) x o

  unfoldable pub weakened : {Γ : Context} {t : Term} {A B : ℕ} → Typed tables ok Γ t A → Typed tables ok (B ∷ Γ) (weaken t) A
  weakened x = renamed x (record { at = λ n A y u. there y })

  weakened_all : {Γ : Context} {ts : Terms} {As : List ℕ} {B : ℕ} → TypedAll tables ok Γ ts As
      → TypedAll tables ok (B ∷ Γ) (traverse_all renaming ts suc) As
  weakened_all x = traversed_all renaming Points (λ Γ A. here) (λ Γ x A B h. there h) (λ Γ x A h. t_var h) x
      (record { at = λ n A y u. there y })

  unfoldable pub body : {Γ : Context} {t : Term} {A B D : ℕ} → Typed tables ok (D ∷ Γ) t A → Typed tables ok (D ∷ (B ∷ Γ)) (weaken_body t) A
  body {Γ} {t} {A} {B} {D} x = renamed x (record { at = go })
    where
      go : (n C : ℕ) → At (D ∷ Γ) n C → 1 ≤ uses t n → At (D ∷ (B ∷ Γ)) (under renaming suc n) C
      go n C here u = here
      go n C (there y) u = there (there y)

  abbrev TermsIn : Context → Term → ℕ → Type 0
  TermsIn Γ t A = Typed tables ok Γ t A

  unfoldable pub put : {Γ : Context} {t v : Term} {A B : ℕ} → Typed tables ok (A ∷ Γ) t B → Typed tables ok Γ v A
      → Typed tables ok Γ (t ⟦ v ⟧) B
  put {Γ} {t} {v} {A} x y = traversed substitution TermsIn (λ Γ A. t_var here) (λ Γ x A B h. weakened h) (λ Γ x A h. h) x
      (record { at = go })
    where
      go : (n D : ℕ) → At (A ∷ Γ) n D → 1 ≤ uses t n → Typed tables ok Γ (only v n) D
      go n D here u = y
      go n D (there z) u = t_var z

  record Named (Γ : Context) (p : Term) (us : Terms) (As : List ℕ) : Type 0 where
    B : ℕ
    bound : Typed tables ok Γ p B
    parts : TypedAll tables ok (B ∷ Γ) us As

  named : {ts us : Terms} {p : Term} → Names ts p us → {Γ : Context} {As : List ℕ} → TypedAll tables ok Γ ts As → Named Γ p us As
  named (this _) (t_arg {A = A} x xs) = record { B = A; bound = x; parts = t_arg (t_var here) (weakened_all xs) }
  named (next h l) (t_arg x xs) = let r = named l xs in record { B = r.B; bound = r.bound; parts = t_arg (weakened x) r.parts }

  pub keep₁ : {t t' : Term} → Insert t t' → {Γ : Context} {A : ℕ} → Typed tables ok Γ t A → Typed tables ok Γ t' A
  keep₁ (i_call l) (t_call z e d xs) = let r = named l xs in t_bind r.bound (t_call z e d r.parts)
  keep₁ (i_app₁ _) (t_app e x y) = t_bind x (t_app e (t_var here) (weakened y))
  keep₁ (i_app₂ _ _) (t_app e x y) = t_bind y (t_app e (weakened x) (t_var here))
  keep₁ (i_pair₁ _) (t_pair e x y) = t_bind x (t_pair e (t_var here) (weakened y))
  keep₁ (i_pair₂ _ _) (t_pair e x y) = t_bind y (t_pair e (weakened x) (t_var here))
  keep₁ (i_fst _) (t_fst e x) = t_bind x (t_fst e (t_var here))
  keep₁ (i_snd _) (t_snd e x) = t_bind x (t_snd e (t_var here))
  keep₁ (i_inl _) (t_inl e x) = t_bind x (t_inl e (t_var here))
  keep₁ (i_inr _) (t_inr e x) = t_bind x (t_inr e (t_var here))
  keep₁ (i_case _) (t_case e x y z) = t_bind x (t_case e (t_var here) (body y) (body z))

  -- a value's parts by its type, whose parts are determined
  pub lam_typed : {Γ : Context} {F G A B : ℕ} {b : Term} → Of tables arrow F A B → Typed tables ok Γ (lam G b) F
      → Typed tables ok (A ∷ Γ) b B
  lam_typed {Γ = Γ} {A = A} {B = B} {b = b} e (t_lam {A = A'} d x) = let q = of_one d e
      in subst (λ (C : ℕ). Typed tables ok (C ∷ Γ) b B) q.0 (subst (λ (C : ℕ). Typed tables ok (A' ∷ Γ) b C) q.1 x)

  pub pair_typed : {Γ : Context} {P Q A B : ℕ} {a b : Term} → Of tables product P A B → Typed tables ok Γ (pair Q a b) P
      → Typed tables ok Γ a A × Typed tables ok Γ b B
  pair_typed {Γ} {a = a} {b = b} e (t_pair d x y) = let q = of_one d e
      in (subst (λ (C : ℕ). Typed tables ok Γ a C) q.0 x, subst (λ (C : ℕ). Typed tables ok Γ b C) q.1 y)

  pub inl_typed : {Γ : Context} {S U A B : ℕ} {a : Term} → Of tables sum S A B → Typed tables ok Γ (inl U a) S → Typed tables ok Γ a A
  inl_typed {Γ} {a = a} e (t_inl d x) = subst (λ (C : ℕ). Typed tables ok Γ a C) (of_one d e).0 x

  pub inr_typed : {Γ : Context} {S U A B : ℕ} {a : Term} → Of tables sum S A B → Typed tables ok Γ (inr U a) S → Typed tables ok Γ a B
  inr_typed {Γ} {a = a} e (t_inr d x) = subst (λ (C : ℕ). Typed tables ok Γ a C) (of_one d e).1 x

  pub keep₂ : {t t' : Term} → Reduce t t' → {Γ : Context} {A : ℕ} → Typed tables ok Γ t A → Typed tables ok Γ t' A
  keep₂ (r_let _) (t_bind (t_bind x y) z) = t_bind x (t_bind y (body z))
  keep₂ r_case (t_bind (t_case e x y y') z) = t_case e x (t_bind y (body z)) (t_bind y' (body z))
  keep₂ (r_apply _) (t_app e x y) = put (lam_typed e x) y
  keep₂ (r_fst _ _) (t_fst e x) = (pair_typed e x).0
  keep₂ (r_snd _ _) (t_snd e x) = (pair_typed e x).1
  keep₂ (r_left _) (t_case e x y z) = put y (inl_typed e x)
  keep₂ (r_right _) (t_case e x y z) = put z (inr_typed e x)
  keep₂ (r_value _) (t_bind y z) = put z y

  pub keep₃ : (pure : Term → Bool) {t t' : Term} → Drops pure t t' → {Γ : Context} {A : ℕ} → Typed tables ok Γ t A → Typed tables ok Γ t' A
  keep₃ pure (r_drop {b = b} _ _ h) {Γ = Γ} (t_bind {A = A} x y) = renamed y (record { at = go })
    where
      go : (n D : ℕ) → At (A ∷ Γ) n D → 1 ≤ uses b n → At Γ (lower n) D
      go n D here u = absurd (omega (arith, eqb→eq (uses b 0) 0 h, u))
      go n D (there z) u = z

  -- a step anywhere
  module _ (R : Term → Term → Type 0)
      (root : (t t' : Term) → R t t' → (Γ : Context) (A : ℕ) → Typed tables ok Γ t A → Typed tables ok Γ t' A) where
    mutual
      pub keeps : {t t' : Term} → Step R t t' → {Γ : Context} {A : ℕ} → Typed tables ok Γ t A → Typed tables ok Γ t' A
      keeps (s_root {t = t} {t' = t'} r) {Γ = Γ} {A = A} x = root t t' r Γ A x
      keeps (s_call s) (t_call z e d xs) = t_call z e d (keeps_all s xs)
      keeps (s_lam s) (t_lam e x) = t_lam e (keeps s x)
      keeps (s_app₁ s) (t_app e x y) = t_app e (keeps s x) y
      keeps (s_app₂ s) (t_app e x y) = t_app e x (keeps s y)
      keeps (s_bind₁ s) (t_bind x y) = t_bind (keeps s x) y
      keeps (s_bind₂ s) (t_bind x y) = t_bind x (keeps s y)
      keeps (s_pair₁ s) (t_pair e x y) = t_pair e (keeps s x) y
      keeps (s_pair₂ s) (t_pair e x y) = t_pair e x (keeps s y)
      keeps (s_fst s) (t_fst e x) = t_fst e (keeps s x)
      keeps (s_snd s) (t_snd e x) = t_snd e (keeps s x)
      keeps (s_inl s) (t_inl e x) = t_inl e (keeps s x)
      keeps (s_inr s) (t_inr e x) = t_inr e (keeps s x)
      keeps (s_case₁ s) (t_case e x y z) = t_case e (keeps s x) y z
      keeps (s_case₂ s) (t_case e x y z) = t_case e x (keeps s y) z
      keeps (s_case₃ s) (t_case e x y z) = t_case e x y (keeps s z)

      pub keeps_all : {ts us : Terms} → StepAll R ts us → {Γ : Context} {As : List ℕ} → TypedAll tables ok Γ ts As
          → TypedAll tables ok Γ us As
      keeps_all (s_this s) (t_arg x xs) = t_arg (keeps s x) xs
      keeps_all (s_next s) (t_arg x xs) = t_arg x (keeps_all s xs)
