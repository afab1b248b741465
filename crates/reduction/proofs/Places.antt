-- A step at an index: the congruences count the words before the part, and the step function's answer is such a step at its place.
use mathlib.Core.Path.{◌≡◌, refl, sym, subst}
use mathlib.Core.Bool.{Bool}
use mathlib.Core.Option.{Option, some}
use Prim.Native.Nat.{ℕ, ◌+◌}
use Rattle.syntax.specs.Term.{Term, Terms, var, call, lam, app, bind, pair, fst, snd, inl, inr, case, unit, done, arg}
use Rattle.syntax.specs.Encoding.{size}
use Rattle.reduction.specs.declared.Phase.{Phase}
use Rattle.reduction.specs.Redex.{Step as Stepped, step}
use Rattle.syntax.proofs.Options.{Every, every_none, every_map, every_at}
use Rattle.reduction.proofs.Structure.{Hit, here, find, finds, find_var, find_unit, finds_done, find_call, find_lam, find_app}
use Rattle.reduction.proofs.Structure.{find_bind}
use Rattle.reduction.proofs.Structure.{find_pair, find_fst, find_snd, find_inl, find_inr, find_case, finds_arg, step_find}
use Rattle.reduction.proofs.Roots.{Step, StepAll, s_root, s_call, s_lam, s_app₁, s_app₂, s_bind₁, s_bind₂, s_pair₁, s_pair₂, s_fst}
use Rattle.reduction.proofs.Roots.{s_snd, s_inl, s_inr, s_case₁, s_case₂, s_case₃, s_this, s_next}
use Rattle.reduction.proofs.Fits.{Root, contract_is}
use Rattle.reduction.proofs.Search.{every_or}

-- R relates the subterm at index i to what stands there afterwards
mutual
  pub data At (R : Term → Term → Type 0) : Term → ℕ → Term → Type 0 where
    a_root : {i : ℕ} {t t' : Term} → i ≡ 0 → R t t' → At R t i t'
    a_call : {i j k : ℕ} {ts us : Terms} → i ≡ 1 + j → AtAll R ts j us → At R (call k ts) i (call k us)
    a_lam : {i j A : ℕ} {b b' : Term} → i ≡ 1 + j → At R b j b' → At R (lam A b) i (lam A b')
    a_app₁ : {i j : ℕ} {a a' b : Term} → i ≡ 1 + j → At R a j a' → At R (app a b) i (app a' b)
    a_app₂ : {i j : ℕ} {a b b' : Term} → i ≡ 1 + size a + j → At R b j b' → At R (app a b) i (app a b')
    a_bind₁ : {i j : ℕ} {a a' b : Term} → i ≡ 1 + j → At R a j a' → At R (bind a b) i (bind a' b)
    a_bind₂ : {i j : ℕ} {a b b' : Term} → i ≡ 1 + size a + j → At R b j b' → At R (bind a b) i (bind a b')
    a_pair₁ : {i j A : ℕ} {a a' b : Term} → i ≡ 1 + j → At R a j a' → At R (pair A a b) i (pair A a' b)
    a_pair₂ : {i j A : ℕ} {a b b' : Term} → i ≡ 1 + size a + j → At R b j b' → At R (pair A a b) i (pair A a b')
    a_fst : {i j : ℕ} {a a' : Term} → i ≡ 1 + j → At R a j a' → At R (fst a) i (fst a')
    a_snd : {i j : ℕ} {a a' : Term} → i ≡ 1 + j → At R a j a' → At R (snd a) i (snd a')
    a_inl : {i j A : ℕ} {a a' : Term} → i ≡ 1 + j → At R a j a' → At R (inl A a) i (inl A a')
    a_inr : {i j A : ℕ} {a a' : Term} → i ≡ 1 + j → At R a j a' → At R (inr A a) i (inr A a')
    a_case₁ : {i j : ℕ} {s s' l r : Term} → i ≡ 1 + j → At R s j s' → At R (case s l r) i (case s' l r)
    a_case₂ : {i j : ℕ} {s l l' r : Term} → i ≡ 1 + size s + j → At R l j l' → At R (case s l r) i (case s l' r)
    a_case₃ : {i j : ℕ} {s l r r' : Term} → i ≡ 1 + size s + size l + j → At R r j r' → At R (case s l r) i (case s l r')

  pub data AtAll (R : Term → Term → Type 0) : Terms → ℕ → Terms → Type 0 where
    a_this : {i j : ℕ} {t t' : Term} {ts : Terms} → i ≡ 0 + j → At R t j t' → AtAll R (arg t ts) i (arg t' ts)
    a_next : {i j : ℕ} {t : Term} {ts us : Terms} → i ≡ size t + j → AtAll R ts j us → AtAll R (arg t ts) i (arg t us)

-- it is a step
mutual
  pub at_step : {R : Term → Term → Type 0} {t t' : Term} {i : ℕ} → At R t i t' → Step R t t'
  at_step (a_root e r) = s_root r
  at_step (a_call e s) = s_call (at_steps s)
  at_step (a_lam e s) = s_lam (at_step s)
  at_step (a_app₁ e s) = s_app₁ (at_step s)
  at_step (a_app₂ e s) = s_app₂ (at_step s)
  at_step (a_bind₁ e s) = s_bind₁ (at_step s)
  at_step (a_bind₂ e s) = s_bind₂ (at_step s)
  at_step (a_pair₁ e s) = s_pair₁ (at_step s)
  at_step (a_pair₂ e s) = s_pair₂ (at_step s)
  at_step (a_fst e s) = s_fst (at_step s)
  at_step (a_snd e s) = s_snd (at_step s)
  at_step (a_inl e s) = s_inl (at_step s)
  at_step (a_inr e s) = s_inr (at_step s)
  at_step (a_case₁ e s) = s_case₁ (at_step s)
  at_step (a_case₂ e s) = s_case₂ (at_step s)
  at_step (a_case₃ e s) = s_case₃ (at_step s)

  pub at_steps : {R : Term → Term → Type 0} {ts us : Terms} {i : ℕ} → AtAll R ts i us → StepAll R ts us
  at_steps (a_this e s) = s_this (at_step s)
  at_steps (a_next e s) = s_next (at_steps s)

module _ (pure : Term → Bool) (phase : Phase) where
  abbrev Hits : Term → Hit Term → Type 0
  Hits t h = At (Root pure phase) t h.place h.whole

  abbrev HitsAll : Terms → Hit Terms → Type 0
  HitsAll ts h = AtAll (Root pure phase) ts h.place h.whole

  top : (t : Term) → Every (Hits t) (here pure phase t)
  top t = every_map _ (λ c r. a_root refl r) (contract_is pure phase t)

  by : {X : Type 0} {P : Hit X → Type 0} {x y : Option (Hit X)} → x ≡ y → Every P y → Every P x
  by {P = P} e h = subst (λ (o : Option (Hit _)). Every P o) (sym e) h

  mutual
    hit : (t : Term) → Every (Hits t) (find pure phase t)
    hit (var n) = by (find_var pure phase n) (top (var n))
    hit (call k ts) = by (find_call pure phase k ts) (every_or (top (call k ts)) (every_map _ (λ h s. a_call refl s) (hits ts)))
    hit (lam A b) = by (find_lam pure phase A b) (every_or (top (lam A b)) (every_map _ (λ h s. a_lam refl s) (hit b)))
    hit (app f a) = by (find_app pure phase f a)
        (every_or (top (app f a)) (every_or (every_map _ (λ h s. a_app₁ refl s) (hit f)) (every_map _ (λ h s. a_app₂ refl s) (hit a))))
    hit (bind e b) = by (find_bind pure phase e b)
        (every_or (top (bind e b)) (every_or (every_map _ (λ h s. a_bind₁ refl s) (hit e)) (every_map _ (λ h s. a_bind₂ refl s) (hit b))))
    hit (pair A a b) = by (find_pair pure phase A a b)
        (every_or (top (pair A a b))
        (every_or (every_map _ (λ h s. a_pair₁ refl s) (hit a)) (every_map _ (λ h s. a_pair₂ refl s) (hit b))))
    hit (fst a) = by (find_fst pure phase a) (every_or (top (fst a)) (every_map _ (λ h s. a_fst refl s) (hit a)))
    hit (snd a) = by (find_snd pure phase a) (every_or (top (snd a)) (every_map _ (λ h s. a_snd refl s) (hit a)))
    hit (inl A a) = by (find_inl pure phase A a) (every_or (top (inl A a)) (every_map _ (λ h s. a_inl refl s) (hit a)))
    hit (inr A a) = by (find_inr pure phase A a) (every_or (top (inr A a)) (every_map _ (λ h s. a_inr refl s) (hit a)))
    hit (case s l r) = by (find_case pure phase s l r)
        (every_or (top (case s l r))
        (every_or (every_map _ (λ h s. a_case₁ refl s) (hit s))
        (every_or (every_map _ (λ h s. a_case₂ refl s) (hit l)) (every_map _ (λ h s. a_case₃ refl s) (hit r)))))
    hit (unit A) = by (find_unit pure phase A) (top (unit A))

    hits : (ts : Terms) → Every (HitsAll ts) (finds pure phase ts)
    hits done = by (finds_done pure phase) every_none
    hits (arg t ts) = by (finds_arg pure phase t ts)
        (every_or (every_map _ (λ h s. a_this refl s) (hit t)) (every_map _ (λ h s. a_next refl s) (hits ts)))

  -- what the step function answers is a step at its place
  pub step_place : (t : Term) (s : Stepped) → step pure phase t ≡ some s → At (Root pure phase) t s.place s.next
  step_place t s e = every_at s
      (subst (λ (o : Option Stepped). Every (λ (s : Stepped). At (Root pure phase) t s.place s.next) o) (sym (step_find pure phase t))
      (every_map _ (λ h s. s) (hit t))) e
