-- The search by structure: what it finds is a step of the phase's family, and it finds nothing exactly if no node fits.
use mathlib.Core.Path.{◌≡◌, refl, sym, ◌∙◌, ap, subst}
use mathlib.Core.Bool.{Bool}
use mathlib.Core.Option.{Option, some, none, map, some-ne-none}
use Prim.Native.Nat.{ℕ, ◌+◌}
use Rattle.syntax.specs.Term.{Term, Terms, var, call, lam, app, bind, pair, fst, snd, inl, inr, case, unit, done, arg}
use Rattle.syntax.specs.Encoding.{size}
use Rattle.reduction.specs.Rules.{rules}
use Rattle.reduction.specs.declared.Phase.{Phase}
use Rattle.reduction.specs.Redex.{Contraction, contract, Step as Stepped, step}
use Rattle.reduction.proofs.Structure.{Hit, ◌or◌, inside, step_of, here, find, finds, find_var, find_unit, finds_done, find_call}
use Rattle.reduction.proofs.Structure.{find_lam}
use Rattle.reduction.proofs.Structure.{find_app, find_bind, find_pair, find_fst, find_snd, find_inl, find_inr, find_case, finds_arg}
use Rattle.reduction.proofs.Structure.{step_find}
use Rattle.syntax.proofs.Options.{Every, every_none, every_some, every_map, every_at, map-none}
use Rattle.reduction.proofs.Roots.{Step, StepAll, s_root, s_call, s_lam, s_app₁, s_app₂, s_bind₁, s_bind₂, s_pair₁, s_pair₂, s_fst}
use Rattle.reduction.proofs.Roots.{s_snd, s_inl, s_inr, s_case₁, s_case₂, s_case₃, s_this, s_next}
use Rattle.reduction.proofs.Fits.{Root, contract_is}

-- P holds of each node
unfoldable mutual
  pub Each : Term → (Term → Type 0) → Type 0
  Each (var n) P = P (var n)
  Each (call k ts) P = P (call k ts) × EachAll ts P
  Each (lam A b) P = P (lam A b) × Each b P
  Each (app f a) P = P (app f a) × Each f P × Each a P
  Each (bind e b) P = P (bind e b) × Each e P × Each b P
  Each (pair A a b) P = P (pair A a b) × Each a P × Each b P
  Each (fst a) P = P (fst a) × Each a P
  Each (snd a) P = P (snd a) × Each a P
  Each (inl A a) P = P (inl A a) × Each a P
  Each (inr A a) P = P (inr A a) × Each a P
  Each (case s l r) P = P (case s l r) × Each s P × Each l P × Each r P
  Each (unit A) P = P (unit A)

  pub EachAll : Terms → (Term → Type 0) → Type 0
  EachAll done P = Unit
  EachAll (arg t ts) P = Each t P × EachAll ts P

pub every_or : {X : Type 0} {P : X → Type 0} {x y : Option X} → Every P x → Every P y → Every P (x or y)
every_or every_none q = q
every_or (every_some p) q = every_some p

or_none : {X : Type 0} (x y : Option X) → (x or y) ≡ none → (x ≡ none) × (y ≡ none)
or_none (some h) y e = absurd (some-ne-none h e)
or_none none y e = (refl, e)

none_or : {X : Type 0} (x y : Option X) → x ≡ none → y ≡ none → (x or y) ≡ none
none_or (some h) y e d = absurd (some-ne-none h e)
none_or none y e d = d

inside_none : {X Y : Type 0} (n : ℕ) (C : X → Y) (o : Option (Hit X)) → inside n C o ≡ none → o ≡ none
inside_none n C none e = refl
inside_none n C (some h) e = absurd (some-ne-none _ e)

none_inside : {X Y : Type 0} (n : ℕ) (C : X → Y) (o : Option (Hit X)) → o ≡ none → inside n C o ≡ none
none_inside n C none e = refl
none_inside n C (some h) e = absurd (some-ne-none h e)

module _ (pure : Term → Bool) (phase : Phase) where
  abbrev pub Misses : Term → Type 0
  Misses t = contract pure (rules phase) t ≡ none

  here_none : (t : Term) → here pure phase t ≡ none → Misses t
  here_none t e = map-none _ (contract pure (rules phase) t) e

  none_here : (t : Term) → Misses t → here pure phase t ≡ none
  none_here t e = go (contract pure (rules phase) t) e
    where
      go : (o : Option Contraction) → o ≡ none
          → ◌≡◌ {A = Option (Hit Term)} (map (λ c. record { rule = c.rule; place = 0; whole = c.contractum }) o) none
      go none d = refl
      go (some c) d = absurd (some-ne-none c d)

  abbrev To : Term → Hit Term → Type 0
  To t h = Step (Root pure phase) t h.whole

  abbrev ToAll : Terms → Hit Terms → Type 0
  ToAll ts h = StepAll (Root pure phase) ts h.whole

  root : (t : Term) → Every (To t) (here pure phase t)
  root t = every_map _ (λ c r. s_root r) (contract_is pure phase t)

  at : {X : Type 0} {P : Hit X → Type 0} {x y : Option (Hit X)} → x ≡ y → Every P y → Every P x
  at {P = P} e h = subst (λ (o : Option (Hit _)). Every P o) (sym e) h

  mutual
    found : (t : Term) → Every (To t) (find pure phase t)
    found (var n) = at (find_var pure phase n) (root (var n))
    found (call k ts) = at (find_call pure phase k ts) (every_or (root (call k ts)) (every_map _ (λ h s. s_call s) (found_all ts)))
    found (lam A b) = at (find_lam pure phase A b) (every_or (root (lam A b)) (every_map _ (λ h s. s_lam s) (found b)))
    found (app f a) = at (find_app pure phase f a)
        (every_or (root (app f a)) (every_or (every_map _ (λ h s. s_app₁ s) (found f)) (every_map _ (λ h s. s_app₂ s) (found a))))
    found (bind e b) = at (find_bind pure phase e b)
        (every_or (root (bind e b)) (every_or (every_map _ (λ h s. s_bind₁ s) (found e)) (every_map _ (λ h s. s_bind₂ s) (found b))))
    found (pair A a b) = at (find_pair pure phase A a b)
        (every_or (root (pair A a b)) (every_or (every_map _ (λ h s. s_pair₁ s) (found a)) (every_map _ (λ h s. s_pair₂ s) (found b))))
    found (fst a) = at (find_fst pure phase a) (every_or (root (fst a)) (every_map _ (λ h s. s_fst s) (found a)))
    found (snd a) = at (find_snd pure phase a) (every_or (root (snd a)) (every_map _ (λ h s. s_snd s) (found a)))
    found (inl A a) = at (find_inl pure phase A a) (every_or (root (inl A a)) (every_map _ (λ h s. s_inl s) (found a)))
    found (inr A a) = at (find_inr pure phase A a) (every_or (root (inr A a)) (every_map _ (λ h s. s_inr s) (found a)))
    found (case s l r) = at (find_case pure phase s l r)
        (every_or (root (case s l r))
        (every_or (every_map _ (λ h s. s_case₁ s) (found s))
        (every_or (every_map _ (λ h s. s_case₂ s) (found l)) (every_map _ (λ h s. s_case₃ s) (found r)))))
    found (unit A) = at (find_unit pure phase A) (root (unit A))

    found_all : (ts : Terms) → Every (ToAll ts) (finds pure phase ts)
    found_all done = at (finds_done pure phase) every_none
    found_all (arg t ts) = at (finds_arg pure phase t ts)
        (every_or (every_map _ (λ h s. s_this s) (found t)) (every_map _ (λ h s. s_next s) (found_all ts)))

  -- what the step function answers is a step
  pub step_is : (t : Term) → Every (λ (s : Stepped). Step (Root pure phase) t s.next) (step pure phase t)
  step_is t = subst (λ (o : Option Stepped). Every (λ (s : Stepped). Step (Root pure phase) t s.next) o) (sym (step_find pure phase t))
      (every_map _ (λ h s. s) (found t))

  pub one_step : (t : Term) (s : Stepped) → step pure phase t ≡ some s → Step (Root pure phase) t s.next
  one_step t s e = every_at s (step_is t) e

  -- nothing found: no node fits
  two : (x y z : Option (Hit Term)) → (x or (y or z)) ≡ none → (x ≡ none) × (y ≡ none) × (z ≡ none)
  two x y z e = let a = or_none x (y or z) e in let b = or_none y z a.1 in (a.0, b.0, b.1)

  three : (x y z w : Option (Hit Term)) → (x or (y or (z or w))) ≡ none → (x ≡ none) × (y ≡ none) × (z ≡ none) × (w ≡ none)
  three x y z w e = let a = or_none x (y or (z or w)) e in let b = two y z w a.1 in (a.0, b.0, b.1, b.2)

  mutual
    unfolding Each

    missed : (t : Term) → find pure phase t ≡ none → Each t Misses
    missed (var n) e = here_none (var n) (sym (find_var pure phase n) ∙ e)
    missed (call k ts) e = let a = or_none (here pure phase (call k ts)) (inside 1 (call k) (finds pure phase ts))
        (sym (find_call pure phase k ts) ∙ e) in (here_none _ a.0, missed_all ts (inside_none 1 (call k) (finds pure phase ts) a.1))
    missed (lam A b) e = let a = or_none (here pure phase (lam A b)) (inside 1 (lam A) (find pure phase b))
        (sym (find_lam pure phase A b) ∙ e) in (here_none _ a.0, missed b (inside_none 1 (lam A) (find pure phase b) a.1))
    missed (app f a) e = let x = two (here pure phase (app f a)) (inside 1 (λ x. app x a) (find pure phase f))
        (inside (1 + size f) (λ x. app f x) (find pure phase a)) (sym (find_app pure phase f a) ∙ e)
        in (
          here_none _ x.0,
          missed f (inside_none 1 (λ x. app x a) (find pure phase f) x.1),
          missed a
              (inside_none (1 + size f) (λ x. app f x) (find pure phase a) x.2),
        )
    missed (bind d b) e = let x = two (here pure phase (bind d b)) (inside 1 (λ x. bind x b) (find pure phase d))
        (inside (1 + size d) (λ x. bind d x) (find pure phase b)) (sym (find_bind pure phase d b) ∙ e)
        in (
          here_none _ x.0,
          missed d (inside_none 1 (λ x. bind x b) (find pure phase d) x.1),
          missed b
              (inside_none (1 + size d) (λ x. bind d x) (find pure phase b) x.2),
        )
    missed (pair A a b) e = let x = two (here pure phase (pair A a b)) (inside 1 (λ x. pair A x b) (find pure phase a))
        (inside (1 + size a) (λ x. pair A a x) (find pure phase b)) (sym (find_pair pure phase A a b) ∙ e)
        in (
          here_none _ x.0,
          missed a (inside_none 1 (λ x. pair A x b) (find pure phase a) x.1),
          missed b
              (inside_none (1 + size a) (λ x. pair A a x) (find pure phase b) x.2),
        )
    missed (fst a) e = let x = or_none (here pure phase (fst a)) (inside 1 fst (find pure phase a)) (sym (find_fst pure phase a) ∙ e)
        in (here_none _ x.0, missed a (inside_none 1 fst (find pure phase a) x.1))
    missed (snd a) e = let x = or_none (here pure phase (snd a)) (inside 1 snd (find pure phase a)) (sym (find_snd pure phase a) ∙ e)
        in (here_none _ x.0, missed a (inside_none 1 snd (find pure phase a) x.1))
    missed (inl A a) e = let x = or_none (here pure phase (inl A a)) (inside 1 (inl A) (find pure phase a))
        (sym (find_inl pure phase A a) ∙ e) in (here_none _ x.0, missed a (inside_none 1 (inl A) (find pure phase a) x.1))
    missed (inr A a) e = let x = or_none (here pure phase (inr A a)) (inside 1 (inr A) (find pure phase a))
        (sym (find_inr pure phase A a) ∙ e) in (here_none _ x.0, missed a (inside_none 1 (inr A) (find pure phase a) x.1))
    missed (case s l r) e =
        let x = three (here pure phase (case s l r)) (inside 1 (λ x. case x l r) (find pure phase s))
        (inside (1 + size s) (λ x. case s x r) (find pure phase l)) (inside (1 + size s + size l) (λ x. case s l x) (find pure phase r))
        (sym (find_case pure phase s l r) ∙ e) in (
          here_none _ x.0,
          missed s (inside_none 1 (λ x. case x l r) (find pure phase s) x.1),
          missed l
              (inside_none (1 + size s) (λ x. case s x r) (find pure phase l) x.2),
          missed r
              (inside_none (1 + size s + size l) (λ x. case s l x) (find pure phase r) x.3),
        )
    missed (unit A) e = here_none (unit A) (sym (find_unit pure phase A) ∙ e)

    missed_all : (ts : Terms) → finds pure phase ts ≡ none → EachAll ts Misses
    missed_all done e = tt
    missed_all (arg t ts) e = let x = or_none (inside 0 (λ x. arg x ts) (find pure phase t))
        (inside (size t) (λ x. arg t x) (finds pure phase ts)) (sym (finds_arg pure phase t ts) ∙ e)
        in (
          missed t (inside_none 0 (λ x. arg x ts) (find pure phase t) x.0),
          missed_all ts
              (inside_none (size t) (λ x. arg t x) (finds pure phase ts) x.1),
        )

  mutual
    unfolding Each

    unfound : (t : Term) → Each t Misses → find pure phase t ≡ none
    unfound (var n) e = find_var pure phase n ∙ none_here (var n) e
    unfound (call k ts) e = find_call pure phase k ts ∙ none_or _ _ (none_here _ e.0) (none_inside 1 (call k) _ (unfound_all ts e.1))
    unfound (lam A b) e = find_lam pure phase A b ∙ none_or _ _ (none_here _ e.0) (none_inside 1 (lam A) _ (unfound b e.1))
    unfound (app f a) e = find_app pure phase f a
        ∙ none_or _ _ (none_here _ e.0)
        (none_or _ _ (none_inside 1 (λ x. app x a) _ (unfound f e.1)) (none_inside (1 + size f) (λ x. app f x) _ (unfound a e.2)))
    unfound (bind d b) e = find_bind pure phase d b
        ∙ none_or _ _ (none_here _ e.0)
        (none_or _ _ (none_inside 1 (λ x. bind x b) _ (unfound d e.1)) (none_inside (1 + size d) (λ x. bind d x) _ (unfound b e.2)))
    unfound (pair A a b) e = find_pair pure phase A a b
        ∙ none_or _ _ (none_here _ e.0)
        (none_or _ _ (none_inside 1 (λ x. pair A x b) _ (unfound a e.1))
        (none_inside (1 + size a) (λ x. pair A a x) _ (unfound b e.2)))
    unfound (fst a) e = find_fst pure phase a ∙ none_or _ _ (none_here _ e.0) (none_inside 1 fst _ (unfound a e.1))
    unfound (snd a) e = find_snd pure phase a ∙ none_or _ _ (none_here _ e.0) (none_inside 1 snd _ (unfound a e.1))
    unfound (inl A a) e = find_inl pure phase A a ∙ none_or _ _ (none_here _ e.0) (none_inside 1 (inl A) _ (unfound a e.1))
    unfound (inr A a) e = find_inr pure phase A a ∙ none_or _ _ (none_here _ e.0) (none_inside 1 (inr A) _ (unfound a e.1))
    unfound (case s l r) e = find_case pure phase s l r
        ∙ none_or _ _ (none_here _ e.0)
        (none_or _ _ (none_inside 1 (λ x. case x l r) _ (unfound s e.1))
        (none_or _ _ (none_inside (1 + size s) (λ x. case s x r) _ (unfound l e.2))
        (none_inside (1 + size s + size l) (λ x. case s l x) _ (unfound r e.3))))
    unfound (unit A) e = find_unit pure phase A ∙ none_here (unit A) e

    unfound_all : (ts : Terms) → EachAll ts Misses → finds pure phase ts ≡ none
    unfound_all done e = finds_done pure phase
    unfound_all (arg t ts) e = finds_arg pure phase t ts ∙ none_or _ _ (none_inside 0 (λ x. arg x ts) _ (unfound t e.0))
        (none_inside (size t) (λ x. arg t x) _ (unfound_all ts e.1))

  pub no_step : (t : Term) → step pure phase t ≡ none → Each t Misses
  no_step t e = missed t (map-none _ (find pure phase t) (sym (step_find pure phase t) ∙ e))

  pub nowhere : (t : Term) → Each t Misses → step pure phase t ≡ none
  nowhere t e = step_find pure phase t ∙ ap step_of (unfound t e)
