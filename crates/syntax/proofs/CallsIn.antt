-- The calls in a part of a term are calls in the term, because the part's positions are positions of the term.
use mathlib.Core.Path.{sym, subst}
use mathlib.Core.List.{List, [], ◌∷◌, ◌++◌, map, map-map}
use mathlib.Core.Option.{Option, some, none}
use Prim.Native.Nat.{ℕ}
use Rattle.syntax.specs.Term.{Term, Terms, call, lam, app, bind, pair, fst, snd, inl, inr, case, arg, node, as_call}
use Rattle.syntax.specs.Positions.{Position, within, bound, positions, positions_all, subterms}
use Rattle.syntax.specs.Lists.{◌∈◌, here, there}
use Rattle.syntax.specs.Calls.{present, calls_in}

-- the calls named at positions
abbrev named : {X : Type 0} → List (Position X) → List (Option ℕ)
named ps = map as_call (map (λ p. p.subterm) ps)

abbrev pub called : {X : Type 0} → List (Position X) → List ℕ
called ps = present (map as_call (map (λ p. p.subterm) ps))

abbrev pub calls_in_all : Terms → List ℕ
calls_in_all ts = called (positions_all ts)

module _ {k : ℕ} where
  in_within : {X Y : Type 0} (C : X → Y) (ps : List (Position X)) → k ∈ called ps → k ∈ called (map (within C) ps)
  in_within C ps h = subst (λ (ts : List Term). k ∈ present (map as_call ts))
      (sym (map-map (λ p. p.subterm) (within C) ps)) h

  in_bound : {X Y : Type 0} (C : X → Y) (ps : List (Position X)) → k ∈ called ps → k ∈ called (map (bound C) ps)
  in_bound C ps h = subst (λ (ts : List Term). k ∈ present (map as_call ts))
      (sym (map-map (λ p. p.subterm) (bound C) ps)) h

  more : (o : Option ℕ) (os : List (Option ℕ)) → k ∈ present os → k ∈ present (o ∷ os)
  more none os h = h
  more (some j) os h = there h

  cons : (o : Option ℕ) (os os' : List (Option ℕ)) → (k ∈ present os → k ∈ present os') → k ∈ present (o ∷ os) → k ∈ present (o ∷ os')
  cons none os os' f h = f h
  cons (some j) os os' f here = here
  cons (some j) os os' f (there h) = there (f h)

  in_left : {X : Type 0} (ps qs : List (Position X)) → k ∈ called ps → k ∈ called (ps ++ qs)
  in_left [] qs h = absurd (nothing h)
    where
      nothing : k ∈ [] → ⊥
      nothing = elim [ ]
  in_left (p ∷ ps) qs h = cons (as_call p.subterm) (named ps) (named (ps ++ qs)) (in_left ps qs) h

  in_right : {X : Type 0} (ps qs : List (Position X)) → k ∈ called qs → k ∈ called (ps ++ qs)
  in_right [] qs h = h
  in_right (p ∷ ps) qs h = more (as_call p.subterm) (named (ps ++ qs)) (in_right ps qs h)

  pub of_call : (ts : Terms) → k ∈ calls_in (call k ts)
  unfolding calls_in subterms positions as_call node
  of_call ts = here

  pub of_arguments : (j : ℕ) (ts : Terms) → k ∈ calls_in_all ts → k ∈ calls_in (call j ts)
  unfolding calls_in subterms positions as_call node
  of_arguments j ts h = there (in_within (call j) (positions_all ts) h)

  pub of_lam : (A : ℕ) (b : Term) → k ∈ calls_in b → k ∈ calls_in (lam A b)
  unfolding calls_in subterms positions as_call node
  of_lam A b h = in_bound (lam A) (positions b) h

  pub of_app₁ : (f a : Term) → k ∈ calls_in f → k ∈ calls_in (app f a)
  unfolding calls_in subterms positions as_call node
  of_app₁ f a h = in_left (map (within (λ x. app x a)) (positions f)) _ (in_within (λ x. app x a) (positions f) h)

  pub of_app₂ : (f a : Term) → k ∈ calls_in a → k ∈ calls_in (app f a)
  unfolding calls_in subterms positions as_call node
  of_app₂ f a h = in_right (map (within (λ x. app x a)) (positions f)) _ (in_within (λ x. app f x) (positions a) h)

  pub of_bind₁ : (e b : Term) → k ∈ calls_in e → k ∈ calls_in (bind e b)
  unfolding calls_in subterms positions as_call node
  of_bind₁ e b h = in_left (map (within (λ x. bind x b)) (positions e)) _ (in_within (λ x. bind x b) (positions e) h)

  pub of_bind₂ : (e b : Term) → k ∈ calls_in b → k ∈ calls_in (bind e b)
  unfolding calls_in subterms positions as_call node
  of_bind₂ e b h = in_right (map (within (λ x. bind x b)) (positions e)) _ (in_bound (λ x. bind e x) (positions b) h)

  pub of_pair₁ : (A : ℕ) (a b : Term) → k ∈ calls_in a → k ∈ calls_in (pair A a b)
  unfolding calls_in subterms positions as_call node
  of_pair₁ A a b h = in_left (map (within (λ x. pair A x b)) (positions a)) _ (in_within (λ x. pair A x b) (positions a) h)

  pub of_pair₂ : (A : ℕ) (a b : Term) → k ∈ calls_in b → k ∈ calls_in (pair A a b)
  unfolding calls_in subterms positions as_call node
  of_pair₂ A a b h = in_right (map (within (λ x. pair A x b)) (positions a)) _ (in_within (λ x. pair A a x) (positions b) h)

  pub of_fst : (a : Term) → k ∈ calls_in a → k ∈ calls_in (fst a)
  unfolding calls_in subterms positions as_call node
  of_fst a h = in_within fst (positions a) h

  pub of_snd : (a : Term) → k ∈ calls_in a → k ∈ calls_in (snd a)
  unfolding calls_in subterms positions as_call node
  of_snd a h = in_within snd (positions a) h

  pub of_inl : (A : ℕ) (a : Term) → k ∈ calls_in a → k ∈ calls_in (inl A a)
  unfolding calls_in subterms positions as_call node
  of_inl A a h = in_within (inl A) (positions a) h

  pub of_inr : (A : ℕ) (a : Term) → k ∈ calls_in a → k ∈ calls_in (inr A a)
  unfolding calls_in subterms positions as_call node
  of_inr A a h = in_within (inr A) (positions a) h

  pub of_case₁ : (s l r : Term) → k ∈ calls_in s → k ∈ calls_in (case s l r)
  unfolding calls_in subterms positions as_call node
  of_case₁ s l r h = in_left (map (within (λ x. case x l r)) (positions s)) _ (in_within (λ x. case x l r) (positions s) h)

  pub of_case₂ : (s l r : Term) → k ∈ calls_in l → k ∈ calls_in (case s l r)
  unfolding calls_in subterms positions as_call node
  of_case₂ s l r h = in_right (map (within (λ x. case x l r)) (positions s)) _
      (in_left (map (bound (λ x. case s x r)) (positions l)) _ (in_bound (λ x. case s x r) (positions l) h))

  pub of_case₃ : (s l r : Term) → k ∈ calls_in r → k ∈ calls_in (case s l r)
  unfolding calls_in subterms positions as_call node
  of_case₃ s l r h = in_right (map (within (λ x. case x l r)) (positions s)) _
      (in_right (map (bound (λ x. case s x r)) (positions l)) _ (in_bound (λ x. case s l x) (positions r) h))

  pub of_first : (t : Term) (ts : Terms) → k ∈ calls_in t → k ∈ calls_in_all (arg t ts)
  unfolding calls_in subterms positions
  of_first t ts h = in_left (map (within (λ x. arg x ts)) (positions t)) _ (in_within (λ x. arg x ts) (positions t) h)

  pub of_rest : (t : Term) (ts : Terms) → k ∈ calls_in_all ts → k ∈ calls_in_all (arg t ts)
  unfolding positions
  of_rest t ts h = in_right (map (within (λ x. arg x ts)) (positions t)) _ (in_within (λ x. arg t x) (positions_all ts) h)
