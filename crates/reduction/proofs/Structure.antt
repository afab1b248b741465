-- The step by structure: a node first, then its parts in order, each place moved by the words before the part.
use mathlib.Core.Path.{◌≡◌, refl, ◌∙◌, ap, ap₂}
use mathlib.Core.Bool.{Bool}
use mathlib.Core.List.{List, [], ◌∷◌, ◌++◌, map}
use mathlib.Core.Option
use mathlib.Core.Option.{Option, some, none}
use Prim.Native.Nat.{ℕ, suc, ◌+◌}
use native.Mathlib.Omega.{arith}
use lib.ListN.{length, length-map}
use Rattle.syntax.specs.Term.{Term, Terms, var, call, lam, app, bind, pair, fst, snd, inl, inr, case, unit, done, arg}
use Rattle.syntax.specs.Encoding.{size}
use Rattle.syntax.specs.Positions.{Position, within, bound, positions, positions_all}
use Rattle.syntax.proofs.Positions.{length_positions}
use Rattle.reduction.specs.Rules.{rules}
use Rattle.reduction.specs.declared.Phase.{Phase}
use Rattle.reduction.specs.Redex.{Contraction, contract, Step, first_step, step}
use Rattle.reduction.specs.declared.Rule.{Rule}

-- a rule found at a place, and the whole after it
pub record Hit (X : Type 0) : Type 0 where
  pub rule : Rule
  pub place : ℕ
  pub whole : X

-- the first of two that is there
abbrev pub ◌or◌ : {X : Type 0} → Option X → Option X → Option X
◌or◌ (some x) y = some x
◌or◌ none y = y

infixr 40 ◌or◌
-- a hit in a part that begins n words further in a whole
abbrev pub inside : {X Y : Type 0} → ℕ → (X → Y) → Option (Hit X) → Option (Hit Y)
inside n C o = Option.map (λ h. record { rule = h.rule; place = n + h.place; whole = C h.whole }) o

abbrev pub step_of : Option (Hit Term) → Option Step
step_of o = Option.map (λ h. record { rule = h.rule; place = h.place; next = h.whole }) o

module _ (pure : Term → Bool) (phase : Phase) where
  -- a hit at a node itself
  abbrev pub hit_of : {X : Type 0} → ℕ → (Term → X) → Option Contraction → Option (Hit X)
  hit_of i C o = Option.map (λ c. record { rule = c.rule; place = i; whole = C c.contractum }) o

  abbrev pub here : Term → Option (Hit Term)
  here t = hit_of 0 (λ x. x) (contract pure (rules phase) t)

  abbrev fitting : {X : Type 0} → Position X → Option Contraction
  fitting p = contract pure (rules phase) p.subterm

  abbrev search : {X : Type 0} → ℕ → List (Position X) → Option (Hit X)
  search i [] = none
  search i (p ∷ ps) = hit_of i p.plug (fitting p) or search (suc i) ps

  shift : {X : Type 0} (n i : ℕ) (ps : List (Position X)) → search (n + i) ps ≡ inside n (λ x. x) (search i ps)
  shift n i [] = refl
  shift n i (p ∷ ps) = go (fitting p) (shift n (suc i) ps)
    where
      go : (o : Option Contraction) → search (n + suc i) ps ≡ inside n (λ x. x) (search (suc i) ps)
          → (hit_of (n + i) p.plug o or search (suc (n + i)) ps) ≡ inside n (λ x. x) (hit_of i p.plug o or search (suc i) ps)
      go none e = ap (λ (k : ℕ). search k ps) (omega arith) ∙ e
      go (some c) e = refl

  through : {X Y : Type 0} (C : X → Y) (i : ℕ) (ps : List (Position X)) → search i (map (within C) ps) ≡ inside 0 C (search i ps)
  through C i [] = refl
  through {Y = Y} C i (p ∷ ps) = go (fitting p) (through C (suc i) ps)
    where
      go : (o : Option Contraction) → search (suc i) (map (within C) ps) ≡ inside 0 C (search (suc i) ps)
          → (hit_of i (λ x. C (p.plug x)) o or search (suc i) (map (within C) ps)) ≡ inside 0 C (hit_of i p.plug o or search (suc i) ps)
      go none e = e
      go (some c) e = ap (λ (k : ℕ). some (record { rule = c.rule; place = k; whole = C (p.plug c.contractum) })) (omega arith)

  through_bound : {X Y : Type 0} (C : X → Y) (i : ℕ) (ps : List (Position X)) → search i (map (bound C) ps) ≡ inside 0 C (search i ps)
  through_bound C i [] = refl
  through_bound C i (p ∷ ps) = go (fitting p) (through_bound C (suc i) ps)
    where
      go : (o : Option Contraction) → search (suc i) (map (bound C) ps) ≡ inside 0 C (search (suc i) ps)
          → (hit_of i (λ x. C (p.plug x)) o or search (suc i) (map (bound C) ps)) ≡ inside 0 C (hit_of i p.plug o or search (suc i) ps)
      go none e = e
      go (some c) e = ap (λ (k : ℕ). some (record { rule = c.rule; place = k; whole = C (p.plug c.contractum) })) (omega arith)

  in_a_row : {X : Type 0} (i : ℕ) (ps qs : List (Position X)) → search i (ps ++ qs) ≡ (search i ps or search (length ps + i) qs)
  in_a_row i [] qs = ap (λ (k : ℕ). search k qs) (omega arith)
  in_a_row i (p ∷ ps) qs = go (fitting p) (in_a_row (suc i) ps qs)
    where
      go : (o : Option Contraction) → search (suc i) (ps ++ qs) ≡ (search (suc i) ps or search (length ps + suc i) qs)
          → (hit_of i p.plug o or search (suc i) (ps ++ qs)) ≡
          ((hit_of i p.plug o or search (suc i) ps) or search (suc (length ps) + i) qs)
      go none e = e ∙ ap (λ (k : ℕ). search (suc i) ps or search k qs) (omega arith)
      go (some c) e = refl

  twice : {X Y : Type 0} (n : ℕ) (C : X → Y) (o : Option (Hit X)) → inside 0 C (inside n (λ x. x) o) ≡ inside n C o
  twice n C none = refl
  twice n C (some h) = ap (λ (k : ℕ). some (record { rule = h.rule; place = k; whole = C h.whole })) (omega arith)

  -- the first redex of a term, and of a list of terms
  pub find : Term → Option (Hit Term)
  find t = search 0 (positions t)

  pub finds : Terms → Option (Hit Terms)
  finds ts = search 0 (positions_all ts)

  from : {X : Type 0} (n : ℕ) (ps : List (Position X)) → search n ps ≡ inside n (λ x. x) (search 0 ps)
  from n ps = ap (λ (k : ℕ). search k ps) (omega arith) ∙ shift n 0 ps

  -- a part that begins n words further
  part : {X Y : Type 0} (n m : ℕ) (C : X → Y) (ps : List (Position X)) → n ≡ m → search n (map (within C) ps) ≡ inside m C (search 0 ps)
  part n m C ps e = through C n ps ∙ ap (inside 0 C) (from n ps) ∙ twice n C (search 0 ps) ∙ ap (λ (k : ℕ). inside k C (search 0 ps)) e

  part_bound : {X Y : Type 0} (n m : ℕ) (C : X → Y) (ps : List (Position X)) → n ≡ m
      → search n (map (bound C) ps) ≡ inside m C (search 0 ps)
  part_bound n m C ps e = through_bound C n ps ∙ ap (inside 0 C) (from n ps) ∙ twice n C (search 0 ps)
      ∙ ap (λ (k : ℕ). inside k C (search 0 ps)) e

  -- where the second of two parts begins
  after : {Y : Type 0} (C : Term → Y) (f : Term) (n : ℕ) → length (map (within C) (positions f)) + n ≡ n + size f
  after C f n = ap (λ (k : ℕ). k + n) (length-map (positions f) (within C) ∙ length_positions f) ∙ swap (size f) n
    where
      swap : (a b : ℕ) → a + b ≡ b + a
      swap a b = omega arith

  after_bound : {Y : Type 0} (C : Term → Y) (f : Term) (n : ℕ) → length (map (bound C) (positions f)) + n ≡ n + size f
  after_bound C f n = ap (λ (k : ℕ). k + n) (length-map (positions f) (bound C) ∙ length_positions f) ∙ swap (size f) n
    where
      swap : (a b : ℕ) → a + b ≡ b + a
      swap a b = omega arith

  or_nothing : (o : Option (Hit Term)) → (o or none) ≡ o
  or_nothing none = refl
  or_nothing (some h) = refl

  pub find_var : (n : ℕ) → find (var n) ≡ here (var n)
  unfolding find positions
  find_var n = or_nothing (here (var n))

  pub find_unit : (A : ℕ) → find (unit A) ≡ here (unit A)
  unfolding find positions
  find_unit A = or_nothing (here (unit A))

  pub finds_done : finds done ≡ none
  unfolding finds positions
  finds_done = refl

  pub find_call : (k : ℕ) (ts : Terms) → find (call k ts) ≡ (here (call k ts) or inside 1 (call k) (finds ts))
  unfolding find finds positions
  find_call k ts = ap (λ (o : Option (Hit Term)). here (call k ts) or o) (part 1 1 (call k) (positions_all ts) refl)

  pub find_lam : (A : ℕ) (b : Term) → find (lam A b) ≡ (here (lam A b) or inside 1 (lam A) (find b))
  unfolding find positions
  find_lam A b = ap (λ (o : Option (Hit Term)). here (lam A b) or o) (part_bound 1 1 (lam A) (positions b) refl)

  pub find_app : (f a : Term)
      → find (app f a) ≡ (here (app f a) or (inside 1 (λ x. app x a) (find f) or inside (1 + size f) (λ x. app f x) (find a)))
  unfolding find positions
  find_app f a = ap (λ (o : Option (Hit Term)). here (app f a) or o)
      (in_a_row 1 (map (within (λ x. app x a)) (positions f)) _
      ∙ ap₂ {C = Option (Hit Term)} (λ x y. x or y) (part 1 1 (λ x. app x a) (positions f) refl)
      (part _ _ (λ x. app f x) (positions a) (after (λ x. app x a) f 1)))

  pub find_bind : (e b : Term)
      → find (bind e b) ≡ (here (bind e b) or (inside 1 (λ x. bind x b) (find e) or inside (1 + size e) (λ x. bind e x) (find b)))
  unfolding find positions
  find_bind e b = ap (λ (o : Option (Hit Term)). here (bind e b) or o)
      (in_a_row 1 (map (within (λ x. bind x b)) (positions e)) _
      ∙ ap₂ {C = Option (Hit Term)} (λ x y. x or y) (part 1 1 (λ x. bind x b) (positions e) refl)
      (part_bound _ _ (λ x. bind e x) (positions b) (after (λ x. bind x b) e 1)))

  pub find_pair : (A : ℕ) (a b : Term)
      → find (pair A a b) ≡ (here (pair A a b) or (inside 1 (λ x. pair A x b) (find a) or inside (1 + size a) (λ x. pair A a x) (find b)))
  unfolding find positions
  find_pair A a b = ap (λ (o : Option (Hit Term)). here (pair A a b) or o)
      (in_a_row 1 (map (within (λ x. pair A x b)) (positions a)) _
      ∙ ap₂ {C = Option (Hit Term)} (λ x y. x or y) (part 1 1 (λ x. pair A x b) (positions a) refl)
      (part _ _ (λ x. pair A a x) (positions b) (after (λ x. pair A x b) a 1)))

  pub find_fst : (a : Term) → find (fst a) ≡ (here (fst a) or inside 1 fst (find a))
  unfolding find positions
  find_fst a = ap (λ (o : Option (Hit Term)). here (fst a) or o) (part 1 1 fst (positions a) refl)

  pub find_snd : (a : Term) → find (snd a) ≡ (here (snd a) or inside 1 snd (find a))
  unfolding find positions
  find_snd a = ap (λ (o : Option (Hit Term)). here (snd a) or o) (part 1 1 snd (positions a) refl)

  pub find_inl : (A : ℕ) (a : Term) → find (inl A a) ≡ (here (inl A a) or inside 1 (inl A) (find a))
  unfolding find positions
  find_inl A a = ap (λ (o : Option (Hit Term)). here (inl A a) or o) (part 1 1 (inl A) (positions a) refl)

  pub find_inr : (A : ℕ) (a : Term) → find (inr A a) ≡ (here (inr A a) or inside 1 (inr A) (find a))
  unfolding find positions
  find_inr A a = ap (λ (o : Option (Hit Term)). here (inr A a) or o) (part 1 1 (inr A) (positions a) refl)

  pub find_case : (s l r : Term)
      → find (case s l r) ≡ (here (case s l r) or
      (inside 1 (λ x. case x l r) (find s) or
      (inside (1 + size s) (λ x. case s x r) (find l) or inside (1 + size s + size l) (λ x. case s l x) (find r))))
  unfolding find positions
  find_case s l r = ap (λ (o : Option (Hit Term)). here (case s l r) or o)
      (in_a_row 1 (map (within (λ x. case x l r)) (positions s)) _
      ∙ ap₂ {C = Option (Hit Term)} (λ x y. x or y) (part 1 1 (λ x. case x l r) (positions s) refl)
      (ap (λ (k : ℕ). search k (map (bound (λ x. case s x r)) (positions l) ++ map (bound (λ x. case s l x)) (positions r)))
      (after (λ x. case x l r) s 1)
      ∙ in_a_row (1 + size s) (map (bound (λ x. case s x r)) (positions l)) _
      ∙ ap₂ {C = Option (Hit Term)} (λ x y. x or y) (part_bound (1 + size s) (1 + size s) (λ x. case s x r) (positions l) refl)
      (part_bound _ _ (λ x. case s l x) (positions r) (after_bound (λ x. case s x r) l (1 + size s)))))

  pub finds_arg : (t : Term) (ts : Terms)
      → finds (arg t ts) ≡ (inside 0 (λ x. arg x ts) (find t) or inside (size t) (λ x. arg t x) (finds ts))
  unfolding find finds positions
  finds_arg t ts = in_a_row 0 (map (within (λ x. arg x ts)) (positions t)) _
      ∙ ap₂ {C = Option (Hit Terms)} (λ x y. x or y) (part 0 0 (λ x. arg x ts) (positions t) refl)
      (part _ _ (λ x. arg t x) (positions_all ts) (after (λ x. arg x ts) t 0 ∙ zero (size t)))
    where
      zero : (n : ℕ) → 0 + n ≡ n
      zero n = omega arith

  search_step : (i : ℕ) (ps : List (Position Term)) → first_step pure phase i ps ≡ step_of (search i ps)
  unfolding first_step
  search_step i [] = refl
  search_step i (p ∷ ps) = go (fitting p) (search_step (suc i) ps)
    where
      go : (o : Option Contraction) → first_step pure phase (suc i) ps ≡ step_of (search (suc i) ps)
          → elim o [
            | some c ↦ some (record { rule = c.rule; place = i; next = p.plug c.contractum })
            | none ↦ first_step pure phase
                (suc i) ps
          ] ≡ step_of (hit_of i p.plug o or search (suc i) ps)
      go none e = e
      go (some c) e = refl

  -- the step is at the first redex
  pub step_find : (t : Term) → step pure phase t ≡ step_of (find t)
  unfolding step find
  step_find t = search_step 0 (positions t)
