-- The number of operand positions that hold a computation, by structure: a node's own, and its parts', since positions list the node first
-- and then its parts.
use mathlib.Core.Path.{◌≡◌, refl, ◌∙◌, ap, ap₂}
use mathlib.Core.List.{List, [], ◌∷◌, ◌++◌, map}
use Prim.Native.Nat.{ℕ, ◌+◌}
use native.Mathlib.Omega.{arith}
use Rattle.syntax.specs.Term.{Term, Terms, var, call, lam, app, bind, pair, fst, snd, inl, inr, case, unit, done, arg}
use Rattle.syntax.specs.Values.{is_computation, arguments_in, operands, counts}
use Rattle.syntax.specs.Positions.{Position, within, bound, positions, positions_all, subterms}
use Rattle.syntax.specs.Pending.{computations, pending_in, pending}

-- 1 for a computation
unfoldable pub comp : Term → ℕ
comp t = counts (is_computation t)

unfoldable pub comp_all : Terms → ℕ
comp_all done = 0
comp_all (arg t ts) = comp t + comp_all ts

-- the same number by structure
unfoldable mutual
  pub pend : Term → ℕ
  pend (var n) = 0
  pend (call k ts) = comp_all ts + pend_all ts
  pend (lam A b) = pend b
  pend (app f a) = comp f + comp a + pend f + pend a
  pend (bind e b) = pend e + pend b
  pend (pair A a b) = comp a + comp b + pend a + pend b
  pend (fst a) = comp a + pend a
  pend (snd a) = comp a + pend a
  pend (inl A a) = comp a + pend a
  pend (inr A a) = comp a + pend a
  pend (case s l r) = comp s + pend s + pend l + pend r
  pend (unit A) = 0

  pub pend_all : Terms → ℕ
  pend_all done = 0
  pend_all (arg t ts) = pend t + pend_all ts

abbrev pend_at : {X : Type 0} → List (Position X) → ℕ
pend_at ps = pending_in (map (λ p. p.subterm) ps)

at_within : {X Y : Type 0} (C : X → Y) (ps : List (Position X)) → pend_at (map (within C) ps) ≡ pend_at ps
unfolding pending_in
at_within C [] = refl
at_within C (p ∷ ps) = ap (λ (n : ℕ). computations (operands p.subterm) + n) (at_within C ps)

at_bound : {X Y : Type 0} (C : X → Y) (ps : List (Position X)) → pend_at (map (bound C) ps) ≡ pend_at ps
unfolding pending_in
at_bound C [] = refl
at_bound C (p ∷ ps) = ap (λ (n : ℕ). computations (operands p.subterm) + n) (at_bound C ps)

at_append : {X : Type 0} (ps qs : List (Position X)) → pend_at (ps ++ qs) ≡ pend_at ps + pend_at qs
unfolding pending_in
at_append [] qs = omega arith
at_append (p ∷ ps) qs = let h = at_append ps qs in add (computations (operands p.subterm)) (pend_at (ps ++ qs)) (pend_at ps) (pend_at qs) h
  where
    add : (a b c d : ℕ) → b ≡ c + d → a + b ≡ a + c + d
    add a b c d h = omega (arith, h)

arguments_comp : (C : Terms → Term) (ts : Terms) → computations (arguments_in C ts) ≡ comp_all ts
unfolding computations arguments_in comp_all comp
arguments_comp C done = refl
arguments_comp C (arg t ts) = ap (λ (n : ℕ). counts (is_computation t) + n) (arguments_comp (λ us. C (arg t us)) ts)

sum₂ : (a b c d x y z : ℕ) → x ≡ y + z → y ≡ c → z ≡ d → a + (b + 0) + x ≡ a + b + c + d
sum₂ a b c d x y z h i j = omega (arith, h, i, j)

sum₁ : (a c x : ℕ) → x ≡ c → a + 0 + x ≡ a + c
sum₁ a c x h = omega (arith, h)

sum₃ : (a b c d x y z u v : ℕ) → x ≡ y + z → y ≡ b → z ≡ u + v → u ≡ c → v ≡ d → a + 0 + x ≡ a + b + c + d
sum₃ a b c d x y z u v h i j k l = omega (arith, h, i, j, k, l)

zero_add : (n : ℕ) → 0 + n ≡ n
zero_add n = omega arith

sum₀ : (c d x y z : ℕ) → x ≡ y + z → y ≡ c → z ≡ d → 0 + x ≡ c + d
sum₀ c d x y z h i j = omega (arith, h, i, j)

mutual
  unfolding positions pending_in computations operands pend comp

  structure : (t : Term) → pend_at (positions t) ≡ pend t
  structure (var n) = refl
  structure (call k ts) = ap₂ (λ (m n : ℕ). m + n) (arguments_comp (call k) ts) (at_within (call k) (positions_all ts) ∙ structure_all ts)
  structure (lam A b) = zero_add _ ∙ at_bound (lam A) (positions b) ∙ structure b
  structure (app f a) = sum₂ _ _ _ _ _ _ _ (at_append (map (within (λ x. app x a)) (positions f)) _)
      (at_within (λ x. app x a) (positions f) ∙ structure f) (at_within (λ x. app f x) (positions a) ∙ structure a)
  structure (bind e b) = sum₀ _ _ _ _ _ (at_append (map (within (λ x. bind x b)) (positions e)) _)
      (at_within (λ x. bind x b) (positions e) ∙ structure e) (at_bound (λ x. bind e x) (positions b) ∙ structure b)
  structure (pair A a b) = sum₂ _ _ _ _ _ _ _ (at_append (map (within (λ x. pair A x b)) (positions a)) _)
      (at_within (λ x. pair A x b) (positions a) ∙ structure a) (at_within (λ x. pair A a x) (positions b) ∙ structure b)
  structure (fst a) = sum₁ _ _ _ (at_within fst (positions a) ∙ structure a)
  structure (snd a) = sum₁ _ _ _ (at_within snd (positions a) ∙ structure a)
  structure (inl A a) = sum₁ _ _ _ (at_within (inl A) (positions a) ∙ structure a)
  structure (inr A a) = sum₁ _ _ _ (at_within (inr A) (positions a) ∙ structure a)
  structure (case s l r) = sum₃ _ _ _ _ _ _ _ _ _ (at_append (map (within (λ x. case x l r)) (positions s)) _)
      (at_within (λ x. case x l r) (positions s) ∙ structure s)
      (at_append (map (bound (λ x. case s x r)) (positions l)) _) (at_bound (λ x. case s x r) (positions l) ∙ structure l)
      (at_bound (λ x. case s l x) (positions r) ∙ structure r)
  structure (unit A) = refl

  structure_all : (ts : Terms) → pend_at (positions_all ts) ≡ pend_all ts
  structure_all done = refl
  structure_all (arg t ts) = at_append (map (within (λ x. arg x ts)) (positions t)) _
      ∙ ap₂ (λ (m n : ℕ). m + n) (at_within (λ x. arg x ts) (positions t) ∙ structure t)
      (at_within (λ x. arg t x) (positions_all ts) ∙ structure_all ts)

pub pending_structure : (t : Term) → pending t ≡ pend t
unfolding pending subterms
pending_structure t = structure t
