-- The variables of a term are in scope if its own is and those of its parts are, each under its binders: by the positions of each kind.
use mathlib.Core.Path.{◌≡◌, refl, sym, ◌∙◌, ap, ap₂}
use mathlib.Core.Bool.{Bool, true, ◌&&◌, and_assoc}
use mathlib.Core.List.{List, [], ◌∷◌, ◌++◌, map}
use Prim.Native.Nat.{ℕ, suc, ◌+◌}
use native.Mathlib.Omega.{arith}
use native.Mathlib.Nat.{zero-add, add-zero}
use lib.Dec.{T, ltb}
use Rattle.syntax.specs.Kinds.{binders_at}
use Rattle.syntax.specs.Term.{Term, Terms, var, call, lam, app, bind, pair, fst, snd, inl, inr, case, unit, done, arg, node, as_var}
use Rattle.syntax.specs.Positions.{Position, within, bound, positions, positions_all}
use Rattle.syntax.specs.Lists.{◌∈◌, here, there}
use Rattle.syntax.proofs.Options.{and_last, and_left, and_right}
use Rattle.typing.specs.TableChecks.{every}
use Rattle.typing.specs.TermChecks.{below, scoped_at}

pub every_append : {X : Type 0} (f : X → Bool) (xs ys : List X) → every f (xs ++ ys) ≡ (every f xs && every f ys)
every_append f [] ys = refl
every_append f (x ∷ xs) ys = ap (λ (b : Bool). f x && b) (every_append f xs ys)
    ∙ sym (and_assoc (f x) (every f xs) (every f ys))

every_map : {X Y : Type 0} (f : Y → Bool) (g : X → Bool) (h : X → Y) → ((x : X) → f (h x) ≡ g x) → (xs : List X)
    → every f (map h xs) ≡ every g xs
every_map f g h e [] = refl
every_map f g h e (x ∷ xs) = ap₂ {C = Bool} (λ a b. a && b) (e x) (every_map f g h e xs)

-- what every member passes, each does
pub every_member : {X : Type 0} (f : X → Bool) {x : X} {xs : List X} → x ∈ xs → T (every f xs) → T (f x)
every_member f {x} (here {xs = xs}) h = and_left (f x) (every f xs) h
every_member f (there {y = y} {xs = xs} i) h = every_member f i (and_right (f y) (every f xs) h)

-- the test of a position
abbrev test : {W : Type 0} → ℕ → Position W → Bool
test m p = below (p.depth + m) (as_var p.subterm)

-- the parts of a node of kind k from part j on, each under its binders
unfoldable pub scoped_parts : ℕ → ℕ → ℕ → Terms → Bool
scoped_parts m k j done = true
scoped_parts m k j (arg t ts) = scoped_at (m + binders_at k j) t && scoped_parts m k (suc j) ts

-- a part under no binder, or under one
plain : {W : Type 0} (m : ℕ) (C : Term → W) (t : Term) → every (test m) (map (within C) (positions t)) ≡ scoped_at (m + 0) t
unfolding scoped_at
plain m C t = every_map (test m) (test (m + 0)) (within C)
    (λ p. ap (λ (n : ℕ). below (p.depth + n) (as_var p.subterm)) (sym (add-zero m))) (positions t)

under : {W : Type 0} (m : ℕ) (C : Term → W) (t : Term) → every (test m) (map (bound C) (positions t)) ≡ scoped_at (m + 1) t
unfolding scoped_at
under m C t = every_map (test m) (test (m + 1)) (bound C)
    (λ p. ap (λ (n : ℕ). below n (as_var p.subterm)) (more p.depth m)) (positions t)
  where
    more : (d m : ℕ) → suc d + m ≡ d + (m + 1)
    more d m = omega arith

-- the arguments of a call
among : {W : Type 0} (m : ℕ) (C : Terms → W) (ts : Terms)
    → every (test m) (map (within C) (positions_all ts)) ≡ every (test m) (positions_all ts)
among m C ts = every_map (test m) (test m) (within C) (λ p. refl) (positions_all ts)

arguments : (m j : ℕ) (ts : Terms) → every (test m) (positions_all ts) ≡ scoped_parts m 1 j ts
unfolding positions scoped_parts binders_at
arguments m j done = refl
arguments m j (arg t ts) =
    every_append (test m) (map (within (λ x. arg x ts)) (positions t)) (map (within (λ x. arg t x)) (positions_all ts))
    ∙ ap₂ {C = Bool} (λ a b. a && b) (plain m (λ x. arg x ts) t) (among m (λ x. arg t x) ts ∙ arguments m (suc j) ts)

both : {X : Type 0} (f : X → Bool) (xs ys : List X) {a b : Bool} → every f xs ≡ a → every f ys ≡ b
    → every f (xs ++ ys) ≡ (a && (b && true))
both f xs ys {b = b} p q = every_append f xs ys ∙ ap₂ {C = Bool} (λ x y. x && y) p (and_last q)

pub scoped_node : (m : ℕ) (t : Term) → scoped_at m t ≡ (below m (as_var t) && scoped_parts m (node t).kind 0 (node t).parts)
unfolding positions scoped_parts binders_at node as_var scoped_at
scoped_node m (var n) = ap (λ (x : ℕ). ltb n x && true) (zero-add m)
scoped_node m (call k ts) = among m (call k) ts ∙ arguments m 0 ts
scoped_node m (lam A b) = and_last (under m (lam A) b)
scoped_node m (app f a) = both (test m) (map (within (λ x. app x a)) (positions f)) (map (within (λ x. app f x)) (positions a))
    (plain m (λ x. app x a) f) (plain m (λ x. app f x) a)
scoped_node m (bind e b) = both (test m) (map (within (λ x. bind x b)) (positions e)) (map (bound (λ x. bind e x)) (positions b))
    (plain m (λ x. bind x b) e) (under m (λ x. bind e x) b)
scoped_node m (pair A a b) = both (test m) (map (within (λ x. pair A x b)) (positions a)) (map (within (λ x. pair A a x)) (positions b))
    (plain m (λ x. pair A x b) a) (plain m (λ x. pair A a x) b)
scoped_node m (fst a) = and_last (plain m fst a)
scoped_node m (snd a) = and_last (plain m snd a)
scoped_node m (inl A a) = and_last (plain m (inl A) a)
scoped_node m (inr A a) = and_last (plain m (inr A) a)
scoped_node m (case s l r) =
    every_append (test m) (map (within (λ x. case x l r)) (positions s)) _
    ∙ ap₂ {C = Bool} (λ x y. x && y) (plain m (λ x. case x l r) s)
    (both (test m) (map (bound (λ x. case s x r)) (positions l)) (map (bound (λ x. case s l x)) (positions r))
    (under m (λ x. case s x r) l) (under m (λ x. case s l x) r))
scoped_node m (unit A) = refl
