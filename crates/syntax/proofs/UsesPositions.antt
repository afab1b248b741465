-- The uses of a variable are the positions that hold it: under d binders variable n has the number d + n.
use mathlib.Core.Path.{◌≡◌, refl, sym, ◌∙◌, ap, subst}
use mathlib.Core.Bool.{Bool, true, false}
use mathlib.Core.List.{List, [], ◌∷◌, ◌++◌, map}
use mathlib.Core.Option.{Option, some, none}
use Prim.Native.Nat.{ℕ, suc, ◌+◌, ◌≤◌}
use native.Mathlib.Omega.{arith}
use native.Mathlib.Nat.{zero-add}
use lib.Dec.{T, eqb, eqb→eq}
use borrow.Author.Tests.{eq-eqb}
use Rattle.syntax.specs.Lists.{◌∈◌, here, there}
use Rattle.syntax.specs.Term.{Term, Terms, var, call, lam, app, bind, pair, fst, snd, inl, inr, case, unit, done, arg, node, as_var}
use Rattle.syntax.specs.Positions.{Position, within, bound, positions, positions_all}
use Rattle.syntax.specs.Values.{counts, uses, uses_all}

-- whether a number is given, and is n
abbrev is_number : Option ℕ → ℕ → Bool
is_number none n = false
is_number (some m) n = eqb m n

-- whether a position holds the variable that is n at the root
abbrev holds : {X : Type 0} → ℕ → Position X → Bool
holds n p = is_number (as_var p.subterm) (p.depth + n)

-- how many positions of a list do
unfoldable holding : {X : Type 0} → ℕ → List (Position X) → ℕ
holding n [] = 0
holding n (p ∷ ps) = counts (holds n p) + holding n ps

holding_append : {X : Type 0} (n : ℕ) (ps qs : List (Position X)) → holding n (ps ++ qs) ≡ holding n ps + holding n qs
unfolding holding
holding_append n [] qs = omega arith
holding_append n (p ∷ ps) qs = omega (arith, holding_append n ps qs)

holding_within : {X Y : Type 0} (C : X → Y) (n : ℕ) (ps : List (Position X)) → holding n (map (within C) ps) ≡ holding n ps
unfolding holding
holding_within C n [] = refl
holding_within C n (p ∷ ps) = ap (λ (k : ℕ). counts (holds n p) + k) (holding_within C n ps)

-- two parts, under no binder
two : (n : ℕ) (C : Term → Term) (a : Term) (D : Term → Term) (b : Term) → uses a n ≡ holding n (positions a)
    → uses b n ≡ holding n (positions b)
    → uses a n + uses b n ≡ 0 + holding n (map (within C) (positions a) ++ map (within D) (positions b))
two n C a D b e d =
    omega (
      arith,
      e,
      d,
      holding_within C n (positions a),
      holding_within D n (positions b),
      holding_append n (map (within C) (positions a)) (map (within D) (positions b)),
    )

-- under a binder the variable's number is one more
holding_bound : {X Y : Type 0} (C : X → Y) (n : ℕ) (ps : List (Position X)) → holding n (map (bound C) ps) ≡ holding (suc n) ps
unfolding holding
holding_bound C n [] = refl
holding_bound C n (p ∷ ps) =
    let e : suc p.depth + n ≡ p.depth + suc n = omega arith in
    omega (arith, ap (λ (m : ℕ). counts (is_number (as_var p.subterm) m)) e, holding_bound C n ps)

mutual
  unfolding uses positions holding as_var node

  uses_holding : (t : Term) (n : ℕ) → uses t n ≡ holding n (positions t)
  uses_holding (var m) n = omega (arith, ap (λ (k : ℕ). counts (eqb m k)) (zero-add n))
  uses_holding (call k ts) n = omega (arith, uses_holding_all ts n, holding_within (call k) n (positions_all ts))
  uses_holding (lam A b) n = omega (arith, uses_holding b (suc n), holding_bound (lam A) n (positions b))
  uses_holding (app f a) n = two n (λ x. app x a) f (λ x. app f x) a (uses_holding f n) (uses_holding a n)
  uses_holding (bind e b) n =
      omega (
        arith,
        uses_holding e n,
        uses_holding b (suc n),
        holding_within (λ x. bind x b) n (positions e),
        holding_bound (λ x. bind e x) n (positions b),
        holding_append n (map (within (λ x. bind x b)) (positions e)) (map (bound (λ x. bind e x)) (positions b)),
      )
  uses_holding (pair A a b) n = two n (λ x. pair A x b) a (λ x. pair A a x) b (uses_holding a n) (uses_holding b n)
  uses_holding (fst a) n = omega (arith, uses_holding a n, holding_within fst n (positions a))
  uses_holding (snd a) n = omega (arith, uses_holding a n, holding_within snd n (positions a))
  uses_holding (inl A a) n = omega (arith, uses_holding a n, holding_within (inl A) n (positions a))
  uses_holding (inr A a) n = omega (arith, uses_holding a n, holding_within (inr A) n (positions a))
  uses_holding (case s l r) n =
      omega (
        arith,
        uses_holding s n,
        uses_holding l (suc n),
        uses_holding r (suc n),
        holding_within (λ x. case x l r) n (positions s),
        holding_bound (λ x. case s x r) n (positions l),
        holding_bound (λ x. case s l x) n (positions r),
        holding_append n (map (within (λ x. case x l r)) (positions s))
            (map (bound (λ x. case s x r)) (positions l) ++ map (bound (λ x. case s l x)) (positions r)),
        holding_append n (map (bound (λ x. case s x r)) (positions l)) (map (bound (λ x. case s l x)) (positions r)),
      )
  uses_holding (unit A) n = refl

  uses_holding_all : (ts : Terms) (n : ℕ) → uses_all ts n ≡ holding n (positions_all ts)
  uses_holding_all done n = refl
  uses_holding_all (arg t ts) n =
      omega (
        arith,
        uses_holding t n,
        uses_holding_all ts n,
        holding_within (λ x. arg x ts) n (positions t),
        holding_within (λ x. arg t x) n (positions_all ts),
        holding_append n (map (within (λ x. arg x ts)) (positions t)) (map (within (λ x. arg t x)) (positions_all ts)),
      )

is_number_lem : (o : Option ℕ) (n : ℕ) → T (is_number o n) → o ≡ some n
is_number_lem none n h = absurd h
is_number_lem (some m) n h = ap (λ (k : ℕ). some k) (eqb→eq m n h)

number_is : (o : Option ℕ) (n : ℕ) → o ≡ some n → counts (is_number o n) ≡ 1
number_is o n e = ap (λ (x : Option ℕ). counts (is_number x n)) e ∙ ap counts (eq-eqb n n refl)

-- a position of a list that holds it
pub record Found {X : Type 0} (n : ℕ) (ps : List (Position X)) : Type 0 where
  pub position : Position X
  pub among : position ∈ ps
  pub names : as_var position.subterm ≡ some (position.depth + n)

found : {X : Type 0} (n : ℕ) (ps : List (Position X)) → 1 ≤ holding n ps → Found n ps
unfolding holding
found n [] h = absurd (omega (arith, h))
found n (p ∷ ps) h = by (holds n p) refl (λ k. found n ps k)
  where
    by : (b : Bool) → holds n p ≡ b → (1 ≤ holding n ps → Found n ps) → Found n (p ∷ ps)
    by true e rest = record { position = p; among = here; names = is_number_lem _ _ (subst T (sym e) tt) }
    by false e rest =
        let f = rest (omega (arith, h, ap counts e)) in
        record { position = f.position; among = there f.among; names = f.names }

counted : {X : Type 0} (n : ℕ) {p : Position X} {ps : List (Position X)} → p ∈ ps → as_var p.subterm ≡ some (p.depth + n)
    → 1 ≤ holding n ps
unfolding holding
counted n here e = omega (arith, number_is _ _ e)
counted n (there i) e = omega (arith, counted n i e)

-- a variable is used exactly if some position holds it
pub used_found : (t : Term) (n : ℕ) → 1 ≤ uses t n → Found n (positions t)
used_found t n h = found n (positions t) (omega (arith, h, uses_holding t n))

pub found_used : (t : Term) (n : ℕ) → Found n (positions t) → 1 ≤ uses t n
found_used t n f = omega (arith, counted n f.among f.names, uses_holding t n)
