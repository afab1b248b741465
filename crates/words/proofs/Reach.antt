-- A node's parts are its outer and its inner ones, and what is done to a node is done to the outer ones as they stand and to the inner ones
-- under one binder: by the table of kinds.
use Prim.Native.Nat.{ℕ, suc, ◌+◌}
use native.Mathlib.Omega.{arith}
use native.Mathlib.Decide.{ℕ_discrete}
use mathlib.Core.Path.{◌≡◌, refl, sym, ap}
use mathlib.Core.Logic.{◌≢◌}
use mathlib.Core.Bool.{Bool, ◌&&◌}
use mathlib.Core.List.{List, ◌∷◌, ◌++◌, append-nil}
use lib.Dec.{eqb}
use borrow.Author.Tests.{ne_eqb}
use Rattle.syntax.specs.Term.{Term, var, call, lam, app, bind, pair, fst, snd, inl, inr, case, unit, node}
use Rattle.syntax.specs.Encoding.{word_of, encode, encode_all}
use Rattle.syntax.specs.Shaped.{count}
use Rattle.syntax.specs.Substitution.{Kit, under, traverse, traverse_all}
use Rattle.syntax.specs.Values.{counts, uses, uses_all}
use Rattle.syntax.proofs.ByKind.{by_kind}
use Rattle.words.specs.Joined.{joined}
use Rattle.words.specs.Reach.{outer, inner, outer_count}
use Rattle.words.proofs.Joined.{joined_done}

pub node_parts : (t : Term) → (node t).parts ≡ joined (outer t) (inner t)
unfolding node outer inner joined
node_parts (var n) = refl
node_parts (call k ts) = sym (joined_done ts)
node_parts (lam A b) = refl
node_parts (app f a) = refl
node_parts (bind e b) = refl
node_parts (pair A a b) = refl
node_parts (fst a) = refl
node_parts (snd a) = refl
node_parts (inl A a) = refl
node_parts (inr A a) = refl
node_parts (case s l r) = refl
node_parts (unit A) = refl

pub outer_many : (t : Term) → outer_count (node t).kind (count (node t).parts) ≡ count (outer t)
unfolding node outer outer_count count
outer_many (var n) = refl
outer_many (call k ts) = refl
outer_many (lam A b) = refl
outer_many (app f a) = refl
outer_many (bind e b) = refl
outer_many (pair A a b) = refl
outer_many (fst a) = refl
outer_many (snd a) = refl
outer_many (inl A a) = refl
outer_many (inr A a) = refl
outer_many (case s l r) = refl
outer_many (unit A) = refl

-- uses
pub uses_binding : (t : Term) (n : ℕ) → (node t).kind ≢ 0 → uses t n ≡ uses_all (outer t) n + uses_all (inner t) (suc n)
unfolding node outer inner uses
uses_binding (var m) n h = absurd (h refl)
uses_binding (call k ts) n h = omega arith
uses_binding (lam A b) n h = omega arith
uses_binding (app f a) n h = omega arith
uses_binding (bind e b) n h = omega arith
uses_binding (pair A a b) n h = omega arith
uses_binding (fst a) n h = omega arith
uses_binding (snd a) n h = omega arith
uses_binding (inl A a) n h = omega arith
uses_binding (inr A a) n h = omega arith
uses_binding (case s l r) n h = omega arith
uses_binding (unit A) n h = refl

-- with the node's own use, if it is the variable
pub uses_of_node : (t : Term) (n : ℕ)
    → uses t n ≡ counts (eqb (node t).kind 0 && eqb (node t).number n) + (uses_all (outer t) n + uses_all (inner t) (suc n))
unfolding node uses outer inner
uses_of_node t n = by (ℕ_discrete (node t).kind 0)
  where
    Goal : Term → Type 0
    Goal x = uses x n ≡ counts (eqb (node x).kind 0 && eqb (node x).number n) + (uses_all (outer x) n + uses_all (inner x) (suc n))

    by : Dec ((node t).kind ≡ 0) → Goal t
    by (yes z) = by_kind Goal 0 t z λ m. omega arith
    by (no z) = omega (arith, uses_binding t n z, ap (λ (b : Bool). counts (b && eqb (node t).number n)) (ne_eqb (node t).kind 0 z))

-- a traversal
module _ {X : Type 0} (kit : Kit X) (f : ℕ → X) where
  pub encode_binding : (t : Term) → (node t).kind ≢ 0
      → encode (traverse kit t f)
      ≡ word_of t ∷ (encode_all (traverse_all kit (outer t) f) ++ encode_all (traverse_all kit (inner t) (under kit f)))
  unfolding node outer inner encode traverse
  encode_binding (var n) h = absurd (h refl)
  encode_binding (call k ts) h = ap {B = List ℕ} (λ l. word_of (call k ts) ∷ l) (sym (append-nil (encode_all (traverse_all kit ts f))))
  encode_binding (lam A b) h = ap {B = List ℕ} (λ l. word_of (lam A b) ∷ l) (sym (append-nil _))
  encode_binding (app a b) h = rw (append-nil (encode (traverse kit b f)), append-nil (encode (traverse kit a f) ++ encode (traverse kit b f)))
  encode_binding (bind e b) h = rw (append-nil (encode (traverse kit e f)), append-nil (encode (traverse kit b (under kit f))))
  encode_binding (pair A a b) h = rw (append-nil (encode (traverse kit b f)), append-nil (encode (traverse kit a f) ++ encode (traverse kit b f)))
  encode_binding (fst a) h = rw (append-nil (encode (traverse kit a f)), append-nil (encode (traverse kit a f)))
  encode_binding (snd a) h = rw (append-nil (encode (traverse kit a f)), append-nil (encode (traverse kit a f)))
  encode_binding (inl A a) h = rw (append-nil (encode (traverse kit a f)), append-nil (encode (traverse kit a f)))
  encode_binding (inr A a) h = rw (append-nil (encode (traverse kit a f)), append-nil (encode (traverse kit a f)))
  encode_binding (case s l r) h = rw (append-nil (encode (traverse kit s f)), append-nil (encode (traverse kit r (under kit f))))
  encode_binding (unit A) h = refl
