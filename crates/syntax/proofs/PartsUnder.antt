-- A traversal keeps a node's word and traverses its parts, and a node uses a variable as often as its parts do: one law for all kinds but
-- variables, because the table of binders says what each constructor binds.
use mathlib.Core.Path.{◌≡◌, refl, ap, ap₂}
use mathlib.Core.Logic.{◌≢◌}
use Prim.Native.Nat.{ℕ, suc, ◌+◌}
use native.Mathlib.Omega.{arith}
use Rattle.syntax.specs.Kinds.{binders_at}
use Rattle.syntax.specs.Term.{Term, Terms, var, call, lam, app, bind, pair, fst, snd, inl, inr, case, unit, done, arg, Node, node}
use Rattle.syntax.specs.Substitution.{Kit, traverse, traverse_all}
use Rattle.syntax.specs.Under.{under_by}
use Rattle.syntax.specs.PartsUnder.{traverse_parts, uses_parts}
use Rattle.syntax.specs.Values.{uses, uses_all}

module _ {X : Type 0} (kit : Kit X) where
  -- the arguments of a call stand under no binder
  traverse_arguments : (j : ℕ) (ts : Terms) (f : ℕ → X) → traverse_all kit ts f ≡ traverse_parts kit 1 j ts f
  unfolding traverse traverse_parts under_by binders_at
  traverse_arguments j done f = refl
  traverse_arguments j (arg t ts) f = ap (arg (traverse kit t f)) (traverse_arguments (suc j) ts f)

  -- a node that is no variable, traversed
  abbrev pub traversed_node : Term → (ℕ → X) → Node
  traversed_node t f = record {
    kind = (node t).kind;
    number = (node t).number;
    type = (node t).type;
    parts = traverse_parts kit (node t).kind 0 (node t).parts f;
  }

  pub node_traverse : (t : Term) (f : ℕ → X) → (node t).kind ≢ 0 → node (traverse kit t f) ≡ traversed_node t f
  unfolding node traverse traverse_parts under_by binders_at
  node_traverse (var n) f h = absurd (h refl)
  node_traverse (call k ts) f h = ap {B = Node} (λ us. record { kind = 1; number = k; type = 0; parts = us }) (traverse_arguments 0 ts f)
  node_traverse (lam A b) f h = refl
  node_traverse (app a b) f h = refl
  node_traverse (bind e b) f h = refl
  node_traverse (pair A a b) f h = refl
  node_traverse (fst a) f h = refl
  node_traverse (snd a) f h = refl
  node_traverse (inl A a) f h = refl
  node_traverse (inr A a) f h = refl
  node_traverse (case s l r) f h = refl
  node_traverse (unit A) f h = refl

-- uses in a part that no binder stands over, and in one that a binder stands over
outer : (t : Term) (n : ℕ) → uses t n ≡ uses t (n + 0)
outer t n = ap (uses t) (omega arith)

inner : (t : Term) (n : ℕ) → uses t (suc n) ≡ uses t (n + 1)
inner t n = ap (uses t) (omega arith)

uses_arguments : (j : ℕ) (ts : Terms) (n : ℕ) → uses_all ts n ≡ uses_parts 1 j ts n
unfolding uses uses_parts binders_at
uses_arguments j done n = refl
uses_arguments j (arg t ts) n = ap₂ ◌+◌ (outer t n) (uses_arguments (suc j) ts n)

pub uses_node : (t : Term) (n : ℕ) → (node t).kind ≢ 0 → uses t n ≡ uses_parts (node t).kind 0 (node t).parts n
unfolding uses node uses_parts binders_at
uses_node (var m) n h = absurd (h refl)
uses_node (call k ts) n h = uses_arguments 0 ts n
uses_node (lam A b) n h = omega (arith, inner b n)
uses_node (app a b) n h = omega (arith, outer a n, outer b n)
uses_node (bind e b) n h = omega (arith, outer e n, inner b n)
uses_node (pair A a b) n h = omega (arith, outer a n, outer b n)
uses_node (fst a) n h = omega (arith, outer a n)
uses_node (snd a) n h = omega (arith, outer a n)
uses_node (inl A a) n h = omega (arith, outer a n)
uses_node (inr A a) n h = omega (arith, outer a n)
uses_node (case s l r) n h = omega (arith, outer s n, inner l n, inner r n)
uses_node (unit A) n h = refl
