-- Let insertion fits a node exactly if one of its operands is no value, and the operands are the first so many of its parts.
use Prim.Native.Nat.{ℕ, zero, suc, ◌≤◌, ◌<◌}
use mathlib.Core.Path.{◌≡◌, refl, ap}
use mathlib.Core.Bool.{Bool, true, false, ◌&&◌, not}
use mathlib.Core.Option.{Option, some, none}
use native.Mathlib.Omega.{arith}
use Rattle.syntax.specs.Maybe.{is_some}
use Rattle.syntax.specs.Term.{Term, Terms, var, call, lam, app, bind, pair, fst, snd, inl, inr, case, unit, done, arg, node}
use Rattle.syntax.specs.Shaped.{count}
use Rattle.syntax.specs.Substitution.{traverse, traverse_all, renaming, weaken}
use Rattle.syntax.specs.Values.{is_value, arguments_in, operands}
use Rattle.reduction.specs.Rules.{name_first, let_insertion}
use Rattle.words.specs.Joined.{joined}
use Rattle.search.specs.Operands.{all_values}
use Rattle.words.specs.Shapes.{operand_count}

-- whether the first m of these are values
unfoldable pub values_to : ℕ → Terms → Bool
values_to zero ts = true
values_to (suc m) done = true
values_to (suc m) (arg t ts) = is_value t && values_to m ts

-- what is found for an operand that is a value or not, given what is found for those behind it
first_or_lem : (b v : Bool) (o : Option Term) (u : Term) → is_some o ≡ not v
    → is_some {X = Term} (elim b as (λ _. Option Term) [ true ↦ o | false ↦ some u ]) ≡ not (b && v)
first_or_lem true v o u e = e
first_or_lem false v o u e = refl

argument : (C D : Terms → Term) (ts : Terms)
    → is_some (name_first (arguments_in C ts) (arguments_in D (traverse_all renaming ts suc))) ≡ not (values_to (count ts) ts)
unfolding name_first arguments_in traverse values_to count
argument C D done = refl
argument C D (arg t ts) =
    first_or_lem (is_value t) (values_to (count ts) ts) _ _ (argument (λ us. C (arg t us)) (λ us. D (arg (weaken t) us)) ts)

-- how many parts of a node are operands
abbrev pub operands_of : Term → ℕ
operands_of t = operand_count (node t).kind (count (node t).parts)

pub inserts_is : (t : Term) → is_some (let_insertion t) ≡ not (values_to (operands_of t) (node t).parts)
unfolding let_insertion name_first operands traverse values_to operand_count count node
inserts_is (var n) = refl
inserts_is (call k ts) = argument (call k) (call k) ts
inserts_is (lam A b) = refl
inserts_is (app f a) = first_or_lem (is_value f) _ _ _ (first_or_lem (is_value a) true none _ refl)
inserts_is (bind e b) = refl
inserts_is (pair A a b) = first_or_lem (is_value a) _ _ _ (first_or_lem (is_value b) true none _ refl)
inserts_is (fst a) = first_or_lem (is_value a) true none _ refl
inserts_is (snd a) = first_or_lem (is_value a) true none _ refl
inserts_is (inl A a) = first_or_lem (is_value a) true none _ refl
inserts_is (inr A a) = first_or_lem (is_value a) true none _ refl
inserts_is (case s l r) = first_or_lem (is_value s) true none _ refl
inserts_is (unit A) = refl

pub operands_are_parts : (t : Term) → operands_of t ≤ count (node t).parts
unfolding operand_count count node
operands_are_parts (var n) = omega arith
operands_are_parts (call k ts) = omega arith
operands_are_parts (lam A b) = omega arith
operands_are_parts (app f a) = omega arith
operands_are_parts (bind e b) = omega arith
operands_are_parts (pair A a b) = omega arith
operands_are_parts (fst a) = omega arith
operands_are_parts (snd a) = omega arith
operands_are_parts (inl A a) = omega arith
operands_are_parts (inr A a) = omega arith
operands_are_parts (case s l r) = omega arith
operands_are_parts (unit A) = omega arith

-- one test behind another that holds
pub behind : (b x y : Bool) → (x ≡ true → y ≡ true) → (b && x) ≡ true → (b && y) ≡ true
behind true x y f e = f e
behind false x y f e = e

fails_behind : (b x y : Bool) → (x ≡ true → y ≡ false) → (b && x) ≡ true → (b && y) ≡ false
fails_behind true x y f e = f e
fails_behind false x y f e = refl

-- values in front: all of the first m, if there are no more, and not all, if a computation comes next
pub values_front : (m : ℕ) (front ts : Terms) → m ≤ count front → all_values front ≡ true → values_to m (joined front ts) ≡ true
unfolding values_to all_values joined count
values_front zero front ts l e = refl
values_front (suc m) done ts l e = absurd (omega arith)
values_front (suc m) (arg t us) ts l e = behind (is_value t) _ _ (values_front m us ts (omega arith)) e

pub computation_next : (m : ℕ) (front : Terms) (t : Term) (later : Terms) → count front < m → all_values front ≡ true → is_value t ≡ false
    → values_to m (joined front (arg t later)) ≡ false
unfolding values_to all_values joined count
computation_next zero front t later l e f = absurd (omega arith)
computation_next (suc m) done t later l e f = ap (λ (b : Bool). b && values_to m later) f
computation_next (suc m) (arg u us) t later l e f =
    fails_behind (is_value u) _ _ (λ d. computation_next m us t later (omega arith) d f) e
