-- The ten rules: what each makes of a node that it fits.
use Rattle.std.specs.Prelude.{ℕ, zero, suc, Bool, true, false, ◌&&◌, List, [], ◌∷◌, eqb}
use Rattle.std.proofs.Math.Option.{Option, some, none}
use Rattle.syntax.specs.Maybe.{◌>>=◌, given}
use Rattle.syntax.specs.Term.{Term, var, bind, case, as_var, as_lam, as_app, as_bind, as_pair, as_fst, as_snd, as_inl, as_inr, as_case}
use Rattle.syntax.specs.Values.{is_value, is_computation, Operand, operands, uses}
use Rattle.syntax.specs.Substitution.{rename, weaken, weaken_body, ◌⟦◌⟧}
use Rattle.reduction.specs.declared.Phase.{Phase}
use Rattle.reduction.specs.declared.Phase.TheVariants.{Insertion, Reduction, Dropping}
use Rattle.reduction.specs.declared.Rule.{Rule}
use Rattle.reduction.specs.declared.Rule.TheVariants.{LetInsertion, LetOfLet, LetOfCase, Apply, First, Second, LeftCase, RightCase}
use Rattle.reduction.specs.declared.Rule.TheVariants.{LetValue, Drop}

-- the first operand that is a computation is bound by a let, over the node with the new variable there;
-- the second list holds the same operand positions of the node moved under the new binder (syntax/proofs/OperandsRenamed)
unfoldable pub name_first : List Operand → List Operand → Option Term
name_first [] qs = none
name_first (p ∷ ps) [] = none
name_first (p ∷ ps) (q ∷ qs) = elim (is_value p.operand) [
  | true ↦ name_first ps qs
  | false ↦ some (bind p.operand (q.plug (var 0)))
]

-- let: a node with a computation in an operand position
unfoldable pub let_insertion : Term → Option Term
let_insertion t = name_first (operands t) (operands (weaken t))

-- let of let: let x = (let y = P in b) in c  becomes  let y = P in let x = b in c
unfoldable pub let_of_let : Term → Option Term
let_of_let t = do
  (e, c) ← as_bind t
  (p, b) ← as_bind e
  given (is_computation p) (bind p (bind b (weaken_body c)))

-- let of case: let x = (case z of l | r) in c  becomes  case z of (let x = l in c) | (let x = r in c), for a variable z
unfoldable pub let_of_case : Term → Option Term
let_of_case t = do
  (e, c) ← as_bind t
  (s, l, r) ← as_case e
  n ← as_var s
  some (case (var n) (bind l (weaken_body c)) (bind r (weaken_body c)))

-- apply: (λx. b) V  becomes  b with V for x
unfoldable pub apply : Term → Option Term
apply t = do
  (f, a) ← as_app t
  b ← as_lam f
  given (is_value a) (b ⟦ a ⟧)

-- first: fst (V, W)  becomes  V
unfoldable pub first : Term → Option Term
first t = do
  p ← as_fst t
  (v, w) ← as_pair p
  given (is_value v && is_value w) v

-- second: snd (V, W)  becomes  W
unfoldable pub second : Term → Option Term
second t = do
  p ← as_snd t
  (v, w) ← as_pair p
  given (is_value v && is_value w) w

-- left case: case (inl V) of l | r  becomes  l with V for its variable
unfoldable pub left_case : Term → Option Term
left_case t = do
  (s, l, r) ← as_case t
  v ← as_inl s
  given (is_value v) (l ⟦ v ⟧)

-- right case: case (inr V) of l | r  becomes  r with V for its variable
unfoldable pub right_case : Term → Option Term
right_case t = do
  (s, l, r) ← as_case t
  v ← as_inr s
  given (is_value v) (r ⟦ v ⟧)

-- let value: let x = V in b  becomes  b with V for x
unfoldable pub let_value : Term → Option Term
let_value t = do
  (v, b) ← as_bind t
  given (is_value v) (b ⟦ v ⟧)

-- the variables past variable 0 come down by one
abbrev pub lower : ℕ → ℕ
lower zero = zero
lower (suc n) = n

-- The rules are given which computations may be dropped.
module _ (pure : Term → Bool) where
  -- drop: let x = P in b, where b does not use x, becomes b
  unfoldable pub drop : Term → Option Term
  drop t = do
    (e, b) ← as_bind t
    given (is_computation e && pure e && eqb (uses b 0) 0) (rename b lower)

  -- what a rule makes of a node, if it fits
  unfoldable pub fire : Rule → Term → Option Term
  fire LetInsertion = let_insertion
  fire LetOfLet = let_of_let
  fire LetOfCase = let_of_case
  fire Apply = apply
  fire First = first
  fire Second = second
  fire LeftCase = left_case
  fire RightCase = right_case
  fire LetValue = let_value
  fire Drop = drop

-- the rules of phases 1, 2 and 3; no two rules of one phase fit the same node
unfoldable pub rules : Phase → List Rule
rules Insertion = LetInsertion ∷ []
rules Reduction = LetOfLet ∷ LetOfCase ∷ Apply ∷ First ∷ Second ∷ LeftCase ∷ RightCase ∷ LetValue ∷ []
rules Dropping = Drop ∷ []
