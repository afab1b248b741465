-- Values and computations, operand positions, and uses of a variable.
use Rattle.std.specs.Prelude.{ℕ, suc, ◌+◌, Bool, true, false, ◌&&◌, not, List, [], ◌∷◌, eqb}
use Rattle.syntax.specs.Term.{Term, Terms, var, call, lam, app, bind, pair, fst, snd, inl, inr, case, unit, done, arg}

-- a value (paper 01: V): variables, functions and units are values; a pair or an injection is one if its parts are
unfoldable pub is_value : Term → Bool
is_value (var n) = true
is_value (call k ts) = false
is_value (lam A b) = true
is_value (app f a) = false
is_value (bind e b) = false
is_value (pair A a b) = is_value a && is_value b
is_value (fst a) = false
is_value (snd a) = false
is_value (inl A a) = is_value a
is_value (inr A a) = is_value a
is_value (case s l r) = false
is_value (unit A) = true

-- a computation (paper 01: P) is anything else
unfoldable pub is_computation : Term → Bool
is_computation t = not (is_value t)

-- An operand position (paper 01: operand place): the operand, and the node around it by what stands there.
pub record Operand : Type 0 where
  pub operand : Term
  pub plug : Term → Term

abbrev pub at : Term → (Term → Term) → Operand
at t C = record { operand = t; plug = C }

-- the arguments of a call, each with the node around it; C is the node by its arguments
unfoldable pub arguments_in : (Terms → Term) → Terms → List Operand
arguments_in C done = []
arguments_in C (arg t ts) = at t (λ x. C (arg x ts)) ∷ arguments_in (λ us. C (arg t us)) ts

-- the operand positions of a node, in order
unfoldable pub operands : Term → List Operand
operands (var n) = []
operands (call k ts) = arguments_in (call k) ts
operands (lam A b) = []
operands (app f a) = at f (λ x. app x a) ∷ at a (λ x. app f x) ∷ []
operands (bind e b) = []
operands (pair A a b) = at a (λ x. pair A x b) ∷ at b (λ x. pair A a x) ∷ []
operands (fst a) = at a fst ∷ []
operands (snd a) = at a snd ∷ []
operands (inl A a) = at a (inl A) ∷ []
operands (inr A a) = at a (inr A) ∷ []
operands (case s l r) = at s (λ x. case x l r) ∷ []
operands (unit A) = []

-- the number of a Boolean: 1 if it is true, else 0
abbrev pub counts : Bool → ℕ
counts true = 1
counts false = 0

-- how often a term uses a variable
unfoldable mutual
  pub uses : Term → ℕ → ℕ
  uses (var m) n = counts (eqb m n)
  uses (call k ts) n = uses_all ts n
  uses (lam A b) n = uses b (suc n)
  uses (app f a) n = uses f n + uses a n
  uses (bind e b) n = uses e n + uses b (suc n)
  uses (pair A a b) n = uses a n + uses b n
  uses (fst a) n = uses a n
  uses (snd a) n = uses a n
  uses (inl A a) n = uses a n
  uses (inr A a) n = uses a n
  uses (case s l r) n = uses s n + (uses l (suc n) + uses r (suc n))
  uses (unit A) n = 0

  pub uses_all : Terms → ℕ → ℕ
  uses_all done n = 0
  uses_all (arg t ts) n = uses t n + uses_all ts n
