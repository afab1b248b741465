-- The rule of phase 2 that fits a node whose operands are values, by the kinds of three words: the node's, its first part's, and that
-- part's first part's. No public contract rests on this module: it serves proofs.
use Rattle.std.specs.Prelude.{ℕ, Bool, cond, ◌||◌, not, eqb}
use Rattle.std.proofs.Math.Option.{Option, some, none}
use Rattle.syntax.specs.Maybe.{given}
use Rattle.reduction.specs.declared.Rule.{Rule}
use Rattle.reduction.specs.declared.Rule.TheVariants.{LetOfLet, LetOfCase, Apply, First, Second, LeftCase, RightCase, LetValue}

-- the kinds of values: variable, function, pair, left and right injection, unit
unfoldable pub value_kind : ℕ → Bool
value_kind k = eqb k 0 || eqb k 2 || eqb k 5 || eqb k 8 || eqb k 9 || eqb k 11

-- the rule that fits a let, by the kind of its bound part and of that part's first part
unfoldable pub let_by_kinds : ℕ → ℕ → Option Rule
let_by_kinds k₁ k₂ =
    cond (eqb k₁ 4) (given (not (value_kind k₂)) LetOfLet)
    (cond (eqb k₁ 10) (given (eqb k₂ 0) LetOfCase) (given (value_kind k₁) LetValue))

-- the rule that fits a node
unfoldable pub rule_by_kinds : ℕ → ℕ → ℕ → Option Rule
rule_by_kinds k₀ k₁ k₂ =
    cond (eqb k₀ 3) (given (eqb k₁ 2) Apply)
    (cond (eqb k₀ 4) (let_by_kinds k₁ k₂)
    (cond (eqb k₀ 6) (given (eqb k₁ 5) First)
    (cond (eqb k₀ 7) (given (eqb k₁ 5) Second)
    (cond (eqb k₀ 10) (cond (eqb k₁ 8) (some LeftCase) (given (eqb k₁ 9) RightCase)) none))))
