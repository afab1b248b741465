-- The operands of a node on words: how many of its parts they are, and which of them is the first computation.
use Rattle.std.specs.Prelude.{ℕ, ◌+◌, ◌<◌, ◌≡◌, Bool, true, false, ◌&&◌, List, length, Option, is_some as has_value, IfSome}
use Rattle.syntax.specs.Maybe.{is_some}
use Rattle.syntax.specs.Term.{Term, Terms, done, arg, node}
use Rattle.syntax.specs.Encoding.{encode_all}
use Rattle.syntax.specs.Shaped.{count}
use Rattle.syntax.specs.Values.{is_value}
use Rattle.reduction.specs.Rules.{let_insertion}
use Rattle.words.specs.Fronts.{Holds}
use Rattle.words.specs.Joined.{joined}
use Rattle.words.specs.Shapes.{operand_count}
use Rattle.search.specs.declared.fits.Operand.{Operand}

-- whether all of these are values
unfoldable pub all_values : Terms → Bool
all_values done = true
all_values (arg t ts) = is_value t && all_values ts

-- the first operand of t that is a computation: its index among the parts, and where its words start
pub record FirstComputation (t : Term) (r : Operand) : Type 0 where
  pub front : Terms
  pub part : Term
  pub later : Terms
  pub parts : (node t).parts ≡ joined front (arg part later)
  pub values : all_values front ≡ true
  pub computation : is_value part ≡ false
  pub operand : r.index < operand_count (node t).kind (count (node t).parts)
  pub index_is : r.index ≡ count front
  pub start_is : r.start ≡ 1 + length (encode_all front)

-- whether t has such an operand, which is whether let insertion fits, and which
pub record Inserts (t : Term) (r : Option Operand) : Type 0 where
  pub found_is : has_value r ≡ is_some (let_insertion t)
  pub first : IfSome r (λ o. FirstComputation t o)

pub record FindsOperand (calls words : List ℕ) (r : Option Operand) : Type 0 where
  pub told : (t : Term) (rest : List ℕ) → Holds calls words t rest → Inserts t r
