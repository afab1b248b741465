-- What the count of a variable's uses says, for whatever term is at the front.
use Rattle.std.specs.Prelude.{ℕ, ◌≤◌, ◌≡◌, List, length}
use Rattle.syntax.specs.Term.{Term}
use Rattle.syntax.specs.Encoding.{size}
use Rattle.syntax.specs.Values.{uses}
use Rattle.words.specs.Fronts.{Holds}
use Rattle.binding.specs.declared.uses.Uses.{Uses}

pub record Counted (t : Term) (n : ℕ) (r : Uses) : Type 0 where
  pub end_is : r.end ≡ size t
  pub uses_is : r.uses ≡ uses t n

pub record CountsUses (calls words : List ℕ) (n : ℕ) (r : Uses) : Type 0 where
  pub few : r.uses ≤ r.end
  pub within : r.end ≤ length words
  pub told : (t : Term) (rest : List ℕ) → Holds calls words t rest → Counted t n r
