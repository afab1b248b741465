-- What the value test says, for whatever term is at the front.
use Rattle.std.specs.Prelude.{ℕ, ◌≡◌, List, Option, is_some, IfSome}
use Rattle.syntax.specs.Term.{Term}
use Rattle.syntax.specs.Encoding.{size}
use Rattle.syntax.specs.Values.{is_value}
use Rattle.words.specs.Fronts.{Holds}

-- whether a term is a value, and its size if it is one
pub record ValueAnswer (t : Term) (r : Option ℕ) : Type 0 where
  pub value_is : is_some r ≡ is_value t
  pub end_is : IfSome r (λ n. n ≡ size t)

pub record TestsValue (calls words : List ℕ) (r : Option ℕ) : Type 0 where
  pub told : (t : Term) (rest : List ℕ) → Holds calls words t rest → ValueAnswer t r
