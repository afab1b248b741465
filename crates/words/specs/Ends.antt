-- The answers of the calls that find the size of a part.
use Rattle.std.specs.Prelude.{ℕ, ◌≤◌, ◌≡◌, List, length}
use Rattle.syntax.specs.Term.{Term, Terms}
use Rattle.syntax.specs.Encoding.{size, encode_all}
use Rattle.words.specs.Fronts.{Holds, HoldsAll}

-- the term at the front has so many words
pub record Sized (calls words : List ℕ) (n : ℕ) : Type 0 where
  pub within : n ≤ length words
  pub told : (t : Term) (rest : List ℕ) → Holds calls words t rest → n ≡ size t

-- the m terms at the front have so many words
pub record SizedAll (calls words : List ℕ) (m n : ℕ) : Type 0 where
  pub within : n ≤ length words
  pub told : (ts : Terms) (rest : List ℕ) → HoldsAll calls words m ts rest → n ≡ length (encode_all ts)
