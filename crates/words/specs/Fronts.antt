-- Words that begin with a term: what the functions that go through parts ask of a slice.
use Rattle.std.specs.Prelude.{ℕ, ◌-◌, ◌≡◌, List, ◌++◌, length, take, drop}
use Rattle.syntax.specs.Term.{Term, Terms}
use Rattle.syntax.specs.Encoding.{encode, encode_all}
use Rattle.syntax.specs.Shaped.{count, Shaped, ShapedAll}

-- the words begin with the term t, and rest follows
pub record Holds (calls words : List ℕ) (t : Term) (rest : List ℕ) : Type 0 where
  pub shaped : Shaped calls t
  pub is : words ≡ encode t ++ rest

-- the words begin with some term
pub record Starts (calls words : List ℕ) : Type 0 where
  pub term : Term
  pub rest : List ℕ
  pub holds : Holds calls words term rest

-- the words are those of a term, and no more
pub record Whole (calls words : List ℕ) : Type 0 where
  pub term : Term
  pub shaped : Shaped calls term
  pub is : words ≡ encode term

-- the words begin with the n terms ts, and rest follows
pub record HoldsAll (calls words : List ℕ) (n : ℕ) (ts : Terms) (rest : List ℕ) : Type 0 where
  pub shaped : ShapedAll calls ts
  pub is : words ≡ encode_all ts ++ rest
  pub many : count ts ≡ n

-- the words begin with some n terms
pub record StartsAll (calls words : List ℕ) (n : ℕ) : Type 0 where
  pub terms : Terms
  pub rest : List ℕ
  pub holds : HoldsAll calls words n terms rest

-- the words of a slice from an index to its end
abbrev pub from : List ℕ → ℕ → List ℕ
from words i = take (length words - i) (drop i words)
