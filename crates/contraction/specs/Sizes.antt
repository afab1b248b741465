-- What the functions that measure parts and bodies ask and say.
use Rattle.std.specs.Prelude.{ℕ, ◌+◌, ◌≤◌, ◌≡◌, List, length}
use Rattle.syntax.specs.Term.{Term}
use Rattle.syntax.specs.Encoding.{size}
use Rattle.syntax.specs.Substitution.{◌⟦◌⟧}
use Rattle.words.specs.Fronts.{Holds, Starts, from}
use Rattle.words.specs.Ends.{Sized}
use Rattle.contraction.specs.declared.sizes.Body.{Body}

-- a part starts at an index
pub record StartsAt (calls words : List ℕ) (at : ℕ) : Type 0 where
  pub inside : at ≤ length words
  pub start : Starts calls (from words at)

-- and another behind it
pub record StartsTwo (calls words : List ℕ) (at : ℕ) : Type 0 where
  pub first : StartsAt calls words at
  pub second : (n : ℕ) → Sized calls (from words at) n → StartsAt calls words (at + n)

-- the one has n words, the other m
pub record SizedTwo (calls words : List ℕ) (at n m : ℕ) : Type 0 where
  pub first : Sized calls (from words at) n
  pub second : Sized calls (from words (at + n)) m
  pub inside : at + n + m ≤ length words

-- with a value of n words for the variable that its node binds, the term at the front has w words
pub record SizedWith (calls words : List ℕ) (n w : ℕ) : Type 0 where
  pub told : (b v : Term) (rest : List ℕ) → Holds calls words b rest → n ≡ size v → w ≡ size (b ⟦ v ⟧)

-- how many words the body at the front has, and how many with a value of n words for the variable that its node binds
pub record BodyWith (calls words : List ℕ) (n : ℕ) (r : Body) : Type 0 where
  pub ends : Sized calls words r.end
  pub becomes : SizedWith calls words n r.wrote
