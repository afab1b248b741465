-- What moving the gap of a buffer to a place asks and says.
use Rattle.std.specs.Prelude.{ℕ, ◌+◌, ◌-◌, ◌≤◌, ◌≡◌, List, ◌++◌, length, take, drop}

-- the place is one of the words around the gap, or their end
pub record Seekable (words : List ℕ) (start end place : ℕ) : Type 0 where
  pub ordered : start ≤ end
  pub inside : end ≤ length words
  pub within : place ≤ start + (length words - end)

-- the gap from the place to r has the same words around it
pub record Seeks (words : List ℕ) (start end place : ℕ) (after : List ℕ) (r : ℕ) : Type 0 where
  pub ordered : place ≤ r
  pub inside : r ≤ length after
  pub same : take place after ++ drop r after ≡ take start words ++ drop end words
