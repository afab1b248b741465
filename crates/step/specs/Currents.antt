-- A term in a buffer with a gap: its first words stand at the buffer's front, the others at its end.
use Rattle.std.specs.Prelude.{ℕ, ◌≤◌, ◌≡◌, List, ◌++◌, length, take, drop}
use Rattle.syntax.specs.Term.{Term}
use Rattle.syntax.specs.Encoding.{encode}
use Rattle.syntax.specs.Shaped.{Shaped}

-- the words before `start` and those from `end` on are those of the term t
pub record Gapped (words : List ℕ) (start end : ℕ) (t : Term) : Type 0 where
  pub ordered : start ≤ end
  pub inside : end ≤ length words
  pub words_are : take start words ++ drop end words ≡ encode t

-- and the term is one that words can hold
pub record Current (calls words : List ℕ) (start end : ℕ) (t : Term) : Type 0 where
  pub shaped : Shaped calls t
  pub gapped : Gapped words start end t
