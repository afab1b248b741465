-- What the functions that mark inputs answer.
use Rattle.std.specs.Prelude.{ℕ, ◌+◌, ◌≡◌, Bool, ◌&&◌, ◌||◌, List, eqb}
use Rattle.syntax.specs.Words.{kind_of, number_of}
use Rattle.syntax.specs.Term.{Term}
use Rattle.words.specs.Fronts.{Holds}
use Rattle.outcomes.specs.Marks.{masks}
use Rattle.outcomes.specs.FreeInputs.{reads}

-- whether a word is the variable n's
abbrev pub names : ℕ → ℕ → Bool
names w n = eqb (kind_of w) 0 && eqb (number_of w) n

-- the inputs marked before, and the one that the word names under so many binders
pub record MarksNamed (w under : ℕ) (old new : List ℕ) : Type 0 where
  pub told : (f : ℕ → Bool) → old ≡ masks 4 f → new ≡ masks 4 (λ i. f i || names w (under + i))

-- for whatever term the words begin with: the marks of the inputs that it reads
pub record MarksRead (calls words marks : List ℕ) : Type 0 where
  pub told : (t : Term) (rest : List ℕ) → Holds calls words t rest → marks ≡ masks 4 (reads t)
