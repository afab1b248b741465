-- The outcome of the public call `free_inputs`: which inputs a term reads.
use Rattle.std.specs.Prelude.{ℕ, Bool, List, ltb, replicate}
use Rattle.syntax.specs.Tables.{Tables}
use Rattle.syntax.specs.Term.{Term}
use Rattle.syntax.specs.Values.{uses}
use Rattle.typing.specs.Refusals.{Verdict, refused, accepted, TypedTerm, elaborate, other_limit}
use Rattle.outcomes.specs.Marks.{masks, how_many}
use Rattle.outcomes.specs.declared.FreeInputs.{FreeInputs}

-- whether a term reads input i: some variable names it. Under d binders that is variable d + i, as `uses` counts.
unfoldable pub reads : Term → ℕ → Bool
reads t i = ltb 0 (uses t i)

-- the answer: refusal 0, the marks of the inputs read and their number, or the refusal's number and zeros
abbrev pub read_of : Verdict TypedTerm → FreeInputs
read_of (refused n) = record { refusal = n; marks = replicate 4 0; count = 0 }
read_of (accepted x) = record { refusal = 0; marks = masks 4 (reads x.term); count = how_many 256 (reads x.term) }

-- the outcome, from the tables and the term words
unfoldable pub free_inputs_outcome : Tables → List ℕ → FreeInputs
free_inputs_outcome tables words = read_of (elaborate other_limit tables words)
