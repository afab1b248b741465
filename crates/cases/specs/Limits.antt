-- Tables at the limits of check 1, and buffers at the limit of the capacity.
use Rattle.std.specs.Prelude.{ℕ, Bool, List, [], ◌∷◌, replicate}
use Rattle.typing.specs.Refusals.{normalize_limit}
use Rattle.typing.specs.TableChecks.{lengths_fit}
use Rattle.outcomes.specs.Normalize.{capacity_of}
use Rattle.cases.specs.Table.{BufferLengths, lengths, holding}

-- lengths of the four tables: at their limits, then one more of each, then no term word
pub record Sizes : Type 0 where
  pub types : ℕ
  pub calls : ℕ
  pub inputs : ℕ
  pub words : ℕ

abbrev sized : ℕ → ℕ → ℕ → ℕ → Sizes
sized t c i w = record { types = t; calls = c; inputs = i; words = w }

unfoldable pub sizes : List Sizes
sizes =
    sized 1024 1024 256 4096
    ∷ sized 1025 1024 256 4096
    ∷ sized 1024 1025 256 4096
    ∷ sized 1024 1024 257 4096
    ∷ sized 1024 1024 256 4097
    ∷ sized 1024 1024 256 0
    ∷ []

-- whether tables of such lengths pass check 1
unfoldable pub fit : Sizes → Bool
fit s = lengths_fit normalize_limit (record {
  types = replicate s.types 0;
  calls = replicate s.calls 0;
  inputs = replicate s.inputs 0;
}) (replicate s.words 0)

-- buffers of 8,192 words, longer ones, and one a word shorter
unfoldable pub rooms : List BufferLengths
rooms = lengths 8192 8192 8192 ∷ lengths 8193 8194 8195 ∷ lengths 8193 8191 8192 ∷ []

-- the capacity that they give
unfoldable pub capacity : BufferLengths → ℕ
capacity b = capacity_of (holding b)
