-- What a call leaves in a buffer.
use Rattle.std.specs.Prelude.{ℕ, List, ◌++◌, length, drop, replicate}

-- words (or bytes) written to a buffer's front, its rest unchanged
unfoldable pub overwrite : List ℕ → List ℕ → List ℕ
overwrite words buffer = words ++ drop (length words) buffer

-- a buffer of zeros, as long as it was
unfoldable pub cleared : List ℕ → List ℕ
cleared buffer = replicate (length buffer) 0
