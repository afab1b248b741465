-- The first line of a listing.
use Rattle.std.specs.Prelude.{ℕ, List, [], ◌∷◌, ◌++◌}
use Rattle.outcomes.specs.Listing.{okay, nope, fields, newline}

-- of a refused term: its number and the counts
abbrev pub refused_line : ℕ → List ℕ → List ℕ
refused_line n counts = nope ++ (fields (n ∷ counts) ++ newline ∷ [])

-- of an accepted term: its type, its length and the counts
abbrev pub accepted_line : ℕ → ℕ → List ℕ → List ℕ
accepted_line ty n counts = okay ++ (fields (ty ∷ n ∷ counts) ++ newline ∷ [])
