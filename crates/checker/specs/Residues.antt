-- Words marked by their residue by a prime.
use Rattle.std.specs.Prelude.{ℕ, ◌%◌, ◌<◌, List, [], ◌∷◌, get_or}

abbrev pub residue_of : ℕ → ℕ
residue_of w = w % 16381

-- the residue of every word has its mark
pub data Noted (marks : List ℕ) : List ℕ → Type 0 where
  noted_none : Noted marks []
  noted_more : {w : ℕ} {ws : List ℕ} → 0 < get_or marks (residue_of w) 0 → Noted marks ws → Noted marks (w ∷ ws)
