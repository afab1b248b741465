-- A kind that a word names is told from the others as its number is.
use Rattle.std.specs.Prelude.{ℕ, ◌≡◌, ◌<◌, min, eqb}
use Rattle.std.proofs.Common.{rules}

-- those past the last are all one
pub eqb-min : (k c : ℕ) → c < 12 → eqb (min k 12) c ≡ eqb k c
eqb-min k c h = search rules
