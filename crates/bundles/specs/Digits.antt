-- Digits to any base, as a loop that divides finds them.
use Rattle.std.specs.Prelude.{ℕ, zero, suc, ◌/◌, ◌%◌, List, ◌∷◌}
use Rattle.outcomes.specs.Listing.{digit}

-- the last k digits of a number, before what follows
unfoldable pub last_digits : ℕ → ℕ → ℕ → List ℕ → List ℕ
last_digits base zero n rest = rest
last_digits base (suc k) n rest = last_digits base k (n / base) (digit (n % base) ∷ rest)
