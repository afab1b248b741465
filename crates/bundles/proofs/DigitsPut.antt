-- Hexadecimal digits, of any width, as a loop that divides finds them.
use Prim.Native.Nat.{ℕ, zero, suc, ◌/◌, ◌%◌, ◌^◌}
use native.Mathlib.Omega.{arith}
use native.Mathlib.Nat.{pow-succ', div-div-eq-div-mul}
use mathlib.Core.Path.{◌≡◌, refl, ◌∙◌, ap}
use mathlib.Core.List.{List, ◌∷◌, ◌++◌}
use Rattle.outcomes.specs.Listing.{digit, hexadecimal}
use Rattle.bundles.specs.Digits.{last_digits}

-- the most significant first, they end in that of the remainder
hexadecimal_last : (k n : ℕ) (rest : List ℕ) → hexadecimal (suc k) n ++ rest ≡ hexadecimal k (n / 16) ++ (digit (n % 16) ∷ rest)
unfolding hexadecimal
hexadecimal_last zero n rest = let e : n / 1 ≡ n = omega arith in ap (λ (x : ℕ). digit (x % 16) ∷ rest) e
hexadecimal_last (suc k) n rest =
    let e : n / 16 ^ suc k ≡ n / 16 / 16 ^ k = rw (pow-succ' 16 k, div-div-eq-div-mul n 16 (16 ^ k)) in
    ap (λ (x : ℕ). digit (x % 16) ∷ (hexadecimal (suc k) n ++ rest)) e
    ∙ ap (◌∷◌ (digit (n / 16 / 16 ^ k % 16))) (hexadecimal_last k n rest)

-- for any width; that the library writes a word's sixteen digits is `Hexadecimal: hexadecimal_is`
pub hexadecimal_is : (k n : ℕ) (rest : List ℕ) → hexadecimal k n ++ rest ≡ last_digits 16 k n rest
unfolding hexadecimal last_digits
hexadecimal_is zero n rest = refl
hexadecimal_is (suc k) n rest = hexadecimal_last k n rest ∙ hexadecimal_is k (n / 16) (digit (n % 16) ∷ rest)
