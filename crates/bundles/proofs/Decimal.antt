-- Decimal digits are those that the library writes.
use Rattle.std.proofs.Common.{◌≡◌, ℕ, suc, ◌+◌, ◌-◌, ◌/◌, ◌%◌, ◌^◌, ◌<◌, ◌≤◌, List, [], ◌∷◌, length, ◌∙◌, arith, append-nil, le-leb}
use Rattle.std.proofs.lemmas.Fmt.{PrependsLastDigit, decimal_from_prepends, length-decimal-le}
use Rattle.std.specs.Fmt.{decimal as written}
use Rattle.outcomes.specs.Listing.{digit, decimal_then, decimal}
use Rattle.bundles.proofs.DecimalByDivision.{then_last, then_more}

digit_is : (d : ℕ) → d < 10 → digit d ≡ 48 + d
digit_is d h = rw (le-leb d 9 (omega arith))

one_digit : (more n : ℕ) (rest : List ℕ) → n < 10 → decimal_then (suc more) n rest ≡ (48 + n) ∷ rest
one_digit more n rest h = let m : n % 10 ≡ n = omega arith in rw (then_last more n rest (omega arith), m, digit_is n h)

more_digits : (more n : ℕ) (rest : List ℕ) → 10 ≤ n → decimal_then (suc more) n rest ≡ decimal_then more (n / 10) ((48 + n % 10) ∷ rest)
more_digits more n rest h = rw (then_more more n (n / 10 - 1) rest (omega arith), digit_is (n % 10) (omega arith))

prepends : PrependsLastDigit decimal_then
prepends = record { one = one_digit; more = more_digits }

pub decimal_is : (n : ℕ) → n < 2 ^ 64 → decimal n ≡ written n
unfolding decimal
decimal_is n h = decimal_from_prepends decimal_then prepends 20 n [] h (length-decimal-le 20 n (omega arith) (omega arith) h) ∙ append-nil (written n)

-- a number below 10 ^ k has at most k digits
pub decimal_short : (k n : ℕ) → 0 < k → n < 10 ^ k → n < 2 ^ 64 → length (decimal n) ≤ k
decimal_short k n p h l = rw (decimal_is n l) (length-decimal-le k n p h l)
