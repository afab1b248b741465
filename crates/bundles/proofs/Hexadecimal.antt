-- Hexadecimal digits are those that the library writes of a word's bytes, two for each.
use Rattle.std.proofs.Common.{◌≡◌, ℕ, zero, suc, ◌/◌, ◌%◌, ◌^◌, ◌<◌, length, slice_index, refl, arith, w64}
use Rattle.std.proofs.Math.Nat.{pow-suc, div-div-eq-div-mul}
use Rattle.std.specs.Int.{byte_at, bytes_high_first, to_be_bytes}
use Rattle.hex.specs.Hex.{encode_with, lower_digits}
use Rattle.words.proofs.PartCounts.{kinds_agree}
use Rattle.outcomes.specs.Listing.{digit, hexadecimal}

digit_is : (d : ℕ) → d < 16 → slice_index lower_digits d ≡ digit d
digit_is d h = kinds_agree (slice_index lower_digits) digit refl d h

-- two digits for each byte
abbrev twice : ℕ → ℕ
twice zero = zero
twice (suc k) = suc (suc (twice k))

power_twice : (k : ℕ) → 256 ^ k ≡ 16 ^ twice k
power_twice zero = refl
power_twice (suc k) = rw (pow-suc 256 k, power_twice k, pow-suc 16 (suc (twice k)), pow-suc 16 (twice k)) (omega arith)

byte_is : (k n : ℕ) → byte_at k n ≡ n / 16 ^ twice k % 256
byte_is zero n = omega arith
byte_is (suc k) n = rw (power_twice (suc k))

high_digit : (k n : ℕ) → slice_index lower_digits (byte_at k n / 16) ≡ digit (n / 16 ^ suc (twice k) % 16)
high_digit k n =
    let d = n / 16 ^ twice k in
    let e : n / 16 ^ suc (twice k) ≡ d / 16 = rw (pow-suc 16 (twice k), ← div-div-eq-div-mul n (16 ^ twice k) 16) in
    let h : d % 256 / 16 ≡ d / 16 % 16 = omega arith in
    rw (byte_is k n, e, h) (digit_is (d / 16 % 16) (omega arith))

low_digit : (k n : ℕ) → slice_index lower_digits (byte_at k n % 16) ≡ digit (n / 16 ^ twice k % 16)
low_digit k n =
    let d = n / 16 ^ twice k in
    let h : d % 256 % 16 ≡ d % 16 = omega arith in
    rw (byte_is k n, h) (digit_is (d % 16) (omega arith))

digits_of_bytes : (k n : ℕ) → encode_with lower_digits (bytes_high_first k n) ≡ hexadecimal (twice k) n
unfolding encode_with hexadecimal
digits_of_bytes zero n = refl
digits_of_bytes (suc k) n = rw (high_digit k n, low_digit k n, digits_of_bytes k n)

pub hexadecimal_is : (w : ℕ) → encode_with lower_digits (to_be_bytes w64 w) ≡ hexadecimal 16 w
hexadecimal_is w = digits_of_bytes 8 w

pub length_hexadecimal : (w : ℕ) → length (hexadecimal 16 w) ≡ 16
unfolding hexadecimal
length_hexadecimal w = refl
