-- A word from its eight bytes, and from their four pairs, the most significant first.
use Prim.Native.Nat.{ℕ, suc, ◌+◌, ◌*◌, ◌≤◌, ◌<◌}
use native.Mathlib.Omega.{arith}
use native.Mathlib.Nat.{add_assoc, add-suc}
use native.Mathlib.Numerals.{add-one}
use mathlib.Core.Path.{◌≡◌}
use mathlib.Core.List.{List, [], ◌∷◌}
use lib.ListN.{length, get_or, take, drop}
use lib.Seq.{drop-cons}
use Rattle.std.proofs.Common.{w64}
use Rattle.std.specs.Int.{from_be_bytes}
use Rattle.outcomes.specs.ReadBundle.{from_bytes}

module _ (s : List ℕ) (at : ℕ) (h : at + 8 ≤ length s) where
  -- the byte j places on, and those after it
  next_byte : (k j : ℕ) → j < 8 → take (suc k) (drop (at + j) s) ≡ get_or s (at + j) 0 ∷ take k (drop (at + suc j) s)
  next_byte k j l = let m : at + j < length s = omega arith in rw (drop-cons s (at + j) 0 m, add-suc at j)

  first_byte : take 8 (drop at s) ≡ get_or s at 0 ∷ take 7 (drop (at + 1) s)
  first_byte = let m : at < length s = omega arith in rw (add-one at, drop-cons s at 0 m)

  eight_bytes : take 8 (drop at s)
      ≡ get_or s at 0 ∷ get_or s (at + 1) 0 ∷ get_or s (at + 2) 0 ∷ get_or s (at + 3) 0 ∷ get_or s (at + 4) 0 ∷ get_or s (at + 5) 0 ∷ get_or s (at + 6) 0
      ∷ get_or s (at + 7) 0 ∷ []
  eight_bytes =
      rw (
        first_byte,
        next_byte 6 1 (omega arith),
        next_byte 5 2 (omega arith),
        next_byte 4 3 (omega arith),
        next_byte 3 4 (omega arith),
        next_byte 2 5 (omega arith),
        next_byte 1 6 (omega arith),
        next_byte 0 7 (omega arith),
      )

  pub word_of_eight : from_be_bytes w64 (take 8 (drop at s)) ≡ from_bytes 0 (take 8 (drop at s))
  unfolding from_bytes
  word_of_eight = rw eight_bytes (omega arith)

  -- a word from its four pairs of bytes
  pub word_of_pairs : (a b c d : ℕ) → a ≡ get_or s at 0 * 256 + get_or s (at + 1) 0 → b ≡ get_or s (at + 2) 0 * 256 + get_or s (at + 2 + 1) 0
      → c ≡ get_or s (at + 4) 0 * 256 + get_or s (at + 4 + 1) 0 → d ≡ get_or s (at + 6) 0 * 256 + get_or s (at + 6 + 1) 0
      → ((a * 65536 + b) * 65536 + c) * 65536 + d ≡ from_bytes 0 (take 8 (drop at s))
  unfolding from_bytes
  word_of_pairs a b c d ae be ce de =
      rw eight_bytes (omega (arith, rw (add_assoc at 2 1) at be, rw (add_assoc at 4 1) at ce, rw (add_assoc at 6 1) at de))
