-- The outcome of `read_bundle`: the words are written if the bytes are a bundle that the slice has room for, and otherwise it refuses.
use Rattle.std.proofs.Common.{◌≡◌, ℕ, ◌+◌, ◌-◌, ◌*◌, ◌%◌, ◌^◌, ◌<◌, ◌≤◌, ◌⊎◌, inl, inr, Bool, true, false, List, ◌++◌, length, take, drop, refl, ap, arith, length-drop, length-take-le}
use Rattle.std.proofs.lemmas.List.{take_all}
use Rattle.std.proofs.lemmas.Bool.Decides.{nat_tests}
use Rattle.outcomes.specs.Buffers.{overwrite}
use Rattle.outcomes.specs.ReadBundle.{lengths_of, total, header_of, readable, LengthsRead, Reading, unreadable, words_after, words_of, read_bundle_outcome}
use Rattle.bundles.proofs.Bytes.{length-words}

-- a bundle whose words fit into so many
pub record IsBundle (bytes : List ℕ) (capacity : ℕ) : Type 0 where
  pub few : length bytes ≤ 65536
  pub some : 8 ≤ length bytes
  pub low_bits : header_of bytes % 2 ^ 12 ≡ 0
  pub length_is : length bytes ≡ 8 * (1 + total (lengths_of (header_of bytes)))
  pub room : total (lengths_of (header_of bytes)) ≤ capacity

is_bundle : (bytes : List ℕ) (capacity : ℕ) → readable bytes capacity ≡ true → IsBundle bytes capacity
unfolding readable
is_bundle bytes capacity e = record {
  few = grind (arith, nat_tests);
  some = grind (arith, nat_tests);
  low_bits = grind (arith, nat_tests);
  length_is = grind (arith, nat_tests);
  room = grind (arith, nat_tests);
}

is_readable : (bytes : List ℕ) (capacity : ℕ) → IsBundle bytes capacity → readable bytes capacity ≡ true
unfolding readable
is_readable bytes capacity b = grind (arith, nat_tests)

abbrev refusal : List ℕ → Reading
refusal slice = record { lengths = unreadable; words = slice }

pub refused_or : (bytes slice : List ℕ) → (read_bundle_outcome bytes slice ≡ refusal slice) ⊎ IsBundle bytes (length slice)
unfolding read_bundle_outcome
refused_or bytes slice = by_test (readable bytes (length slice)) refl where
  by_test : (b : Bool) → readable bytes (length slice) ≡ b → (read_bundle_outcome bytes slice ≡ refusal slice) ⊎ IsBundle bytes (length slice)
  by_test false e = inl (rw (e, read_bundle_outcome))
  by_test true e = inr (is_bundle bytes (length slice) e)

-- the words are copied to the front of the slice
pub bundle_read : (bytes slice words : List ℕ) (l : LengthsRead) (n : ℕ) → IsBundle bytes (length slice) → l ≡ lengths_of (header_of bytes) → n ≡ total l
    → words ≡ words_of (length (take n slice)) (take (length bytes - 8) (drop 8 bytes))
    → ◌≡◌ {A = Reading} (record { lengths = l; words = words ++ drop n slice }) (read_bundle_outcome bytes slice)
unfolding read_bundle_outcome words_after overwrite
bundle_read bytes slice words l n b e t w =
    let enough : n ≤ length slice = omega (arith, ap total e, b.room) in
    let rest : take (length bytes - 8) (drop 8 bytes) ≡ drop 8 bytes = take_all (length bytes - 8) (drop 8 bytes) (omega (arith, length-drop 8 bytes)) in
    rw (is_readable bytes (length slice) b, read_bundle_outcome, ← e, ← t, length-words n (drop 8 bytes), w, length-take-le n slice enough, rest)

-- the reasons to refuse, one by one
module _ (bytes slice : List ℕ) where
  refused : (IsBundle bytes (length slice) → ⊥) → read_bundle_outcome bytes slice ≡ refusal slice
  refused fails = elim (refused_or bytes slice) [
    | inl e ↦ e
    | inr b ↦ absurd (fails b)
  ]

  pub too_long : 65536 < length bytes → read_bundle_outcome bytes slice ≡ refusal slice
  too_long h = refused λ b. omega (arith, b.few)

  pub too_short : length bytes < 8 → read_bundle_outcome bytes slice ≡ refusal slice
  too_short h = refused λ b. omega (arith, b.some)

  pub low_bits : 0 < header_of bytes % 2 ^ 12 → read_bundle_outcome bytes slice ≡ refusal slice
  low_bits h = refused λ b. omega (arith, b.low_bits)

  pub wrong_length : (length bytes ≡ 8 * (1 + total (lengths_of (header_of bytes))) → ⊥) → read_bundle_outcome bytes slice ≡ refusal slice
  wrong_length fails = refused λ b. fails b.length_is

  pub no_room : length slice < total (lengths_of (header_of bytes)) → read_bundle_outcome bytes slice ≡ refusal slice
  no_room h = refused λ b. omega (arith, b.room)
