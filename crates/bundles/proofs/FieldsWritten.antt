-- Bytes put into a text one stretch behind another.
use Rattle.std.proofs.lemmas.List.{set-get_or}
use Rattle.std.proofs.Common.{◌≡◌, ℕ, ◌+◌, ◌^◌, ◌<◌, ◌≤◌, List, [], ◌∷◌, ◌++◌, length, get_or, take, drop, set, sym, ◌∙◌, ap, arith, w64, append_assoc, length-append, take-append-drop}
use Rattle.std.proofs.Math.Seq.{drop-drop}
use Rattle.std.proofs.lemmas.List.Edits.{sets, sets-eq}
use Rattle.std.specs.Fmt.{decimal as written}
use Rattle.std.specs.Int.{to_be_bytes}
use Rattle.hex.specs.Hex.{encode_with, lower_digits}
use borrow.Rule.Slice.PartMut.{put_mid}
use Rattle.words.proofs.Stretches.{sets_append}
use Rattle.outcomes.specs.Listing.{decimal, hexadecimal, newline}
use Rattle.bundles.specs.BytesPut.{BytesPut}
use Rattle.bundles.proofs.Decimal.{decimal_is}
use Rattle.bundles.proofs.Hexadecimal.{hexadecimal_is, length_hexadecimal}

stretch_is : (xs old : List ℕ) (at : ℕ) → at + length xs ≤ length old → sets old at xs ≡ take at old ++ (xs ++ drop (at + length xs) old)
stretch_is xs old at h = sets-eq xs old at h ∙ append_assoc (take at old) xs (drop (at + length xs) old)

-- one stretch behind another
pub puts_more : {xs old mid new : List ℕ} {at a p b : ℕ} (ys : List ℕ) → p ≡ at + a → BytesPut xs old mid at a → BytesPut ys mid new p b
    → BytesPut (xs ++ ys) old new at (a + b)
puts_more {xs} {old} {mid} {at = at} {a} {p} ys e f s = record {
  new_is =
      s.new_is ∙ ap (λ (m : List ℕ). sets m p ys) f.new_is ∙ ap (λ (i : ℕ). sets (sets old at xs) i ys) (omega (arith, f.size_is))
      ∙ sym (sets_append old at xs ys);
  size_is = omega (arith, f.size_is, s.size_is, length-append xs ys);
}

-- a byte behind a stretch
set_behind : (old new xs : List ℕ) (at i b : ℕ) → new ≡ sets old at xs → i ≡ at + length xs → set new i b ≡ sets old at (xs ++ b ∷ [])
set_behind old new xs at i b e p = ap (λ (l : List ℕ). set l i b) e ∙ rw p (sym (sets_append old at xs (b ∷ [])))

-- three bytes at the front
pub start_put : (start xs old : List ℕ) → xs ≡ start → length start ≡ 3 → 3 ≤ length old → BytesPut start old (xs ++ drop 3 old) 0 3
start_put start xs old e l h = record {
  new_is = let n : 0 + length start ≡ 3 = omega arith in rw (e, stretch_is start old 0 (omega arith), n);
  size_is = sym l;
}

-- the digits of a number as the library writes them, which end before `at + count`, and a byte behind them
pub field_put : (old new : List ℕ) (n end at count r : ℕ) → n < 2 ^ 64 → at + (length (decimal n) + 1) ≤ length old → count ≡ length (decimal n)
    → r + length (written n) ≡ at + count → drop r new ≡ written n ++ drop (at + count) old → take r new ≡ take r old
    → BytesPut (decimal n ++ end ∷ []) old (set new (at + count) end) at (count + 1)
field_put old new n end at count r h room c re front before =
    let e : written n ≡ decimal n = sym (decimal_is n h) in
    let l : length (written n) ≡ length (decimal n) = ap length e in
    let here : r ≡ at = omega arith in
    let all : new ≡ sets old at (decimal n) =
    sym (take-append-drop r new) ∙ rw (before, front, here, c, e) (sym (stretch_is (decimal n) old at (omega arith))) in
    record {
      new_is = set_behind old new (decimal n) at (at + count) end all (ap (λ (k : ℕ). at + k) c);
      size_is = omega (arith, length-append (decimal n) (end ∷ []));
    }

-- sixteen digits in the place of as many bytes, and the line's end behind them
pub word_put : (old xs : List ℕ) (w at k : ℕ) → k ≡ 16 → at + 16 ≤ length old → xs ≡ encode_with lower_digits (to_be_bytes w64 w)
    → set (put_mid at k old xs) (at + 16) newline ≡ sets old at (hexadecimal 16 w ++ newline ∷ [])
word_put old xs w at k e h x =
    let digits = hexadecimal 16 w in
    let l : length digits ≡ 16 = length_hexadecimal w in
    let there = stretch_is digits old at (omega arith) in
    let all : put_mid at k old xs ≡ sets old at digits = rw (x, hexadecimal_is w, e, drop-drop) (sym (rw l at there)) in
    set_behind old (put_mid at k old xs) digits at (at + 16) newline all (omega arith)

-- a byte set to what it is; cited by the wrong program `upper_case`, so that it is refused for the byte and not for its form
pub set_to_same : (l : List ℕ) (i v : ℕ) → get_or l i 0 ≡ v → set l i v ≡ l
set_to_same l i v e = rw (← e) (set-get_or l i 0)
