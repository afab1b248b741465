-- A word names no input, and the marks stay, or it names one, whose bit is set.
use Prim.Native.Nat.{ℕ, ◌+◌, ◌-◌, ◌/◌, ◌%◌, ◌^◌, ◌≤◌, ◌<◌}
use native.Mathlib.Omega.{arith}
use mathlib.Core.Path.{◌≡◌, sym, ◌∙◌, ap}
use mathlib.Core.Logic.{◌≢◌}
use mathlib.Core.Bool.{false, true, ◌||◌, and-false, or-false, or-true}
use mathlib.Core.List.{List}
use lib.ListN.{get_or, set}
use lib.Bits.{bit_or}
use lib.Pow.{pow-add, shl-shr}
use borrow.Author.Tests.{eq-eqb, ne_eqb}
use Rattle.syntax.specs.Words.{kind_of, number_of}
use Rattle.outcomes.specs.Marks.{masks}
use Rattle.outcomes.proofs.Marks.{masks_same, masks_marked}
use Rattle.free_inputs.specs.InputMarks.{names, MarksNamed}

-- the highest bit, shifted down
shifted : (j : ℕ) → j ≤ 63 → 2 ^ 63 / 2 ^ j ≡ 2 ^ (63 - j)
shifted j l =
    let e : 63 ≡ (63 - j) + j = omega (arith, l) in
    ap (λ (k : ℕ). 2 ^ k / 2 ^ j) e ∙ ap (λ (x : ℕ). x / 2 ^ j) (pow-add 2 (63 - j) j) ∙ shl-shr (2 ^ (63 - j)) j

-- a word names at most one variable, and none if it is not a variable's
other_kind : (w n : ℕ) → kind_of w ≢ 0 → names w n ≡ false
other_kind w n h = simp (ne_eqb (kind_of w) 0 h)

other_number : (w n : ℕ) → number_of w ≢ n → names w n ≡ false
other_number w n h = simp (ne_eqb (number_of w) n h, and-false)

own_number : (w n : ℕ) → kind_of w ≡ 0 → number_of w ≡ n → names w n ≡ true
own_number w n k h = simp (eq-eqb (kind_of w) 0 k, eq-eqb (number_of w) n h)

module _ (w under : ℕ) (old : List ℕ) where
  names_none : ((i : ℕ) → i < 256 → names w (under + i) ≡ false) → MarksNamed w under old old
  names_none h = record { told = λ f e. e ∙ masks_same 4 f (λ i. f i || names w (under + i)) λ i l. simp (h i l, or-false) }

  -- the word is not a variable's
  pub no_variable : kind_of w ≢ 0 → MarksNamed w under old old
  no_variable h = names_none λ i l. other_kind w (under + i) h

  -- its number is no input's
  pub no_input : ((i : ℕ) → i < 256 → number_of w ≢ under + i) → MarksNamed w under old old
  no_input h = names_none λ i l. other_number w (under + i) (h i l)

  -- the number is past those of the inputs
  pub past_inputs : under + 256 ≤ number_of w → MarksNamed w under old old
  past_inputs h = no_input λ i l z. omega (arith, h, l, z)

  -- input j is named
  pub one_input : (j : ℕ) → kind_of w ≡ 0 → number_of w ≡ under + j → j < 256
      → MarksNamed w under old (set old (j / 64) (bit_or (get_or old (j / 64) 0) (2 ^ 63 / 2 ^ (j % 64))))
  one_input j k n l = record {
    told = λ f e.
        ap {B = List ℕ} (λ o. set o (j / 64) (bit_or (get_or o (j / 64) 0) (2 ^ 63 / 2 ^ (j % 64)))) e
        ∙ ap (λ (b : ℕ). set (masks 4 f) (j / 64) (bit_or (get_or (masks 4 f) (j / 64) 0) b)) (shifted (j % 64) (omega arith))
        ∙ sym (masks_marked 4 j f (λ i. f i || names w (under + i)) (omega (arith, l)) record {
          there = simp (own_number w (under + j) k n, or-true);
          elsewhere = λ i h. simp (other_number w (under + i) (λ z. h (omega (arith, z, n))), or-false);
        });
  }
