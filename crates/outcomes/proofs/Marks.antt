-- Laws of marks as binary digits, each over the width: what a mask holds, its ones, and one mark set.
use mathlib.Core.Path.{◌≡◌, refl, sym, ◌∙◌, ap, ap₂}
use mathlib.Core.Bool.{Bool, true, false}
use mathlib.Core.List.{List, ◌∷◌}
use Prim.Native.Nat.{ℕ, zero, suc, ◌+◌, ◌-◌, ◌*◌, ◌/◌, ◌%◌, ◌^◌, ◌≤◌, ◌<◌}
use native.Mathlib.Omega.{arith}
use native.Mathlib.Nat.{add-zero, zero-add, suc-add, add_assoc, add_comm, sub-zero, suc-sub-suc, zero-mul, one-mul, mul_assoc, pow-suc}
use native.Mathlib.Nat.{add-mul-div_right}
use lib.Dec.{ltb}
use borrow.Author.Tests.{ltb-true, ltb-false}
use mathlib.Core.Logic.{◌≢◌}
use lib.ListN.{get_or, set}
use lib.Count.{ones, ones_cat}
use lib.Pow.{pow_pos, pow-lt, pow-add, high}
use lib.Bits.{bit_or, or_block, or_zero_r, block_odd}
use Rattle.syntax.specs.Values.{counts}
use Rattle.syntax.proofs.Options.{counts_one}
use Rattle.outcomes.specs.Marks.{mask, masks, how_many}

-- marks that agree make the same mask
pub mask_same : (n : ℕ) (f g : ℕ → Bool) → ((i : ℕ) → i < n → f i ≡ g i) → mask n f ≡ mask n g
unfolding mask
mask_same zero f g e = refl
mask_same (suc n) f g e =
    ap₂ (λ (b : Bool) (x : ℕ). counts b * 2 ^ n + x) (e 0 (omega arith))
    (mask_same n (λ i. f (suc i)) (λ i. g (suc i)) λ i l. e (suc i) (omega (arith, l)))

pub masks_same : (k : ℕ) (f g : ℕ → Bool) → ((i : ℕ) → i < 64 * k → f i ≡ g i) → masks k f ≡ masks k g
unfolding masks
masks_same zero f g e = refl
masks_same (suc k) f g e =
    ap₂ {C = List ℕ} (λ x xs. x ∷ xs) (mask_same 64 f g λ i l. e i (omega (arith, l)))
    (masks_same k (λ i. f (64 + i)) (λ i. g (64 + i)) λ i l. e (64 + i) (omega (arith, l)))

-- n marks are n digits
pub mask_below : (n : ℕ) (f : ℕ → Bool) → mask n f < 2 ^ n
unfolding mask
mask_below zero f = omega arith
mask_below (suc n) f = omega (arith, pow-suc 2 n, mask_below n (λ i. f (suc i)), digit (f 0))
  where
    digit : (b : Bool) → counts b * 2 ^ n ≤ 2 ^ n
    digit true = omega arith
    digit false = omega arith

-- the ones of a mask are the numbers marked
pub ones_mask : (n : ℕ) (f : ℕ → Bool) → ones (mask n f) ≡ how_many n f
unfolding mask how_many ones
ones_mask zero f = refl
ones_mask (suc n) f =
    ones_cat n (counts (f 0)) (mask n (λ i. f (suc i))) (mask_below n (λ i. f (suc i)))
    ∙ ap₂ (λ (x y : ℕ). x + y) (digit (f 0)) (ones_mask n (λ i. f (suc i)))
  where
    digit : (b : Bool) → ones (counts b) ≡ counts b
    digit true = refl
    digit false = refl

pub how_many_same : (n : ℕ) (f g : ℕ → Bool) → ((i : ℕ) → i < n → f i ≡ g i) → how_many n f ≡ how_many n g
unfolding how_many
how_many_same zero f g e = refl
how_many_same (suc n) f g e =
    ap₂ (λ (b : Bool) (x : ℕ). counts b + x) (e 0 (omega arith))
    (how_many_same n (λ i. f (suc i)) (λ i. g (suc i)) λ i l. e (suc i) (omega (arith, l)))

-- no more than n of n numbers are marked
pub how_many_most : (n : ℕ) (f : ℕ → Bool) → how_many n f ≤ n
unfolding how_many
how_many_most zero f = omega arith
how_many_most (suc n) f = omega (arith, how_many_most n (λ i. f (suc i)), counts_one (f 0))

-- the numbers marked among n + m are those among the first n and those among the m behind them
pub how_many_split : (n m : ℕ) (f : ℕ → Bool) → how_many (n + m) f ≡ how_many n f + how_many m (λ i. f (n + i))
unfolding how_many
how_many_split zero m f =
    ap (λ (k : ℕ). how_many k f) (zero-add m) ∙ how_many_same m f (λ i. f (0 + i)) (λ i l. ap f (sym (zero-add i)))
    ∙ sym (zero-add (how_many m (λ i. f (0 + i))))
how_many_split (suc n) m f =
    let g : ℕ → Bool = λ i. f (suc i) in
    ap (λ (k : ℕ). how_many k f) (suc-add n m)
    ∙ ap (λ (x : ℕ). counts (f 0) + x) (how_many_split n m g)
    ∙ ap (λ (x : ℕ). counts (f 0) + (how_many n g + x))
    (how_many_same m (λ i. g (n + i)) (λ i. f (suc n + i)) λ i l. ap f (sym (suc-add n i)))
    ∙ sym (add_assoc (counts (f 0)) (how_many n g) (how_many m (λ i. f (suc n + i))))

-- g is f with number j marked
pub record Marked (f g : ℕ → Bool) (j : ℕ) : Type 0 where
  pub there : g j ≡ true
  pub elsewhere : (i : ℕ) → i ≢ j → g i ≡ f i

-- the bit of number j among n + 1 is the highest one, shifted down by j
pub mask_marked : (n j : ℕ) (f g : ℕ → Bool) → j ≤ n → Marked f g j → mask (suc n) g ≡ bit_or (mask (suc n) f) (2 ^ (n - j))
unfolding mask
mask_marked n zero f g l m =
    let x = mask n (λ i. f (suc i)) in
    ap₂ (λ (b : Bool) (y : ℕ). counts b * 2 ^ n + y) m.there
    (mask_same n (λ i. g (suc i)) (λ i. f (suc i)) λ i h. m.elsewhere (suc i) (λ z. omega (arith, z)))
    ∙ ap₂ (λ (c y : ℕ). c * 2 ^ n + y) (set (f 0)) (sym (or_zero_r x))
    ∙ sym (or_block n (counts (f 0)) 1 x 0 (mask_below n (λ i. f (suc i))) (pow_pos n))
    ∙ ap (λ (y : ℕ). bit_or (counts (f 0) * 2 ^ n + x) y) (add-zero (1 * 2 ^ n) ∙ one-mul (2 ^ n) ∙ ap (λ (k : ℕ). 2 ^ k) (sym (sub-zero n)))
  where
    set : (b : Bool) → 1 ≡ bit_or (counts b) 1
    set true = refl
    set false = refl
mask_marked zero (suc j) f g l m = absurd (omega (arith, l))
mask_marked (suc n) (suc j) f g l m =
    let x = mask (suc n) (λ i. f (suc i)) in
    let later : Marked (λ i. f (suc i)) (λ i. g (suc i)) j =
    record { there = m.there; elsewhere = λ i h. m.elsewhere (suc i) (λ z. h (omega (arith, z))) } in
    let bit : 2 ^ (n - j) < 2 ^ suc n = pow-lt (omega (arith, l)) in
    ap₂ (λ (b : Bool) (y : ℕ). counts b * 2 ^ suc n + y) (m.elsewhere 0 (λ z. omega (arith, z)))
    (mask_marked n j (λ i. f (suc i)) (λ i. g (suc i)) (omega (arith, l)) later)
    ∙ ap (λ (c : ℕ). c * 2 ^ suc n + bit_or x (2 ^ (n - j))) (sym (or_zero_r (counts (f 0))))
    ∙ sym (or_block (suc n) (counts (f 0)) 0 x (2 ^ (n - j)) (mask_below (suc n) (λ i. f (suc i))) bit)
    ∙ ap (λ (y : ℕ). bit_or (counts (f 0) * 2 ^ suc n + x) y)
    (ap (λ (y : ℕ). y + 2 ^ (n - j)) (zero-mul (2 ^ suc n)) ∙ zero-add (2 ^ (n - j)) ∙ ap (λ (k : ℕ). 2 ^ k) (sym (suc-sub-suc n j)))

-- over words of 64: the word of number j, and the bit in it
abbrev WordMarked : ℕ → ℕ → (ℕ → Bool) → (ℕ → Bool) → Type 0
WordMarked k j f g = masks k g ≡ set (masks k f) (j / 64) (bit_or (get_or (masks k f) (j / 64) 0) (2 ^ (63 - j % 64)))

module _ (k j : ℕ) (f g : ℕ → Bool) (m : Marked f g j) where
  -- the masks from the second word on
  abbrev behind : (ℕ → Bool) → ℕ → Bool
  behind h i = h (64 + i)

  in_first : j < 64 → WordMarked (suc k) j f g
  unfolding masks
  in_first h =
      let word : j / 64 ≡ 0 = omega (arith, h) in
      let bit : j % 64 ≡ j = omega (arith, h) in
      ap₂ {C = List ℕ} (λ x xs. x ∷ xs) (mask_marked 63 j f g (omega (arith, h)) m)
      (masks_same k (behind g) (behind f) λ i u. m.elsewhere (64 + i) (λ z. omega (arith, z, h)))
      ∙ ap₂ {C = List ℕ} (λ (w b : ℕ). set (masks (suc k) f) w (bit_or (get_or (masks (suc k) f) w 0) (2 ^ (63 - b)))) (sym word) (sym bit)

  in_later : 64 ≤ j → (Marked (behind f) (behind g) (j - 64) → WordMarked k (j - 64) (behind f) (behind g)) → WordMarked (suc k) j f g
  unfolding masks
  in_later h rest =
      let word : j / 64 ≡ suc ((j - 64) / 64) = omega (arith, h) in
      let bit : j % 64 ≡ (j - 64) % 64 = omega (arith, h) in
      let there : 64 + (j - 64) ≡ j = omega (arith, h) in
      let moved : Marked (behind f) (behind g) (j - 64) =
      record { there = ap g there ∙ m.there; elsewhere = λ n u. m.elsewhere (64 + n) (λ z. u (omega (arith, z))) } in
      ap₂ {C = List ℕ} (λ x xs. x ∷ xs) (mask_same 64 g f λ n u. m.elsewhere n (λ z. omega (arith, z, u, h))) (rest moved)
      ∙ ap₂ {C = List ℕ} (λ (w b : ℕ). set (masks (suc k) f) w (bit_or (get_or (masks (suc k) f) w 0) (2 ^ (63 - b)))) (sym word) (sym bit)

pub masks_marked : (k j : ℕ) (f g : ℕ → Bool) → j < 64 * k → Marked f g j → WordMarked k j f g
masks_marked zero j f g l m = absurd (omega (arith, l))
masks_marked (suc k) j f g l m =
    by_word (ltb j 64) refl λ h. masks_marked k (j - 64) (λ i. f (64 + i)) (λ i. g (64 + i)) (omega (arith, l, h))
  where
    by_word : (b : Bool) → ltb j 64 ≡ b
        → (64 ≤ j → Marked (λ i. f (64 + i)) (λ i. g (64 + i)) (j - 64) → WordMarked k (j - 64) (λ i. f (64 + i)) (λ i. g (64 + i)))
        → WordMarked (suc k) j f g
    by_word true e rest = in_first k j f g m (ltb-true j 64 e)
    by_word false e rest = in_later k j f g m (ltb-false j 64 e) (rest (ltb-false j 64 e))

-- the ones of four words together: of four masks, the numbers marked
abbrev pub ones_of : List ℕ → ℕ
ones_of ws = ones (get_or ws 0 0) + ones (get_or ws 1 0) + ones (get_or ws 2 0) + ones (get_or ws 3 0)

pub ones_masks : (f : ℕ → Bool) → ones_of (masks 4 f) ≡ how_many 256 f
unfolding masks
ones_masks f =
    let g : ℕ → Bool = λ i. f (64 + i) in
    let h : ℕ → Bool = λ i. g (64 + i) in
    omega (
      arith,
      ones_mask 64 f,
      ones_mask 64 g,
      ones_mask 64 h,
      ones_mask 64 (λ i. h (64 + i)),
      how_many_split 64 192 f,
      how_many_split 64 128 g,
      how_many_split 64 64 h,
    )

-- the digit of a number is its mark
pub mask_digit : (n i : ℕ) (f : ℕ → Bool) → i ≤ n → mask (suc n) f / 2 ^ (n - i) % 2 ≡ counts (f i)
unfolding mask
mask_digit n zero f l =
    ap (λ (k : ℕ). (counts (f 0) * 2 ^ n + mask n (λ i. f (suc i))) / 2 ^ k % 2) (sub-zero n)
    ∙ ap (λ (x : ℕ). x % 2) (high (counts (f 0)) n (mask_below n (λ i. f (suc i)))) ∙ digit (f 0)
  where
    digit : (b : Bool) → counts b % 2 ≡ counts b
    digit true = refl
    digit false = refl
mask_digit zero (suc i) f l = absurd (omega (arith, l))
mask_digit (suc n) (suc i) f l =
    let c = counts (f 0) in
    let x = mask (suc n) (λ i. f (suc i)) in
    let d = n - i in
    let split : 2 ^ suc n ≡ 2 ^ suc i * 2 ^ d = ap (λ (k : ℕ). 2 ^ k) (omega (arith, l)) ∙ pow-add 2 (suc i) d in
    ap₂ (λ (p k : ℕ). (c * p + x) / 2 ^ k % 2) split (suc-sub-suc n i)
    ∙ ap (λ (y : ℕ). (y + x) / 2 ^ d % 2) (sym (mul_assoc c (2 ^ suc i) (2 ^ d)))
    ∙ ap (λ (y : ℕ). y / 2 ^ d % 2) (add_comm (c * 2 ^ suc i * 2 ^ d) x)
    ∙ ap (λ (y : ℕ). y % 2) (add-mul-div_right x (c * 2 ^ suc i) (pow_pos d) ∙ add_comm (x / 2 ^ d) (c * 2 ^ suc i))
    ∙ block_odd c i (x / 2 ^ d)
    ∙ mask_digit n i (λ i. f (suc i)) (omega (arith, l))

-- the mark of a number, 1 or 0, as it stands in the words
unfoldable pub mark_at : List ℕ → ℕ → ℕ
mark_at words i = get_or words (i / 64) 0 / 2 ^ (63 - i % 64) % 2

pub mark_masks : (k i : ℕ) (f : ℕ → Bool) → i < 64 * k → mark_at (masks k f) i ≡ counts (f i)
unfolding masks mark_at
mark_masks zero i f l = absurd (omega (arith, l))
mark_masks (suc k) i f l = by_word (ltb i 64) refl λ h. mark_masks k (i - 64) (λ j. f (64 + j)) (omega (arith, l, h))
  where
    by_word : (b : Bool) → ltb i 64 ≡ b → (64 ≤ i → mark_at (masks k (λ j. f (64 + j))) (i - 64) ≡ counts (f (64 + (i - 64))))
        → mark_at (masks (suc k) f) i ≡ counts (f i)
    by_word true e rest =
        let h = ltb-true i 64 e in
        let word : i / 64 ≡ 0 = omega (arith, h) in
        let bit : i % 64 ≡ i = omega (arith, h) in
        ap₂ (λ (w b : ℕ). get_or (masks (suc k) f) w 0 / 2 ^ (63 - b) % 2) word bit ∙ mask_digit 63 i f (omega (arith, h))
    by_word false e rest =
        let h = ltb-false i 64 e in
        let word : i / 64 ≡ suc ((i - 64) / 64) = omega (arith, h) in
        let bit : i % 64 ≡ (i - 64) % 64 = omega (arith, h) in
        let there : 64 + (i - 64) ≡ i = omega (arith, h) in
        ap₂ (λ (w b : ℕ). get_or (masks (suc k) f) w 0 / 2 ^ (63 - b) % 2) word bit ∙ rest h ∙ ap (λ (j : ℕ). counts (f j)) there
