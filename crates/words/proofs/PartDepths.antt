-- A node's depth gives way to those of its parts, by the table of kinds.
use Prim.Native.Nat.{ℕ, zero, suc, ◌+◌, ◌-◌, ◌≤◌, ◌<◌}
use native.Mathlib.Omega.{arith}
use native.Mathlib.Decide.{ℕ_discrete}
use mathlib.Core.Path.{◌≡◌, refl, sym, ◌∙◌, ap, subst}
use mathlib.Core.Bool.{Bool, false, cond}
use mathlib.Core.List.{List}
use lib.Dec.{eqb}
use lib.ListN.{length, get_or, set, replicate, length-set}
use Rattle.std.proofs.Common.{rules}
use Rattle.std.proofs.lemmas.List.{places}
use Rattle.std.proofs.lemmas.Grind.{elements}
use borrow.Author.Tests.{ne_eqb}
use borrow.Rule.Slice.PartMut.{mid_of, put_mid}
use Rattle.syntax.specs.Kinds.{parts_of_kind, binds_of, free_of}
use Rattle.syntax.specs.Parts.{part_count}
use Rattle.syntax.specs.Tables.{arity}
use Rattle.syntax.specs.Values.{counts}
use Rattle.syntax.specs.Words.{kind_of, number_of}
use Rattle.words.specs.Reach.{outer_count}
use Rattle.words.specs.Depths.{Opened, OpensParts}

-- the words from an index to another are w, those before are as they were
pub record Filled (old new : List ℕ) (start end w : ℕ) : Type 0 where
  pub kept : (j : ℕ) → j < start → get_or new j 0 ≡ get_or old j 0
  pub set_to : (j : ℕ) → start ≤ j → j < end → get_or new j 0 ≡ w

-- the depths at the first two places, and at the others
pub record Entries (old new : List ℕ) (last n k depth : ℕ) : Type 0 where
  pub kept : (j : ℕ) → j < last → get_or new j 0 ≡ get_or old j 0
  pub at_last : get_or new last 0 ≡ depth + counts (binds_of k)
  pub at_middle : get_or new (last + 1) 0 ≡ depth + counts (eqb k 10)
  pub others : (j : ℕ) → 2 ≤ j → j < n → get_or new (last + j) 0 ≡ depth

module _ (old new : List ℕ) (last depth : ℕ) where
  -- what stands at each place, if i inner parts are the last ones
  by_place : (n i x y : ℕ) → get_or new last 0 ≡ depth + x → get_or new (last + 1) 0 ≡ depth + y
      → ((j : ℕ) → 2 ≤ j → j < n → get_or new (last + j) 0 ≡ depth) → ((j : ℕ) → j < last → get_or new j 0 ≡ get_or old j 0)
      → (1 ≤ i → x ≡ 1) → (i ≡ 0 → 1 ≤ n → x ≡ 0) → (2 ≤ i → y ≡ 1) → (i ≤ 1 → 2 ≤ n → y ≡ 0) → i ≤ 2 → (o : ℕ) → n - o ≡ i
      → Opened old new last n o depth
  by_place n i x y a b c kept x1 x0 y1 y0 le o e = record {
    kept = kept;
    inner = λ j l. inner j (omega (arith, l, e));
    outer = λ j g l. outer j (omega (arith, g, e)) l;
  }
    where
      here : get_or new (last + 0) 0 ≡ depth + x
      here = let z : last + 0 ≡ last = omega arith in ap (λ (k : ℕ). get_or new k 0) z ∙ a

      inner : (j : ℕ) → j < i → get_or new (last + j) 0 ≡ suc depth
      inner zero l = here ∙ omega (arith, x1 l)
      inner (suc zero) l = b ∙ omega (arith, y1 l)
      inner (suc (suc j)) l = absurd (omega (arith, l, le))

      outer : (j : ℕ) → i ≤ j → j < n → get_or new (last + j) 0 ≡ depth
      outer zero g l = here ∙ omega (arith, x0 (omega (arith, g)) l)
      outer (suc zero) g l = b ∙ omega (arith, y0 g l)
      outer (suc (suc j)) g l = c (suc (suc j)) (omega arith) l

  pub opening : (a k : ℕ) → Entries old new last (parts_of_kind a k) k depth
      → Opened old new last (parts_of_kind a k) (outer_count k (parts_of_kind a k)) depth
  unfolding outer_count
  opening a k e = by_kind (ℕ_discrete k 2) (ℕ_discrete k 4) (ℕ_discrete k 10)
    where
      Goal : ℕ → Type 0
      Goal m = Entries old new last (parts_of_kind a m) m depth → Opened old new last (parts_of_kind a m) (outer_count m (parts_of_kind a m)) depth

      at_2 : Goal 2
      at_2 f = by_place 1 1 1 0 f.at_last f.at_middle f.others f.kept (λ l. refl) (λ z l. absurd (omega (arith, z)))
          (λ l. absurd (omega (arith, l))) (λ g l. refl) (omega arith) 0 refl

      at_4 : Goal 4
      at_4 f = by_place 2 1 1 0 f.at_last f.at_middle f.others f.kept (λ l. refl) (λ z l. absurd (omega (arith, z)))
          (λ l. absurd (omega (arith, l))) (λ g l. refl) (omega arith) 1 refl

      at_10 : Goal 10
      at_10 f = by_place 3 2 1 1 f.at_last f.at_middle f.others f.kept (λ l. refl) (λ z l. absurd (omega (arith, z)))
          (λ l. refl) (λ g l. absurd (omega (arith, g))) (omega arith) 1 refl

      flat : (k ≡ 2 → ⊥) → (k ≡ 4 → ⊥) → (k ≡ 10 → ⊥) → Opened old new last (parts_of_kind a k) (outer_count k (parts_of_kind a k)) depth
      flat p q r =
          let z : binds_of k ≡ false = simp (ne_eqb k 2 p, ne_eqb k 4 q, ne_eqb k 10 r) in
          let n = parts_of_kind a k in
          let o : outer_count k n ≡ n = ap (λ (x : Bool). cond x (free_of k) n) z in
          by_place n 0 0 0 (e.at_last ∙ ap (λ (x : Bool). depth + counts x) z)
          (e.at_middle ∙ ap (λ (x : Bool). depth + counts x) (ne_eqb k 10 r))
          e.others e.kept (λ l. absurd (omega (arith, l))) (λ z l. refl) (λ l. absurd (omega (arith, l))) (λ g l. refl) (omega arith)
          (outer_count k n) (omega (arith, o))

      by_kind : Dec (k ≡ 2) → Dec (k ≡ 4) → Dec (k ≡ 10) → Opened old new last (parts_of_kind a k) (outer_count k (parts_of_kind a k)) depth
      by_kind (yes p) q r = subst Goal (sym p) at_2 e
      by_kind (no p) (yes q) r = subst Goal (sym q) at_4 e
      by_kind (no p) (no q) (yes r) = subst Goal (sym r) at_10 e
      by_kind (no p) (no q) (no r) = flat p q r

-- three words written in a row
abbrev pub three : List ℕ → (last x y z : ℕ) → List ℕ
three p last x y z = set (set (set p last x) (last + 1) y) (last + 2) z

module _ (p : List ℕ) (last x y z : ℕ) where
  pub three_length : length (three p last x y z) ≡ length p
  three_length = length-set (set (set p last x) (last + 1) y) (last + 2) z ∙ length-set (set p last x) (last + 1) y ∙ length-set p last x

-- the depths of a node's parts: three are written, and then those of any further parts
module _ (calls : List ℕ) (w : ℕ) (p new : List ℕ) (last depth k n x y : ℕ) (ke : k ≡ kind_of w) (ne : n ≡ part_count calls w)
    (xe : x ≡ counts (binds_of k)) (ye : y ≡ counts (eqb k 10)) (room : last + 3 ≤ length p) where
  pub filled_opens : Filled (three p last (depth + x) (depth + y) depth) new (last + 3) (last + n) depth
      → OpensParts calls w depth p new last (last + n)
  unfolding part_count
  filled_opens f = record {
    many = ap (λ (i : ℕ). last + i) ne;
    opened = opening p new last depth (arity calls (number_of w)) (kind_of w) record {
      kept = λ j l. grind (arith, elements, f.kept j);
      at_last = grind (arith, elements, f.kept last);
      at_middle = grind (arith, elements, f.kept (last + 1));
      others = λ j g l. grind (arith, elements, f.kept (last + j), f.set_to (last + j));
    };
  }

-- there are no further parts
pub three_filled : (words : List ℕ) (last n depth : ℕ) → n ≤ 3 → Filled words words (last + 3) (last + n) depth
three_filled words last n depth le = record { kept = λ j l. refl; set_to = λ j g l. absurd (omega (arith, g, l, le)) }

-- or they are filled
pub row_filled : (words row : List ℕ) (start end w : ℕ) → start ≤ end → end ≤ length words → row ≡ replicate (length (mid_of start (end - start) words)) w
    → Filled words (put_mid start (end - start) words row) start end w
row_filled words row start end w h g e = record {
  kept = λ j l. search (rules, places);
  set_to = λ j m l. search (rules, places);
}

-- a node without parts
pub opens_none : (calls : List ℕ) (w : ℕ) (p : List ℕ) (last depth : ℕ) → part_count calls w ≡ 0 → OpensParts calls w depth p p last last
opens_none calls w p last depth none = record {
  many = omega (arith, none);
  opened = record {
    kept = λ j l. refl;
    inner = λ j l. absurd (omega (arith, l, none));
    outer = λ j g l. absurd (omega (arith, l, none));
  };
}
