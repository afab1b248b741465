-- On a table that passes checks 2 and 3 a type is its number: entries of the same tree have the same kind and name, and by induction the
-- same parts, since parts are earlier; so they are the same word, and no word is duplicated.
use mathlib.Core.Path.{◌≡◌, refl, sym, ◌∙◌, ap, subst}
use mathlib.Core.Bool.{not}
use mathlib.Core.List.{List, [], ◌∷◌}
use mathlib.Core.Option.{some, some-injective, none-ne-some}
use lib.Dec.{T, eqb, eqb_refl}
use lib.ListN.{length, get_elem?}
use Prim.Native.Nat.{ℕ, zero, suc, ◌≤◌, ◌<◌}
use native.Mathlib.Omega.{arith}
use Rattle.syntax.specs.Words.{pack, kind_of, left_of, right_of}
use Rattle.syntax.specs.Tables.{Tables}
use Rattle.syntax.proofs.Options.{and_left, and_right, not_both}
use Rattle.typing.specs.TableChecks.{every, well_formed_types, distinct}
use Rattle.typing.proofs.Encoding.{pack_fields}
use Rattle.typing.proofs.Trees.{Ty, void, number, function, both, either, shape, tree, ty, word_tree, at_word, Formed, a_base}
use Rattle.typing.proofs.Trees.{a_composite, a_unit, unit_tree, entry_formed}

-- the kind of a tree that has one
kind : Ty → ℕ
kind void = 5
kind (number n) = 0
kind (function l r) = 1
kind (both l r) = 2
kind (either l r) = 3
kind unit_tree = 4

kind_shape : (k n : ℕ) (l r : Ty) → k ≤ 4 → kind (shape k n l r) ≡ k
unfolding shape kind
kind_shape zero n l r h = refl
kind_shape (suc zero) n l r h = refl
kind_shape (suc (suc zero)) n l r h = refl
kind_shape (suc (suc (suc zero))) n l r h = refl
kind_shape (suc (suc (suc (suc zero)))) n l r h = refl
kind_shape (suc (suc (suc (suc (suc k))))) n l r h = absurd (omega arith)

-- trees of one kind that are equal have one name, or the same parts
base_name : (n n' : ℕ) (l l' r r' : Ty) → shape 0 n l r ≡ shape 0 n' l' r' → n ≡ n'
unfolding shape
base_name n n' l l' r r' e = cc

same_parts : (k n n' : ℕ) (l l' r r' : Ty) → k ≤ 2 → shape (suc k) n l r ≡ shape (suc k) n' l' r' → (l ≡ l') × (r ≡ r')
unfolding shape
same_parts zero n n' l l' r r' h e = (cc, cc)
same_parts (suc zero) n n' l l' r r' h e = (cc, cc)
same_parts (suc (suc zero)) n n' l l' r r' h e = (cc, cc)
same_parts (suc (suc (suc k))) n n' l l' r r' h e = absurd (omega arith)

-- a word is its three fields
same_word : (w x : ℕ) → kind_of w ≡ kind_of x → left_of w ≡ left_of x → right_of w ≡ right_of x → w ≡ x
same_word w x k l r = sym (pack_fields w) ∙ (λ i. pack (k i) (l i) (r i)) ∙ pack_fields x

-- where no word is duplicated, a word's place is determined
other : (w x : ℕ) (ws : List ℕ) (i : ℕ) → T (every (λ y. not (eqb w y)) ws) → get_elem? ws i ≡ some x → T (not (eqb w x))
other w x [] i h e = absurd (none-ne-some x e)
other w x (y ∷ ws) zero h e = subst (λ (z : ℕ). T (not (eqb w z))) (some-injective y x e)
    (and_left (not (eqb w y)) (every (λ y. not (eqb w y)) ws) h)
other w x (y ∷ ws) (suc i) h e = other w x ws i (and_right (not (eqb w y)) (every (λ y. not (eqb w y)) ws) h) e

no_other : (w x : ℕ) (ws : List ℕ) (i : ℕ) → T (every (λ y. not (eqb w y)) ws) → w ≡ x → get_elem? ws i ≡ some x → ⊥
no_other w x ws i h e d = not_both (eqb w x) (subst (λ (z : ℕ). T (eqb w z)) e (eqb_refl w)) (other w x ws i h d)

one_place : (ws : List ℕ) → T (distinct ws) → (i j w : ℕ) → get_elem? ws i ≡ some w → get_elem? ws j ≡ some w → i ≡ j
unfolding distinct
one_place [] h i j w d e = absurd (none-ne-some w d)
one_place (x ∷ ws) h zero zero w d e = refl
one_place (x ∷ ws) h zero (suc j) w d e =
    absurd (no_other x w ws j (and_left (every (λ y. not (eqb x y)) ws) (distinct ws) h) (some-injective x w d) e)
one_place (x ∷ ws) h (suc i) zero w d e =
    absurd (no_other x w ws i (and_left (every (λ y. not (eqb x y)) ws) (distinct ws) h) (some-injective x w e) d)
one_place (x ∷ ws) h (suc i) (suc j) w d e =
    ap suc (one_place ws (and_right (every (λ y. not (eqb x y)) ws) (distinct ws) h) i j w d e)

pub present : (ws : List ℕ) (i : ℕ) → i < length ws → (w : ℕ) × (get_elem? ws i ≡ some w)
present [] i h = absurd (omega arith)
present (w ∷ ws) zero h = (w, refl)
present (w ∷ ws) (suc i) h = present ws i (omega arith)

module _ (tables : Tables) (formed : T (well_formed_types 0 tables.types)) (no_twice : T (distinct tables.types)) where
  -- words of the same tree are the same, if earlier entries of the same tree are
  words_same : (f g A B w x : ℕ) → Formed A w → Formed B x → word_tree tables f (kind_of w) w ≡ word_tree tables g (kind_of x) x
      → ((C D : ℕ) → C < A → D < B → tree tables f C ≡ tree tables g D → C ≡ D) → w ≡ x
  words_same f g A B w x p q e ih = go p q
    where
      kinds : kind_of w ≤ 4 → kind_of x ≤ 4 → kind_of w ≡ kind_of x
      kinds h k = sym (kind_shape (kind_of w) _ _ _ h) ∙ ap kind e ∙ kind_shape (kind_of x) _ _ _ k

      at_kind : (k : ℕ) → kind_of w ≡ k → kind_of x ≡ k → word_tree tables f k w ≡ word_tree tables g k x
      at_kind k h j = ap (λ (n : ℕ). word_tree tables f n w) (sym h) ∙ e ∙ ap (λ (n : ℕ). word_tree tables g n x) j

      composite : (k : ℕ) → kind_of w ≡ k → kind_of x ≡ k → 1 ≤ k → k ≤ 3 → left_of w < A → right_of w < A → left_of x < B
          → right_of x < B → w ≡ x
      composite zero h j m n a b c d = absurd (omega arith)
      composite (suc k) h j m n a b c d =
          let y = same_parts k _ _ _ _ _ _ (omega arith) (at_kind (suc k) h j) in
          same_word w x (h ∙ sym j) (ih (left_of w) (left_of x) a c y.0) (ih (right_of w) (right_of x) b d y.1)

      go : Formed A w → Formed B x → w ≡ x
      go (a_base h r) (a_base j s) = same_word w x (h ∙ sym j) (base_name _ _ _ _ _ _ (at_kind 0 h j)) (r ∙ sym s)
      go (a_base h r) (a_composite j k _ _) = let z = kinds (omega arith) (omega arith) in absurd (omega arith)
      go (a_composite h k _ _) (a_base j s) = let z = kinds (omega arith) (omega arith) in absurd (omega arith)
      go (a_composite h k a b) (a_composite j m c d) =
          let z = kinds (omega arith) (omega arith) in composite (kind_of w) refl (sym z) h k a b c d
      go (a_unit h l r) (a_unit j m s) = same_word w x (h ∙ sym j) (l ∙ sym m) (r ∙ sym s)
      go (a_unit h _ _) (a_base j _) = let z = kinds (omega arith) (omega arith) in absurd (omega arith)
      go (a_unit h _ _) (a_composite j k _ _) = let z = kinds (omega arith) (omega arith) in absurd (omega arith)
      go (a_base h _) (a_unit j _ _) = let z = kinds (omega arith) (omega arith) in absurd (omega arith)
      go (a_composite h k _ _) (a_unit j _ _) = let z = kinds (omega arith) (omega arith) in absurd (omega arith)

  same_number : (f g A B : ℕ) → A < f → B < g → A < length tables.types → B < length tables.types
      → tree tables f A ≡ tree tables g B → A ≡ B
  same_number zero g A B p q a b e = absurd (omega arith)
  same_number (suc f) zero A B p q a b e = absurd (omega arith)
  same_number (suc f) (suc g) A B p q a b e =
      let (w, i) = present tables.types A a in
      let (x, j) = present tables.types B b in
      let y : w ≡ x = words_same f g A B w x (entry_formed tables.types formed A w i) (entry_formed tables.types formed B x j)
      (sym (at_word tables f A w i) ∙ e ∙ at_word tables g B x j)
      (λ C D c d t. same_number f g C D (omega arith) (omega arith) (omega arith) (omega arith) t) in
      one_place tables.types no_twice A B x (i ∙ ap some y) j

  -- entries that stand for the same type are the same number
  pub type_is_number : (A B : ℕ) → A < length tables.types → B < length tables.types → ty tables A ≡ ty tables B → A ≡ B
  type_is_number A B a b e = same_number (suc A) (suc B) A B (omega arith) (omega arith) a b e
