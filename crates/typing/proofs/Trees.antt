-- A type's number as a tree, for recursion over types; parts are earlier entries (check 2), so enough depth is one more than the number.
use mathlib.Core.Path.{◌≡◌, refl, sym, ◌∙◌, ap, ap₂, subst}
use mathlib.Core.Bool.{Bool, true, false, ◌&&◌, ◌||◌}
use mathlib.Core.List.{List, [], ◌∷◌}
use mathlib.Core.Option.{Option, some, none, some-injective, none-ne-some}
use lib.Dec.{T, eqb, leb, ltb, eqb→eq, ltb→lt, leb→le}
use lib.ListN.{get_elem?}
use Prim.Native.Nat.{ℕ, zero, suc, ◌+◌, ◌≤◌, ◌<◌}
use native.Mathlib.Omega.{arith}
use Rattle.syntax.specs.Maybe.{◌>>=◌, given}
use Rattle.syntax.specs.Words.{kind_of, left_of, right_of}
use Rattle.syntax.specs.Tables.{Tables, base, sum, unit_type, is_composite, components}
use Rattle.typing.specs.TableChecks.{well_formed_type, well_formed_types}
use Rattle.syntax.proofs.Options.{and_left, and_right}

-- a base type carries its name; `void` stands for a number that is no type
pub data Ty : Type 0 where
  void : Ty
  number : ℕ → Ty
  function : Ty → Ty → Ty
  both : Ty → Ty → Ty
  either : Ty → Ty → Ty
  unit_tree : Ty

-- a type by its kind, its left field (a base type's name) and the trees of its parts
unfoldable pub shape : ℕ → ℕ → Ty → Ty → Ty
shape zero n l r = number n
shape (suc zero) n l r = function l r
shape (suc (suc zero)) n l r = both l r
shape (suc (suc (suc zero))) n l r = either l r
shape (suc (suc (suc (suc zero)))) n l r = unit_tree
shape (suc (suc (suc (suc (suc k))))) n l r = void

module _ (tables : Tables) where
  unfoldable pub tree : ℕ → ℕ → Ty
  tree zero A = void
  tree (suc f) A = elim (get_elem? tables.types A) [
    | none ↦ void
    | some w ↦ shape (kind_of w) (left_of w) (tree f (left_of w)) (tree f (right_of w))
  ]

  abbrev pub ty : ℕ → Ty
  ty A = tree (suc A) A

  -- the tree of a type word, by a kind
  abbrev pub word_tree : ℕ → ℕ → ℕ → Ty
  word_tree f k w = shape k (left_of w) (tree f (left_of w)) (tree f (right_of w))

  pub at_word : (f A w : ℕ) → get_elem? tables.types A ≡ some w → tree (suc f) A ≡ word_tree f (kind_of w) w
  unfolding tree
  at_word f A w e = ap (λ (o : Option ℕ). elim o as (λ _. Ty) [ none ↦ void | some w ↦ word_tree f (kind_of w) w ]) e

  -- the parts of a composite type are earlier
  pub record Earlier : Type 0 where
    pub parts : (A w k : ℕ) → T (is_composite k) → get_elem? tables.types A ≡ some w → kind_of w ≡ k → (left_of w < A) × (right_of w < A)

module _ (tables : Tables) (wf : Earlier tables) where
  shapes : (k n : ℕ) {l l' r r' : Ty} → (T (is_composite k) → (l ≡ l') × (r ≡ r')) → shape k n l r ≡ shape k n l' r'
  unfolding shape
  shapes zero n h = refl
  shapes (suc zero) n h = let e = h tt in ap₂ function e.0 e.1
  shapes (suc (suc zero)) n h = let e = h tt in ap₂ both e.0 e.1
  shapes (suc (suc (suc zero))) n h = let e = h tt in ap₂ either e.0 e.1
  shapes (suc (suc (suc (suc zero)))) n h = refl
  shapes (suc (suc (suc (suc (suc k))))) n h = refl

  pub enough : (f g A : ℕ) → A < f → A < g → tree tables f A ≡ tree tables g A
  unfolding tree
  enough zero g A p q = absurd (omega arith)
  enough (suc f) zero A p q = absurd (omega arith)
  enough (suc f) (suc g) A p q = go (get_elem? tables.types A) refl (λ B h. enough f g B (omega arith) (omega arith))
    where
      go : (o : Option ℕ) → get_elem? tables.types A ≡ o → ((B : ℕ) → B < A → tree tables f B ≡ tree tables g B)
          → ◌≡◌ {A = Ty} (elim o [ none ↦ void | some w ↦ word_tree tables f (kind_of w) w ])
          (elim o [ none ↦ void | some w ↦ word_tree tables g (kind_of w) w ])
      go none e h = refl
      go (some w) e h = shapes (kind_of w) (left_of w) λ c.
          let p = wf.parts A w (kind_of w) c e refl in
          (h (left_of w) p.0, h (right_of w) p.1)

  -- a type by its parts
  pub record Word (k A l r : ℕ) : Type 0 where
    pub word : ℕ
    pub is : get_elem? tables.types A ≡ some word
    pub kind : kind_of word ≡ k
    pub left : left_of word ≡ l
    pub right : right_of word ≡ r

  pub word_of : (k A l r : ℕ) → components tables k A ≡ some (l, r) → Word k A l r
  word_of k A l r e = go (get_elem? tables.types A) refl e
    where
      fits : (w : ℕ) → get_elem? tables.types A ≡ some w → (b : Bool) → (T b → kind_of w ≡ k)
          → given {X = ℕ × ℕ} b (left_of w, right_of w) ≡ some (l, r) → Word k A l r
      fits w d true h q =
          let p = some-injective {A = ℕ × ℕ} (left_of w, right_of w) (l, r) q in
          record { word = w; is = d; kind = h tt; left = ap (λ (x : ℕ × ℕ). x.0) p; right = ap (λ (x : ℕ × ℕ). x.1) p }
      fits w d false h q = absurd (none-ne-some (l, r) q)

      go : (o : Option ℕ) → get_elem? tables.types A ≡ o → (o >>= λ w. given {X = ℕ × ℕ} (eqb (kind_of w) k) (left_of w, right_of w)) ≡ some
          (l, r) → Word k A l r
      go none d q = absurd (none-ne-some (l, r) q)
      go (some w) d q = fits w d (eqb (kind_of w) k) (eqb→eq (kind_of w) k) q

  pub parts_below : (k A l r : ℕ) → T (is_composite k) → components tables k A ≡ some (l, r) → (l < A) × (r < A)
  parts_below k A l r c e =
      let w = word_of k A l r e in
      let p = wf.parts A w.word k c w.is w.kind in
      (subst (λ (x : ℕ). x < A) w.left p.0, subst (λ (x : ℕ). x < A) w.right p.1)

  pub tree_is : (f k A l r : ℕ) → components tables (suc k) A ≡ some (l, r)
      → tree tables (suc f) A ≡ shape (suc k) l (tree tables f l) (tree tables f r)
  tree_is f k A l r e =
      let w = word_of (suc k) A l r e in
      at_word tables f A w.word w.is ∙ ap (λ (j : ℕ). word_tree tables f j w.word)
      w.kind
      ∙ ap₂ (λ (x y : ℕ). shape (suc k) x (tree tables f x) (tree tables f y)) w.left w.right

  pub ty_is : (k A l r : ℕ) → components tables (suc k) A ≡ some (l, r) → ty tables A ≡ shape (suc k) l (ty tables l) (ty tables r)
  ty_is k A l r e =
      tree_is A k A l r e ∙ shapes (suc k) l λ c. let p = parts_below (suc k) A l r c e
      in (enough A (suc l) l p.0 (omega arith), enough A (suc r) r p.1 (omega arith))

  pub ty_base : (A l r : ℕ) → components tables base A ≡ some (l, r) → ty tables A ≡ number l
  unfolding shape
  ty_base A l r e =
      let w = word_of 0 A l r e in
      at_word tables A A w.word w.is ∙ ap (λ (j : ℕ). word_tree tables A j w.word)
      w.kind ∙ ap number w.left

-- check 2 says it
entry : (i : ℕ) (ws : List ℕ) → T (well_formed_types i ws) → (j w : ℕ) → get_elem? ws j ≡ some w → T (well_formed_type (i + j) w)
unfolding well_formed_types
entry i [] h j w e = absurd (none-ne-some w e)
entry i (x ∷ ws) h zero w e = subst (λ (n : ℕ). T (well_formed_type n w)) (omega arith)
    (subst (λ (y : ℕ). T (well_formed_type i y)) (some-injective x w e) (and_left (well_formed_type i x) (well_formed_types (suc i) ws) h))
entry i (x ∷ ws) h (suc j) w e = subst (λ (n : ℕ). T (well_formed_type n w)) (omega arith)
    (entry (suc i) ws (and_right (well_formed_type i x) (well_formed_types (suc i) ws) h) j w e)

-- what check 2 asks of a type word at index i
pub data Formed (i w : ℕ) : Type 0 where
  a_base : kind_of w ≡ 0 → right_of w ≡ 0 → Formed i w
  a_composite : 1 ≤ kind_of w → kind_of w ≤ 3 → left_of w < i → right_of w < i → Formed i w
  a_unit : kind_of w ≡ 4 → left_of w ≡ 0 → right_of w ≡ 0 → Formed i w

formed : (i w : ℕ) → T (well_formed_type i w) → Formed i w
formed i w h = either_holds ((eqb k base && eqb r 0) || (leb 1 k && leb k sum && ltb l i && ltb r i)) (eqb k unit_type && eqb l 0 && eqb r 0)
    (either_holds (eqb k base && eqb r 0) (leb 1 k && leb k sum && ltb l i && ltb r i) from_base from_composite) from_unit h
  where
    k : ℕ
    k = kind_of w

    l : ℕ
    l = left_of w

    r : ℕ
    r = right_of w

    either_holds : (a b : Bool) → (T a → Formed i w) → (T b → Formed i w) → T (a || b) → Formed i w
    either_holds true b f g z = f tt
    either_holds false b f g z = g z

    from_base : T (eqb k base && eqb r 0) → Formed i w
    from_base z = a_base (eqb→eq k base (and_left (eqb k base) (eqb r 0) z)) (eqb→eq r 0 (and_right (eqb k base) (eqb r 0) z))

    from_composite : T (leb 1 k && leb k sum && ltb l i && ltb r i) → Formed i w
    from_composite z =
        let y = and_left (leb 1 k && leb k sum && ltb l i) (ltb r i) z in
        let x = and_left (leb 1 k && leb k sum) (ltb l i) y in
        a_composite (leb→le 1 k (and_left (leb 1 k) (leb k sum) x)) (leb→le k sum (and_right (leb 1 k) (leb k sum) x))
        (ltb→lt l i (and_right (leb 1 k && leb k sum) (ltb l i) y)) (ltb→lt r i (and_right (leb 1 k && leb k sum && ltb l i) (ltb r i) z))

    from_unit : T (eqb k unit_type && eqb l 0 && eqb r 0) → Formed i w
    from_unit z =
        let y = and_left (eqb k unit_type && eqb l 0) (eqb r 0) z in
        a_unit (eqb→eq k unit_type (and_left (eqb k unit_type) (eqb l 0) y)) (eqb→eq l 0 (and_right (eqb k unit_type) (eqb l 0) y))
        (eqb→eq r 0 (and_right (eqb k unit_type && eqb l 0) (eqb r 0) z))

-- each entry of a table that passes check 2
pub entry_formed : (ws : List ℕ) → T (well_formed_types 0 ws) → (A w : ℕ) → get_elem? ws A ≡ some w → Formed A w
entry_formed ws h A w e = formed A w (subst (λ (n : ℕ). T (well_formed_type n w)) (omega arith) (entry 0 ws h A w e))

pub earlier : (tables : Tables) → T (well_formed_types 0 tables.types) → Earlier tables
earlier tables h = record {
  parts = λ A w k c e q. below A w (subst (λ (j : ℕ). T (is_composite j)) (sym q) c) (entry_formed tables.types h A w e);
}
  where
    below : (A w : ℕ) → T (is_composite (kind_of w)) → Formed A w → (left_of w < A) × (right_of w < A)
    below A w c (a_base z _) = absurd (subst (λ (k : ℕ). T (is_composite k)) z c)
    below A w c (a_composite _ _ l r) = (l, r)
    below A w c (a_unit z _ _) = absurd (subst (λ (k : ℕ). T (is_composite k)) z c)
