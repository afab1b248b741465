-- At a type without functions, related values are equal and are values of the type; so a call's answers agree.
use mathlib.Core.Path.{◌≡◌, refl, sym, ◌∙◌, ap, ap₂, subst}
use mathlib.Core.Bool.{Bool, true, false}
use mathlib.Core.List.{List}
use mathlib.Core.Option.{Option, some, none, some-ne-none}
use lib.Dec.{T, eqb, eqb_refl}
use lib.ListN.{get_elem?}
use Prim.Native.Nat.{ℕ, zero, suc, ◌<◌}
use native.Mathlib.Omega.{arith}
use Rattle.syntax.specs.Maybe.{◌>>=◌, given}
use Rattle.syntax.specs.Words.{kind_of, left_of, right_of}
use Rattle.syntax.specs.Tables.{Tables, base, arrow, product, sum, unit_type, is_composite, components}
use Rattle.semantics.specs.Value.{Value, Values, num, tuple, left, right, trivial, also, Trace}
use Rattle.semantics.specs.ValueTypes.{HasType, a_number, a_tuple, a_left, a_right, a_unit, HaveTypes, no_more, one_more}
use Rattle.syntax.specs.Lists.{◌∈◌, here, there}
use Rattle.semantics.specs.TypeParts.{itself, of_left, of_right, FunctionFree}
use Rattle.typing.proofs.Trees.{Ty, void, number, function, both, either, unit_tree, shape, tree, ty, word_tree, Earlier, ty_is, ty_base}
use Rattle.theory.proofs.Relation.{nums, pairs, lefts, rights, units, Related, Rel, All, all_none, all_more}

unfoldable pub Plain : Ty → Type 0
Plain void = Unit
Plain (number n) = Unit
Plain (function A B) = ⊥
Plain (both A B) = Plain A × Plain B
Plain (either A B) = Plain A × Plain B
Plain unit_tree = Unit

module _ (tables : Tables) (wf : Earlier tables) where
  pub components_of_lem : (k A w : ℕ) → get_elem? tables.types A ≡ some w → kind_of w ≡ k → components tables k A ≡ some (left_of w, right_of w)
  components_of_lem k A w e h =
      subst (λ (o : Option ℕ). (o >>= λ w. given {X = ℕ × ℕ} (eqb (kind_of w) k) (left_of w, right_of w)) ≡ some (left_of w, right_of w)) (sym e)
      (go (eqb (kind_of w) k) (subst (λ (n : ℕ). T (eqb (kind_of w) n)) h (eqb_refl (kind_of w))))
    where
      go : (b : Bool) → T b → given {X = ℕ × ℕ} b (left_of w, right_of w) ≡ some (left_of w, right_of w)
      go true h = refl
      go false h = absurd h

  pub free_left : {A l r : ℕ} (k : ℕ) → T (is_composite k) → components tables k A ≡ some (l, r) → FunctionFree tables A
      → FunctionFree tables l
  free_left k c e f D p = f D (of_left k c e p)

  pub free_right : {A l r : ℕ} (k : ℕ) → T (is_composite k) → components tables k A ≡ some (l, r) → FunctionFree tables A
      → FunctionFree tables r
  free_right k c e f D p = f D (of_right k c e p)

  plain_word : (f A w k : ℕ) → get_elem? tables.types A ≡ some w → kind_of w ≡ k → FunctionFree tables A
      → ((B : ℕ) → B < A → FunctionFree tables B → Plain (tree tables f B)) → Plain (word_tree tables f k w)
  unfolding Plain shape
  plain_word f A w zero e h free ih = tt
  plain_word f A w (suc zero) e h free ih = absurd (some-ne-none _ (sym (components_of_lem arrow A w e h) ∙ free A itself))
  plain_word f A w (suc (suc zero)) e h free ih =
      let c = components_of_lem product A w e h in let p = wf.parts A w product tt e h in
      (ih (left_of w) p.0 (free_left product tt c free), ih (right_of w) p.1 (free_right product tt c free))
  plain_word f A w (suc (suc (suc zero))) e h free ih =
      let c = components_of_lem sum A w e h in let p = wf.parts A w sum tt e h in
      (ih (left_of w) p.0 (free_left sum tt c free), ih (right_of w) p.1 (free_right sum tt c free))
  plain_word f A w (suc (suc (suc (suc zero)))) e h free ih = tt
  plain_word f A w (suc (suc (suc (suc (suc k))))) e h free ih = tt

  -- a type without functions is a plain tree
  plain_tree : (f A : ℕ) → A < f → FunctionFree tables A → Plain (tree tables f A)
  unfolding tree Plain
  plain_tree zero A h free = absurd (omega (arith, h))
  plain_tree (suc f) A h free = go (get_elem? tables.types A) refl (λ B l. plain_tree f B (omega (arith, l, h)))
    where
      go : (o : Option ℕ) → get_elem? tables.types A ≡ o → ((B : ℕ) → B < A → FunctionFree tables B → Plain (tree tables f B))
          → Plain (elim o as (λ _. Ty) [ none ↦ void | some w ↦ word_tree tables f (kind_of w) w ])
      go none e ih = tt
      go (some w) e ih = plain_word f A w (kind_of w) e refl free ih

  module _ (answer : ℕ → Values → Value) (C : Trace → Trace → Type 0) where
    plain_equal : (X : Ty) → Plain X → {v w : Value} → Related answer C X v w → v ≡ w
    unfolding Plain Related
    plain_equal void p r = absurd r
    plain_equal (number m) p (nums n) = refl
    plain_equal (function A B) p r = absurd p
    plain_equal (both A B) p (pairs r s) = ap₂ tuple (plain_equal A p.0 r) (plain_equal B p.1 s)
    plain_equal (either A B) p (lefts r) = ap left (plain_equal A p.0 r)
    plain_equal (either A B) p (rights r) = ap right (plain_equal B p.1 r)
    plain_equal unit_tree p units = refl

    pub free_equal : {A : ℕ} {v w : Value} → FunctionFree tables A → Rel tables answer C A v w → v ≡ w
    free_equal {A} f r = plain_equal (ty tables A) (plain_tree (suc A) A (omega arith) f) r.rel

    abbrev Typing : ℕ → ℕ → Type 0
    Typing f B = (v w : Value) → Plain (tree tables f B) → Related answer C (tree tables f B) v w → HasType tables B v

    word_has : (f A x k : ℕ) → get_elem? tables.types A ≡ some x → kind_of x ≡ k → ((B : ℕ) → B < A → Typing f B)
        → (v w : Value) → Plain (word_tree tables f k x) → Related answer C (word_tree tables f k x) v w → HasType tables A v
    unfolding Plain shape Related
    word_has f A x zero e h ih v w p (nums n) = a_number (components_of_lem base A x e h)
    word_has f A x (suc zero) e h ih v w p r = absurd p
    word_has f A x (suc (suc zero)) e h ih v w p (pairs {a = a} {b = b} {c = c} {d = d} r s) = let q = wf.parts A x product tt e h
        in a_tuple (components_of_lem product A x e h) (ih (left_of x) q.0 a c p.0 r) (ih (right_of x) q.1 b d p.1 s)
    word_has f A x (suc (suc (suc zero))) e h ih v w p (lefts {a = a} {b = b} r) = let q = wf.parts A x sum tt e h
        in a_left (components_of_lem sum A x e h) (ih (left_of x) q.0 a b p.0 r)
    word_has f A x (suc (suc (suc zero))) e h ih v w p (rights {a = a} {b = b} r) = let q = wf.parts A x sum tt e h
        in a_right (components_of_lem sum A x e h) (ih (right_of x) q.1 a b p.1 r)
    word_has f A x (suc (suc (suc (suc zero)))) e h ih v w p units = a_unit (components_of_lem unit_type A x e h)
    word_has f A x (suc (suc (suc (suc (suc k))))) e h ih v w p r = absurd r

    tree_has : (f A : ℕ) → A < f → Typing f A
    unfolding tree Related
    tree_has zero A h v w p r = absurd (omega (arith, h))
    tree_has (suc f) A h v w p r = go (get_elem? tables.types A) refl (λ B l. tree_has f B (omega (arith, l, h))) p r
      where
        go : (o : Option ℕ) → get_elem? tables.types A ≡ o → ((B : ℕ) → B < A → Typing f B)
            → Plain (elim o as (λ _. Ty) [ none ↦ void | some w ↦ word_tree tables f (kind_of w) w ])
            → Related answer C
            (elim o as (λ _. Ty) [ none ↦ void | some w ↦ word_tree tables f (kind_of w) w ]) v w
            → HasType tables A v
        go none e ih p r = absurd r
        go (some x) e ih p r = word_has f A x (kind_of x) e refl ih v w p r

    pub free_has : {A : ℕ} {v w : Value} → FunctionFree tables A → Rel tables answer C A v w → HasType tables A v
    free_has {A} {v} {w} f r = tree_has (suc A) A (omega arith) v w (plain_tree (suc A) A (omega arith) f) r.rel

    -- a value of a type is related to itself
    has_related : {A : ℕ} {v : Value} → HasType tables A v → Related answer C (ty tables A) v v
    unfolding Related shape
    has_related (a_number {A = A} {n = n} {X = X} e) = subst (λ (Y : Ty). Related answer C Y (num n) (num n))
        (sym (ty_base tables wf A X.0 X.1 e)) (nums n)
    has_related (a_tuple {A = A} {l = l} {r = r} {v = v} {w = w} e h k) = subst (λ (Y : Ty). Related answer C Y (tuple v w) (tuple v w))
        (sym (ty_is tables wf 1 A l r e)) (pairs (has_related h) (has_related k))
    has_related (a_left {A = A} {l = l} {r = r} {v = v} e h) = subst (λ (Y : Ty). Related answer C Y (left v) (left v))
        (sym (ty_is tables wf 2 A l r e)) (lefts (has_related h))
    has_related (a_right {A = A} {l = l} {r = r} {v = v} e h) = subst (λ (Y : Ty). Related answer C Y (right v) (right v))
        (sym (ty_is tables wf 2 A l r e)) (rights (has_related h))
    has_related (a_unit {A = A} {X = X} e) =
        subst (λ (Y : Ty). Related answer C Y trivial trivial) (sym (ty_is tables wf 3 A X.0 X.1 e)) units

    pub has_rel : {A : ℕ} {v : Value} → HasType tables A v → Rel tables answer C A v v
    has_rel h = record { rel = has_related h }

    -- lists of values
    pub all_equal : {As : List ℕ} {vs ws : Values} → ((A : ℕ) → A ∈ As → FunctionFree tables A) → All (Rel tables answer C) As vs ws
        → vs ≡ ws
    all_equal f all_none = refl
    all_equal f (all_more {A = A} r rs) = ap₂ also (free_equal (f A here) r) (all_equal (λ B i. f B (there i)) rs)

    pub all_have : {As : List ℕ} {vs ws : Values} → ((A : ℕ) → A ∈ As → FunctionFree tables A) → All (Rel tables answer C) As vs ws
        → HaveTypes tables As vs
    all_have f all_none = no_more
    all_have f (all_more {A = A} r rs) = one_more (free_has (f A here) r) (all_have (λ B i. f B (there i)) rs)
