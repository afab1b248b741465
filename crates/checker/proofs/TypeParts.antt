-- The components of a type are the fields of its word.
use mathlib.Core.Path.{◌≡◌, refl, sym, ◌∙◌, ap}
use mathlib.Core.Bool.{Bool, true, false}
use mathlib.Core.Option.{Option, some, some-injective, none-ne-some}
use Prim.Native.Nat.{ℕ}
use lib.Dec.{eqb, ltb}
use lib.ListN.{length, get_or}
use borrow.Author.Tests.{ltb-true, ltb-false}
use Rattle.syntax.specs.Maybe.{◌>>=◌, given}
use Rattle.syntax.specs.Words.{kind_of, left_of, right_of}
use Rattle.syntax.specs.Tables.{Tables, components}
use Rattle.checker.proofs.Lookups.{there, not_there}

-- the fields of a type's word, if it is of a kind
abbrev pub fields_of : ℕ → Option ℕ → Option (ℕ × ℕ)
fields_of k o = o >>= λ w. given (eqb (kind_of w) k) (left_of w, right_of w)

module _ (tables : Tables) (k A X Y : ℕ) where
  abbrev word : ℕ
  word = get_or tables.types A 0

  told : (b : Bool) (w : ℕ) → given {X = ℕ × ℕ} b (left_of w, right_of w) ≡ some (X, Y) → (X ≡ left_of w) × (Y ≡ right_of w)
  told true w e =
      let p = some-injective (left_of w, right_of w) (X, Y) e in
      (sym (ap (λ (q : ℕ × ℕ). q.0) p), sym (ap (λ (q : ℕ × ℕ). q.1) p))
  told false w e = absurd (none-ne-some (X, Y) e)

  pub parts_are : components tables k A ≡ some (X, Y) → (X ≡ left_of word) × (Y ≡ right_of word)
  parts_are e = go (ltb A n) refl
    where
      n : ℕ
      n = length tables.types

      go : (b : Bool) → ltb A n ≡ b → (X ≡ left_of word) × (Y ≡ right_of word)
      go true h = told (eqb (kind_of word) k) word (sym (ap (fields_of k) (there tables.types A (ltb-true A n h))) ∙ e)
      go false h = absurd (none-ne-some (X, Y) (sym (ap (fields_of k) (not_there tables.types A (ltb-false A n h))) ∙ e))
