-- The checks as they were before the unit type. Over tables without a unit type word and words without a unit node both answer the same;
-- what the former checks accepted has neither, so it is accepted as the same term of the same type.
use mathlib.Core.Path.{◌≡◌, refl, sym, ◌∙◌, ap₂, subst}
use mathlib.Core.Bool.{Bool, true, false, ◌&&◌, ◌||◌, not}
use mathlib.Core.List.{List, [], ◌∷◌}
use lib.Dec.{T, leb, ltb, eqb, leb-zero, leb-suc-zero, leb-suc-suc, eqb-suc-suc, leb→le, eqb→eq, not_T}
use lib.ListN.{length}
use Prim.Native.Nat.{ℕ, zero, suc, ◌≤◌}
use native.Mathlib.Omega.{arith}
use Rattle.syntax.specs.Kinds.{uses_number}
use Rattle.syntax.specs.Words.{kind_of, left_of, right_of, number_of, type_of}
use Rattle.syntax.specs.Tables.{Tables, base, sum, unit_type}
use Rattle.syntax.proofs.Options.{and_left, and_right, both_true}
use Rattle.typing.specs.TableChecks.{every, well_formed_types, well_formed_calls}
use Rattle.typing.specs.TermChecks.{field_fits, well_formed_fields, well_formed_word}
use Rattle.typing.specs.Refusals.{Verdict, accepted, TypedTerm, elaborate}
use Rattle.typing.proofs.PlacesBy.{elaborate_by, elaborate_by_lem, accepted_by}

-- former check 2
abbrev pub former_type : ℕ → ℕ → Bool
former_type i w =
    (eqb (kind_of w) base && eqb (right_of w) 0)
    || (leb 1 (kind_of w) && leb (kind_of w) sum && ltb (left_of w) i && ltb (right_of w) i)

unfoldable pub former_types : ℕ → List ℕ → Bool
former_types i [] = true
former_types i (w ∷ ws) = former_type i w && former_types (suc i) ws

-- former check 6
abbrev pub former_uses_type : ℕ → Bool
former_uses_type k = eqb k 2 || eqb k 5 || eqb k 8 || eqb k 9

abbrev pub former_fields : Tables → ℕ → ℕ → ℕ → Bool
former_fields tables k n A =
    leb k 10 && (eqb k 0 || field_fits (uses_number k) (length tables.calls) n) && field_fits (former_uses_type k) (length tables.types) A

abbrev pub former_word : Tables → ℕ → Bool
former_word tables w = former_fields tables (kind_of w) (number_of w) (type_of w)

-- the checks without units. Places 7 to 9 are today's: words that passed the former check 6 have no unit, and of such words and terms they
-- say what they did. Check 4 is today's too, with calls that act (BeforeActing).
abbrev pub former_elaborate : ℕ → Tables → List ℕ → Verdict TypedTerm
former_elaborate limit tables words =
    elaborate_by (former_types 0 tables.types) (well_formed_calls tables) (every (former_word tables) words) limit tables words

-- words of other kinds than a unit's
abbrev pub NoUnitType : List ℕ → Type 0
NoUnitType ws = T (every (λ w. not (eqb (kind_of w) unit_type)) ws)

abbrev pub NoUnitNode : List ℕ → Type 0
NoUnitNode ws = T (every (λ w. not (eqb (kind_of w) 11)) ws)

or_false : (a b : Bool) → T (not b) → (a || b) ≡ a
or_false true b h = refl
or_false false true h = absurd h
or_false false false h = refl

not_and : (a b c : Bool) → T (not a) → T (not (a && b && c))
not_and true b c h = absurd h
not_and false b c h = tt

pub types_same : (i : ℕ) (ws : List ℕ) → NoUnitType ws → well_formed_types i ws ≡ former_types i ws
unfolding well_formed_types former_types
types_same i [] h = refl
types_same i (w ∷ ws) h =
    let u = not (eqb (kind_of w) unit_type) in
    let us = every (λ x. not (eqb (kind_of x) unit_type)) ws in
    ap₂ ◌&&◌ (or_false (former_type i w) _ (not_and (eqb (kind_of w) unit_type) (eqb (left_of w) 0) (eqb (right_of w) 0) (and_left u us h)))
    (types_same (suc i) ws (and_right u us h))

below_same : (k m : ℕ) → T (not (eqb k (suc m))) → leb k (suc m) ≡ leb k m
below_same zero m h = leb-zero (suc m) ∙ sym (leb-zero m)
below_same (suc zero) zero h = absurd h
below_same (suc (suc k)) zero h = leb-suc-suc (suc k) 0 ∙ leb-suc-zero k ∙ sym (leb-suc-zero (suc k))
below_same (suc k) (suc m) h =
    leb-suc-suc k (suc m) ∙ below_same k m (subst (λ (b : Bool). T (not b)) (eqb-suc-suc k (suc m)) h) ∙ sym (leb-suc-suc k m)

-- a kind up to m is not m + 1
other_kind : (k m : ℕ) → k ≤ m → T (not (eqb k (suc m)))
other_kind k m h = not_T (eqb k (suc m)) (λ q. absurd (omega (arith, h, eqb→eq k (suc m) q)))

module _ (tables : Tables) where
  pub words_same : (ws : List ℕ) → NoUnitNode ws → every (well_formed_word tables) ws ≡ every (former_word tables) ws
  words_same [] h = refl
  words_same (w ∷ ws) h =
      let u = not (eqb (kind_of w) 11) in
      let us = every (λ x. not (eqb (kind_of x) 11)) ws in
      ap₂ ◌&&◌ (fields_same (kind_of w) (number_of w) (type_of w) (and_left u us h)) (words_same ws (and_right u us h))
    where
      fields_same : (k n A : ℕ) → T (not (eqb k 11)) → well_formed_fields tables k n A ≡ former_fields tables k n A
      fields_same k n A h = ap₂ (λ (a b : Bool). a && (eqb k 0 || field_fits (uses_number k) (length tables.calls) n)
          && field_fits b (length tables.types) A) (below_same k 10 h) (or_false (former_uses_type k) (eqb k 11) h)

  -- without units: the same answer, refused or accepted
  pub same_without_units : (limit : ℕ) (words : List ℕ) → NoUnitType tables.types → NoUnitNode words
      → elaborate limit tables words ≡ former_elaborate limit tables words
  same_without_units limit words h j = elaborate_by_lem limit tables words
      ∙ ap₂ (λ (a b : Bool). elaborate_by a (well_formed_calls tables) b limit tables words) (types_same 0 tables.types h)
      (words_same words j)

-- what the former checks 2 and 6 passed has no unit
pub types_without : (i : ℕ) (ws : List ℕ) → T (former_types i ws) → NoUnitType ws
unfolding former_types
types_without i [] h = tt
types_without i (w ∷ ws) h = both_true (not (eqb (kind_of w) unit_type)) _
    (other_kind (kind_of w) 3 (up_to (eqb (kind_of w) base) (eqb (right_of w) 0) (leb 1 (kind_of w)) (leb (kind_of w) sum) _ _
    (λ e. omega (arith, eqb→eq (kind_of w) base e)) (leb→le (kind_of w) sum) (and_left (former_type i w) (former_types (suc i) ws) h)))
    (types_without (suc i) ws (and_right (former_type i w) (former_types (suc i) ws) h))
  where
    up_to : (a b c d e f : Bool) → (T a → kind_of w ≤ 3) → (T d → kind_of w ≤ 3) → T ((a && b) || (c && d && e && f)) → kind_of w ≤ 3
    up_to true b c d e f g k h = g tt
    up_to false b true true e f g k h = k tt
    up_to false b true false e f g k h = absurd h
    up_to false b false d e f g k h = absurd h

pub words_without : (tables : Tables) (ws : List ℕ) → T (every (former_word tables) ws) → NoUnitNode ws
words_without tables [] h = tt
words_without tables (w ∷ ws) h =
    let k = kind_of w in
    let number = eqb k 0 || field_fits (uses_number k) (length tables.calls) (number_of w) in
    let type = field_fits (former_uses_type k) (length tables.types) (type_of w) in
    let f = and_left (former_word tables w) (every (former_word tables) ws) h in
    both_true (not (eqb k 11)) _
    (other_kind k 10 (leb→le k 10 (and_left (leb k 10) number (and_left (leb k 10 && number) type f))))
    (words_without tables ws (and_right (former_word tables w) (every (former_word tables) ws) h))

-- neither a unit type word nor a unit node
pub record WithoutUnits (tables : Tables) (words : List ℕ) : Type 0 where
  pub types : NoUnitType tables.types
  pub nodes : NoUnitNode words

pub former_without : (limit : ℕ) (tables : Tables) (words : List ℕ) (x : TypedTerm) → former_elaborate limit tables words ≡ accepted x
    → WithoutUnits tables words
former_without limit tables words x e =
    let p = accepted_by limit tables words _ _ _ e in
    record { types = types_without 0 tables.types p.0; nodes = words_without tables words p.2 }

-- every bundle that was accepted is accepted, as the same term of the same type
pub former_accepted : (limit : ℕ) (tables : Tables) (words : List ℕ) (x : TypedTerm) → former_elaborate limit tables words ≡ accepted x
    → elaborate limit tables words ≡ accepted x
former_accepted limit tables words x e =
    let h = former_without limit tables words x e in
    same_without_units tables limit words h.types h.nodes ∙ e
