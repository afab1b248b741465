-- Where a number of parts is known, it is the number that is read off the word without asking.
use mathlib.Core.Path.{◌≡◌, refl, sym, ◌∙◌, ap}
use mathlib.Core.Bool.{Bool, true, false, cond}
use mathlib.Core.List.{List, [], ◌∷◌}
use mathlib.Core.Option.{Option, some, none, some-injective, none-ne-some}
use Prim.Native.Nat.{ℕ, zero, suc, ◌≤◌, ◌<◌}
use native.Mathlib.Omega.{arith}
use native.Mathlib.Decide.{ℕ_discrete}
use borrow.Author.Tests.{le-leb, lt-leb, leb-true, leb-false, ne_eqb}
use lib.Dec.{leb, eqb}
use lib.ListN.{length, get_elem?, get_or}
use Rattle.syntax.specs.Maybe.{◌>>=◌, given}
use Rattle.syntax.specs.Words.{arity_of, kind_of, number_of}
use Rattle.syntax.specs.Tables.{arity, known_arity}
use Rattle.syntax.specs.Kinds.{parts_of_kind}
use Rattle.syntax.specs.Parts.{part_count, known_parts}

-- an answer that is given: its test passed
pub given_some : {X : Type 0} (b : Bool) (x y : X) → given b x ≡ some y → (b ≡ true) × (x ≡ y)
given_some true x y e = (refl, some-injective x y e)
given_some false x y e = absurd (none-ne-some y e)

-- the number of arguments counts for a call alone
pub parts_any : (a k : ℕ) → (k ≡ 1 → ⊥) → parts_of_kind 0 k ≡ parts_of_kind a k
parts_any a k n = go (leb k 0) refl
  where
    go : (b : Bool) → leb k 0 ≡ b → parts_of_kind 0 k ≡ parts_of_kind a k
    go true e = simp (le-leb k 0 (leb-true k 0 e))
    go false e = simp (lt-leb k 0 (leb-false k 0 e), lt-leb k 1 (omega (arith, n, leb-false k 0 e)))

-- a call of the table, and one past it
pub known_at : (calls : List ℕ) (k : ℕ) → k < length calls
    → known_arity calls k ≡ given (leb (arity calls k) 3) (arity calls k)
known_at [] k h = absurd (omega arith)
known_at (w ∷ ws) zero h = refl
known_at (w ∷ ws) (suc k) h = known_at ws k (omega arith)

pub known_past : (calls : List ℕ) (k : ℕ) → length calls ≤ k → known_arity calls k ≡ none
known_past [] k h = refl
known_past (w ∷ ws) zero h = absurd (omega arith)
known_past (w ∷ ws) (suc k) h = known_past ws k (omega arith)

module _ (calls : List ℕ) where
  -- a known number of arguments: it is at most 3
  pub known_arity_lem : (k n : ℕ) → known_arity calls k ≡ some n → (arity calls k ≡ n) × (n ≤ 3)
  known_arity_lem k n e = at calls k e
    where
      word : (w : ℕ) → given (leb (arity_of w) 3) (arity_of w) ≡ some n → (arity_of w ≡ n) × (n ≤ 3)
      word w e = let g = given_some (leb (arity_of w) 3) (arity_of w) n e in (g.1, omega (arith, leb-true (arity_of w) 3 g.0, g.1))

      at : (ws : List ℕ) (j : ℕ) → (get_elem? ws j >>= λ w. given (leb (arity_of w) 3) (arity_of w)) ≡ some n
          → (arity_of (get_or ws j 0) ≡ n) × (n ≤ 3)
      at [] j e = absurd (none-ne-some n e)
      at (w ∷ ws) zero e = word w e
      at (w ∷ ws) (suc j) e = at ws j e

  -- by the fields of a word
  abbrev pub known_by : ℕ → ℕ → Option ℕ
  known_by k m = cond (eqb k 1) (known_arity calls m) (some 0) >>= λ a. given (leb k 11) (parts_of_kind a k)

  -- a known number of parts: the kind is known, and a call's number of arguments
  pub record Known (k m n : ℕ) : Type 0 where
    pub kind : k ≤ 11
    pub call : k ≡ 1 → known_arity calls m ≡ some (arity calls m)
    pub parts : parts_of_kind (arity calls m) k ≡ n

  bind_known : (o : Option ℕ) (n : ℕ) → (o >>= λ a. given true a) ≡ some n → o ≡ some n
  bind_known none n e = absurd (none-ne-some n e)
  bind_known (some a) n e = e

  pub known_by_lem : (k m n : ℕ) → known_by k m ≡ some n → Known k m n
  known_by_lem k m n e = by (ℕ_discrete k 1)
    where
      by : Dec (k ≡ 1) → Known k m n
      by (yes z) =
          let d : known_arity calls m ≡ some n = bind_known (known_arity calls m) n (ap (λ (j : ℕ). known_by j m) (sym z) ∙ e) in
          let a = (known_arity_lem m n d).0 in
          record {
            kind = omega (arith, z);
            call = λ _. d ∙ ap (λ (x : ℕ). some x) (sym a);
            parts = ap (parts_of_kind (arity calls m)) z ∙ a;
          }
      by (no z) =
          let g = given_some (leb k 11) (parts_of_kind 0 k) n
          (ap (λ (b : Bool). cond b (known_arity calls m) (some 0) >>= λ a. given (leb k 11) (parts_of_kind a k)) (sym (ne_eqb k 1 z)) ∙ e) in
          record {
            kind = leb-true k 11 g.0;
            call = λ y. absurd (z y);
            parts = sym (parts_any (arity calls m) k z) ∙ g.1;
          }

  -- of a word
  pub known_parts_lem : (w n : ℕ) → known_parts calls w ≡ some n → Known (kind_of w) (number_of w) n
  unfolding known_parts
  known_parts_lem w n e = known_by_lem (kind_of w) (number_of w) n e

  pub part_count_known : (w n : ℕ) → known_parts calls w ≡ some n → part_count calls w ≡ n
  unfolding part_count
  part_count_known w n e = (known_parts_lem w n e).parts
