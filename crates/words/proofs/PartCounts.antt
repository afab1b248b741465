-- A call's parts are in the calls' table, any other node's are decided by its kind, and a table of the kinds is right if it is at each.
use mathlib.Core.Path.{◌≡◌, refl, sym, ◌∙◌, ap, subst}
use mathlib.Core.Bool.{Bool, true, false, cond, ◌&&◌, ◌||◌, not, true≢false}
use mathlib.Core.List.{List}
use mathlib.Core.Option.{Option, some, none}
use Prim.Native.Nat.{ℕ, zero, suc, ◌≤◌, ◌<◌}
use native.Mathlib.Omega.{arith}
use native.Mathlib.Decide.{ℕ_discrete}
use borrow.Author.Tests.{eqb-true, ne_eqb, leb-true}
use lib.Dec.{leb, eqb}
use lib.ListN.{length, get_or}
use Rattle.syntax.specs.Maybe.{◌>>=◌, given}
use Rattle.syntax.specs.Words.{kind_of, number_of, count_of}
use Rattle.syntax.specs.Tables.{arity, known_arity}
use Rattle.syntax.specs.Kinds.{parts_of_kind}
use Rattle.syntax.specs.Parts.{part_count, known_parts}
use Rattle.syntax.proofs.KnownParts.{parts_any, known_by, known_at, known_past}
use Rattle.words.specs.Shapes.{Owes, owed_for, owed_by_kind, owed_by_count}
use Rattle.words.proofs.Extents.{parts_le}

pub of_call : (calls : List ℕ) (w k n r : ℕ) → k ≡ kind_of w → k ≡ 1 → n ≡ number_of w → (r ≡ arity calls n) × (r ≤ 15)
    → (r ≡ part_count calls w)
    × (r ≤ 15)
unfolding part_count
of_call calls w k n r e t f (p, l) =
    (p ∙ ap (arity calls) f ∙ ap (λ (x : ℕ). parts_of_kind (arity calls (number_of w)) x) (sym (sym e ∙ t)), l)

pub of_kind : (calls : List ℕ) (w k r : ℕ) → k ≡ kind_of w → (k ≡ 1 → ⊥) → r ≡ parts_of_kind 0 k → (r ≡ part_count calls w) × (r ≤ 15)
unfolding part_count
of_kind calls w k r e n p = (
  p ∙ parts_any (arity calls (number_of w)) k n ∙ ap (λ (x : ℕ). parts_of_kind (arity calls (number_of w)) x) e,
  omega
      (arith, p, parts_le 0 k (omega arith)),
)

-- what a table says of a word is what it owes
for_owes : (many : ℕ) (o : Option ℕ) (r : ℕ) → r ≡ owed_for o → many ≤ 8192 → Owes many o r
for_owes many none r e h = omega (arith, e, h)
for_owes many (some n) r e h = e

given_few : (b : Bool) (n : ℕ) → (b ≡ true → n ≤ 8192) → owed_for (given b n) ≤ 8192
given_few true n h = h refl
given_few false n h = omega arith

-- a call owes what the table of the counts says, and many past the calls' table
module _ (calls : List ℕ) (n many : ℕ) (few : many ≤ 8192) where
  abbrev Known : ℕ → Type 0
  Known r = Owes many (known_arity calls n) r × (r ≤ 8192)

  pub owed_inside : (r : ℕ) → n < length calls → r ≡ owed_by_count (count_of (get_or calls n 0)) → Known r
  owed_inside r h e =
      let a = arity calls n in (
        for_owes many (known_arity calls n) r (e ∙ sym (ap owed_for (known_at calls n h))) few,
        omega (arith, e, given_few (leb a 3) a λ q. omega (arith, leb-true a 3 q)),
      )

  pub owed_past : length calls ≤ n → Known many
  owed_past h = (subst (λ (o : Option ℕ). Owes many o many) (sym (known_past calls n h)) (omega arith), few)

-- what a word owes: a call by its number, any other word by its kind
pub owed_by_call : (calls : List ℕ) (w k n many r : ℕ) → k ≡ kind_of w → k ≡ 1 → n ≡ number_of w → Owes many (known_arity calls n) r
    → Owes many (known_parts calls w) r
unfolding known_parts
owed_by_call calls w k n many r e t f p = subst (λ (o : Option ℕ). Owes many o r)
    (ap (known_arity calls) f ∙ given_all (known_arity calls (number_of w)) ∙ ap (λ (j : ℕ). known_by calls j (number_of w)) (sym (sym e ∙ t))) p
  where
    given_all : (o : Option ℕ) → o ≡ (o >>= λ a. some a)
    given_all none = refl
    given_all (some a) = refl

pub owed_by_kind_lem : (calls : List ℕ) (w k many r : ℕ) → k ≡ kind_of w → (k ≡ 1 → ⊥) → r ≡ owed_by_kind k → many ≤ 8192
    → Owes many (known_parts calls w) r × (r ≤ 8192)
unfolding known_parts
owed_by_kind_lem calls w k many r e n p h = (
  subst (λ (o : Option ℕ). Owes many o r)
      (ap (λ (b : Bool). cond b (known_arity calls (number_of w)) (some 0) >>= λ a. given (leb k 11) (parts_of_kind a k)) (sym (ne_eqb k 1 n))
      ∙ ap (λ (j : ℕ). known_by calls j (number_of w)) e)
      (for_owes many (given (leb k 11) (parts_of_kind 0 k)) r p h),
  omega (arith, p, given_few (leb k 11) (parts_of_kind 0 k) λ _. omega (arith, parts_le 0 k (omega arith))),
)

-- a test passes at every number below n
abbrev pub passes : (ℕ → Bool) → ℕ → Bool
passes f zero = true
passes f (suc n) = f n && passes f n

passes_below : (f : ℕ → Bool) (n k : ℕ) → passes f n ≡ true → k < n → f k ≡ true
passes_below f zero k e l = absurd (omega (arith, l))
passes_below f (suc n) k e l = go (f n) refl e (ℕ_discrete k n) (λ t d. passes_below f n k t d)
  where
    go : (b : Bool) → f n ≡ b → (b && passes f n) ≡ true → Dec (k ≡ n) → (passes f n ≡ true → k < n → f k ≡ true) → f k ≡ true
    go true d t (yes q) h = ap f q ∙ d
    go true d t (no q) h = h t (omega (arith, l, q))
    go false d t q h = absurd (true≢false (sym t))

-- a table of the sixteen kinds that is right at each by computation
pub kinds_agree : (f g : ℕ → ℕ) → passes (λ j. eqb (f j) (g j)) 16 ≡ true → (k : ℕ) → k < 16 → f k ≡ g k
kinds_agree f g e k l = eqb-true _ _ (passes_below (λ j. eqb (f j) (g j)) 16 k e l)

pub kinds_imply : (f g : ℕ → Bool) → passes (λ j. not (f j) || g j) 16 ≡ true → (k : ℕ) → k < 16 → f k ≡ true → g k ≡ true
kinds_imply f g e k l h = implied (f k) (g k) (passes_below (λ j. not (f j) || g j) 16 k e l) h
  where
    implied : (b c : Bool) → (not b || c) ≡ true → b ≡ true → c ≡ true
    implied true c d h = d
    implied false c d h = absurd (true≢false (sym h))
