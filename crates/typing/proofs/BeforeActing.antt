-- The checks as they were before calls could act: check 4 read the count as the number of arguments. Over a table where no call acts both
-- answer the same, and so does whatever reads a call word; what the former check 4 passed has no such call, so any former answer but a
-- refusal with 4 stays.
use mathlib.Core.Path.{◌≡◌, refl, sym, ◌∙◌, ap, ap₂, subst}
use mathlib.Core.Bool.{Bool, true, false, ◌&&◌, ◌||◌}
use mathlib.Core.List.{List, [], ◌∷◌}
use mathlib.Core.Logic.{◌≢◌}
use mathlib.Core.Option.{some}
use lib.Dec.{T, leb, ltb, eqb, leb→le}
use lib.ListN.{length, take, drop, get_elem?}
use borrow.Author.Tests.{lt-leb}
use Prim.Native.Nat.{ℕ, zero, suc, ◌≤◌}
use native.Mathlib.Omega.{arith}
use Rattle.syntax.specs.Lists.{any}
use Rattle.syntax.specs.Maybe.{◌>>=◌, given}
use Rattle.syntax.specs.Words.{count_of, acts_of, result_of, argument_fields}
use Rattle.syntax.specs.Tables.{Tables, Signature, signature_of, signature, known_arity, some_acts}
use Rattle.syntax.proofs.Options.{and_left, and_right}
use Rattle.syntax.proofs.AnyMember.{or_false_left, or_false_right}
use Rattle.syntax.proofs.CallWords.{arity_is_count}
use Rattle.typing.specs.TableChecks.{every, lengths_fit, well_formed_types, distinct, well_formed_call, well_formed_calls}
use Rattle.typing.specs.TermChecks.{well_formed_word}
use Rattle.typing.specs.Refusals.{Verdict, refused, accepted, TypedTerm, elaborate}
use Rattle.typing.proofs.PlacesBy.{elaborate_by, elaborate_by_lem, accepted_by}

-- former check 4
abbrev pub former_call : ℕ → ℕ → Bool
former_call types w =
    leb (count_of w) 3 && ltb (result_of w) types
    && every (λ A. ltb A types) (take (count_of w) (argument_fields w))
    && every (λ A. eqb A 0) (drop (count_of w) (argument_fields w))

abbrev pub former_calls : Tables → Bool
former_calls tables = every (former_call (length tables.types)) tables.calls

-- the signature that a call word held
abbrev pub former_signature_of : ℕ → Signature
former_signature_of w = record { arguments = take (count_of w) (argument_fields w); result = result_of w }

-- the checks as they were. Places 7 and 9 read call words by today's definitions: of a table that passed the former check 4 these say what
-- they did (`ReadAsBefore`).
abbrev pub former_elaborate : ℕ → Tables → List ℕ → Verdict TypedTerm
former_elaborate limit tables words =
    elaborate_by (well_formed_types 0 tables.types) (former_calls tables) (every (well_formed_word tables) words) limit tables words

-- no call of the table acts
abbrev pub NoneActs : Tables → Type 0
NoneActs tables = some_acts tables.calls ≡ false

-- what is read of a call word: how many arguments the call takes, and its signature
pub record ReadAsBefore (tables : Tables) : Type 0 where
  pub arities : (k : ℕ) → known_arity tables.calls k ≡ (get_elem? tables.calls k >>= λ w. given (leb (count_of w) 3) (count_of w))
  pub signatures : (k : ℕ) → signature tables k ≡ (get_elem? tables.calls k >>= λ w. some (former_signature_of w))

signature_same : (calls : List ℕ) → some_acts calls ≡ false → (k : ℕ)
    → (get_elem? calls k >>= λ w. some (signature_of w)) ≡ (get_elem? calls k >>= λ w. some (former_signature_of w))
unfolding any
signature_same [] h k = refl
signature_same (w ∷ ws) h zero = ap (λ (n : ℕ). some (record { arguments = take n (argument_fields w); result = result_of w }))
    (arity_is_count w (or_false_left (acts_of w) (some_acts ws) h))
signature_same (w ∷ ws) h (suc k) = signature_same ws (or_false_right (acts_of w) (some_acts ws) h) k

arity_same : (calls : List ℕ) → some_acts calls ≡ false → (k : ℕ)
    → known_arity calls k ≡ (get_elem? calls k >>= λ w. given (leb (count_of w) 3) (count_of w))
unfolding any
arity_same [] h k = refl
arity_same (w ∷ ws) h zero = ap (λ (n : ℕ). given (leb n 3) n) (arity_is_count w (or_false_left (acts_of w) (some_acts ws) h))
arity_same (w ∷ ws) h (suc k) = arity_same ws (or_false_right (acts_of w) (some_acts ws) h) k

pub read_as_before : (tables : Tables) → NoneActs tables → ReadAsBefore tables
read_as_before tables h = record {
  arities = arity_same tables.calls h;
  signatures = signature_same tables.calls h;
}

-- check 4 of words that do not act
calls_same : (types : ℕ) (calls : List ℕ) → some_acts calls ≡ false → every (well_formed_call types) calls ≡ every (former_call types) calls
unfolding any
calls_same types [] h = refl
calls_same types (w ∷ ws) h = ap₂ ◌&&◌ (ap read (arity_is_count w (or_false_left (acts_of w) (some_acts ws) h)))
    (calls_same types ws (or_false_right (acts_of w) (some_acts ws) h))
  where
    read : ℕ → Bool
    read n =
        leb n 3 && ltb (result_of w) types && every (λ A. ltb A types) (take n (argument_fields w))
        && every (λ A. eqb A 0) (drop n (argument_fields w))

-- where no call acts: the same answer, refused or accepted
pub same_without_acting : (limit : ℕ) (tables : Tables) (words : List ℕ) → NoneActs tables
    → elaborate limit tables words ≡ former_elaborate limit tables words
unfolding well_formed_calls
same_without_acting limit tables words h = elaborate_by_lem limit tables words
    ∙ ap (λ (a : Bool). elaborate_by (well_formed_types 0 tables.types) a (every (well_formed_word tables) words) limit tables words)
    (calls_same (length tables.types) tables.calls h)

-- what the former check 4 passed does not act
none_act : (types : ℕ) (calls : List ℕ) → T (every (former_call types) calls) → some_acts calls ≡ false
unfolding any
none_act types [] h = refl
none_act types (w ∷ ws) h =
    let a = leb (count_of w) 3 in
    let b = ltb (result_of w) types in
    let c = every (λ A. ltb A types) (take (count_of w) (argument_fields w)) in
    let d = every (λ A. eqb A 0) (drop (count_of w) (argument_fields w)) in
    let f = and_left (a && b && c && d) (every (former_call types) ws) h in
    let few : count_of w ≤ 3 = leb→le (count_of w) 3 (and_left a b (and_left (a && b) c (and_left (a && b && c) d f))) in
    ap₂ ◌||◌ (lt-leb 8 (count_of w) (omega (arith, few))) (none_act types ws (and_right (a && b && c && d) (every (former_call types) ws) h))

pub former_none_acts : (tables : Tables) → T (former_calls tables) → NoneActs tables
former_none_acts tables h = none_act (length tables.types) tables.calls h

-- what the former checks accepted has no acting call
pub former_without : (limit : ℕ) (tables : Tables) (words : List ℕ) (x : TypedTerm) → former_elaborate limit tables words ≡ accepted x
    → NoneActs tables
former_without limit tables words x e = former_none_acts tables (accepted_by limit tables words _ _ _ e).1

module _ (limit : ℕ) (tables : Tables) (words : List ℕ) where
  abbrev by : Bool → Bool → Verdict TypedTerm
  by check₂ check₄ = elaborate_by check₂ check₄ (every (well_formed_word tables) words) limit tables words

  -- where check 4 fails and the refusal is not 4, a test before it failed
  earlier : (l t d n : Bool) → lengths_fit limit tables words ≡ l → distinct tables.types ≡ d → by t false ≢ refused 4
      → by t n ≡ by t false
  unfolding elaborate_by
  earlier false t d n e f x = rw e refl
  earlier true false d n e f x = rw e refl
  earlier true true false n e f x = rw (e, f) refl
  earlier true true true n e f x = absurd (x (rw (e, f) refl))

  -- any answer of the former checks but a refusal with 4 is the answer of the checks
  pub same_unless_4 : former_elaborate limit tables words ≢ refused 4 → elaborate limit tables words ≡ former_elaborate limit tables words
  same_unless_4 x = go (former_calls tables) refl
    where
      go : (b : Bool) → former_calls tables ≡ b → elaborate limit tables words ≡ former_elaborate limit tables words
      go true e = same_without_acting limit tables words (former_none_acts tables (subst T (sym e) tt))
      go false e =
          let t = well_formed_types 0 tables.types in
          elaborate_by_lem limit tables words
          ∙ earlier _ t _ (well_formed_calls tables) refl refl (subst (λ (b : Bool). by t b ≢ refused 4) e x)
          ∙ ap (by t) (sym e)
