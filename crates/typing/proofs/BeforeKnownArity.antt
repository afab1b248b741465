-- The checks as they were before decoding asked whether a call's number of arguments is known. Over a table that passes 4 it is known for
-- every call of a word that passes 6, so place 7 and all answers are as they were.
use mathlib.Core.Path.{◌≡◌, refl, sym, ◌∙◌, ap, subst}
use mathlib.Core.Bool.{Bool, true, false, ◌&&◌}
use mathlib.Core.List.{List, [], ◌∷◌}
use mathlib.Core.Option.{Option, some}
use lib.Dec.{T, ltb, eqb, leb→le, ltb→lt}
use lib.ListN.{length}
use borrow.Author.Tests.{le-leb}
use Prim.Native.Nat.{ℕ, zero, suc, ◌≤◌, ◌<◌}
use native.Mathlib.Omega.{arith}
use Rattle.syntax.specs.Maybe.{given}
use Rattle.syntax.specs.Words.{kind_of, number_of, type_of, arity_of}
use Rattle.syntax.specs.Tables.{Tables, arity, known_arity}
use Rattle.syntax.specs.Term.{Term}
use Rattle.syntax.specs.Decoding.{decode}
use Rattle.syntax.proofs.Options.{and_left, and_right}
use Rattle.syntax.proofs.KnownParts.{known_at}
use Rattle.syntax.proofs.FormerDecoding.{former_decode, CallsKnown, decode_same}
use Rattle.typing.specs.TableChecks.{every, lengths_fit, well_formed_types, distinct, well_formed_call, well_formed_calls, well_formed_inputs}
use Rattle.typing.specs.TermChecks.{well_formed_fields, well_formed_word}
use Rattle.typing.specs.Refusals.{Verdict, accepted, ◌>>=◌, require, provide, TypedTerm, lengths_place, tables_place, words_place}
use Rattle.typing.specs.Refusals.{scope_place, type_place, elaborate}
use Rattle.typing.proofs.CallCounts.{call_passes}

-- the checks as they were: place 7 by the former decoding
abbrev pub former_elaborate : ℕ → Tables → List ℕ → Verdict TypedTerm
former_elaborate limit tables words = do
  _ ← lengths_place limit tables words
  _ ← tables_place tables
  _ ← words_place (well_formed_word tables) words
  t ← provide 7 (former_decode tables.calls words)
  _ ← scope_place tables t
  A ← type_place tables t
  accepted (record { term = t; type = A })

-- every call of a table that passes 4 takes at most three arguments
few : (types : ℕ) (calls : List ℕ) → T (every (well_formed_call types) calls) → (k : ℕ) → k < length calls → arity calls k ≤ 3
few types [] h k l = absurd (omega (arith, l))
few types (w ∷ ws) h zero l =
    leb→le (arity_of w) 3 (call_passes types w (and_left (well_formed_call types w) (every (well_formed_call types) ws) h)).0
few types (w ∷ ws) h (suc k) l = few types ws (and_right (well_formed_call types w) (every (well_formed_call types) ws) h) k (omega (arith, l))

module _ (tables : Tables) (formed : T (well_formed_calls tables)) where
  -- so the number of a call in a word that passes 6 is known
  call_known : (k n A : ℕ) → T (well_formed_fields tables k n A) → k ≡ 1 → known_arity tables.calls n ≡ some (arity tables.calls n)
  unfolding well_formed_calls
  call_known k n A h e =
      let g : T (ltb n (length tables.calls) && eqb A 0) = subst (λ (j : ℕ). T (well_formed_fields tables j n A)) e h in
      let l = ltb→lt n (length tables.calls) (and_left (ltb n (length tables.calls)) (eqb A 0) g) in
      known_at tables.calls n l
      ∙ ap (λ (b : Bool). given b (arity tables.calls n))
      (le-leb (arity tables.calls n) 3 (few (length tables.types) tables.calls formed n l))

  calls_known : (ws : List ℕ) → T (every (well_formed_word tables) ws) → CallsKnown tables.calls ws
  unfolding CallsKnown
  calls_known [] h = tt
  calls_known (w ∷ ws) h = (
    call_known (kind_of w) (number_of w) (type_of w) (and_left (well_formed_word tables w) (every (well_formed_word tables) ws) h),
    calls_known ws (and_right (well_formed_word tables w) (every (well_formed_word tables) ws) h),
  )

  -- words that pass 6 over a table that passes 4 decode as they did
  pub decodes_as_before : (words : List ℕ) → T (every (well_formed_word tables) words)
      → former_decode tables.calls words ≡ decode tables.calls words
  decodes_as_before words h = decode_same tables.calls words (calls_known words h)

-- the same answer, refused or accepted
pub answers_as_before : (limit : ℕ) (tables : Tables) (words : List ℕ) → former_elaborate limit tables words ≡ elaborate limit tables words
unfolding elaborate
answers_as_before limit tables words =
    go (lengths_fit limit tables words) (well_formed_types 0 tables.types) (distinct tables.types) (well_formed_calls tables)
    (well_formed_inputs tables) (every (well_formed_word tables) words) refl refl
  where
    typed : Option Term → Verdict TypedTerm
    typed o = provide 7 o >>= λ t. scope_place tables t >>= λ _. type_place tables t >>= λ A. accepted (record { term = t; type = A })

    behind : (l t d c i w : Bool) → Option Term → Verdict TypedTerm
    behind l t d c i w o =
        require 1 l >>= λ _. (require 2 t >>= λ _. require 3 d >>= λ _. require 4 c >>= λ _. require 5 i) >>= λ _.
        require 6 w >>= λ _. typed o

    go : (l t d c i w : Bool) → well_formed_calls tables ≡ c → every (well_formed_word tables) words ≡ w
        → behind l t d c i w (former_decode tables.calls words) ≡ behind l t d c i w (decode tables.calls words)
    go false t d c i w p q = refl
    go true false d c i w p q = refl
    go true true false c i w p q = refl
    go true true true false i w p q = refl
    go true true true true false w p q = refl
    go true true true true true false p q = refl
    go true true true true true true p q = ap typed (decodes_as_before tables (subst T (sym p) tt) words (subst T (sym q) tt))
