-- The places of the checks in their order, given what 2, 4 and 6 answer: so the checks can be compared with others that differ there.
use mathlib.Core.Path.{◌≡◌, refl, subst}
use mathlib.Core.Bool.{Bool}
use mathlib.Core.List.{List}
use lib.Dec.{T}
use Prim.Native.Nat.{ℕ}
use Rattle.syntax.specs.Tables.{Tables}
use Rattle.syntax.specs.Decoding.{decode}
use Rattle.typing.specs.Infer.{infer}
use Rattle.typing.specs.TableChecks.{every, lengths_fit, well_formed_types, distinct, well_formed_calls, well_formed_inputs}
use Rattle.typing.specs.TermChecks.{well_formed_word, scoped}
use Rattle.typing.specs.Refusals.{Verdict, accepted, ◌>>=◌, require, TypedTerm, lengths_place, term_place, scope_place, type_place}
use Rattle.typing.specs.Refusals.{elaborate}
use Rattle.typing.proofs.Accepted.{Verdicts, refusal, passed, after, required, provided}

-- the places 2 to 5
abbrev pub tables_place_by : Bool → Bool → Tables → Verdict Bool
tables_place_by check₂ check₄ tables = do
  _ ← require 2 check₂
  _ ← require 3 (distinct tables.types)
  _ ← require 4 check₄
  require 5 (well_formed_inputs tables)

-- all places
unfoldable pub elaborate_by : Bool → Bool → Bool → ℕ → Tables → List ℕ → Verdict TypedTerm
elaborate_by check₂ check₄ check₆ limit tables words = do
  _ ← lengths_place limit tables words
  _ ← tables_place_by check₂ check₄ tables
  _ ← require 6 check₆
  t ← term_place tables words
  _ ← scope_place tables t
  A ← type_place tables t
  accepted (record { term = t; type = A })

pub elaborate_by_lem : (limit : ℕ) (tables : Tables) (words : List ℕ)
    → elaborate limit tables words
    ≡ elaborate_by (well_formed_types 0 tables.types) (well_formed_calls tables) (every (well_formed_word tables) words) limit tables words
unfolding elaborate elaborate_by
elaborate_by_lem limit tables words = refl

-- what an accepted verdict says of 2, 4 and 6
whatever : {X : Type 0} {P : X → Type 0} {Q : Type 0} {v : Verdict X} → Q → Verdicts P v → Verdicts (λ _. Q) v
whatever q (refusal n) = refusal n
whatever q (passed p) = passed q

tables_passed : (tables : Tables) (a b : Bool) → Verdicts (λ _. T a × T b) (tables_place_by a b tables)
tables_passed tables a b =
    after _ (required 1 a) λ _ h.
    after _ (required 2 (distinct tables.types)) λ _ _.
    after _ (required 3 b) λ _ k.
    whatever (h, k) (required 4 (well_formed_inputs tables))

module _ (limit : ℕ) (tables : Tables) (words : List ℕ) (a b c : Bool) where
  all_passed : Verdicts (λ _. T a × T b × T c) (elaborate_by a b c limit tables words)
  unfolding elaborate_by
  all_passed =
      after _ (required 0 (lengths_fit limit tables words)) λ _ _.
      after _ (tables_passed tables a b) λ _ h.
      after _ (required 5 c) λ _ k.
      after _ (provided 6 (decode tables.calls words)) λ t _.
      after _ (required 7 (scoped tables t)) λ _ _.
      after _ (provided 8 (infer tables t tables.inputs)) λ A _.
      passed (h.0, h.1, k)

  pub accepted_by : {x : TypedTerm} → elaborate_by a b c limit tables words ≡ accepted x → T a × T b × T c
  accepted_by {x} e = at (subst (Verdicts _) e all_passed)
    where
      at : Verdicts (λ _. T a × T b × T c) (accepted x) → T a × T b × T c
      at (passed p) = p
