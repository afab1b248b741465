-- Where the checks answer what those without units did, every public call does: without units, refused or accepted; and whatever these
-- checks did not refuse with 2 or 6.
use mathlib.Core.Path.{◌≡◌, refl}
use mathlib.Core.List.{List}
use mathlib.Core.Logic.{◌≢◌}
use lib.ListN.{replicate}
use Prim.Native.Nat.{ℕ}
use Rattle.syntax.specs.Tables.{Tables}
use Rattle.typing.specs.Refusals.{refused, accepted, TypedTerm}
use Rattle.typing.proofs.BeforeUnits.{former_elaborate, WithoutUnits, same_without_units, former_without}
use Rattle.typing.proofs.RefusedBeforeUnits.{same_unless_2_or_6}
use Rattle.reduction.specs.MayDrop.{may_drop}
use Rattle.outcomes.specs.ReadBundle.{Reading, read_bundle_outcome}
use Rattle.outcomes.specs.Listing.{written_to}
use Rattle.outcomes.specs.Respond.{bundle_words, tables_of, term_of, respond_outcome}
use Rattle.outcomes.proofs.OutcomesBy.{OutcomesBy, outcomes_by, respond_to_by, response_by}

-- the outcomes of the calls that are handed tables are those by the former checks
abbrev pub FormerOutcomes : Tables → List ℕ → Type 0
FormerOutcomes tables words = OutcomesBy (may_drop tables.calls) (λ limit. former_elaborate limit tables words) tables words

-- without units every outcome is the former one, refused or accepted
pub outcomes_without_units : (tables : Tables) (words : List ℕ) → WithoutUnits tables words → FormerOutcomes tables words
outcomes_without_units tables words h =
    outcomes_by _ _ tables words (λ limit x e. refl) (λ limit. same_without_units tables limit words h.types h.nodes)

-- whatever was accepted has its former outcomes, by any call
pub former_outcomes : (limit : ℕ) (tables : Tables) (words : List ℕ) (x : TypedTerm) → former_elaborate limit tables words ≡ accepted x
    → FormerOutcomes tables words
former_outcomes limit tables words x e = outcomes_without_units tables words (former_without limit tables words x e)

-- and so has whatever was not refused with 2 or 6
pub outcomes_unless_2_or_6 : (tables : Tables) (words : List ℕ)
    → ((limit : ℕ) → former_elaborate limit tables words ≢ refused 2) → ((limit : ℕ) → former_elaborate limit tables words ≢ refused 6)
    → FormerOutcomes tables words
outcomes_unless_2_or_6 tables words x y =
    outcomes_by _ _ tables words (λ limit x e. refl) (λ limit. same_unless_2_or_6 limit tables words (x limit) (y limit))

-- what the program writes for a reading, by the former checks
abbrev pub former_respond_to : Reading → List ℕ
former_respond_to r =
    let tables = tables_of r.lengths r.words in
    respond_to_by (may_drop tables.calls) (λ limit. former_elaborate limit tables (term_of r.lengths r.words)) r

-- a bundle whose tables and term have their former outcomes has its former response
pub former_response : (bytes buffer : List ℕ) → let r = read_bundle_outcome bytes (replicate bundle_words 0) in
    FormerOutcomes (tables_of r.lengths r.words) (term_of r.lengths r.words)
    → respond_outcome bytes buffer ≡ written_to buffer (former_respond_to r)
former_response bytes buffer h = response_by _ _ bytes buffer h
