-- Over a table where no call acts every outcome is the one that it was before calls could act: check 4 is the former one, and everything
-- may be dropped. So is every outcome of what the former checks did not refuse with 4.
use mathlib.Core.Path.{◌≡◌}
use mathlib.Core.Bool.{Bool, true}
use mathlib.Core.List.{List}
use mathlib.Core.Logic.{◌≢◌}
use lib.ListN.{replicate}
use Prim.Native.Nat.{ℕ}
use Rattle.syntax.specs.Tables.{Tables}
use Rattle.syntax.specs.Term.{Term}
use Rattle.typing.specs.Refusals.{refused, accepted, TypedTerm}
use Rattle.typing.proofs.BeforeActing.{NoneActs, former_elaborate, same_without_acting, former_without, same_unless_4}
use Rattle.reduction.proofs.MayDrop.{may_drop_all}
use Rattle.outcomes.specs.ReadBundle.{Reading, read_bundle_outcome}
use Rattle.outcomes.specs.Listing.{written_to}
use Rattle.outcomes.specs.Respond.{bundle_words, tables_of, term_of, respond_outcome}
use Rattle.outcomes.proofs.OutcomesBy.{OutcomesBy, outcomes_by, respond_to_by, response_by}

-- every call counted as free of effect
abbrev pub former_may_drop : Term → Bool
former_may_drop e = true

-- the outcomes of the calls that are handed tables are the former ones
abbrev pub FormerOutcomes : Tables → List ℕ → Type 0
FormerOutcomes tables words = OutcomesBy former_may_drop (λ limit. former_elaborate limit tables words) tables words

pub outcomes_without_acting : (tables : Tables) (words : List ℕ) → NoneActs tables → FormerOutcomes tables words
outcomes_without_acting tables words h =
    outcomes_by _ _ tables words (λ limit x e. may_drop_all tables.calls h) (λ limit. same_without_acting limit tables words h)

-- whatever was accepted has its former outcomes, by any call
pub former_outcomes : (limit : ℕ) (tables : Tables) (words : List ℕ) (x : TypedTerm) → former_elaborate limit tables words ≡ accepted x
    → FormerOutcomes tables words
former_outcomes limit tables words x e = outcomes_without_acting tables words (former_without limit tables words x e)

-- and so has whatever was not refused with 4
pub outcomes_unless_4 : (tables : Tables) (words : List ℕ) → ((limit : ℕ) → former_elaborate limit tables words ≢ refused 4)
    → FormerOutcomes tables words
outcomes_unless_4 tables words h =
    outcomes_by _ _ tables words (λ limit x e. may_drop_all tables.calls (former_without limit tables words x e))
    (λ limit. same_unless_4 limit tables words (h limit))

-- what the program wrote for a reading
abbrev pub former_respond_to : Reading → List ℕ
former_respond_to r =
    respond_to_by former_may_drop (λ limit. former_elaborate limit (tables_of r.lengths r.words) (term_of r.lengths r.words)) r

-- a bundle whose tables and term have their former outcomes has its former response
pub former_response : (bytes buffer : List ℕ) → let r = read_bundle_outcome bytes (replicate bundle_words 0) in
    FormerOutcomes (tables_of r.lengths r.words) (term_of r.lengths r.words)
    → respond_outcome bytes buffer ≡ written_to buffer (former_respond_to r)
former_response bytes buffer h = response_by _ _ bytes buffer h
