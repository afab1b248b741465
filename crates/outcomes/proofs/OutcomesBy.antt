-- The outcomes of the public calls as functions of two things: what may be dropped, and the verdict of the checks at each limit. Where
-- these are the former ones, so is every outcome.
use mathlib.Core.Path.{◌≡◌, refl, ◌∙◌, ap}
use mathlib.Core.Bool.{Bool}
use mathlib.Core.List.{List, []}
use lib.ListN.{replicate}
use Prim.Native.Nat.{ℕ, zero, suc}
use Rattle.syntax.specs.Tables.{Tables}
use Rattle.syntax.specs.Term.{Term}
use Rattle.typing.specs.Refusals.{Verdict, refused, accepted, TypedTerm, elaborate, normalize_limit, other_limit}
use Rattle.reduction.specs.MayDrop.{may_drop}
use Rattle.reduction.specs.declared.Settings.{Settings}
use Rattle.outcomes.specs.Check.{checked_of, check_outcome}
use Rattle.outcomes.specs.IsNormal.{tested_of, is_normal_outcome}
use Rattle.outcomes.specs.FreeInputs.{read_of, free_inputs_outcome}
use Rattle.outcomes.specs.Normalize.{Normalized, Buffers, outcome_of, capacity_of, max_capacity, checked_to, normalize_within}
use Rattle.outcomes.specs.Normalize.{normalize_outcome}
use Rattle.outcomes.specs.ReadBundle.{Reading, read_bundle_outcome}
use Rattle.outcomes.specs.Listing.{listing_of, written_to}
use Rattle.outcomes.specs.Respond.{program_settings, bundle_words, tables_of, term_of, unread, listed, respond_to, response}
use Rattle.outcomes.specs.Respond.{respond_outcome}

-- the outcomes of the calls that are handed tables
pub record OutcomesBy (pure : Term → Bool) (verdict : ℕ → Verdict TypedTerm) (tables : Tables) (words : List ℕ) : Type 0 where
  pub check : check_outcome tables words ≡ checked_of (verdict other_limit)
  pub normal : is_normal_outcome tables words ≡ tested_of pure (verdict other_limit)
  pub inputs : free_inputs_outcome tables words ≡ read_of (verdict other_limit)
  pub within : (capacity : ℕ) (settings : Settings)
      → normalize_within capacity settings tables words ≡ checked_to pure capacity settings (verdict normalize_limit)
  pub normalize : (settings : Settings) (b : Buffers)
      → normalize_outcome settings tables words b ≡ outcome_of b (checked_to pure (capacity_of b) settings (verdict normalize_limit))

-- what may be dropped plays a part only where the verdict accepts
module _ (p q : Term → Bool) (v : Verdict TypedTerm) (same : (x : TypedTerm) → v ≡ accepted x → p ≡ q) where
  tested_same : tested_of p v ≡ tested_of q v
  tested_same = go v same
    where
      go : (v : Verdict TypedTerm) → ((x : TypedTerm) → v ≡ accepted x → p ≡ q) → tested_of p v ≡ tested_of q v
      go (refused n) h = refl
      go (accepted x) h = ap (λ (r : Term → Bool). tested_of r (accepted x)) (h x refl)

  checked_same : (capacity : ℕ) (settings : Settings) → checked_to p capacity settings v ≡ checked_to q capacity settings v
  unfolding checked_to
  checked_same capacity settings = go v same
    where
      go : (v : Verdict TypedTerm) → ((x : TypedTerm) → v ≡ accepted x → p ≡ q)
          → checked_to p capacity settings v ≡ checked_to q capacity settings v
      go (refused n) h = refl
      go (accepted x) h = ap (λ (r : Term → Bool). checked_to r capacity settings (accepted x)) (h x refl)

pub outcomes_by : (pure : Term → Bool) (verdict : ℕ → Verdict TypedTerm) (tables : Tables) (words : List ℕ)
    → ((limit : ℕ) (x : TypedTerm) → verdict limit ≡ accepted x → may_drop tables.calls ≡ pure)
    → ((limit : ℕ) → elaborate limit tables words ≡ verdict limit) → OutcomesBy pure verdict tables words
unfolding check_outcome is_normal_outcome free_inputs_outcome normalize_within normalize_outcome
outcomes_by pure verdict tables words drops same =
    let today = may_drop tables.calls in
    let checks : (capacity : ℕ) (settings : Settings)
    → checked_to today capacity settings (elaborate normalize_limit tables words)
    ≡ checked_to pure capacity settings (verdict normalize_limit) =
    λ capacity settings. ap (checked_to today capacity settings) (same normalize_limit)
    ∙ checked_same today pure (verdict normalize_limit) (drops normalize_limit) capacity settings in
    record {
      check = ap checked_of (same other_limit);
      normal = ap (tested_of today) (same other_limit) ∙ tested_same today pure (verdict other_limit) (drops other_limit);
      inputs = ap read_of (same other_limit);
      within = checks;
      normalize = λ settings b. ap (outcome_of b) (checks (capacity_of b) settings);
    }

-- what the program writes for a reading
abbrev pub respond_to_by : (Term → Bool) → (ℕ → Verdict TypedTerm) → Reading → List ℕ
respond_to_by pure verdict r = elim r.lengths.refusal [
  | zero ↦ listed (checked_to pure max_capacity program_settings (verdict normalize_limit))
  | suc n ↦ listing_of (unread (suc n)) []
]

-- a bundle's response, from the outcomes of its tables and term
pub response_by : (pure : Term → Bool) (verdict : ℕ → Verdict TypedTerm) (bytes buffer : List ℕ)
    → let r = read_bundle_outcome bytes (replicate bundle_words 0) in
    OutcomesBy pure verdict (tables_of r.lengths r.words) (term_of r.lengths r.words)
    → respond_outcome bytes buffer ≡ written_to buffer (respond_to_by pure verdict r)
unfolding respond_outcome response respond_to
response_by pure verdict bytes buffer h =
    let r = read_bundle_outcome bytes (replicate bundle_words 0) in
    ap (λ (x : Normalized). written_to buffer (elim r.lengths.refusal as (λ _. List ℕ) [
      | zero ↦ listed x
      | suc n ↦ listing_of (unread (suc n)) []
    ])) (h.within max_capacity program_settings)
