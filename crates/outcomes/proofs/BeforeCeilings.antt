-- With no ceilings and a 32-bit budget every outcome is the one that it was before there were ceilings, the program's too, and none is
-- refused with 13.
use mathlib.Core.Path.{◌≡◌, refl, ◌∙◌, ap}
use mathlib.Core.Bool.{Bool}
use mathlib.Core.List.{List, []}
use lib.ListN.{replicate}
use Prim.Native.Nat.{ℕ, zero, suc, ◌≤◌}
use native.Mathlib.Omega.{arith}
use Rattle.syntax.specs.Tables.{Tables}
use Rattle.syntax.specs.Term.{Term}
use Rattle.syntax.proofs.Options.{Every, every_at}
use Rattle.typing.specs.Refusals.{Verdict, refused, accepted, TypedTerm, elaborate, normalize_limit}
use Rattle.typing.proofs.Order.{refusal_of, refusal_below}
use Rattle.reduction.specs.MayDrop.{may_drop}
use Rattle.reduction.specs.Reduction.{zero_counts, no_ceilings, Progress, stopped, reached, reduce}
use Rattle.reduction.proofs.BeforeCeilings.{former_reduce, no_ceilings_as_before, no_ceilings_no_13}
use Rattle.outcomes.specs.Normalize.{Normalized, reduced_to, checked_to, normalize_within, max_capacity, Buffers, capacity_of, Outcome}
use Rattle.outcomes.specs.Normalize.{outcome_of, normalize_outcome}
use Rattle.outcomes.specs.ReadBundle.{Reading, read_bundle_outcome}
use Rattle.outcomes.specs.Listing.{listing_of, Written, written_to}
use Rattle.outcomes.specs.Respond.{bundle_words, tables_of, term_of, unread, listed, respond_to, response, respond_outcome}

-- the outcomes as they were, with a budget alone
unfoldable pub former_checked_to : (Term → Bool) → ℕ → ℕ → Verdict TypedTerm → Normalized
former_checked_to pure capacity budget (refused n) =
    record { answer = record { refusal = n; ty = 0; length = 0; counts = zero_counts }; words = [] }
former_checked_to pure capacity budget (accepted x) = reduced_to x.type (former_reduce pure capacity budget x.term)

unfoldable pub former_within : ℕ → ℕ → Tables → List ℕ → Normalized
former_within capacity budget tables words =
    former_checked_to (may_drop tables.calls) capacity budget (elaborate normalize_limit tables words)

unfoldable pub former_normalize_outcome : ℕ → Tables → List ℕ → Buffers → Outcome
former_normalize_outcome budget tables words b = outcome_of b (former_within (capacity_of b) budget tables words)

unfoldable pub former_respond_to : Reading → List ℕ
former_respond_to r = elim r.lengths.refusal [
  | zero ↦ listed (former_within max_capacity 1000000 (tables_of r.lengths r.words) (term_of r.lengths r.words))
  | suc n ↦ listing_of (unread (suc n)) []
]

unfoldable pub former_respond_outcome : List ℕ → List ℕ → Written
former_respond_outcome bytes buffer = written_to buffer (former_respond_to (read_bundle_outcome bytes (replicate bundle_words 0)))

module _ (budget : ℕ) (h : budget ≤ 4294967295) where
  checked_as_before : (pure : Term → Bool) (capacity : ℕ) (v : Verdict TypedTerm)
      → checked_to pure capacity (no_ceilings budget) v ≡ former_checked_to pure capacity budget v
  unfolding checked_to former_checked_to
  checked_as_before pure capacity (refused n) = refl
  checked_as_before pure capacity (accepted x) = ap (reduced_to x.type) (no_ceilings_as_before pure capacity budget h x.term)

  pub within_as_before : (capacity : ℕ) (tables : Tables) (words : List ℕ)
      → normalize_within capacity (no_ceilings budget) tables words ≡ former_within capacity budget tables words
  unfolding normalize_within former_within
  within_as_before capacity tables words =
      checked_as_before (may_drop tables.calls) capacity (elaborate normalize_limit tables words)

  -- the outcome of `normalize`
  pub normalize_as_before : (tables : Tables) (words : List ℕ) (before : Buffers)
      → normalize_outcome (no_ceilings budget) tables words before ≡ former_normalize_outcome budget tables words before
  unfolding normalize_outcome former_normalize_outcome
  normalize_as_before tables words before = ap (outcome_of before) (within_as_before (capacity_of before) tables words)

  -- a reduction is not refused with 13, and a check's number is at most 9
  reduced_not_13 : (pure : Term → Bool) (capacity A : ℕ) (t : Term) (p : Progress) → reduce pure capacity (no_ceilings budget) t ≡ p
      → (reduced_to A p).answer.refusal ≡ 13 → ⊥
  unfolding reduced_to
  reduced_not_13 pure capacity A t (stopped n counts) e z =
      no_ceilings_no_13 pure capacity budget h t counts (e ∙ ap {B = Progress} (λ (m : ℕ). stopped m counts) z)
  reduced_not_13 pure capacity A t (reached left u counts) e z = omega (arith, z)

  checked_not_13 : (pure : Term → Bool) (capacity : ℕ) (v : Verdict TypedTerm) → Every (λ n. n ≤ 9) (refusal_of v)
      → (checked_to pure capacity (no_ceilings budget) v).answer.refusal ≡ 13 → ⊥
  unfolding checked_to
  checked_not_13 pure capacity (refused n) s z = omega (arith, every_at n s refl, z)
  checked_not_13 pure capacity (accepted x) s z =
      reduced_not_13 pure capacity x.type x.term (reduce pure capacity (no_ceilings budget) x.term) refl z

  pub within_not_13 : (capacity : ℕ) (tables : Tables) (words : List ℕ)
      → (normalize_within capacity (no_ceilings budget) tables words).answer.refusal ≡ 13 → ⊥
  unfolding normalize_within
  within_not_13 capacity tables words z = checked_not_13 (may_drop tables.calls) capacity (elaborate normalize_limit tables words)
      (refusal_below normalize_limit tables words) z

  pub normalize_not_13 : (tables : Tables) (words : List ℕ) (before : Buffers)
      → (normalize_outcome (no_ceilings budget) tables words before).answer.refusal ≡ 13 → ⊥
  unfolding normalize_outcome
  normalize_not_13 tables words before z = within_not_13 (capacity_of before) tables words z

-- the program has no ceilings, so it writes what it wrote
respond_to_as_before : (r : Reading) → respond_to r ≡ former_respond_to r
unfolding respond_to former_respond_to
respond_to_as_before r = ap {B = List ℕ} (λ xs. elim r.lengths.refusal [ zero ↦ xs | suc n ↦ listing_of (unread (suc n)) [] ])
    (ap listed (within_as_before 1000000 (omega arith) max_capacity (tables_of r.lengths r.words) (term_of r.lengths r.words)))

pub respond_as_before : (bytes buffer : List ℕ) → respond_outcome bytes buffer ≡ former_respond_outcome bytes buffer
unfolding respond_outcome response former_respond_outcome
respond_as_before bytes buffer = ap (written_to buffer) (respond_to_as_before (read_bundle_outcome bytes (replicate bundle_words 0)))
