-- Raising the budget or a ceiling keeps each accepted outcome of `normalize` as it is, answer and buffers.
use mathlib.Core.Path.{◌≡◌, refl, ap}
use mathlib.Core.Bool.{Bool}
use mathlib.Core.List.{List}
use Prim.Native.Nat.{ℕ}
use native.Mathlib.Omega.{arith}
use Rattle.syntax.specs.Tables.{Tables}
use Rattle.syntax.specs.Term.{Term}
use Rattle.typing.specs.Refusals.{Verdict, refused, accepted, TypedTerm, elaborate, normalize_limit}
use Rattle.reduction.specs.MayDrop.{may_drop}
use Rattle.reduction.specs.declared.Settings.{Settings}
use Rattle.reduction.specs.Reduction.{Progress, stopped, reached, reduce}
use Rattle.reduction.proofs.Exact.{refused as stops, refusal_number_lem, reduce_refused}
use Rattle.reduction.proofs.RaisedSettings.{Raised, raised_reduce}
use Rattle.outcomes.specs.Normalize.{reduced_to, checked_to, normalize_within, Buffers, capacity_of, outcome_of, normalize_outcome}

module _ (settings higher : Settings) (g : Raised settings higher) where
  reduced_kept : (pure : Term → Bool) (capacity A : ℕ) (t : Term) (p : Progress) → reduce pure capacity settings t ≡ p
      → (reduced_to A p).answer.refusal ≡ 0 → reduced_to A (reduce pure capacity higher t) ≡ reduced_to A p
  unfolding reduced_to
  reduced_kept pure capacity A t (stopped n counts) e z =
      absurd (omega (arith, z, (refusal_number_lem pure capacity (stops (reduce_refused pure capacity settings t n counts e))).0))
  reduced_kept pure capacity A t (reached left u counts) e z =
      ap (reduced_to A) (raised_reduce pure capacity settings higher g t u left counts e)

  checked_kept : (pure : Term → Bool) (capacity : ℕ) (v : Verdict TypedTerm) → (checked_to pure capacity settings v).answer.refusal ≡ 0
      → checked_to pure capacity higher v ≡ checked_to pure capacity settings v
  unfolding checked_to
  checked_kept pure capacity (refused n) z = refl
  checked_kept pure capacity (accepted x) z =
      reduced_kept pure capacity x.type x.term (reduce pure capacity settings x.term) refl z

  pub raised_outcome : (tables : Tables) (words : List ℕ) (before : Buffers)
      → (normalize_outcome settings tables words before).answer.refusal ≡ 0
      → normalize_outcome higher tables words before ≡ normalize_outcome settings tables words before
  unfolding normalize_outcome normalize_within
  raised_outcome tables words before z =
      ap (outcome_of before) (checked_kept (may_drop tables.calls) (capacity_of before) (elaborate normalize_limit tables words) z)
