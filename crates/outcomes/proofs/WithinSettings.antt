-- The outcome of `normalize` for words that the checks accept: accepted exactly if the term's sequence stays within the budget, the
-- ceilings and the capacity, and refused with 13 exactly where its steps meet a ceiling.
use mathlib.Core.Path.{◌≡◌, refl, sym, ◌∙◌, ap}
use mathlib.Core.Bool.{Bool}
use mathlib.Core.List.{List, []}
use Prim.Native.Nat.{ℕ}
use native.Mathlib.Omega.{arith}
use Rattle.syntax.specs.Tables.{Tables}
use Rattle.syntax.specs.Term.{Term}
use Rattle.syntax.specs.Encoding.{encode, size}
use Rattle.typing.specs.Refusals.{Verdict, accepted, TypedTerm, elaborate, normalize_limit}
use Rattle.reduction.specs.MayDrop.{may_drop}
use Rattle.reduction.specs.declared.Settings.{Settings}
use Rattle.reduction.specs.Reduction.{Counts, zero_counts, Progress, stopped, reached, reduce}
use Rattle.reduction.specs.Sequence.{tally, Sequence}
use Rattle.reduction.proofs.Exact.{refused as stops, refusal_number_lem, reduce_refused}
use Rattle.reduction.proofs.Path.{steps}
use Rattle.reduction.proofs.WithinSettings.{Stays, stays_reduce, Accepted, reduce_accepted, Meets, reduce_meets, meets_reduce}
use Rattle.outcomes.specs.Normalize.{reduced_to, checked_to, normalize_within, Buffers, capacity_of, Outcome, outcome_of}
use Rattle.outcomes.specs.Normalize.{normalize_outcome}

module _ (settings : Settings) (tables : Tables) (words : List ℕ) (before : Buffers) (x : TypedTerm)
    (checked : elaborate normalize_limit tables words ≡ accepted x) where
  abbrev pure : Term → Bool
  pure = may_drop tables.calls

  abbrev capacity : ℕ
  capacity = capacity_of before

  abbrev outcome : Outcome
  outcome = normalize_outcome settings tables words before

  -- the outcome is what the reduction comes to
  pub outcome_is : (p : Progress) → reduce pure capacity settings x.term ≡ p → outcome ≡ outcome_of before (reduced_to x.type p)
  unfolding normalize_outcome normalize_within checked_to
  outcome_is p r = ap (λ (v : Verdict TypedTerm). outcome_of before (checked_to pure capacity settings v)) checked
      ∙ ap (λ (p : Progress). outcome_of before (reduced_to x.type p)) r

  -- a sequence that stays within is gone through (demand 1): its last term is handed back, with its length and the counts of the steps
  pub stays_accepted : (u : Term) (q : Sequence pure x.term u) → Stays pure capacity settings q
      → outcome ≡ outcome_of before (record {
        answer = record { refusal = 0; ty = x.type; length = size u; counts = tally (steps pure q) zero_counts };
        words = encode u;
      })
  unfolding reduced_to
  stays_accepted u q h = outcome_is _ (stays_reduce pure capacity settings x.term u q h)

  -- what is accepted has such a sequence
  pub record AcceptedSequence : Type 0 where
    pub normal : Term
    pub left : ℕ
    pub counts : Counts
    pub within : Accepted pure capacity settings x.term normal left counts

  pub accepted_stays : outcome.answer.refusal ≡ 0 → AcceptedSequence
  unfolding reduced_to
  accepted_stays z = go (reduce pure capacity settings x.term) refl
    where
      go : (p : Progress) → reduce pure capacity settings x.term ≡ p → AcceptedSequence
      go (stopped n counts) r = absurd (omega (
        arith,
        z,
        ap (λ (o : Outcome). o.answer.refusal) (outcome_is (stopped n counts) r),
        (refusal_number_lem pure capacity (stops (reduce_refused pure capacity settings x.term n counts r))).0,
      ))
      go (reached left u counts) r = record {
        normal = u;
        left = left;
        counts = counts;
        within = reduce_accepted pure capacity settings x.term u left counts r;
      }

  -- a run of steps that meets a ceiling is refused with 13 (demand 2): type 0, length 0, the counts of the steps taken, and no word of the
  -- output is touched
  pub meets_refused : (counts : Counts) → Meets pure capacity settings x.term counts
      → outcome ≡ outcome_of before (record { answer = record { refusal = 13; ty = 0; length = 0; counts = counts }; words = [] })
  unfolding reduced_to
  meets_refused counts m = outcome_is _ (meets_reduce pure capacity settings x.term counts m)

  -- and nothing else is
  pub refused_meets : outcome.answer.refusal ≡ 13 → Meets pure capacity settings x.term outcome.answer.counts
  unfolding reduced_to
  refused_meets z = go (reduce pure capacity settings x.term) refl
    where
      go : (p : Progress) → reduce pure capacity settings x.term ≡ p → Meets pure capacity settings x.term outcome.answer.counts
      go (stopped n counts) r =
          let o = outcome_is (stopped n counts) r in
          reduce_meets pure capacity settings x.term outcome.answer.counts
          (r ∙ ap {B = Progress} (λ (m : ℕ). stopped m counts) (sym (ap (λ (y : Outcome). y.answer.refusal) o) ∙ z)
          ∙ ap (stopped 13) (sym (ap (λ (y : Outcome). y.answer.counts) o)))
      go (reached left u counts) r =
          absurd (omega (arith, z, ap (λ (o : Outcome). o.answer.refusal) (outcome_is (reached left u counts) r)))
