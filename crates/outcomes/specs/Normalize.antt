-- The outcome of the public call `normalize`: the answer, and the final words of the output and the two scratch buffers.
use Rattle.std.specs.Prelude.{ℕ, min, Bool, List, [], length}
use Rattle.syntax.specs.Tables.{Tables}
use Rattle.syntax.specs.Term.{Term}
use Rattle.syntax.specs.Encoding.{encode, size}
use Rattle.typing.specs.Refusals.{Verdict, refused, accepted, TypedTerm, elaborate, normalize_limit}
use Rattle.reduction.specs.MayDrop.{may_drop}
use Rattle.reduction.specs.declared.Settings.{Settings}
use Rattle.reduction.specs.Reduction.{Progress, stopped, reached, reduce, zero_counts}
use Rattle.outcomes.specs.Buffers.{overwrite, cleared}
use Rattle.outcomes.specs.declared.Answer.{Answer}

-- an answer, and the words of the normal form (none where refused)
pub record Normalized : Type 0 where
  pub answer : Answer
  pub words : List ℕ

-- what a reduction comes to, from a term of type A
unfoldable pub reduced_to : ℕ → Progress → Normalized
reduced_to A (stopped n counts) = record { answer = record { refusal = n; ty = 0; length = 0; counts = counts }; words = [] }
reduced_to A (reached left u counts) = record { answer = record { refusal = 0; ty = A; length = size u; counts = counts }; words = encode u }

-- what a check comes to: refused by its number with zero counts, or reduced; `pure` says what may be dropped
unfoldable pub checked_to : (Term → Bool) → ℕ → Settings → Verdict TypedTerm → Normalized
checked_to pure capacity settings (refused n) = record {
  answer = record { refusal = n; ty = 0; length = 0; counts = zero_counts };
  words = [];
}
checked_to pure capacity settings (accepted x) = reduced_to x.type (reduce pure capacity settings x.term)

-- normalization (paper 01: flattening) within a capacity
unfoldable pub normalize_within : ℕ → Settings → Tables → List ℕ → Normalized
normalize_within capacity settings tables words =
    checked_to (may_drop tables.calls) capacity settings (elaborate normalize_limit tables words)

-- the largest capacity
abbrev pub max_capacity : ℕ
max_capacity = 8192

-- the output and the two scratch buffers (paper 01: work slices), by their words
pub record Buffers : Type 0 where
  pub output : List ℕ
  pub scratch₁ : List ℕ
  pub scratch₂ : List ℕ

-- the capacity (paper 01: room): the shortest of the three, and 8,192 at most
unfoldable pub capacity_of : Buffers → ℕ
capacity_of b = min (min (length b.output) (min (length b.scratch₁) (length b.scratch₂))) max_capacity

-- the whole outcome
pub record Outcome : Type 0 where
  pub answer : Answer
  pub buffers : Buffers

abbrev pub outcome_of : Buffers → Normalized → Outcome
outcome_of b r = record {
  answer = r.answer;
  buffers = record {
    output = overwrite r.words b.output;
    scratch₁ = cleared b.scratch₁;
    scratch₂ = cleared b.scratch₂;
  };
}

-- the outcome of the call, from the settings, the tables, the term words and the buffers at entry
unfoldable pub normalize_outcome : Settings → Tables → List ℕ → Buffers → Outcome
normalize_outcome settings tables words b = outcome_of b (normalize_within (capacity_of b) settings tables words)
