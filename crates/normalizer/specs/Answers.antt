-- What the checks and the reduction come to, before the scratch buffers are cleared.
use Rattle.std.specs.Prelude.{ℕ, ◌≤◌, ◌≡◌, List, length}
use Rattle.syntax.specs.Tables.{Tables}
use Rattle.syntax.specs.Term.{Term}
use Rattle.syntax.specs.Encoding.{encode}
use Rattle.syntax.specs.Shaped.{Shaped}
use Rattle.reduction.specs.MayDrop.{may_drop}
use Rattle.reduction.specs.declared.Settings.{Settings}
use Rattle.reduction.specs.Reduction.{reduce}
use Rattle.outcomes.specs.Buffers.{overwrite}
use Rattle.outcomes.specs.Normalize.{Normalized, reduced_to, Buffers, capacity_of, normalize_within}
use Rattle.outcomes.specs.declared.Answer.{Answer}
use Rattle.normalizer.specs.Reductions.{TypedOver}

-- the answer is that of n, and its words are written to the output's front
pub record Fills (n : Normalized) (before : List ℕ) (answer : Answer) (after : List ℕ) : Type 0 where
  pub answer_is : answer ≡ n.answer
  pub output_is : after ≡ overwrite n.words before

-- the outcome of the whole call
abbrev pub FillsNormalized : Settings → Tables → List ℕ → Buffers → Answer → List ℕ → Type 0
FillsNormalized settings tables words before answer output =
    Fills (normalize_within (capacity_of before) settings tables words) before.output answer output

-- the words are those of a typed term, and the buffers have room for it
pub record Settleable (calls words output first second : List ℕ) : Type 0 where
  pub term : Term
  pub shaped : Shaped calls term
  pub is : words ≡ encode term
  pub typed : TypedOver calls term
  pub small : length words ≤ length first
  pub at_most : length first ≤ 8192
  pub scratch : length second ≡ length first
  pub room : length first ≤ length output

-- for whatever term the words are
pub record Settles (calls words : List ℕ) (A : ℕ) (settings : Settings) (capacity : ℕ) (before : List ℕ) (answer : Answer)
    (after : List ℕ) : Type 0 where
  pub told : (t : Term) → Shaped calls t → words ≡ encode t
      → Fills (reduced_to A (reduce (may_drop calls) capacity settings t)) before answer after
