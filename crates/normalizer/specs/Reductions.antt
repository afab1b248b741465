-- What the loop over phases and steps asks and says.
use Rattle.std.specs.Prelude.{ℕ, ◌≤◌, ◌≡◌, List, T, length, MatchResult}
use Rattle.std.proofs.Math.Option.{some}
use Rattle.syntax.specs.Tables.{over}
use Rattle.syntax.specs.Term.{Term}
use Rattle.typing.specs.Infer.{infer}
use Rattle.typing.specs.TableChecks.{lengths_fit, well_formed_calls}
use Rattle.reduction.specs.MayDrop.{may_drop}
use Rattle.reduction.specs.declared.Settings.{Settings}
use Rattle.reduction.specs.Reduction.{Counts, Progress, stopped, reached, reduce}
use Rattle.outcomes.specs.Refusal.{number_of}
use Rattle.step.specs.Currents.{Gapped, Current}
use Rattle.normalizer.specs.declared.reduce.Reduced.{Reduced}

-- the term has a type over tables with these calls, which pass checks 1 and 4
pub record TypedOver (calls : List ℕ) (t : Term) : Type 0 where
  pub types : List ℕ
  pub inputs : List ℕ
  pub source : List ℕ
  pub limit : ℕ
  pub lengths : T (lengths_fit limit (over types calls inputs) source)
  pub signatures : T (well_formed_calls (over types calls inputs))
  pub type : ℕ
  pub typed : infer (over types calls inputs) t inputs ≡ some type

-- a typed term is at the buffer's end, and the second buffer is as long as the first
pub record Reducible (calls words : List ℕ) (begin : ℕ) (second : List ℕ) : Type 0 where
  pub term : Term
  pub typed : TypedOver calls term
  pub current : Current calls words 0 begin term
  pub at_most : length words ≤ 8192
  pub scratch : length second ≡ length words

-- the last term, with which the reduction ends, is at the buffer's end
pub record Ends (after : List ℕ) (begin : ℕ) (counts : Counts) (p : Progress) : Type 0 where
  pub left : ℕ
  pub term : Term
  pub gapped : Gapped after 0 begin term
  pub is : p ≡ reached left term counts

-- what a reduction came to, as it is answered: where the last term begins, or why it stopped
abbrev pub Reports : (after : List ℕ) → Reduced → Progress → Type 0
Reports after r p = MatchResult r.begin (λ begin. Ends after begin r.counts p) (λ why. p ≡ stopped (number_of why) r.counts)

-- for whatever term is there; the capacity is the buffer's length
pub record Reduces (calls before : List ℕ) (begin : ℕ) (settings : Settings) (after : List ℕ) (r : Reduced) : Type 0 where
  pub told : (t : Term) → Current calls before 0 begin t
      → Reports after r (reduce (may_drop calls) (length before) settings t)
