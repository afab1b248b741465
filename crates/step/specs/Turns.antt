-- What one turn of the reduction asks and says.
use Rattle.std.specs.Prelude.{ℕ, ◌≤◌, ◌<◌, ◌≡◌, true, false, List, length, Option, Some, None, Result, Ok, Err}
use Rattle.std.proofs.Math.Option.{some, none}
use Rattle.syntax.specs.Term.{Term}
use Rattle.syntax.specs.Encoding.{size}
use Rattle.reduction.specs.MayDrop.{may_drop}
use Rattle.reduction.specs.Redex.{Step, step}
use Rattle.reduction.specs.Reduction.{ceiling_met}
use Rattle.reduction.specs.Clear.{Clear}
use Rattle.reduction.specs.declared.Phase.{Phase}
use Rattle.outcomes.specs.declared.Refusal.{Refusal}
use Rattle.outcomes.specs.declared.Refusal.TheVariants.{Budget, Ceiling, Capacity}
use Rattle.search.specs.PhasePremise.{PhasePremise}
use Rattle.search.specs.NextFrom.{next_from}
use Rattle.step.specs.Currents.{Gapped, Current}
use Rattle.step.specs.declared.turn.Step.{Step as Stepped}

-- the term t is current, and no redex of the phase stands before the gap
pub record CurrentClear (phase : Phase) (calls words : List ℕ) (start end : ℕ) (t : Term) : Type 0 where
  pub current : Current calls words start end t
  pub clear : Clear (may_drop calls) phase t start
  pub premise : PhasePremise calls phase t start

-- some term is, and the second buffer is as long as the first
pub record Ready (phase : Phase) (calls words : List ℕ) (start end : ℕ) (second : List ℕ) : Type 0 where
  pub term : Term
  pub at : CurrentClear phase calls words start end term
  pub limit : length words ≤ 8192
  pub scratch : length second ≡ length words

-- the outcome of a turn at the term t: no rule fits, the budget is used up, the ceiling of the rule is met, the next term is too long, or
-- the step is taken and the gap is where the search goes on
pub data Turned (phase : Phase) (calls after : List ℕ) (start end left : ℕ) (counts ceilings : List ℕ) (capacity : ℕ) (t : Term)
    : Result (Option Stepped) Refusal → Type 0 where
  stops : step (may_drop calls) phase t ≡ none → Current calls after start end t
      → Turned phase calls after start end left counts ceilings capacity t (Ok None)
  spent : (s : Step) → step (may_drop calls) phase t ≡ some s → left ≡ 0
      → Turned phase calls after start end left counts ceilings capacity t (Err Budget)
  met : (s : Step) → step (may_drop calls) phase t ≡ some s → 0 < left → ceiling_met ceilings s.rule counts ≡ true
      → Turned phase calls after start end left counts ceilings capacity t (Err Ceiling)
  full : (s : Step) → step (may_drop calls) phase t ≡ some s → 0 < left → ceiling_met ceilings s.rule counts ≡ false
      → capacity < size s.next → Turned phase calls after start end left counts ceilings capacity t (Err Capacity)
  goes : (s : Step) (n : ℕ) → step (may_drop calls) phase t ≡ some s → 0 < left → ceiling_met ceilings s.rule counts ≡ false
      → Gapped after (next_from phase s.place) n s.next
      → Turned phase calls after start end left counts ceilings capacity t
      (Ok (Some (record { rule = s.rule; gap = record { start = next_from phase s.place; end = n } })))

-- for whatever term is current; the capacity is the buffer's length
pub record Turns (phase : Phase) (calls before : List ℕ) (start end left : ℕ) (counts ceilings after : List ℕ)
    (r : Result (Option Stepped) Refusal) : Type 0 where
  pub told : (t : Term) → CurrentClear phase calls before start end t
      → Turned phase calls after start end left counts ceilings (length before) t r
