-- What rewriting the redex behind the gap asks and says.
use Rattle.std.specs.Prelude.{ℕ, ◌≤◌, ◌<◌, ◌≡◌, List, length, Result, Ok, Err}
use Rattle.std.proofs.Math.Option.{some}
use Rattle.std.proofs.Math.ListN.{get_elem?}
use Rattle.syntax.specs.Term.{Term}
use Rattle.syntax.specs.Encoding.{size}
use Rattle.syntax.specs.Positions.{Position, positions}
use Rattle.reduction.specs.MayDrop.{may_drop}
use Rattle.reduction.specs.Rules.{fire}
use Rattle.reduction.specs.declared.Rule.{Rule}
use Rattle.outcomes.specs.declared.Refusal.{Refusal}
use Rattle.outcomes.specs.declared.Refusal.TheVariants.{Capacity}
use Rattle.step.specs.Currents.{Gapped, Current}
use Rattle.step.specs.declared.gap.Gap.{Gap}

-- the subterm of the current term t that begins behind the gap is one that the rule makes y of
pub record RedexAt (rule : Rule) (calls words : List ℕ) (start end : ℕ) (t : Term) (p : Position Term) (y : Term) : Type 0 where
  pub current : Current calls words start end t
  pub at : get_elem? (positions t) start ≡ some p
  pub fires : fire (may_drop calls) rule p.subterm ≡ some y

-- there is such a redex, and the second buffer is as long as the first
pub record Rewritable (rule : Rule) (calls words : List ℕ) (start end : ℕ) (second : List ℕ) : Type 0 where
  pub term : Term
  pub position : Position Term
  pub contractum : Term
  pub redex : RedexAt rule calls words start end term position contractum
  pub limit : length words ≤ 8192
  pub scratch : length second ≡ length words

-- the next term u is too long for the buffer, or it is there, around a gap that begins where it did
pub data RewrittenTo (capacity : ℕ) (after : List ℕ) (start : ℕ) (u : Term) : Result Gap Refusal → Type 0 where
  too_long : capacity < size u → RewrittenTo capacity after start u (Err Capacity)
  there : (n : ℕ) → Gapped after start n u → RewrittenTo capacity after start u (Ok (record { start = start; end = n }))

-- for whatever redex is there
pub record RewritesRedex (rule : Rule) (calls before : List ℕ) (start end : ℕ) (after : List ℕ) (r : Result Gap Refusal) : Type 0 where
  pub told : (t : Term) (p : Position Term) (y : Term) → RedexAt rule calls before start end t p y
      → RewrittenTo (length before) after start (p.plug y) r
