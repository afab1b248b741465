-- A turn reads one word: a variable's is written over, lowered, any other stays, and then the depths of its parts are pending.
use Rattle.std.proofs.Common.{sym, ◌∙◌, arith}
use Rattle.binding.proofs.LoweredWords.{lower_begin, lower_variable, lower_node, lower_end}
use Rattle.binding.proofs.lower.lower_part.Goals as goal
use Rattle.binding.proofs.lower.lower_part.Goals.{then-kind-eq0, else-kind-eq0}

pub loop-owed-init : goal.loop-owed-init
loop-owed-init c = lower_begin _ _ _ _ (omega arith) c.requires.0 c.requires.1 c.requires.2

pub loop-owed-preserved : goal.loop-owed-preserved
loop-owed-preserved c = elim c.if-kind-eq0.branch [
  | then-kind-eq0 w ↦ rw (w.t-is, w.pending-is, w.owed-is)
      (lower_variable c.loop-owed.invariant _ (omega arith) (sym c.kind.ensures ∙ w.if-kind-eq0.true) w.lowered.ensures)
  | else-kind-eq0 w ↦ rw (w.t-is, w.pending-is, w.owed-is)
      (lower_node c.loop-owed.invariant _ _ (omega arith) (λ z. w.if-kind-eq0.false (c.kind.ensures ∙ z)) w.open_parts-owed.auto.pending
      w.open_parts-owed.ensures)
]

pub returns : goal.returns
returns c = lower_end c.loop-owed.invariant (omega arith)
