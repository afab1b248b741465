-- A turn reads one word and writes one: a variable's is raised, any other as it is, and then the depths of its parts are pending.
use Rattle.std.proofs.Common.{sym, ◌∙◌, arith}
use Rattle.binding.proofs.RenamedWords.{rename_begin, rename_variable, rename_node, rename_end}
use Rattle.binding.proofs.rename.rename_into.Goals as goal
use Rattle.binding.proofs.rename.rename_into.Goals.{then-kind-eq0, else-kind-eq0}

pub loop-owed-init : goal.loop-owed-init
loop-owed-init c = rename_begin _ _ _ c.requires.0 c.requires.1 c.requires.3

pub loop-owed-preserved : goal.loop-owed-preserved
loop-owed-preserved c = elim c.if-kind-eq0.branch [
  | then-kind-eq0 w ↦ rw (w.dst-is, w.pending-is, w.owed-is)
      (rename_variable _ c.loop-owed.invariant _ (omega arith) (sym c.kind.ensures ∙ w.if-kind-eq0.true) w.raised.ensures)
  | else-kind-eq0 w ↦ rw (w.dst-is, w.pending-is, w.owed-is)
      (rename_node _ c.loop-owed.invariant _ _ (omega arith) (λ z. w.if-kind-eq0.false (c.kind.ensures ∙ z)) w.open_parts-owed.auto.pending
      w.open_parts-owed.ensures)
]

pub returns : goal.returns
returns c = rename_end _ c.loop-owed.invariant (omega arith)
