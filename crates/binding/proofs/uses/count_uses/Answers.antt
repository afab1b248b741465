-- A turn passes one node: its word is compared with that of the variable at its depth, and then the depths of its parts are pending.
use Rattle.std.proofs.Common.{arith}
use Rattle.binding.proofs.UsesByNode.{count_begin, count_node, count_end}
use Rattle.binding.proofs.uses.count_uses.Goals as goal

pub loop-owed-init : goal.loop-owed-init
loop-owed-init c = count_begin _ _ _ _ c.requires.0 c.requires.2 c.requires.1

pub loop-owed-preserved : goal.loop-owed-preserved
loop-owed-preserved c =
    count_node c.loop-owed.invariant _ _ _ (omega arith) c.open_parts-owed.auto.pending c.is_variable-uses.ensures c.open_parts-owed.ensures

pub returns : goal.returns
returns c = count_end c.loop-owed.invariant (omega arith)
