-- The words of the node are written up to part j, and what is still to come has room.
use Rattle.contraction.proofs.NodeUnderBinder.{Inserting}
use Rattle.contraction.proofs.insert.insert_node.Given as goal

abbrev pub invariant-loop-j : goal.invariant-loop-j
invariant-loop-j l = Inserting l.calls l.t l.initial.dst l.dst l.at l.index l.size l.k l.n l.read l.wrote l.j
