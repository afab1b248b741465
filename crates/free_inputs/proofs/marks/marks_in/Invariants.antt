-- A turn passes one node: the input that its word names at its depth is marked, and then the depths of its parts are pending.
use Rattle.std.proofs.Common.{◌≡◌, length, ◌-◌}
use Rattle.free_inputs.proofs.MarksByNode.{Scan}
use Rattle.free_inputs.proofs.marks.marks_in.Given as goal

abbrev pub invariant-loop-owed : goal.invariant-loop-owed
invariant-loop-owed g l = Scan l.calls l.term l.pending l.marks l.owed l.at × (length l.pending ≡ g.row.N)

abbrev pub decreases-loop-owed : goal.decreases-loop-owed
decreases-loop-owed g l = length l.term - l.at
