-- The uses counted, and those of the row ahead at their depths, make up the whole.
use Rattle.std.proofs.Common.{◌-◌, length}
use Rattle.binding.proofs.UsesByNode.{Tally}
use Rattle.binding.proofs.uses.count_uses.Given as goal

abbrev pub invariant-loop-owed : goal.invariant-loop-owed
invariant-loop-owed l = Tally l.calls l.t l.pending l.depth l.owed l.end l.uses

abbrev pub decreases-loop-owed : goal.decreases-loop-owed
decreases-loop-owed l = length l.t - l.end
