-- What is written, and the row ahead lowered, make up the whole.
use Rattle.std.proofs.Common.{◌-◌, length}
use Rattle.binding.proofs.LoweredWords.{Lowering}
use Rattle.binding.proofs.lower.lower_part.Given as goal

abbrev pub invariant-loop-owed : goal.invariant-loop-owed
invariant-loop-owed l = Lowering l.calls l.fn.t l.pending l.t l.owed l.at

abbrev pub decreases-loop-owed : goal.decreases-loop-owed
decreases-loop-owed l = length l.t - l.at
