-- What is written, and the row ahead raised, make up the whole.
use Rattle.std.proofs.Common.{◌-◌, length}
use Rattle.binding.proofs.RenamedWords.{Renaming}
use Rattle.binding.proofs.rename.rename_into.Given as goal

abbrev pub invariant-loop-owed : goal.invariant-loop-owed
invariant-loop-owed l = Renaming l.calls l.src l.fn.dst l.cut l.at l.by l.pending l.dst l.owed l.size

abbrev pub decreases-loop-owed : goal.decreases-loop-owed
decreases-loop-owed l = length l.src - l.size
