-- What is written, and the row ahead with the value in it, make up the whole.
use Rattle.std.proofs.Common.{◌-◌, length}
use Rattle.binding.proofs.SubstitutedWords.{Substituting}
use Rattle.binding.proofs.substitute.substitute_into.Given as goal

abbrev pub invariant-loop-owed : goal.invariant-loop-owed
invariant-loop-owed l = Substituting l.calls l.body l.value l.fn.dst l.depth l.at l.pending l.dst l.owed l.read l.written

abbrev pub decreases-loop-owed : goal.decreases-loop-owed
decreases-loop-owed l = length l.body - l.read
