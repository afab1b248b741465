-- What is left to read is what is owed.
use Rattle.std.proofs.Common.{length}
use Rattle.words.proofs.Extents.{Owing}
use Rattle.words.proofs.ends.parts_end.Given as goal

abbrev pub invariant-loop-owed : goal.invariant-loop-owed
invariant-loop-owed l = Owing l.calls l.t l.n l.owed l.rest

abbrev pub decreases-loop-owed : goal.decreases-loop-owed
decreases-loop-owed l = length l.rest
