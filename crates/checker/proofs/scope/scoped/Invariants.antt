-- The term is in scope if the row of terms ahead is, each at the depth that `pending` has for it.
use Rattle.std.proofs.Common.{◌-◌, length}
use Rattle.checker.proofs.ScopeByNode.{Scan}
use Rattle.checker.proofs.scope.scoped.Given as goal

abbrev pub invariant-loop-owed : goal.invariant-loop-owed
invariant-loop-owed l = Scan l.calls l.term l.pending l.bound l.owed l.at

abbrev pub decreases-loop-owed : goal.decreases-loop-owed
decreases-loop-owed l = length l.term - l.at
