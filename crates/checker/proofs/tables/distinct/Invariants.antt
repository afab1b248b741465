use Rattle.std.proofs.Common.{◌≡◌}
use Rattle.checker.proofs.Residues.{Apart}
use Rattle.checker.proofs.tables.distinct.Given as goal

abbrev pub invariant-loop-i : goal.invariant-loop-i
invariant-loop-i l = (l.i-iterator.iter.count ≡ 0) × Apart l.types l.marks l.i-iterator.iter.iter.rest.now
