-- The nodes passed are values' so far (`ValuesSoFar`): the row at the front holds values only if the row ahead does. Each term ahead has a
-- word.
use Rattle.std.proofs.Common.{◌+◌, ◌-◌, ◌≤◌, length}
use Rattle.words.specs.Shapes.{Tabled, value_parts}
use Rattle.words.proofs.Rows.{Marching}
use Rattle.search.proofs.ValueByNode.{ValuesSoFar}
use Rattle.search.proofs.value.value_test.Given as goal

abbrev pub invariant-loop-owed : goal.invariant-loop-owed
invariant-loop-owed l = record {
  table : Tabled value_parts l.counts;
  going : Marching l.calls l.t ValuesSoFar 1 l.at l.owed;
  inside : l.at + l.owed ≤ length l.t;
}

abbrev pub decreases-loop-owed : goal.decreases-loop-owed
decreases-loop-owed l = length l.t - l.at
