-- A type at hand weighs more than a word of the open nodes, and a word of the term more than that.
use Rattle.std.proofs.Common.{ℕ, ◌+◌, ◌-◌, ◌*◌, length}
use Rattle.std.specs.Prelude.{Some, None}
use Rattle.std.specs.declared.option.Option as code
use Rattle.checker.proofs.InferTurns.{Turn}
use Rattle.checker.proofs.infer.infer.Given as goal

abbrev pub invariant-loop-typed : goal.invariant-loop-typed
invariant-loop-typed l = Turn l.tables.types l.tables.calls l.tables.inputs l.term l.stack l.nodes l.at l.top l.depth l.typed

abbrev weight : code.Option ℕ → ℕ
weight None = 0
weight (Some A) = 2

abbrev pub decreases-loop-typed : goal.decreases-loop-typed
decreases-loop-typed l = 3 * (length l.term - l.at) + l.top + weight l.typed
