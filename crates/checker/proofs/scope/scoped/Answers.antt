-- A turn takes the first node of the row. If its variable is not in scope, the term is not; else its parts come into the row for it. An empty
-- row is in scope.
use Rattle.std.proofs.Common.{arith}
use Rattle.checker.proofs.ScopeByNode.{scan_begin, scan_opens, scan_out, scan_node, scan_end}
use Rattle.checker.proofs.scope.scoped.Goals as goal

pub loop-owed-init : goal.loop-owed-init
loop-owed-init c = scan_begin c.args.pending.now c.args.bound c.requires.starts c.requires.space

pub returns-then-not-in_scope : goal.returns-then-not-in_scope
returns-then-not-in_scope c = scan_out c.loop-owed.invariant c.loop-owed-test.true c.if-not-in_scope.ensures

pub open_parts-owed-requires : goal.open_parts-owed-requires
open_parts-owed-requires c =
    let o = scan_opens c.loop-owed.invariant c.loop-owed-test.true c.requires.room in
    (o.0, o.1, omega (arith, o.2))

pub loop-owed-preserved : goal.loop-owed-preserved
loop-owed-preserved c =
    scan_node c.loop-owed.invariant c.loop-owed-test.true c.requires.room _ _ c.open_parts-owed.auto.pending c.if-not-in_scope.ensures
    c.open_parts-owed.ensures

pub returns : goal.returns
returns c = scan_end c.loop-owed.invariant (omega arith)
