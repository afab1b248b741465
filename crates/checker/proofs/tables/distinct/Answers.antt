-- The words behind those still to come are distinct, and their residues are marked.
use Rattle.std.proofs.Common.{ℕ}
use Rattle.std.proofs.Math.ListN.{length-replicate}
use Rattle.checker.proofs.Residues.{apart_start, apart_end, rest_noted, apart_not, apart_next}
use Rattle.checker.proofs.tables.distinct.Goals as goal

pub loop-i-init : goal.loop-i-init
loop-i-init c = (cc, apart_start (cc) (length-replicate {A = ℕ} 16381 0))

pub absent-requires : goal.absent-requires
absent-requires c = rest_noted c.loop-i.invariant.1 _ _ _ _ c.in-Some.ensures.steps.1.0 c.in-Some.ensures.steps.1.1 c.loop-i.invariant.0

pub returns-then-not-absent : goal.returns-then-not-absent
returns-then-not-absent c = apart_not c.loop-i.invariant.1 _ _ _ _ c.in-Some.ensures.steps.1.0 c.in-Some.ensures.steps.1.1 c.loop-i.invariant.0 c.absent.ensures c.if-not-absent.true

pub loop-i-preserved : goal.loop-i-preserved
loop-i-preserved c = (cc, apart_next c.loop-i.invariant.1 _ _ _ _ c.in-Some.ensures.steps.1.0 c.in-Some.ensures.steps.1.1 c.loop-i.invariant.0 c.absent.ensures c.if-not-absent.false c.residue.ensures)

pub returns : goal.returns
returns c = apart_end c.loop-i.invariant.1 c.in-None.ensures.steps.1.0
