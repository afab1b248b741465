-- The term starts at the front, so while a term is owed there is a word to read, and space for the depths of its parts.
use Rattle.std.proofs.Common.{arith}
use Rattle.std.proofs.lemmas.List.{length-replicate}
use Rattle.free_inputs.proofs.MarksByNode.{scan_begin, scan_inside, scan_opens, scan_node, scan_end}
use Rattle.free_inputs.proofs.marks.marks_in.Goals as goal

pub loop-owed-init : goal.loop-owed-init
loop-owed-init g c = (scan_begin _ c.requires.0 c.requires.1, length-replicate _ 0)

pub bounds-term-at : goal.bounds-term-at
bounds-term-at g c = omega (arith, scan_inside c.loop-owed.invariant.0)

pub offset_bounds-pending-last : goal.offset_bounds-pending-last
offset_bounds-pending-last g c = omega (arith, scan_inside c.loop-owed.invariant.0)

pub bounds-pending-last : goal.bounds-pending-last
bounds-pending-last g c = omega (arith, scan_inside c.loop-owed.invariant.0)

pub open_parts-owed-requires : goal.open_parts-owed-requires
open_parts-owed-requires g c =
    let s = scan_opens c.loop-owed.invariant.0 c.loop-owed-test.true (omega arith) in
    (s.0, s.1, omega arith)

pub loop-owed-smaller : goal.loop-owed-smaller
loop-owed-smaller g c = omega (arith, scan_inside c.loop-owed.invariant.0)

pub loop-owed-preserved : goal.loop-owed-preserved
loop-owed-preserved g c = (
  scan_node c.loop-owed.invariant.0 c.loop-owed-test.true (omega arith) _ _ _ c.open_parts-owed.auto.pending c.mark_input.ensures c.open_parts-owed.ensures,
  omega arith,
)

pub returns : goal.returns
returns g c = scan_end c.loop-owed.invariant.0 (omega arith)
