-- Why `first_computation` is right. The operands are the first parts of the node, and those passed are values (`Seeking`). The first that
-- is none is the answer; if all are values there is none. Let insertion fits exactly if there is one.
use Rattle.std.proofs.Common.{arith}
use Rattle.words.proofs.Traversal.{not_empty, from_length, part_starts}
use Rattle.search.proofs.FirstOperand.{find_enter, find_none, find_part, find_first, find_reached, find_next}
use Rattle.search.proofs.fits.first_computation.Goals as goal

pub bounds-t-0 : goal.bounds-t-0
bounds-t-0 c = omega (arith, not_empty c.requires.0)

pub loop-index-init : goal.loop-index-init
loop-index-init c = find_enter _ _ _ _ _ c.requires.0 c.kind.ensures c.part_count-n.ensures.0 c.operand_count-m.ensures

pub value_test-requires : goal.value_test-requires
value_test-requires c =
    let s = c.loop-index.invariant in
    (part_starts _ _ s.going (find_part s (omega arith)), omega (arith, from_length c.args.t.now c.loop-index.start))

pub overflow_add-start : goal.overflow_add-start
overflow_add-start c = omega (arith, find_reached c.loop-index.invariant (omega arith) c.in-Some.ensures)

pub returns-in-None : goal.returns-in-None
returns-in-None c = find_first c.loop-index.invariant (omega arith) c.in-None.ensures

pub loop-index-preserved : goal.loop-index-preserved
loop-index-preserved c = find_next c.loop-index.invariant (omega arith) c.in-Some.ensures

pub returns : goal.returns
returns c = find_none c.loop-index.invariant (omega arith)
