-- The word of the node is written, then its parts one after the other, each under its binders; the new variable stands for one of them.
--
-- Why it is right: each turn of the loop finds room for the part at hand (`insert_room`), and what `insert_part` says of it keeps the two
-- cursors, one in the source and one in the buffer, at the next part (`insert_next`). After the last part every word of the node is written.
use Rattle.std.proofs.Common.{ℕ, arith, length-set}
use Rattle.words.proofs.Traversal.{not_empty, from_length}
use Rattle.contraction.proofs.NodeUnderBinder.{node_space, part_space, insert_enter, insert_room, insert_reached}
use Rattle.contraction.proofs.NodeUnderBinder.{insert_wrote, insert_next, insert_leave}
use Rattle.contraction.proofs.insert.insert_node.Goals as goal

pub bounds-t-0 : goal.bounds-t-0
bounds-t-0 c = not_empty c.requires.0.start

pub bounds-dst-at : goal.bounds-dst-at
bounds-dst-at c = node_space c.requires.0

pub loop-j-init : goal.loop-j-init
loop-j-init c = insert_enter c.args.dst.now c.kind-k.ensures _ c.requires.0 c.part_count-n.ensures.0

pub offset_bounds-t-read : goal.offset_bounds-t-read
offset_bounds-t-read c = omega (arith, c.loop-j.invariant.going.high)

pub slice_bounds-insert_part-count : goal.slice_bounds-insert_part-count
slice_bounds-insert_part-count c = c.loop-j.invariant.going.high

pub slice_bounds-insert_part-start : goal.slice_bounds-insert_part-start
slice_bounds-insert_part-start c = c.loop-j.invariant.going.high

pub overflow_add-at : goal.overflow_add-at
overflow_add-at c =
    omega (
      arith,
      length-set {A = ℕ},
      part_space (insert_room c.loop-j.invariant c.loop-j-test.true c.then_some-bound.ensures c.binders-cut.ensures.0),
    )

pub insert_part-part-requires : goal.insert_part-part-requires
insert_part-part-requires c = (
  insert_room c.loop-j.invariant c.loop-j-test.true c.then_some-bound.ensures c.binders-cut.ensures.0,
  omega arith,
  omega (arith, from_length c.args.t.now c.loop-j.read),
  omega arith,
)

pub overflow_add-read : goal.overflow_add-read
overflow_add-read c =
    omega (arith, insert_reached c.loop-j.invariant c.loop-j-test.true c.then_some-bound.ensures c.binders-cut.ensures.0 c.insert_part-part.ensures)

pub overflow_add-wrote : goal.overflow_add-wrote
overflow_add-wrote c =
    omega (
      arith,
      length-set {A = ℕ},
      insert_wrote c.loop-j.invariant c.loop-j-test.true c.then_some-bound.ensures c.binders-cut.ensures.0 c.insert_part-part.ensures,
    )

pub loop-j-preserved : goal.loop-j-preserved
loop-j-preserved c =
    insert_next c.loop-j.invariant c.loop-j-test.true c.then_some-bound.ensures c.binders-cut.ensures.0 c.insert_part-part.ensures
    c.insert_part-part.auto.dst

pub returns : goal.returns
returns c = insert_leave c.args.dst.now c.kind-k.ensures c.loop-j.invariant c.loop-j-test.false
