-- One substitution, from the front of the buffer on.
--
-- Why it is right: the plan says where the body and the value stand, and that the body with the value in it has room (`putting`).
use Rattle.std.proofs.Common.{arith}
use Rattle.contraction.proofs.Contracta.{putting, put_writes}
use Rattle.contraction.proofs.write.substitute.Goals as goal

pub overflow_add-end : goal.overflow_add-end
overflow_add-end c = omega (arith, (putting c.requires.0).value_in)

pub offset_bounds-t-body : goal.offset_bounds-t-body
offset_bounds-t-body c = omega (arith, (putting c.requires.0).body_in)

pub slice_bounds-substitute_into-count : goal.slice_bounds-substitute_into-count
slice_bounds-substitute_into-count c = (putting c.requires.0).body_in

pub slice_bounds-substitute_into-start : goal.slice_bounds-substitute_into-start
slice_bounds-substitute_into-start c = (putting c.requires.0).body_in

pub offset_bounds-t-value : goal.offset_bounds-t-value
offset_bounds-t-value c = omega (arith, (putting c.requires.0).value_in)

pub slice_bounds-substitute_into-end-2 : goal.slice_bounds-substitute_into-end-2
slice_bounds-substitute_into-end-2 c = (putting c.requires.0).value_in

pub substitute_into-requires-clause-room_for : goal.substitute_into-requires-clause-room_for
substitute_into-requires-clause-room_for c = (putting c.requires.0).room _ (omega arith)

pub returns : goal.returns
returns c = put_writes c.substitute_into.ensures
