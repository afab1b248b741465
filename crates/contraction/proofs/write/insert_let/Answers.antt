-- The word of a let, the words of the part it binds, and the node with the new variable for that part.
--
-- Why it is right: the plan says that the whole has room, so the bound part and the node behind it have (`inserting_let`). Neither call
-- changes how long the buffer is, and the second writes where the first ended. That the words are those of the contractum is
-- `insert_writes`.
use Rattle.std.proofs.Common.{ℕ, arith, ◌∙◌, length-set}
use Rattle.contraction.proofs.NodeUnderBinder.{node_room}
use Rattle.contraction.proofs.Contracta.{inserting_let, insert_writes}
use Rattle.contraction.proofs.write.insert_let.Goals as goal

pub bounds-dst-0 : goal.bounds-dst-0
bounds-dst-0 c = omega (arith, (inserting_let c.requires.0).room)

pub copy-requires : goal.copy-requires
copy-requires c =
    let f = inserting_let c.requires.0 in
    (f.inside, omega (arith, f.room, length-set {A = ℕ}))

pub overflow_add-size : goal.overflow_add-size
overflow_add-size c = omega (arith, (inserting_let c.requires.0).room)

pub insert_node-requires : goal.insert_node-requires
insert_node-requires c = (
  node_room (inserting_let c.requires.0).node (c.copy.auto.dst ∙ length-set c.args.dst.now _ _),
  omega arith,
  omega arith,
)

pub returns : goal.returns
returns c = insert_writes c.args.dst.now c.copy.auto.dst c.copy.ensures c.insert_node.ensures
