-- The new variable is one word, and a part that moves is renamed.
use Rattle.std.proofs.Common.{arith}
use Rattle.contraction.proofs.NodeUnderBinder.{part_space, part_room, part_replaced, part_moved}
use Rattle.contraction.proofs.insert.insert_part.Goals as goal

pub bounds-dst-at : goal.bounds-dst-at
bounds-dst-at c = part_space c.requires.0

pub returns-in-Some : goal.returns-in-Some
returns-in-Some c = part_replaced c.requires.0 c.in-Some.is

pub rename_into-n-requires : goal.rename_into-n-requires
rename_into-n-requires c = (part_room c.requires.0 c.in-None.is, omega arith, omega arith, omega arith)

pub returns-in-None : goal.returns-in-None
returns-in-None c = part_moved c.in-None.is c.rename_into-n.ensures
