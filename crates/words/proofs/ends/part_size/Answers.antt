-- A term is a row of one.
use Rattle.words.proofs.Rows.{one_starts, one_sized}
use Rattle.words.proofs.ends.part_size.Goals as goal

pub parts_size-requires : goal.parts_size-requires
parts_size-requires c = (one_starts c.requires.0, c.requires.1)

pub returns : goal.returns
returns c = one_sized c.parts_size.ensures
