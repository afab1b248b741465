-- The words of a row of terms end where its size says.
use Rattle.std.proofs.Common.{arith}
use Rattle.words.proofs.Rows.{few_terms}
use Rattle.words.proofs.Sized.{row_sized}
use Rattle.words.proofs.ends.parts_size.Goals as goal

pub parts_end-requires : goal.parts_end-requires
parts_end-requires c = (c.requires.1, omega (arith, few_terms c.requires.0))

pub returns : goal.returns
returns c = row_sized _ _ _ _ c.requires.0 cc
