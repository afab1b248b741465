-- The branches and the outer body stand in a row behind the two nodes and the subject.
use Rattle.std.proofs.Common.{arith}
use Rattle.contraction.proofs.RedexRows.{case_row, row_two, row_third}
use Rattle.contraction.proofs.RedexSizes.{let_of_case_measures}
use Rattle.contraction.proofs.plan.let_of_case.Goals as goal

pub two_sizes-branches-requires : goal.two_sizes-branches-requires
two_sizes-branches-requires c = (row_two (case_row c.requires.0) (omega arith), c.requires.1)

pub size_from-body-requires : goal.size_from-body-requires
size_from-body-requires c = (row_third (case_row c.requires.0) (omega arith) c.two_sizes-branches.ensures, c.requires.1)

pub returns : goal.returns
returns c = let_of_case_measures c.two_sizes-branches.ensures c.size_from-body.ensures
