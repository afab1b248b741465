-- The halves stand in a row behind the two nodes, and the second stays.
use Rattle.contraction.proofs.RedexRows.{two_starts, of_second}
use Rattle.contraction.proofs.RedexSizes.{second_measures}
use Rattle.contraction.proofs.plan.second.Goals as goal

pub two_sizes-halves-requires : goal.two_sizes-halves-requires
two_sizes-halves-requires c = (two_starts of_second c.requires.0, c.requires.1)

pub returns : goal.returns
returns c = second_measures c.two_sizes-halves.ensures
