-- The halves stand in a row behind the two nodes, and the first stays.
use Rattle.contraction.proofs.RedexRows.{two_starts, of_first}
use Rattle.contraction.proofs.RedexSizes.{first_measures}
use Rattle.contraction.proofs.plan.first.Goals as goal

pub two_sizes-halves-requires : goal.two_sizes-halves-requires
two_sizes-halves-requires c = (two_starts of_first c.requires.0, c.requires.1)

pub returns : goal.returns
returns c = first_measures c.two_sizes-halves.ensures
