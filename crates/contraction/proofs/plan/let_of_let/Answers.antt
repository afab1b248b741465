-- The bound part and the two bodies stand in a row behind the two nodes.
use Rattle.contraction.proofs.RedexRows.{two_starts, third_starts, of_let}
use Rattle.contraction.proofs.RedexSizes.{let_of_let_measures}
use Rattle.contraction.proofs.plan.let_of_let.Goals as goal

pub two_sizes-parts-requires : goal.two_sizes-parts-requires
two_sizes-parts-requires c = (two_starts of_let c.requires.0, c.requires.1)

pub size_from-requires : goal.size_from-requires
size_from-requires c = (third_starts of_let c.requires.0 c.two_sizes-parts.ensures, c.requires.1)

pub returns : goal.returns
returns c = let_of_let_measures c.two_sizes-parts.ensures c.size_from.ensures
