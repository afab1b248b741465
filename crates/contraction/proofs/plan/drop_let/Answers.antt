-- The bound part stands behind the node, and the body behind it.
use Rattle.contraction.proofs.RedexRows.{let_starts, of_drop}
use Rattle.contraction.proofs.RedexSizes.{drop_uncovers}
use Rattle.contraction.proofs.plan.drop_let.Goals as goal

pub size_from-requires : goal.size_from-requires
size_from-requires c = ((let_starts of_drop c.requires.0).first, c.requires.1)

pub returns : goal.returns
returns c = drop_uncovers c.size_from.ensures
