-- The value and the branches stand in a row behind the two nodes, and the value is put into the right branch.
use Rattle.std.proofs.Common.{arith}
use Rattle.contraction.proofs.RedexRows.{two_starts, third_starts, of_right}
use Rattle.contraction.proofs.RedexSizes.{right_measures}
use Rattle.contraction.proofs.plan.right_case.Goals as goal

pub two_sizes-parts-requires : goal.two_sizes-parts-requires
two_sizes-parts-requires c = (two_starts of_right c.requires.0, c.requires.1)

pub body_with-body-requires : goal.body_with-body-requires
body_with-body-requires c =
    let right = third_starts of_right c.requires.0 c.two_sizes-parts.ensures in
    (right, c.requires.1, omega (arith, right.inside), c.requires.2)

pub returns : goal.returns
returns c = right_measures c.two_sizes-parts.ensures c.body_with-body.ensures.ends c.body_with-body.ensures.becomes
