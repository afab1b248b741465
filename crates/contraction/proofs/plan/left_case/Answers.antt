-- The value and the branches stand in a row behind the two nodes, and the value is put into the left branch.
use Rattle.std.proofs.Common.{arith}
use Rattle.contraction.proofs.RedexRows.{two_starts, third_starts, of_left, two_sized}
use Rattle.contraction.proofs.RedexSizes.{left_measures}
use Rattle.contraction.proofs.plan.left_case.Goals as goal

pub size_from-size-requires : goal.size_from-size-requires
size_from-size-requires c = ((two_starts of_left c.requires.0).first, c.requires.1)

pub body_with-body-requires : goal.body_with-body-requires
body_with-body-requires c =
    let body = (two_starts of_left c.requires.0).second _ c.size_from-size.ensures in
    (body, c.requires.1, omega (arith, body.inside), c.requires.2)

pub size_from-other-requires : goal.size_from-other-requires
size_from-other-requires c =
    let sizes = two_sized (two_starts of_left c.requires.0) c.size_from-size.ensures c.body_with-body.ensures.ends in
    (third_starts of_left c.requires.0 sizes, c.requires.1)

pub returns : goal.returns
returns c =
    left_measures (two_sized (two_starts of_left c.requires.0) c.size_from-size.ensures c.body_with-body.ensures.ends)
    c.size_from-other.ensures c.body_with-body.ensures.becomes
