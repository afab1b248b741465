-- The bound part and the body stand in a row behind the node.
use Rattle.contraction.proofs.RedexRows.{let_starts, of_value, two_sized}
use Rattle.contraction.proofs.RedexSizes.{value_measures}
use Rattle.std.proofs.Common.{arith}
use Rattle.contraction.proofs.plan.let_value.Goals as goal

pub size_from-size-requires : goal.size_from-size-requires
size_from-size-requires c = ((let_starts of_value c.requires.0).first, c.requires.1)

pub body_with-body-requires : goal.body_with-body-requires
body_with-body-requires c =
    let body = (let_starts of_value c.requires.0).second _ c.size_from-size.ensures in
    (body, c.requires.1, omega (arith, body.inside), c.requires.2)

pub returns : goal.returns
returns c =
    value_measures (two_sized (let_starts of_value c.requires.0) c.size_from-size.ensures c.body_with-body.ensures.ends)
    c.body_with-body.ensures.becomes
