-- The body and the value stand in a row behind the two nodes.
use Rattle.binding.proofs.UsesByNode.{counts_sized}
use Rattle.contraction.proofs.RedexRows.{two_starts, of_apply, two_sized}
use Rattle.contraction.proofs.RedexSizes.{apply_measures, counted_with}
use Rattle.contraction.proofs.plan.apply.Goals as goal

pub uses_from-body-requires : goal.uses_from-body-requires
uses_from-body-requires c = ((two_starts of_apply c.requires.0).first, c.requires.1, c.requires.2)

pub size_from-size-requires : goal.size_from-size-requires
size_from-size-requires c = ((two_starts of_apply c.requires.0).second _ (counts_sized c.uses_from-body.ensures), c.requires.1)

pub returns : goal.returns
returns c =
    apply_measures (two_sized (two_starts of_apply c.requires.0) (counts_sized c.uses_from-body.ensures) c.size_from-size.ensures)
    (counted_with c.uses_from-body.ensures c.substituted.ensures)
