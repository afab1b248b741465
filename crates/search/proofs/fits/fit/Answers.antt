-- Phase 1 looks for a computation among the operands, phase 2 at three kinds; phase 3 is not searched this way.
use Rattle.std.proofs.Common.{Bool, ◌∙◌, ap}
use Rattle.std.specs.Bool.{then_some}
use Rattle.reduction.specs.declared.Rule.TheVariants.{LetInsertion}
use Rattle.search.proofs.RuleFits.{fits_insertion, fits_reduction}
use Rattle.search.proofs.fits.fit.Goals as goal

pub returns-in-Insertion : goal.returns-in-Insertion
returns-in-Insertion c =
    fits_insertion _ _ c.in-Insertion.is c.first_computation.ensures
    (c.then_some.ensures ∙ ap (λ (b : Bool). then_some b LetInsertion) c.is_some.ensures)

pub returns-in-Reduction : goal.returns-in-Reduction
returns-in-Reduction c =
    fits_reduction _ _ c.in-Reduction.is c.kind_at.ensures c.kind_at-in-Reduction.ensures c.kind_at-in-Reduction-2.ensures c.fit_kinds.ensures
