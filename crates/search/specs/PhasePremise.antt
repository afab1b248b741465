-- What a phase takes as known of a term, and of where its search begins.
use Rattle.std.specs.Prelude.{ℕ, ◌≡◌, List}
use Rattle.std.proofs.Math.Option.{none}
use Rattle.syntax.specs.Term.{Term}
use Rattle.reduction.specs.MayDrop.{may_drop}
use Rattle.reduction.specs.Redex.{step}
use Rattle.reduction.specs.declared.Phase.{Phase}
use Rattle.reduction.specs.declared.Phase.TheVariants.{Insertion, Reduction, Dropping}

-- in phase 2, that phase 1 is over; in phase 3, that the search goes over the whole term
abbrev pub PhasePremise : List ℕ → Phase → Term → ℕ → Type 0
PhasePremise calls Insertion t from = Unit
PhasePremise calls Reduction t from = step (may_drop calls) Insertion t ≡ none
PhasePremise calls Dropping t from = from ≡ 0
