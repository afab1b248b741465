-- Where the search of a phase goes on after a step.
use Rattle.std.specs.Prelude.{ℕ, ◌-◌}
use Rattle.reduction.specs.declared.Phase.{Phase}
use Rattle.reduction.specs.declared.Phase.TheVariants.{Insertion, Reduction, Dropping}

-- where the search of a phase goes on after a step at a place
unfoldable pub next_from : Phase → ℕ → ℕ
next_from Insertion place = place
next_from Reduction place = place - 1
next_from Dropping place = 0
