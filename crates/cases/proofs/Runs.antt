-- The table of runs by one computation: each ends with the expected value and the expected list of calls.
use mathlib.Core.Path.{◌≡◌, refl}
use mathlib.Core.List.{map}
use Rattle.semantics.specs.Run.{lookup, enter, first_half, second_half, choose, run_all, evaluate, run}
use Rattle.cases.specs.Runs.{runs, ran, foreseen}

pub runs_computed : map ran runs ≡ map foreseen runs
unfolding lookup enter first_half second_half choose run_all evaluate run runs ran foreseen
runs_computed = refl
