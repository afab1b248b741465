-- Whether some word passes a test, as the library says it of a chain.
use mathlib.Core.Path.{◌≡◌, refl, ap}
use mathlib.Core.Bool.{Bool, ◌||◌}
use mathlib.Core.List.{List, [], ◌∷◌}
use Rattle.std.specs.List.{list_any}
use Rattle.syntax.specs.Lists.{any}

pub any_by_list : {X : Type 0} (test : X → Bool) (xs : List X) → any test xs ≡ list_any test xs
unfolding any
any_by_list test [] = refl
any_by_list test (x ∷ xs) = ap (λ (b : Bool). test x || b) (any_by_list test xs)
