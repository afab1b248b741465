-- Where no member of a list passes a test, the member at each index fails it, and so does what stands for the members past its end.
use mathlib.Core.Path.{◌≡◌, refl}
use mathlib.Core.Bool.{Bool, true, false, ◌||◌}
use mathlib.Core.List.{List, [], ◌∷◌}
use lib.ListN.{get_or}
use Prim.Native.Nat.{ℕ, zero, suc}
use Rattle.syntax.specs.Lists.{any}

pub or_false_left : (a b : Bool) → (a || b) ≡ false → a ≡ false
or_false_left true b e = e
or_false_left false b e = refl

pub or_false_right : (a b : Bool) → (a || b) ≡ false → b ≡ false
or_false_right true true e = e
or_false_right true false e = refl
or_false_right false b e = e

pub each_fails : {X : Type 0} (test : X → Bool) (past : X) → test past ≡ false → (xs : List X) → any test xs ≡ false → (i : ℕ)
    → test (get_or xs i past) ≡ false
unfolding any
each_fails test past f [] e i = f
each_fails test past f (x ∷ xs) e zero = or_false_left (test x) (any test xs) e
each_fails test past f (x ∷ xs) e (suc i) = each_fails test past f xs (or_false_right (test x) (any test xs) e) i
