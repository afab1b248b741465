-- Filters: a joined list is filtered part by part, and where nothing passes the test nothing is left.
use mathlib.Core.Path.{◌≡◌, refl}
use mathlib.Core.Bool.{Bool, true, false, cond}
use mathlib.Core.List.{List, [], ◌∷◌, ◌++◌}
use Rattle.syntax.specs.Lists.{filter}

module _ {X : Type 0} (test : X → Bool) where
  pub filter-append : (xs ys : List X) → filter test (xs ++ ys) ≡ filter test xs ++ filter test ys
  unfolding filter
  filter-append [] ys = refl
  filter-append (x ∷ xs) ys = rw (filter-append xs ys) (go (test x) (filter test xs))
    where
      go : (b : Bool) (zs : List X) → cond b (x ∷ (zs ++ filter test ys)) (zs ++ filter test ys) ≡ cond b (x ∷ zs) zs ++ filter test ys
      go true zs = refl
      go false zs = refl

  pub filter_none : ((x : X) → test x ≡ false) → (xs : List X) → filter test xs ≡ []
  unfolding filter
  filter_none h [] = refl
  filter_none h (x ∷ xs) = rw (h x) (filter_none h xs)
