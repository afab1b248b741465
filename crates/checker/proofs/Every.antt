-- A test of every member of a list, as the library says it of a chain.
use mathlib.Core.Path.{◌≡◌, refl, sym, ◌∙◌, ap}
use mathlib.Core.Bool.{Bool, ◌&&◌}
use mathlib.Core.List.{List, [], ◌∷◌}
use Prim.Native.Nat.{ℕ, suc}
use native.Mathlib.Numerals.{add-one}
use Rattle.std.specs.List.{list_all, enumerate_from}
use Rattle.typing.specs.TableChecks.{every, well_formed_type, well_formed_types}

pub every_by_list : {X : Type 0} (test : X → Bool) (xs : List X) → every test xs ≡ list_all test xs
every_by_list test [] = refl
every_by_list test (x ∷ xs) = ap (λ (b : Bool). test x && b) (every_by_list test xs)

-- the test of a type word knows its index
pub types_by_list : (i : ℕ) (ws : List ℕ) → well_formed_types i ws ≡ list_all (λ (p : ℕ × ℕ). well_formed_type p.0 p.1) (enumerate_from i ws)
unfolding well_formed_types
types_by_list i [] = refl
types_by_list i (w ∷ ws) = ap (λ (b : Bool). well_formed_type i w && b)
    (types_by_list (suc i) ws ∙ ap (λ (n : ℕ). list_all (λ (p : ℕ × ℕ). well_formed_type p.0 p.1) (enumerate_from n ws)) (sym (add-one i)))
