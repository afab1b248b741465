-- The three argument fields of a call word, each by its place: those before the count are the arguments, those from it on are not used.
use mathlib.Core.Path.{◌≡◌, refl}
use mathlib.Core.Bool.{Bool, ◌&&◌, ◌||◌}
use mathlib.Core.List.{[], ◌∷◌}
use Prim.Native.Nat.{ℕ, zero, suc}
use native.Mathlib.Omega.{arith}
use lib.Dec.{eqb, ltb, leb}
use lib.ListN.{take, drop}
use lib.Seq.{take-nil}
use Rattle.std.proofs.lemmas.Bool.Decides.{nat_tests}
use Rattle.syntax.specs.Words.{arity_of, result_of, argument_fields}
use Rattle.words.specs.Shapes.{argument_of}
use Rattle.typing.specs.Infer.{equal}
use Rattle.typing.specs.TableChecks.{every, well_formed_call}
use Rattle.typing.specs.TermChecks.{field_fits}

-- the first n of three types are those of the fields
pub agrees_before : (n w a b c : ℕ) → equal (take n (a ∷ b ∷ c ∷ [])) (take n (argument_fields w))
    ≡ ((ltb n 1 || eqb a (argument_of w 0)) && (ltb n 2 || eqb b (argument_of w 1)) && (ltb n 3 || eqb c (argument_of w 2)))
unfolding argument_of
agrees_before zero w a b c = refl
agrees_before (suc zero) w a b c = grind arith
agrees_before (suc (suc zero)) w a b c = grind arith
agrees_before (suc (suc (suc n))) w a b c = grind (arith, take-nil {A = ℕ} n)

-- the test of a call word
pub call_by_fields : (t w : ℕ) → well_formed_call t w
    ≡ (leb (arity_of w) 3 && ltb (result_of w) t && field_fits (ltb 0 (arity_of w)) t (argument_of w 0)
    && field_fits (ltb 1 (arity_of w)) t (argument_of w 1) && field_fits (ltb 2 (arity_of w)) t (argument_of w 2))
unfolding argument_of
call_by_fields t w = by (arity_of w) (ltb (result_of w) t) (argument_of w 0) (argument_of w 1) (argument_of w 2)
  where
    by : (n : ℕ) (r : Bool) (x y z : ℕ)
        → (leb n 3 && r && every (λ A. ltb A t) (take n (x ∷ y ∷ z ∷ [])) && every (λ A. eqb A 0) (drop n (x ∷ y ∷ z ∷ [])))
        ≡ (leb n 3 && r && field_fits (ltb 0 n) t x && field_fits (ltb 1 n) t y && field_fits (ltb 2 n) t z)
    by zero r x y z = grind (arith, nat_tests)
    by (suc zero) r x y z = grind (arith, nat_tests)
    by (suc (suc zero)) r x y z = grind (arith, nat_tests)
    by (suc (suc (suc zero))) r x y z = grind (arith, nat_tests)
    by (suc (suc (suc (suc n)))) r x y z = grind (arith, nat_tests)
