-- Check 4 admits the counts 0 to 3 and 8 to 11, and no other.
use mathlib.Core.Path.{◌≡◌, refl, subst}
use mathlib.Core.Bool.{Bool, true, false, ◌&&◌, ◌||◌, not, cond}
use lib.Dec.{T, leb, ltb, eqb, leb→le, nleb→lt}
use lib.ListN.{take, drop}
use borrow.Author.Tests.{le-leb, lt-leb}
use Prim.Native.Nat.{ℕ, ◌-◌, ◌≤◌, ◌<◌}
use native.Mathlib.Omega.{arith}
use Rattle.syntax.specs.Words.{count_of, arity_of, result_of, argument_fields}
use Rattle.syntax.proofs.Options.{and_left, and_right}
use Rattle.typing.specs.TableChecks.{every, well_formed_call}

pub few_arguments : (w : ℕ) → leb (arity_of w) 3 ≡ (leb (count_of w) 3 || (leb 8 (count_of w) && leb (count_of w) 11))
few_arguments w = go (count_of w) (leb 8 (count_of w)) (leb→le 8 (count_of w)) (nleb→lt 8 (count_of w))
  where
    upper : (n : ℕ) (b : Bool) → 8 ≤ n → (T b → n ≤ 11) → (T (not b) → 11 < n) → leb (n - 8) 3 ≡ b
    upper n true h p q = le-leb (n - 8) 3 (omega (arith, h, p tt))
    upper n false h p q = lt-leb (n - 8) 3 (omega (arith, h, q tt))

    go : (n : ℕ) (b : Bool) → (T b → 8 ≤ n) → (T (not b) → n < 8) → leb (cond b (n - 8) n) 3 ≡ (leb n 3 || (b && leb n 11))
    go n true p q = rw (lt-leb n 3 (omega (arith, p tt))) (upper n (leb n 11) (p tt) (leb→le n 11) (nleb→lt n 11))
    go n false p q = last (leb n 3)
      where
        last : (b : Bool) → b ≡ (b || false)
        last true = refl
        last false = refl

-- a call word that passes has at most three arguments, and a known result type
pub call_passes : (types w : ℕ) → T (well_formed_call types w) → T (leb (arity_of w) 3) × T (ltb (result_of w) types)
call_passes types w h =
    let a = leb (arity_of w) 3 in
    let b = ltb (result_of w) types in
    let c = every (λ A. ltb A types) (take (arity_of w) (argument_fields w)) in
    let d = every (λ A. eqb A 0) (drop (arity_of w) (argument_fields w)) in
    let x = and_left (a && b) c (and_left (a && b && c) d h) in
    (and_left a b x, and_right a b x)

-- so it has one of these counts
pub count_passes : (types w : ℕ) → T (well_formed_call types w) → T (leb (count_of w) 3 || (leb 8 (count_of w) && leb (count_of w) 11))
count_passes types w h = subst T (few_arguments w) (call_passes types w h).0
