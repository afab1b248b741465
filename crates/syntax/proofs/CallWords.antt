-- Call words: in 64 bits the number of arguments is the count's remainder by 8, and it is the count of a call that does not act. In a table
-- where no call acts, none does by its number.
use mathlib.Core.Path.{◌≡◌, refl, ap}
use mathlib.Core.Bool.{Bool, true, false, not, cond}
use mathlib.Core.List.{List}
use lib.Dec.{T, leb, leb→le, nleb→lt}
use Prim.Native.Nat.{ℕ, ◌-◌, ◌%◌, ◌^◌, ◌≤◌, ◌<◌}
use native.Mathlib.Omega.{arith}
use Rattle.syntax.specs.Words.{count_of, acts_of, arity_of}
use Rattle.syntax.specs.Tables.{acts, some_acts}
use Rattle.syntax.proofs.AnyMember.{each_fails}

-- with no branch, as code may compute it
pub arity_is_remainder : (w : ℕ) → w < 2 ^ 64 → arity_of w ≡ count_of w % 8
arity_is_remainder w h = go (leb 8 (count_of w)) (leb→le 8 (count_of w)) (nleb→lt 8 (count_of w))
  where
    go : (b : Bool) → (T b → 8 ≤ count_of w) → (T (not b) → count_of w < 8) → cond b (count_of w - 8) (count_of w) ≡ count_of w % 8
    go true p q = omega (arith, h, p tt)
    go false p q = omega (arith, h, q tt)

-- where no call of the table acts, none does by its number
pub none_acts : (calls : List ℕ) → some_acts calls ≡ false → (k : ℕ) → acts calls k ≡ false
none_acts calls e k = each_fails acts_of 0 refl calls e k

-- a call that does not act takes as many arguments as its count says
pub arity_is_count : (w : ℕ) → acts_of w ≡ false → arity_of w ≡ count_of w
arity_is_count w e = ap (λ (b : Bool). cond b (count_of w - 8) (count_of w)) e
