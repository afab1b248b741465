-- What a renaming or substitution under so many binders puts for a variable, by where the variable stands: below the binders' number it
-- stays, because `under` puts variable 0 for itself and weakens what it put before.
use mathlib.Core.Path.{◌≡◌, refl, sym, ◌∙◌, ap, fun_ext}
use mathlib.Core.Logic.{◌≢◌}
use mathlib.Core.Bool.{Bool, true, false}
use lib.Dec.{ltb}
use borrow.Author.Tests.{ltb-true, ltb-false}
use Prim.Native.Nat.{ℕ, zero, suc, ◌+◌, ◌-◌, ◌≤◌, ◌<◌}
use native.Mathlib.Omega.{arith}
use Rattle.syntax.specs.Term.{Term, var}
use Rattle.syntax.specs.Substitution.{Kit, under, traverse, renaming, rename, weaken, weaken_body}
use Rattle.syntax.specs.Under.{under_by, raise_at, lower_at, only_at}
use Rattle.syntax.proofs.Algebra.{rename_id, rename-rename}

module _ {X : Type 0} (kit : Kit X) where
  -- one binder more
  pub under_under_by : (n : ℕ) (f : ℕ → X) → under kit (under_by kit n f) ≡ under_by kit (suc n) f
  unfolding under_by
  under_under_by n f = refl

-- renaming
pub raise_at_below : (c by n : ℕ) → n < c → raise_at c by n ≡ n
unfolding under_by
raise_at_below zero by n h = absurd (omega (arith, h))
raise_at_below (suc c) by zero h = refl
raise_at_below (suc c) by (suc n) h = ap suc (raise_at_below c by n (omega (arith, h)))

pub raise_at_above : (c by n : ℕ) → c ≤ n → raise_at c by n ≡ by + n
unfolding under_by
raise_at_above zero by n h = refl
raise_at_above (suc c) by zero h = absurd (omega (arith, h))
raise_at_above (suc c) by (suc n) h = omega (arith, raise_at_above c by n (omega (arith, h)))

pub lower_at_low : (d n : ℕ) → n ≤ d → lower_at d n ≡ n
unfolding under_by
lower_at_low zero n h = omega (arith, h)
lower_at_low (suc d) zero h = refl
lower_at_low (suc d) (suc n) h = ap suc (lower_at_low d n (omega (arith, h)))

pub lower_at_above : (d n : ℕ) → d < n → lower_at d n ≡ n - 1
unfolding under_by
lower_at_above zero n h = refl
lower_at_above (suc d) zero h = absurd (omega (arith, h))
lower_at_above (suc d) (suc n) h = omega (arith, lower_at_above d n (omega (arith, h)), h)

-- the renamings of the rules
pub weaken-raise_at : (t : Term) → weaken t ≡ rename t (raise_at 0 1)
unfolding under_by
weaken-raise_at t = ap (rename t) (fun_ext λ n. omega arith)

pub weaken_body-raise_at : (b : Term) → weaken_body b ≡ rename b (raise_at 1 1)
unfolding under_by
weaken_body-raise_at b = ap (λ (f : ℕ → ℕ). rename b (under renaming f)) (fun_ext λ n. omega arith)

-- substitution
only_at_below : (d : ℕ) (v : Term) (n : ℕ) → n < d → only_at d v n ≡ var n
unfolding under_by traverse
only_at_below zero v n h = absurd (omega (arith, h))
only_at_below (suc d) v zero h = refl
only_at_below (suc d) v (suc n) h = ap weaken (only_at_below d v n (omega (arith, h)))

pub only_at_at : (d : ℕ) (v : Term) → only_at d v d ≡ rename v (λ n. d + n)
unfolding under_by
only_at_at zero v = sym (rename_id v) ∙ ap (rename v) (fun_ext λ n. omega arith)
only_at_at (suc d) v = ap weaken (only_at_at d v) ∙ rename-rename v (λ n. d + n) suc ∙ ap (rename v) (fun_ext λ n. omega arith)

only_at_past : (d : ℕ) (v : Term) (n : ℕ) → d ≤ n → only_at d v (suc n) ≡ var n
unfolding under_by traverse
only_at_past zero v n h = refl
only_at_past (suc d) v zero h = absurd (omega (arith, h))
only_at_past (suc d) v (suc n) h = ap weaken (only_at_past d v n (omega (arith, h)))

only_at_above : (d : ℕ) (v : Term) (n : ℕ) → d < n → only_at d v n ≡ var (n - 1)
only_at_above d v zero h = absurd (omega (arith, h))
only_at_above d v (suc n) h = only_at_past d v n (omega (arith, h)) ∙ ap var (omega arith)

-- any other variable is lowered
pub only_at_other : (d : ℕ) (v : Term) (n : ℕ) → n ≢ d → only_at d v n ≡ var (lower_at d n)
only_at_other d v n h = go (ltb d n) refl
  where
    go : (b : Bool) → ltb d n ≡ b → only_at d v n ≡ var (lower_at d n)
    go true f = let l = ltb-true d n f in only_at_above d v n l ∙ ap var (sym (lower_at_above d n l))
    go false f =
        let l : n < d = omega (arith, ltb-false d n f, h) in
        only_at_below d v n l ∙ ap var (sym (lower_at_low d n (omega (arith, l))))
