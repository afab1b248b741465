-- How often a renamed or substituted term uses a variable, for the renamings and substitutions of the rules: each is a traversal whose
-- variables are counted one by one.
use mathlib.Core.Path.{◌≡◌, refl, sym, ◌∙◌, ap, ap₂}
use Prim.Native.Nat.{ℕ, zero, suc, ◌+◌, ◌*◌, ◌≤◌}
use native.Mathlib.Omega.{arith}
use native.Mathlib.Nat.{zero-add, suc-add, add-suc}
use lib.Dec.{eqb, eqb-zero-suc, eqb-suc-zero, eqb-suc-suc}
use Rattle.syntax.specs.Term.{Term, Terms, done, arg}
use Rattle.syntax.specs.Substitution.{traverse, traverse_all, renaming, rename, weaken, weaken_body, substitution}
use Rattle.syntax.specs.Substitution.{substitute, ◌⟦◌⟧}
use Rattle.syntax.specs.Under.{under_by, raise_at, only_at}
use Rattle.syntax.specs.Values.{counts, uses, uses_all}
use Rattle.syntax.proofs.Under.{weaken_body-raise_at}
use Rattle.syntax.proofs.UsesTraverse.{Weakens, Puts, puts_under, uses_traverse}

counts_suc : (m n : ℕ) → counts (eqb (suc m) (suc n)) ≡ counts (eqb m n)
counts_suc m n = ap counts (eqb-suc-suc m n)

counts_suc_zero : (m : ℕ) → counts (eqb (suc m) 0) ≡ 0
counts_suc_zero m = ap counts (eqb-suc-zero m)

counts_zero_suc : (n : ℕ) → counts (eqb 0 (suc n)) ≡ 0
counts_zero_suc n = ap counts (eqb-zero-suc n)

counts_add : (k m n : ℕ) → counts (eqb (k + m) (k + n)) ≡ counts (eqb m n)
counts_add zero m n = rw (zero-add m, zero-add n)
counts_add (suc k) m n = rw (suc-add k m, suc-add k n) (counts_suc (k + m) (k + n) ∙ counts_add k m n)

-- renaming
pub renaming_weakens : Weakens renaming
unfolding uses
renaming_weakens = record { zeroth = λ n. refl; fresh = counts_suc_zero; moved = counts_suc }

-- a renaming that sends n, and it alone, to n'
pub uses-rename : (t : Term) (f : ℕ → ℕ) (n' n : ℕ) → ((m : ℕ) → counts (eqb (f m) n') ≡ counts (eqb m n)) → uses (rename t f) n' ≡ uses t n
unfolding uses
uses-rename t f n' n h = once _ _ _ (uses_traverse renaming renaming_weakens 1 0 t f n' n n (λ m. omega (arith, h m)))
  where
    once : (x y z : ℕ) → x ≡ 1 * y + 0 * z → x ≡ y
    once x y z e = omega (arith, e)

-- a renaming that sends nothing to n'
pub uses-rename-none : (t : Term) (f : ℕ → ℕ) (n' : ℕ) → ((m : ℕ) → counts (eqb (f m) n') ≡ 0) → uses (rename t f) n' ≡ 0
unfolding uses
uses-rename-none t f n' h = never _ _ _ (uses_traverse renaming renaming_weakens 0 0 t f n' 0 0 (λ m. omega (arith, h m)))
  where
    never : (x y z : ℕ) → x ≡ 0 * y + 0 * z → x ≡ 0
    never x y z e = omega (arith, e)

pub uses-weaken_zero : (t : Term) → uses (weaken t) 0 ≡ 0
uses-weaken_zero t = uses-rename-none t suc 0 counts_suc_zero

pub uses-weaken-suc : (t : Term) (n : ℕ) → uses (weaken t) (suc n) ≡ uses t n
uses-weaken-suc t n = uses-rename t suc (suc n) n (λ m. counts_suc m n)

pub uses_weakens_suc : (ts : Terms) (n : ℕ) → uses_all (traverse_all renaming ts suc) (suc n) ≡ uses_all ts n
unfolding uses traverse
uses_weakens_suc done n = refl
uses_weakens_suc (arg t ts) n = ap₂ ◌+◌ (uses-weaken-suc t n) (uses_weakens_suc ts n)

-- variables raised under c binders
raised_above : (c by n : ℕ) → c ≤ n → (m : ℕ) → counts (eqb (raise_at c by m) (by + n)) ≡ counts (eqb m n)
unfolding under_by
raised_above zero by n h m = counts_add by m n
raised_above (suc c) by zero h m = absurd (omega (arith, h))
raised_above (suc c) by (suc n) h zero = rw (add-suc by n) (counts_zero_suc (by + n) ∙ sym (counts_zero_suc n))
raised_above (suc c) by (suc n) h (suc m) = rw (add-suc by n)
    (counts_suc (raise_at c by m) (by + n) ∙ raised_above c by n (omega (arith, h)) m ∙ sym (counts_suc m n))

pub uses-raise_at_above : (t : Term) (c by n : ℕ) → c ≤ n → uses (rename t (raise_at c by)) (by + n) ≡ uses t n
uses-raise_at_above t c by n h = uses-rename t (raise_at c by) (by + n) n (raised_above c by n h)

pub uses-weaken_body_past : (b : Term) (n : ℕ) → uses (weaken_body b) (suc (suc n)) ≡ uses b (suc n)
uses-weaken_body_past b n = rw (suc-add 0 (suc n), zero-add (suc n)) at
    (ap (λ (t : Term). uses t (1 + suc n)) (weaken_body-raise_at b) ∙ uses-raise_at_above b 1 1 (suc n) (omega arith))

-- substitution
pub substitution_weakens : Weakens substitution
unfolding uses
substitution_weakens = record { zeroth = λ n. refl; fresh = uses-weaken_zero; moved = uses-weaken-suc }

-- what is put for a variable under d binders, counted at a variable past them and at one of them
puts_past : (v : Term) (d n n' : ℕ) → d + n ≡ n' → Puts substitution 1 (uses v n) (only_at d v) n' (suc n') d
unfolding under_by uses
puts_past v zero n n' e zero = rw (counts_zero_suc n', ← e, zero-add n) (omega arith)
puts_past v zero n n' e (suc m) = rw (counts_suc_zero m) (omega (arith, counts_suc m n'))
puts_past v (suc d) n zero e m = absurd (omega (arith, e))
puts_past v (suc d) n (suc n') e m = puts_under substitution substitution_weakens 1 (uses v n) (only_at d v) n' (suc n') d
    (puts_past v d n n' (omega (arith, e))) m

pub uses-only_at_past : (b : Term) (d : ℕ) (v : Term) (n : ℕ)
    → uses (substitute b (only_at d v)) (d + n) ≡ uses b (suc (d + n)) + uses b d * uses v n
uses-only_at_past b d v n =
    let e = uses_traverse substitution substitution_weakens 1 (uses v n) b (only_at d v) (d + n) (suc (d + n)) d
    (puts_past v d n (d + n) refl) in
    omega (arith, e)

pub uses_substitute : (b v : Term) (n : ℕ) → uses (b ⟦ v ⟧) n ≡ uses b (suc n) + uses b 0 * uses v n
unfolding under_by
uses_substitute b v n = rw (zero-add n) at (uses-only_at_past b 0 v n)
