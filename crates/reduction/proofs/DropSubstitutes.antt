-- Dropping an unused variable is substituting anything for it: the two put the same for every variable that the body uses.
use mathlib.Core.Path.{◌≡◌, refl, ◌∙◌, ap}
use Prim.Native.Nat.{ℕ, zero, suc, ◌≤◌}
use native.Mathlib.Omega.{arith}
use Rattle.syntax.specs.Term.{Term, var}
use Rattle.syntax.specs.Substitution.{rename, substitution, only, ◌⟦◌⟧}
use Rattle.syntax.specs.Values.{uses}
use Rattle.syntax.proofs.Agreement.{traverse_agrees, rename_is}
use Rattle.syntax.proofs.Uses.{uses_substitute}
use Rattle.reduction.specs.Rules.{lower}

pub rename_lower : (b v : Term) → uses b 0 ≡ 0 → rename b lower ≡ b ⟦ v ⟧
rename_lower b v e = rename_is b lower ∙ traverse_agrees substitution b (λ n. var (lower n)) (only v) same
  where
    same : (n : ℕ) → 1 ≤ uses b n → var (lower n) ≡ only v n
    same zero u = absurd (omega (arith, e, u))
    same (suc n) u = refl

pub uses_lower : (b : Term) (n : ℕ) → uses b 0 ≡ 0 → uses (rename b lower) n ≡ uses b (suc n)
uses_lower b n e = ap (λ (t : Term). uses t n) (rename_lower b (var 0) e) ∙ uses_substitute b (var 0) n ∙ rw e (omega arith)
