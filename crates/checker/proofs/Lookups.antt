-- What stands at an index of a list, and in a scope.
use mathlib.Core.Path.{◌≡◌, refl, ◌∙◌, ap}
use mathlib.Core.List.{List, [], ◌∷◌}
use mathlib.Core.Option.{some, none}
use Prim.Native.Nat.{ℕ, zero, suc, ◌+◌, ◌-◌, ◌≤◌, ◌<◌}
use native.Mathlib.Omega.{arith}
use native.Mathlib.Numerals.{add-one}
use native.Mathlib.Nat.{add-zero}
use lib.ListN.{length, get_or, get_elem?, set}
use lib.Seq.{get_or-set_same, get_or-set_other}
use Rattle.typing.specs.Infer.{Context}
use Rattle.checker.specs.Answers.{scope}

pub there : (xs : List ℕ) (i : ℕ) → i < length xs → get_elem? xs i ≡ some (get_or xs i 0)
there [] i h = absurd (omega arith)
there (x ∷ xs) zero h = refl
there (x ∷ xs) (suc i) h = there xs i (omega arith)

pub not_there : (xs : List ℕ) (i : ℕ) → length xs ≤ i → get_elem? xs i ≡ none
not_there [] i h = refl
not_there (x ∷ xs) zero h = absurd (omega arith)
not_there (x ∷ xs) (suc i) h = not_there xs i (omega arith)

pub ruleset at_index = (there, not_there)

module _ (inputs stack : List ℕ) where
  pub bound_there : (d i : ℕ) → i < d → get_elem? (scope inputs stack d) i ≡ some (get_or stack (d - 1 - i) 0)
  unfolding scope
  bound_there zero i h = absurd (omega arith)
  bound_there (suc d) zero h = ap (λ (n : ℕ). some (get_or stack n 0)) (last d)
    where
      last : (d : ℕ) → d ≡ suc d - 1 - 0
      last d = omega arith
  bound_there (suc d) (suc i) h = bound_there d i (omega arith) ∙ ap (λ (n : ℕ). some (get_or stack n 0)) (less d i)
    where
      less : (d i : ℕ) → d - 1 - i ≡ suc d - 1 - suc i
      less d i = omega arith

  pub free_there : (d i : ℕ) → d ≤ i → get_elem? (scope inputs stack d) i ≡ get_elem? inputs (i - d)
  unfolding scope
  free_there zero i h = ap (get_elem? inputs) (same i)
    where
      same : (i : ℕ) → i ≡ i - 0
      same i = omega arith
  free_there (suc d) zero h = absurd (omega arith)
  free_there (suc d) (suc i) h = free_there d i (omega arith) ∙ ap (get_elem? inputs) (less d i)
    where
      less : (d i : ℕ) → i - d ≡ suc i - suc d
      less d i = omega arith

pub ruleset in_a_scope = (there, not_there, bound_there, free_there)

-- a write at or past the depth does not change the scope
pub scope_set : (inputs stack : List ℕ) (d n B : ℕ) → d ≤ n → scope inputs (set stack n B) d ≡ scope inputs stack d
unfolding scope
scope_set inputs stack zero n B h = refl
scope_set inputs stack (suc d) n B h =
    ap (λ (x : ℕ). x ∷ scope inputs (set stack n B) d) (get_or-set_other stack n d B 0 (λ e. absurd (omega arith)))
    ∙ ap {B = List ℕ} (λ l. get_or stack d 0 ∷ l) (scope_set inputs stack d n B (omega arith))

-- so many binders more
abbrev pub extend : ℕ → ℕ → Context → Context
extend zero B Γ = Γ
extend (suc n) B Γ = B ∷ Γ

-- a binder's type on top of the stack, for a part under none or one
pub scope_push : (inputs stack : List ℕ) (d b B : ℕ) → d < length stack → b ≤ 1
    → scope inputs (set stack d B) (d + b) ≡ extend b B (scope inputs stack d)
unfolding scope
scope_push inputs stack d zero B h l = ap (scope inputs (set stack d B)) (add-zero d) ∙ scope_set inputs stack d d B (omega arith)
scope_push inputs stack d (suc zero) B h l =
    ap (scope inputs (set stack d B)) (add-one d) ∙ ap (λ (x : ℕ). x ∷ scope inputs (set stack d B) d) (get_or-set_same stack d B 0 h)
    ∙ ap {B = List ℕ} (λ g. B ∷ g) (scope_set inputs stack d d B (omega arith))
scope_push inputs stack d (suc (suc b)) B h l = absurd (omega arith)
