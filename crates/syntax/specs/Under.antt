-- What is put for variables, carried under several binders: the form that code which counts binders refers to.
-- No public contract rests on this module: it serves proofs.
use Rattle.std.specs.Prelude.{ℕ, zero, suc, ◌+◌, ◌-◌}
use Rattle.syntax.specs.Term.{Term}
use Rattle.syntax.specs.Substitution.{Kit, under, renaming, substitution, only}

-- what is put for variables, carried under n binders
unfoldable pub under_by : {X : Type 0} → Kit X → ℕ → (ℕ → X) → ℕ → X
under_by kit zero f = f
under_by kit (suc n) f = under kit (under_by kit n f)

-- under c binders, the variables past them go up by a number
abbrev pub raise_at : ℕ → ℕ → ℕ → ℕ
raise_at c by = under_by renaming c (λ n. by + n)

-- under d binders, the variables past the first one past them come down by one
abbrev pub lower_at : ℕ → ℕ → ℕ
lower_at d = under_by renaming d (λ n. n - 1)

-- under d binders, the variable past them becomes v
abbrev pub only_at : ℕ → Term → ℕ → Term
only_at d v = under_by substitution d (only v)
