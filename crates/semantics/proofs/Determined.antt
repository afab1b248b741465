-- A run ends in one way: two ends agree at the larger fuel.
use mathlib.Core.Path.{◌≡◌, sym, ◌∙◌}
use Prim.Native.Nat.{ℕ, ◌+◌}
use native.Mathlib.Omega.{arith}
use Rattle.syntax.specs.Term.{Term}
use Rattle.semantics.specs.Value.{Value, Values, Trace}
use Rattle.semantics.specs.Run.{ended, Ends}

pub run_determined : (answer : ℕ → Values → Value) (ρ : Values) (t : Term) (v w : Value) (c d : Trace) → Ends answer ρ t v c
    → Ends answer ρ t w d → ended v c ≡ ended w d
run_determined answer ρ t v w c d p q = sym (p.ends (p.fuel + q.fuel) (omega arith)) ∙ q.ends (p.fuel + q.fuel) (omega arith)
