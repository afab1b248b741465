-- A refusal's number is one of 1 to 13.
use Rattle.std.proofs.Common.{◌≡◌, ◌≤◌, arith}
use Rattle.outcomes.specs.declared.Refusal.{Refusal}
use Rattle.outcomes.specs.Refusal.{number_of}

pub number_within : (r : Refusal) → (1 ≤ number_of r) × (number_of r ≤ 13)
number_within r = grind arith

-- 0 is what is no refusal
pub number_some : (r : Refusal) → number_of r ≡ 0 → ⊥
number_some r z = omega (arith, z, number_within r)
