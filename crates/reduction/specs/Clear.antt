-- Where no redex of a phase stands: before an index.
-- No public contract rests on this module: it serves proofs.
use Rattle.std.specs.Prelude.{◌≡◌, Bool, ℕ, ◌<◌}
use Rattle.std.proofs.Math.Option.{some, none}
use Rattle.std.proofs.Math.ListN.{get_elem?}
use Rattle.syntax.specs.Term.{Term}
use Rattle.syntax.specs.Positions.{Position, positions}
use Rattle.reduction.specs.Rules.{rules}
use Rattle.reduction.specs.declared.Phase.{Phase}
use Rattle.reduction.specs.Redex.{contract}

-- no rule of the phase fits a node with an index below i
pub record Clear (pure : Term → Bool) (phase : Phase) (t : Term) (i : ℕ) : Type 0 where
  pub misses : (j : ℕ) (p : Position Term) → j < i → get_elem? (positions t) j ≡ some p → contract pure (rules phase) p.subterm ≡ none
