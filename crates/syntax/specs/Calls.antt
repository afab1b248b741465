-- The calls in a term.
use Rattle.std.specs.Prelude.{ℕ, List, [], ◌∷◌, map}
use Rattle.std.proofs.Math.Option.{Option, some, none}
use Rattle.syntax.specs.Term.{Term, as_call}
use Rattle.syntax.specs.Positions.{subterms}

-- the answers that there are
abbrev pub present : {X : Type 0} → List (Option X) → List X
present [] = []
present (none ∷ os) = present os
present (some x ∷ os) = x ∷ present os

-- the calls that the nodes of a term name, under binders and in branches too
unfoldable pub calls_in : Term → List ℕ
calls_in t = present (map as_call (subterms t))
