-- Whether a part may be dropped, by the kind and the number of its first node.
use Rattle.std.specs.Prelude.{ℕ, Bool, true, not, cond, List, eqb}
use Rattle.syntax.specs.Tables.{acts, some_acts}

-- a call if it does not act, an application if no call of the table acts, and anything else
unfoldable pub node_may_drop : List ℕ → ℕ → ℕ → Bool
node_may_drop calls k n = cond (eqb k 1) (not (acts calls n)) (cond (eqb k 3) (not (some_acts calls)) true)
