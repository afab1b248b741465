-- Three depths are written whether or not the node has as many parts: the last two parts' by their binders and the depth itself. Any further
-- ones are filled. Which of these stand under the node's binder is the table of kinds.
use Rattle.std.proofs.Common.{ℕ, length-set, arith}
use Rattle.words.proofs.PartDepths.{filled_opens, three_filled, row_filled}
use Rattle.words.proofs.depths.open_parts.Goals as goal
use Rattle.words.proofs.depths.open_parts.Goals.{then-n-gt3, else-n-gt3}

pub returns : goal.returns
returns c = filled_opens _ _ _ _ _ _ _ _ _ _ c.kind-k.ensures c.part_count-n.ensures.0 c.last_binder.ensures.0 c.middle_binder.ensures.0 c.requires.0
    (elim c.if-n-gt3.branch [
      | then-n-gt3 w ↦ rw w.pending-is (row_filled _ _ _ _ _ (omega arith) (omega (arith, length-set {A = ℕ})) (w.fill.ensures.after λ y e. e))
      | else-n-gt3 w ↦ rw w.pending-is (three_filled _ _ _ _ (omega arith))
    ])
