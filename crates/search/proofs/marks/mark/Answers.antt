-- A use of a binder in scope raises its mark, which lies as far from the innermost as the variable's number says.
use Rattle.search.proofs.MarkedUses.{mark_binder, mark_input}
use Rattle.search.proofs.marks.mark.Goals as goal

pub returns-then-number-depth : goal.returns-then-number-depth
returns-then-number-depth c = mark_binder _ _ _ _ c.if-number-depth.true c.requires.deep

pub returns-else-number-depth : goal.returns-else-number-depth
returns-else-number-depth c = mark_input _ _ _ _ c.if-number-depth.false
