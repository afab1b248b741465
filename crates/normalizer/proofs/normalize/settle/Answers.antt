-- Why `settle` is right: the copy puts the term's words at the end of the first scratch buffer, where `reduce` may begin. A refusal is
-- answered as it is; otherwise the normal form is at the buffer's end, and is copied to the output.
use Rattle.std.proofs.Common.{refl}
use Rattle.normalizer.proofs.TermReduced.{pasted_last, settled_stopped, settled_pasted}
use Rattle.normalizer.proofs.normalize.settle.Goals as goal

pub returns-in-Err : goal.returns-in-Err
returns-in-Err c =
    settled_stopped c.requires refl (rw (pasted_last c.requires _ c.copy.ensures) at c.reduce-begin.ensures) c.in-Err.is c.refused.ensures

pub returns-in-Ok : goal.returns-in-Ok
returns-in-Ok c =
    settled_pasted c.requires refl (rw (pasted_last c.requires _ c.copy.ensures) at c.reduce-begin.ensures) c.in-Ok.is c.copy-in-Ok.ensures
