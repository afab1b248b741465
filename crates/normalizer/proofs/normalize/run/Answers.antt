-- Why `run` is right: what the checks refuse is answered with their number. A term that they accept is refused with 11 if it is longer than
-- the capacity. Otherwise it is settled in parts of the scratch buffers that are as long as the capacity.
use Rattle.std.proofs.Common.{ap, arith}
use Rattle.checker.proofs.Verdicts.{accepted_of}
use Rattle.normalizer.proofs.AnswerAndOutput.{err_fills, too_long_fills, accepted_settleable, settled_fills}
use Rattle.normalizer.proofs.normalize.run.Goals as goal

pub returns-in-Err : goal.returns-in-Err
returns-in-Err c = err_fills _ _ _ _ _ c.in-Err.ensures c.refused.ensures

pub returns-then-capacity-term : goal.returns-then-capacity-term
returns-then-capacity-term c =
    too_long_fills (accepted_of _ _ _ c.in-Ok.ensures) _ _ (omega arith) _ c.if-capacity-term.true c.refused-then-capacity-term.ensures

pub settle-requires : goal.settle-requires
settle-requires c =
    rw (ap (λ t. t.calls) c.tables.view_is)
    (accepted_settleable (accepted_of _ _ _ c.in-Ok.ensures) _ _ (omega arith) c.if-capacity-term.false)

pub returns : goal.returns
returns c =
    settled_fills (accepted_of _ _ _ c.in-Ok.ensures) _ c.min-capacity.result (omega arith) _
    (rw (ap (λ t. t.calls) c.tables.view_is) at c.settle.ensures)
