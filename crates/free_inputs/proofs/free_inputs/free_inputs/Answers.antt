-- Refused by the checks, or accepted and then marked; 256 marks have no more than 256 ones.
use Rattle.std.proofs.Common.{arith}
use Rattle.checker.proofs.Verdicts.{accepted_of, accepted_starts}
use Rattle.free_inputs.proofs.FreeInputs.{ones_few, err_read, accepted_read}
use Rattle.free_inputs.proofs.free_inputs.free_inputs.Goals as goal

pub input_marks-marks-requires : goal.input_marks-marks-requires
input_marks-marks-requires c =
    let a = accepted_of _ _ _ c.in-Ok.ensures in
    (accepted_starts a, a.short)

pub overflow_add-count-in-Ok-2 : goal.overflow_add-count-in-Ok-2
overflow_add-count-in-Ok-2 c =
    omega (arith, ones_few c.input_marks-marks.ensures (accepted_starts (accepted_of _ _ _ c.in-Ok.ensures)))

pub returns-in-Err : goal.returns-in-Err
returns-in-Err c = err_read _ _ _ c.in-Err.ensures _ c.from.ensures

pub returns-in-Ok : goal.returns-in-Ok
returns-in-Ok c = accepted_read _ _ (accepted_of _ _ _ c.in-Ok.ensures) _ c.input_marks-marks.ensures
