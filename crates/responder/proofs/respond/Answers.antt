-- Why `respond` is right: a bundle that is refused gets the listing of its refusal. One that is read fits the words, so its parts are there,
-- and are answered.
use Rattle.outcomes.specs.Respond.{response, respond_outcome, respond_to}
use Rattle.responder.proofs.ListedAnswer.{err_response, reading_fits}
use Rattle.responder.proofs.respond.Goals as goal

pub returns-in-Err : goal.returns-in-Err
unfolding response respond_outcome
returns-in-Err c = rw (← c.in-Err.ensures, err_response) c.refuse.ensures

pub answer_parts-requires : goal.answer_parts-requires
answer_parts-requires c = reading_fits _ _ _ _ c.in-Ok.ensures

pub returns-in-Ok : goal.returns-in-Ok
unfolding response respond_outcome respond_to
returns-in-Ok c = rw (← c.in-Ok.ensures) c.answer_parts.ensures
