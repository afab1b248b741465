-- A refusal's listing has no words.
use Rattle.responder.proofs.ListedAnswer.{refusal_listed}
use Rattle.responder.proofs.refuse.Goals as goal

pub returns : goal.returns
returns c = refusal_listed _ _ _ _ (rw c.refused.ensures at c.listing.ensures)
