-- The outcome of `normalize` with the program's settings and buffers of 8,192 zeros, listed.
use Rattle.std.proofs.Common.{refl}
use Rattle.responder.proofs.ListedAnswer.{listing_normalized, full_capacity}
use Rattle.responder.proofs.answer_to.Goals as goal

pub returns : goal.returns
returns c =
    rw (← c.tables.view_is)
    (listing_normalized _ _ _ _ _ _ _ _ c.no_ceilings-settings.ensures (full_capacity _ _ _ refl refl refl)
    c.normalize-answer.ensures.outcome c.listing.ensures)
