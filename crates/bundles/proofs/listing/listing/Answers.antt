use Rattle.std.proofs.Common.{arith}
use Rattle.bundles.proofs.ListingOutcome.{outcome_refused, outcome_accepted, outcome_short}
use Rattle.bundles.proofs.listing.listing.Goals as goal

pub returns-then-answer-gt0 : goal.returns-then-answer-gt0
returns-then-answer-gt0 c = outcome_refused c.args.answer _ _ _ (omega arith) c.list_refused.ensures

pub returns-in-Some : goal.returns-in-Some
returns-in-Some c =
    let found = c.in-Some.ensures.lookup in
    outcome_accepted c.args.answer _ _ _ _ (omega arith) found.0.1 (grind (arith, found)) c.list_accepted.ensures

pub returns-in-None : goal.returns-in-None
returns-in-None c = outcome_short c.args.answer _ _ (omega arith) (grind (arith, c.in-None.ensures.lookup))
