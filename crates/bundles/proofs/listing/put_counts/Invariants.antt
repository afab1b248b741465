use Rattle.bundles.proofs.FieldsPut.{FrontPut}
use Rattle.bundles.proofs.listing.put_counts.Given as goal

abbrev pub invariant-loop-n : goal.invariant-loop-n
invariant-loop-n l = FrontPut l.fn.counts l.initial.text l.text l.fn.at l.size l.n-index
