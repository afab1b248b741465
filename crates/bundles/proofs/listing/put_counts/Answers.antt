use Rattle.std.proofs.Common.{rules}
use Rattle.bundles.proofs.FieldsPut.{next_put, last_put}
use Rattle.bundles.proofs.listing.put_counts.Goals as goal

pub loop-n-preserved : goal.loop-n-preserved
loop-n-preserved c = next_put c.args.counts c.loop-n.n-index c.from.result (search rules) (search rules) c.loop-n.invariant c.put_field-size.ensures

pub returns : goal.returns
returns c = last_put c.args.counts c.loop-n.n-index c.from-2.result (search rules) (search rules) c.loop-n.invariant c.put_field.ensures
