use Rattle.std.proofs.Common.{refl, rules}
use Rattle.outcomes.specs.Text.{ascii}
use Rattle.outcomes.specs.Listing.{okay}
use Rattle.bundles.proofs.FieldsWritten.{start_put}
use Rattle.bundles.proofs.WholeListing.{accepted_put}
use Rattle.bundles.proofs.listing.put_line.Goals as goal

pub returns : goal.returns
unfolding ascii
returns c =
    let p = accepted_put c.args.counts (search rules) c.args.ty c.args.length (start_put okay _ c.args.text.now c.copy_from_slice.ensures.after refl (search rules))
    c.put_field-second.ensures c.put_field.ensures c.put_counts.ensures in
    p.new_is
