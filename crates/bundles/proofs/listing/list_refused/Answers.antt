use Rattle.std.proofs.Common.{length, refl, ap, arith, rules}
use Rattle.outcomes.specs.Text.{ascii}
use Rattle.outcomes.specs.Listing.{decimal, nope}
use Rattle.bundles.specs.FirstLine.{refused_line}
use Rattle.bundles.proofs.FieldsWritten.{start_put}
use Rattle.bundles.proofs.WholeListing.{length_refused, no_room, all_put, refused_put}
use Rattle.bundles.proofs.listing.list_refused.Goals as goal

pub returns-then-text-size : goal.returns-then-text-size
returns-then-text-size c =
    let same = ap (λ n. length (decimal n)) c.from-number.ensures in
    no_room _ (refused_line c.args.refusal c.args.counts) (omega (arith, length_refused c.args.counts (search rules) c.args.refusal))

pub returns : goal.returns
unfolding ascii
returns c =
    let same = ap (λ n. length (decimal n)) c.from-number.ensures in
    all_put _ (refused_line c.args.refusal c.args.counts) _ _ (omega (arith, length_refused c.args.counts (search rules) c.args.refusal))
    (refused_put c.args.counts (search rules) c.args.refusal (start_put nope _ c.args.text.now c.copy_from_slice.ensures.after refl (search rules))
    (rw c.from-number.ensures at c.put_field-next.ensures) c.put_counts.ensures)
