use Rattle.std.proofs.Common.{arith}
use Rattle.bundles.proofs.WholeListing.{accepted, listing_size, no_room, all_put, words_put}
use Rattle.bundles.proofs.listing.list_accepted.Goals as goal

pub returns-then-text-size : goal.returns-then-text-size
returns-then-text-size c =
    no_room _ (accepted c.args.counts c.args.words.now c.args.ty) (omega (arith, listing_size c.args.counts c.args.words.now c.args.ty))

pub returns : goal.returns
returns c =
    all_put _ (accepted c.args.counts c.args.words.now c.args.ty) _ _ (omega (arith, listing_size c.args.counts c.args.words.now c.args.ty))
    (words_put c.args.counts c.args.words.now c.args.ty c.line_size-size.ensures.0 c.put_line.ensures c.put_lines.ensures)
