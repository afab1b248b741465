-- No more is written than the text has room for.
use Rattle.std.proofs.Common.{arith, sym, length-take-le}
use Rattle.bundles.proofs.ListingBound.{respond_within}
use Rattle.corpus.proofs.lines.bundle_listing.Goals as goal

pub slice_bounds-text-end : goal.slice_bounds-text-end
slice_bounds-text-end g c = omega (arith, respond_within _ _ _ c.respond-written.ensures)

pub slice_bounds-write_all-end : goal.slice_bounds-write_all-end
slice_bounds-write_all-end g c = sym (length-take-le _ _ (omega (arith, respond_within _ _ _ c.respond-written.ensures)))
