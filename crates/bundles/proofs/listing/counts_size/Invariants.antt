-- The bytes of the counts so far.
use Rattle.std.proofs.Common.{◌≡◌, ◌*◌, ◌≤◌, length, take}
use Rattle.bundles.proofs.ListedFields.{spaced}
use Rattle.bundles.proofs.listing.counts_size.Given as goal

abbrev pub invariant-loop-n : goal.invariant-loop-n
invariant-loop-n l = record { same : l.size ≡ length (spaced (take l.n-index l.fn.counts)); few : l.size ≤ 21 * l.n-index }
