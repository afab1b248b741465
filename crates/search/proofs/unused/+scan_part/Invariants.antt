-- Ahead are a row of `owed` terms and, under one binder more, a row of `later` ones (`Scanning`), and each of them has a word. Every turn
-- passes a word or turns the second row into the first.
use Rattle.std.proofs.Common.{◌+◌, ◌-◌, ◌*◌, ◌≤◌, length}
use Rattle.search.proofs.UnusedRows.{Scanning}
use Rattle.search.proofs.unused.+scan_part.Given as goal

abbrev pub decreases-scan_part : goal.decreases-scan_part
decreases-scan_part l = length l.t.now

abbrev pub invariant-loop-owed : goal.invariant-loop-owed
invariant-loop-owed l =
    Scanning l.calls l.t l.base l.depth l.initial.used l.used l.owed l.later l.under l.at l.fresh l.first
    × (l.at + (l.owed + l.later) ≤ length l.t)

abbrev pub decreases-loop-owed : goal.decreases-loop-owed
decreases-loop-owed l = 16 * (length l.t - l.at) + l.later
