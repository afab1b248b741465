-- No rule fits a node before the word that the scan has reached (`Scanned`).
use Rattle.search.proofs.ForwardScan.{Scanned}
use Rattle.search.proofs.redex.first_redex.Given as goal

abbrev pub invariant-loop-place : goal.invariant-loop-place
invariant-loop-place l = Scanned l.phase l.calls l.rest l.place
