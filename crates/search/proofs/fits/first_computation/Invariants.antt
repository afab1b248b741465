-- The parts passed are operands that are values, and the next one begins at `start` (`Seeking`).
use Rattle.search.proofs.FirstOperand.{Seeking}
use Rattle.search.proofs.fits.first_computation.Given as goal

abbrev pub invariant-loop-index : goal.invariant-loop-index
invariant-loop-index l = Seeking l.calls l.t l.n l.m l.start l.index
