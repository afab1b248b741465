-- Why `normalize` is right: what `run` answers and writes is the definition's, and the two calls of `clear` make the scratch buffers the
-- definition's too. So the whole outcome is, and the claim follows from the equation.
use Rattle.outcomes.specs.Buffers.{cleared}
use Rattle.outcomes.specs.Normalize.{normalize_outcome}
use Rattle.theory.proofs.ContractHolds.{normalizes}
use Rattle.normalizer.proofs.normalize.normalize.Goals as goal

pub returns : goal.returns
unfolding cleared normalize_outcome
returns c = normalizes _ _ _ _ _ _ (cc)
