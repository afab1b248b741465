-- A turn puts one word more behind those that stand at their place.
use Rattle.std.proofs.Common.{arith, refl}
use Rattle.words.proofs.PastedWords.{pasted_next}
use Rattle.words.proofs.moves.copy.Goals as goal

pub loop-i-preserved : goal.loop-i-preserved
loop-i-preserved c =
    pasted_next c.loop-i.invariant _ (omega (arith, c.requires.1, c.loop-i-test.true)) (omega (arith, c.requires.0, c.loop-i-test.true)) refl
