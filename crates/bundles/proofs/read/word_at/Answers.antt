use Rattle.std.proofs.Common.{arith}
use Rattle.bundles.proofs.Bytes.{word_of_part}
use Rattle.bundles.proofs.read.word_at.Goals as goal

pub returns : goal.returns
returns c =
    let whole = rw c.unwrap.ensures at c.try_from.ensures.1 in
    omega (arith, word_of_part c.args.bytes.now c.unwrap.result c.args.at _ (omega arith) c.requires whole.same)
