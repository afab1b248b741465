use Rattle.std.proofs.Common.{arith}
use Rattle.bundles.proofs.Bytes.{copy_none, copy_word, copy_all}
use Rattle.bundles.proofs.read.copy_words.Goals as goal

pub loop-i-init : goal.loop-i-init
loop-i-init c = copy_none c.args.bytes.now c.args.words.now

pub loop-i-preserved : goal.loop-i-preserved
loop-i-preserved c = copy_word c.args.bytes.now c.args.words.now _ c.loop-i.i _ (omega arith) c.word_at.ensures c.loop-i.invariant

pub returns : goal.returns
returns c = copy_all c.args.bytes.now c.args.words.now _ c.loop-i.i (omega arith) c.loop-i.invariant
