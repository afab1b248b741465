use Rattle.bundles.proofs.Bytes.{WordsCopied}
use Rattle.bundles.proofs.read.copy_words.Given as goal

abbrev pub invariant-loop-i : goal.invariant-loop-i
invariant-loop-i l = WordsCopied l.bytes l.initial.words l.words l.i
