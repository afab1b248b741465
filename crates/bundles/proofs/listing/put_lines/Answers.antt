use Rattle.std.proofs.Common.{◌∙◌}
use Rattle.bundles.proofs.Lines.{lines_put}
use Rattle.bundles.proofs.listing.put_lines.Goals as goal

pub loop-i-preserved : goal.loop-i-preserved
loop-i-preserved c = c.put_word.ensures ∙ lines_put c.args.words.now c.args.text.now _ c.args.at _ c.loop-i-test.true c.loop-i.invariant
