use Rattle.std.proofs.Common.{ap, ◌∙◌, arith, rules}
use Rattle.outcomes.specs.ReadBundle.{lengths_of, total}
use Rattle.bundles.proofs.Readable.{bundle_read}
use Rattle.bundles.proofs.read.read_bundle.Goals as goal

pub returns : goal.returns
returns c =
    let lengths = c.lengths_of-lengths.ensures.0 ∙ ap lengths_of c.word_at-header.ensures in
    let lengths_total = ap total lengths in
    bundle_read c.args.bytes.now c.args.words.now _ _ _ (record {
      few = omega arith;
      some = omega arith;
      low_bits = rw (← c.word_at-header.ensures) (omega arith);
      length_is = omega arith;
      room = omega arith;
    }) lengths (search rules) c.copy_words.ensures
