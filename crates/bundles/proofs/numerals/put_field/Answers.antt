use Rattle.bundles.proofs.FieldsWritten.{field_put}
use Rattle.bundles.proofs.numerals.put_field.Goals as goal

pub returns : goal.returns
returns c =
    let w = c.write_digits.ensures in
    field_put _ _ c.args.n c.args.end c.args.at _ c.write_digits.result c.ranges.n.fits c.requires c.digit_count-count.ensures.0 w.start w.written w.before
