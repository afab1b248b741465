use Rattle.std.proofs.Common.{rules}
use Rattle.bundles.proofs.PartsRead.{part_len, part_read}
use Rattle.bundles.proofs.input.read_full.Goals as goal

pub loop-done-preserved : goal.loop-done-preserved
loop-done-preserved g c =
    let few = part_len c.read.new.buf c.read.result c.read.ensures.bound in
    record {
      within = search rules;
      read =
          rw c.unwrap_or-n.ensures
          (part_read _ _ _ c.loop-done.bytes c.read.new.buf c.loop-done.done _ c.read.result c.loop-done.invariant.within c.loop-done.invariant.read
          c.read.ensures.bound c.read.ensures.bytes);
    }
