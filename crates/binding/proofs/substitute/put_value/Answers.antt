-- Under no binder the value is copied; under some its variables are raised by as many.
use Rattle.std.proofs.Common.{arith}
use Rattle.binding.proofs.SubstitutedWords.{whole_room, raises_copied, raises_renamed}
use Rattle.binding.proofs.substitute.put_value.Goals as goal

pub rename_into-requires : goal.rename_into-requires
rename_into-requires c =
    let r = c.requires.whole in (whole_room _ r.0 r.1, omega arith, r.3, c.requires.value_in_bounds)

pub returns-then-by-eq0 : goal.returns-then-by-eq0
returns-then-by-eq0 c = raises_copied c.if-by-eq0.true c.copy.auto.dst c.copy.ensures

pub returns-else-by-eq0 : goal.returns-else-by-eq0
returns-else-by-eq0 c = raises_renamed _ c.requires.whole.0 c.rename_into.ensures
