-- The table is the definition at each kind.
use Rattle.std.proofs.Common.{refl}
use Rattle.words.specs.Shapes.{owed_by_kind}
use Rattle.words.proofs.PartCounts.{kinds_agree}
use Rattle.words.proofs.shape.part_counts.Goals as goal

pub returns : goal.returns
returns c = record { at_kind = kinds_agree _ owed_by_kind refl }
