-- The table is the definition at each kind.
use Rattle.std.proofs.Common.{refl}
use Rattle.words.specs.Shapes.{value_parts}
use Rattle.words.proofs.PartCounts.{kinds_agree}
use Rattle.words.proofs.shape.value_parts.Goals as goal

pub returns : goal.returns
returns c = record { at_kind = kinds_agree _ value_parts refl }
