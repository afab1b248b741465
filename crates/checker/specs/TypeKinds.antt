-- The number of each kind of types, as a word has it.
use Rattle.std.specs.Prelude.{ℕ, Some, None}
use Rattle.std.specs.declared.option.Option as code
use Rattle.syntax.specs.Tables.{base, arrow, product, sum, unit_type}
use Rattle.checker.specs.declared.type_kinds.TypeKind.{TypeKind}
use Rattle.checker.specs.declared.type_kinds.TypeKind.TheVariants.{Base, Function, Product, Sum, Unit as TheUnit}

abbrev pub type_code : TypeKind → ℕ
type_code Base = base
type_code Function = arrow
type_code Product = product
type_code Sum = sum
type_code TheUnit = unit_type

-- those past the last are all one
abbrev pub code_within : code.Option TypeKind → ℕ
code_within None = 5
code_within (Some k) = type_code k
