-- The number of each kind, as a word has it.
use Rattle.std.specs.Prelude.{ℕ}
use Rattle.words.specs.declared.kinds.Kind.{Kind}
use Rattle.words.specs.declared.kinds.Kind.TheVariants.{Variable, Call, Function, Application, Let, Pair, First, Second, Left, Right, Case, Unit as TheUnit, Unknown}

abbrev pub code : Kind → ℕ
code Variable = 0
code Call = 1
code Function = 2
code Application = 3
code Let = 4
code Pair = 5
code First = 6
code Second = 7
code Left = 8
code Right = 9
code Case = 10
code TheUnit = 11
code Unknown = 12
