-- The numbers of the refusals.
use Rattle.std.specs.Prelude.{ℕ}
use Rattle.outcomes.specs.declared.Refusal.{Refusal}
use Rattle.outcomes.specs.declared.Refusal.TheVariants.{Lengths, TypeWord, RepeatedType, CallWord, InputType, TermWord, Parts, Scope, «Type»}
use Rattle.outcomes.specs.declared.Refusal.TheVariants.{Budget, Capacity, Bundle, Ceiling}

abbrev pub number_of : Refusal → ℕ
number_of Lengths = 1
number_of TypeWord = 2
number_of RepeatedType = 3
number_of CallWord = 4
number_of InputType = 5
number_of TermWord = 6
number_of Parts = 7
number_of Scope = 8
number_of «Type» = 9
number_of Budget = 10
number_of Capacity = 11
number_of Bundle = 12
number_of Ceiling = 13
