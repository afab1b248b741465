-- Which inputs a term reads, by one computation over the table.
use mathlib.Core.Path.{◌≡◌, refl}
use mathlib.Core.List.{map}
use Rattle.syntax.specs.Decoding.{leaf, unary, binary, ternary, split_forest, call_builder, builders, graft, decode_forest, decode}
use Rattle.syntax.specs.Encoding.{encode}
use Rattle.syntax.specs.Positions.{positions}
use Rattle.syntax.specs.Term.{node, as_var}
use Rattle.syntax.specs.Values.{uses}
use Rattle.typing.specs.Infer.{infer}
use Rattle.typing.specs.Refusals.{elaborate}
use Rattle.typing.specs.TableChecks.{lengths_fit, well_formed_types, distinct, well_formed_calls, well_formed_inputs}
use Rattle.typing.specs.TermChecks.{well_formed_words, scoped_at, scoped}
use Rattle.outcomes.specs.Marks.{mask, masks, how_many}
use Rattle.outcomes.specs.FreeInputs.{reads, free_inputs_outcome}
use Rattle.cases.specs.Reading.{asked, told, inputs_read}

-- every definition on the way is opened
pub computes : map asked inputs_read ≡ map told inputs_read
unfolding leaf unary binary ternary split_forest call_builder builders graft decode_forest decode encode positions node as_var uses infer
    elaborate lengths_fit well_formed_types distinct well_formed_calls well_formed_inputs well_formed_words scoped_at scoped mask masks how_many
    reads free_inputs_outcome asked told inputs_read
computes = refl
