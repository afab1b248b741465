-- The four parts of the words are those that the definitions take.
use Rattle.std.proofs.Common.{arith}
use Rattle.std.proofs.lemmas.List.{drop-drop}
use Rattle.outcomes.specs.Respond.{tables_of, term_of}
use Rattle.responder.proofs.answer_parts.Goals as goal

pub returns : goal.returns
unfolding tables_of term_of
returns c = grind (arith, drop-drop)
