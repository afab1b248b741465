-- Before a turn i of the n words stand at their place.
use Rattle.words.proofs.PastedWords.{Pasted}
use Rattle.words.proofs.moves.copy.Given as goal

abbrev pub invariant-loop-i : goal.invariant-loop-i
invariant-loop-i l = Pasted l.src l.initial.dst l.dst l.start l.at l.i
