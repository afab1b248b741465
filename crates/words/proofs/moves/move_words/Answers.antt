-- Words moved to where they stand are as they were.
use Rattle.words.proofs.Pastes.{paste_same}
use Rattle.words.proofs.moves.move_words.Goals as goal

pub returns-else-from-to : goal.returns-else-from-to
returns-else-from-to c = rw c.if-from-to.false (paste_same c.args.words.now c.args.to c.args.n)
