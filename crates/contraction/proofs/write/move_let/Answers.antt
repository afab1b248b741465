-- The word of a let, the words of the part it binds, and the let over the body of the other.
--
-- Why it is right: the plan says that the whole has room, so the bound part and the let behind it have (`moving_let`). Neither call changes
-- how long the buffer is, and the second writes where the first ended. That the words are those of the contractum is `let_writes`.
use Rattle.std.proofs.Common.{ℕ, arith, ◌∙◌, length-set}
use Rattle.contraction.proofs.LetOver.{let_room}
use Rattle.contraction.proofs.Contracta.{moving_let, let_writes}
use Rattle.contraction.proofs.write.move_let.Goals as goal

pub bounds-dst-0 : goal.bounds-dst-0
bounds-dst-0 c = omega (arith, (moving_let c.requires.0).room)

pub copy-requires : goal.copy-requires
copy-requires c =
    let f = moving_let c.requires.0 in
    (f.inside, omega (arith, f.room, length-set {A = ℕ}))

pub let_over-requires : goal.let_over-requires
let_over-requires c =
    (let_room (moving_let c.requires.0).inner (c.copy.auto.dst ∙ length-set c.args.dst.now _ _), omega arith, omega arith)

pub returns : goal.returns
returns c = let_writes c.args.dst.now c.copy.auto.dst c.copy.ensures c.let_over.ensures
