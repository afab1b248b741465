-- The words of a case and its subject, and the let over the outer body in each branch.
--
-- Why it is right: the plan says that the whole has room, so each of the two lets has (`moving_case`); the second begins where the first
-- ended, since that says how many words it wrote. That the words are those of the contractum is `case_writes`.
use Rattle.std.proofs.Common.{ℕ, arith, ◌∙◌, length-set}
use Rattle.contraction.proofs.LetOver.{let_room}
use Rattle.contraction.proofs.Contracta.{moving_case, case_writes}
use Rattle.contraction.proofs.write.move_case.Goals as goal

pub bounds-dst-0 : goal.bounds-dst-0
bounds-dst-0 c = omega (arith, (moving_case c.requires.0).room)

pub bounds-t-2 : goal.bounds-t-2
bounds-t-2 c = (moving_case c.requires.0).subject

pub bounds-dst-1 : goal.bounds-dst-1
bounds-dst-1 c = omega (arith, (moving_case c.requires.0).room, length-set {A = ℕ})

pub let_over-left-requires : goal.let_over-left-requires
let_over-left-requires c = (let_room (moving_case c.requires.0).left (simp length-set), c.requires.1, c.requires.2)

pub overflow_add-left : goal.overflow_add-left
overflow_add-left c = omega (arith, ((moving_case c.requires.0).other _ _ _ c.let_over-left.ensures).room)

pub let_over-requires : goal.let_over-requires
let_over-requires c = (
  let_room ((moving_case c.requires.0).other _ _ _ c.let_over-left.ensures) (c.let_over-left.auto.dst ∙ simp length-set),
  omega arith,
  omega arith,
)

pub returns : goal.returns
returns c = case_writes c.args.dst.now c.let_over-left.ensures c.let_over.ensures
