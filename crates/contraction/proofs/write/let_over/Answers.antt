-- The word of a let, the words of its bound part and its renamed body stand one behind the other.
--
-- Why it is right: the buffer has room for the whole let, so for the bound part and for the body behind it (`bound_room`, `body_room`).
-- Neither call changes how long the buffer is, and each writes where the words before it end. That these are the words of the let is
-- `let_written`.
use Rattle.std.proofs.Common.{ℕ, arith, ◌∙◌, length-set}
use Rattle.words.proofs.Traversal.{from_length}
use Rattle.contraction.proofs.LetOver.{bound_inside, bound_room, body_inside, body_room, let_fits, let_written}
use Rattle.contraction.proofs.write.let_over.Goals as goal

pub bounds-dst-at : goal.bounds-dst-at
bounds-dst-at c = omega (arith, bound_room c.requires.0)

pub copy-requires : goal.copy-requires
copy-requires c = (bound_inside c.requires.0, omega (arith, bound_room c.requires.0, length-set {A = ℕ}))

pub offset_bounds-t-body : goal.offset_bounds-t-body
offset_bounds-t-body c = omega (arith, body_inside c.requires.0)

pub slice_bounds-rename_into-count : goal.slice_bounds-rename_into-count
slice_bounds-rename_into-count c = omega (arith, body_inside c.requires.0)

pub slice_bounds-rename_into-start : goal.slice_bounds-rename_into-start
slice_bounds-rename_into-start c = omega (arith, body_inside c.requires.0)

pub overflow_add-at-3 : goal.overflow_add-at-3
overflow_add-at-3 c = omega (arith, bound_room c.requires.0)

pub rename_into-moved-requires : goal.rename_into-moved-requires
rename_into-moved-requires c =
    let l = from_length c.args.t.now c.args.body in
    (body_room c.requires.0 (c.copy.auto.dst ∙ length-set c.args.dst.now _ _), omega (arith, l), omega arith, omega (arith, l))

pub overflow_add-result : goal.overflow_add-result
overflow_add-result c = omega (arith, bound_room c.requires.0)

pub overflow_add-result-2 : goal.overflow_add-result-2
overflow_add-result-2 c = omega (arith, let_fits c.requires.0 c.rename_into-moved.ensures)

pub returns : goal.returns
returns c = let_written c.args.dst.now c.copy.auto.dst c.copy.ensures c.rename_into-moved.ensures
