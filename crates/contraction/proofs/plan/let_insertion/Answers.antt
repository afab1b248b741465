-- The first operand that is a computation is the part that let insertion binds; the node ends where the parts behind it do.
--
-- Why it is right: the rule fires, so there is such an operand (`operand_found`), and it starts where the search says (`operand_starts`). Its
-- size says where the parts behind it start (`operand_inside`), and its index how many they are (`index_in`, `later_starts`). Where they end
-- the node ends (`end_inside`).
use Rattle.std.proofs.Common.{◌+◌, arith}
use Rattle.words.proofs.Traversal.{not_empty, from_length}
use Rattle.contraction.proofs.InsertionSizes.{operand_found, operand_starts, operand_inside, index_in, later_starts, end_inside}
use Rattle.contraction.proofs.InsertionSizes.{insertion_measures}
use Rattle.contraction.proofs.plan.let_insertion.Goals as goal

pub unwrap-index-requires : goal.unwrap-index-requires
unwrap-index-requires c = operand_found c.first_computation.ensures c.requires.0

pub size_from-size-requires : goal.size_from-size-requires
size_from-size-requires c = (operand_starts c.first_computation.ensures c.unwrap-index.ensures c.requires.0, c.requires.1)

pub bounds-t-0 : goal.bounds-t-0
bounds-t-0 c = not_empty c.requires.0.start

pub offset_bounds-t-behind : goal.offset_bounds-t-behind
offset_bounds-t-behind c =
    omega (arith, operand_inside c.first_computation.ensures c.unwrap-index.ensures c.requires.0 c.size_from-size.ensures)

pub slice_bounds-parts_size-count : goal.slice_bounds-parts_size-count
slice_bounds-parts_size-count c =
    operand_inside c.first_computation.ensures c.unwrap-index.ensures c.requires.0 c.size_from-size.ensures

pub slice_bounds-parts_size-start : goal.slice_bounds-parts_size-start
slice_bounds-parts_size-start c =
    operand_inside c.first_computation.ensures c.unwrap-index.ensures c.requires.0 c.size_from-size.ensures

pub overflow_sub-n : goal.overflow_sub-n
overflow_sub-n c =
    omega (arith, index_in c.first_computation.ensures c.unwrap-index.ensures c.requires.0 c.part_count-n.ensures.0)

pub overflow_sub-n-2 : goal.overflow_sub-n-2
overflow_sub-n-2 c =
    omega (arith, index_in c.first_computation.ensures c.unwrap-index.ensures c.requires.0 c.part_count-n.ensures.0)

pub parts_size-requires : goal.parts_size-requires
parts_size-requires c = (
  later_starts c.first_computation.ensures c.unwrap-index.ensures c.requires.0 c.size_from-size.ensures c.part_count-n.ensures.0,
  omega (arith, from_length c.args.t.now (c.unwrap-index.result.start + c.size_from-size.result)),
)

pub overflow_add-result : goal.overflow_add-result
overflow_add-result c =
    omega (
      arith,
      end_inside c.first_computation.ensures c.unwrap-index.ensures c.requires.0 c.size_from-size.ensures c.part_count-n.ensures.0
          c.parts_size.ensures,
    )

pub returns : goal.returns
returns c =
    insertion_measures c.first_computation.ensures c.unwrap-index.ensures c.requires.0 c.size_from-size.ensures c.part_count-n.ensures.0
    c.parts_size.ensures
