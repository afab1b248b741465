-- Each call has fewer words to test, or as many and the value test in place of the other.
use Rattle.std.proofs.Common.{length, ◌+◌, ◌*◌}
use Rattle.normal_form.specs.NormalTest.{is_normal_form, is_normal_value}
use Rattle.normal_form.proofs.GrammarByParts.{part_passes}
use Rattle.normal_form.proofs.TestedParts.{Testing}
use Rattle.normal_form.proofs.NormalTests.{first_kind, first_droppable}
use Rattle.normal_form.proofs.normal.+normal_test_normal_value_test.Given as goal

abbrev pub decreases-normal_test : goal.decreases-normal_test
decreases-normal_test l = 2 * length l.t.now + 1

abbrev pub decreases-normal_value_test : goal.decreases-normal_value_test
decreases-normal_value_test l = 2 * length l.t.now

abbrev pub invariant-normal_test-loop-j : goal.invariant-normal_test-loop-j
invariant-normal_test-loop-j l =
    let k = first_kind l.t in
    Testing is_normal_form (part_passes l.calls k (first_droppable l.calls l.t)) l.calls l.t l.fn.used l.depth k l.used l.j-end l.at l.j

abbrev pub invariant-normal_value_test-loop : goal.invariant-normal_value_test-loop
invariant-normal_value_test-loop l =
    Testing is_normal_value (λ j. is_normal_value l.calls) l.calls l.t l.fn.used l.depth (first_kind l.t) l.used l.end l.at l.counter
