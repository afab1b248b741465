-- Why `open_mark` is right. A let that binds a computation that may be dropped has its place for a mark, any other node 65536. What a let
-- binds may be dropped or not by its first word; it is a computation if its kind is no value's, or else if the value test says so.
use Rattle.std.proofs.Common.{arith, rules, sym, ap, ◌∙◌}
use Rattle.reduction.specs.FitByKinds.{value_kind}
use Rattle.words.proofs.Traversal.{not_empty, from_length}
use Rattle.search.proofs.OpenMarks.{bound_starts, opens_kept, opens_kind, opens_let, opens_value, opens_other}
use Rattle.search.proofs.unused.open_mark.Goals as goal
use Rattle.search.proofs.unused.open_mark.Goals.{else-kind-eq4-via-then-kind-eq4+then-may_drop+else-is_none, else-kind-eq4-via-then-kind-eq4+else-may_drop, else-kind-eq4-via-else-kind-eq4}
use Rattle.search.proofs.unused.open_mark.Goals.{then-not-value_kind, else-not-value_kind}

pub bounds-t-0 : goal.bounds-t-0
bounds-t-0 c = omega (arith, not_empty c.requires.0)

pub bounds-t-1 : goal.bounds-t-1
bounds-t-1 c =
    omega (arith, not_empty (bound_starts _ _ c.requires.0 (sym c.kind.ensures ∙ c.if-kind-eq4.true)), from_length c.args.t.now 1)

pub bounds-t-1-then-may_drop : goal.bounds-t-1-then-may_drop
bounds-t-1-then-may_drop c =
    omega (arith, not_empty (bound_starts _ _ c.requires.0 (sym c.kind.ensures ∙ c.if-kind-eq4.true)), from_length c.args.t.now 1)

pub value_test-requires : goal.value_test-requires
value_test-requires c = (
  rw c.words.ensures (bound_starts _ _ c.requires.0 (sym c.kind.ensures ∙ c.if-kind-eq4.true)),
  omega (arith, from_length c.args.t.now 1),
)

pub returns-then-is_none : goal.returns-then-is_none
returns-then-is_none c =
    elim c.if-not-value_kind.branch [
      | then-not-value_kind w ↦
          opens_kind _ _ _ c.requires.2 (sym c.kind.ensures ∙ c.if-kind-eq4.true) _ c.may_drop.ensures c.if-may_drop.true
          (ap value_kind (sym c.kind-then-may_drop.ensures) ∙ sym c.value_kind.ensures ∙ w.if-not-value_kind.true)
      | else-not-value_kind w ↦
          opens_let _ _ _ c.requires.2 (sym c.kind.ensures ∙ c.if-kind-eq4.true) _ c.may_drop.ensures c.if-may_drop.true
          {r = w.value_test.result}
          (rw (← w.words.ensures) w.value_test.ensures)
          (search rules)
    ]

pub returns-else-kind-eq4 : goal.returns-else-kind-eq4
returns-else-kind-eq4 c =
    elim c.else-kind-eq4.branch [
      | else-kind-eq4-via-then-kind-eq4+then-may_drop+else-is_none w ↦
          elim w.if-not-value_kind.branch [
            | then-not-value_kind v ↦ absurd (search rules)
            | else-not-value_kind v ↦
                opens_value _ _ _ c.requires.2 (sym c.kind.ensures ∙ w.if-kind-eq4.true) _ w.may_drop.ensures w.if-may_drop.true
                {r = v.value_test.result}
                (rw (← v.words.ensures) v.value_test.ensures)
                (search rules)
          ]
      | else-kind-eq4-via-then-kind-eq4+else-may_drop w ↦
          opens_kept _ _ _ c.requires.2 (sym c.kind.ensures ∙ w.if-kind-eq4.true) _ w.may_drop.ensures w.if-may_drop.false
      | else-kind-eq4-via-else-kind-eq4 w ↦ opens_other _ _ _ λ e. w.if-kind-eq4.false (c.kind.ensures ∙ e)
    ]
