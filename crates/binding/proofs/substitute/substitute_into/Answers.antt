-- A turn reads one word. Where it is that of the variable that goes, the value is written, its variables raised by the binders passed; the
-- word of another variable is lowered if it is past it; any other word is copied, and then the depths of its parts are pending.
use Rattle.std.proofs.Common.{refl, sym, ◌∙◌, arith}
use Rattle.binding.proofs.SubstitutedWords.{substitute_begin, value_room, substitute_value, substitute_variable, substitute_node, substitute_end}
use Rattle.binding.proofs.substitute.substitute_into.Goals as goal

pub loop-owed-init : goal.loop-owed-init
loop-owed-init c = substitute_begin _ _ c.requires.room_for c.requires.body_bound.0

pub put_value-written-requires-clause-whole : goal.put_value-written-requires-clause-whole
put_value-written-requires-clause-whole c = (
  c.requires.room_for.whole,
  value_room c.loop-owed.invariant (omega arith) _ _ refl refl (omega arith),
  c.requires.body_bound.1,
  omega arith,
)

pub loop-owed-preserved-then-w-under : goal.loop-owed-preserved-then-w-under
loop-owed-preserved-then-w-under c =
    substitute_value c.loop-owed.invariant (omega arith) _ _ refl refl (omega arith) _ _ _ _ c.put_value-written.auto.pending
    c.put_value-written.auto.dst c.put_value-written.ensures

pub loop-owed-preserved-then-kind-eq0 : goal.loop-owed-preserved-then-kind-eq0
loop-owed-preserved-then-kind-eq0 c =
    substitute_variable c.loop-owed.invariant _ (omega arith) (sym c.kind.ensures ∙ c.if-kind-eq0.true) (λ e. omega (arith, e, c.if-w-under.false))
    c.lowered.ensures

pub loop-owed-preserved : goal.loop-owed-preserved
loop-owed-preserved c =
    substitute_node c.loop-owed.invariant _ _ (omega arith) (λ z. c.if-kind-eq0.false (c.kind.ensures ∙ z)) c.open_parts-owed.auto.pending
    c.open_parts-owed.ensures

pub returns : goal.returns
returns c = substitute_end c.loop-owed.invariant (omega arith)
