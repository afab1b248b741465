-- A turn with no type at hand begins the next part: it has its type, or it has none and then the term has none, or it is one more open node.
-- A turn with a type at hand gives it to the innermost open node, and where none is open it is the term's. The node's next part is to be
-- typed then, or none is left and the node has its own type.
use Rattle.std.proofs.Common.{ap, arith}
use Rattle.checker.proofs.InferTurns.{turn_first, turn_inside, turn_fail, turn_leaf, turn_open, turn_whole, turn_next, turn_untyped, turn_last}
use Rattle.checker.proofs.infer.infer.Goals as goal

pub loop-typed-init : goal.loop-typed-init
loop-typed-init c = turn_first c.requires.starts

pub begin-requires : goal.begin-requires
begin-requires c =
    let i = turn_inside (c.loop-typed.invariant.waiting c.in_default.is) in
    (omega arith, grind arith)

pub returns-in_err-a : goal.returns-in_err-a
returns-in_err-a c = rw c.from_residual.ensures (turn_fail (c.loop-typed.invariant.waiting c.in_default.is) c.in_err-a.ensures)

pub loop-typed-smaller-in-Typed : goal.loop-typed-smaller-in-Typed
loop-typed-smaller-in-Typed c =
    let i = turn_inside (c.loop-typed.invariant.waiting c.in_default.is) in
    rw c.in_default.is (omega arith)

pub loop-typed-preserved-in-Typed : goal.loop-typed-preserved-in-Typed
loop-typed-preserved-in-Typed c = turn_leaf (c.loop-typed.invariant.waiting c.in_default.is) _ (rw c.in-Typed.is at c.in_ok-a.ensures)

pub bounds-term-at : goal.bounds-term-at
bounds-term-at c = turn_inside (c.loop-typed.invariant.waiting c.in_default.is)

pub loop-typed-smaller-in-Node : goal.loop-typed-smaller-in-Node
loop-typed-smaller-in-Node c =
    let i = turn_inside (c.loop-typed.invariant.waiting c.in_default.is) in
    rw c.in_default.is (omega arith)

pub loop-typed-preserved-in-Node : goal.loop-typed-preserved-in-Node
loop-typed-preserved-in-Node c = rw c.in_default.is (turn_open (c.loop-typed.invariant.waiting c.in_default.is) _ _ (rw c.in-Node.is at c.in_ok-a.ensures) (rw (ap (λ t. t.types) c.tables-in-loop-typed.view_is) at c.enter-depth.ensures) (omega arith) (omega arith))

pub returns-then-top-eq0 : goal.returns-then-top-eq0
returns-then-top-eq0 c = turn_whole (c.loop-typed.invariant.having _ c.in-Some.is) c.if-top-eq0.true

pub loop-typed-preserved-then-j-part_count : goal.loop-typed-preserved-then-j-part_count
loop-typed-preserved-then-j-part_count c =
    let n = rw (ap (λ t. t.calls) c.tables-in-loop-typed.view_is) at c.part_count.ensures in
    turn_next (c.loop-typed.invariant.having _ c.in-Some.is) (omega arith) c.binders.result (cc) _ _ (rw (ap (λ t. t.types) c.tables-in-loop-typed.view_is) at c.enter-depth-then-j-part_count.ensures) (omega (arith, n)) (omega arith) (omega arith)

pub returns-in_err-type_from : goal.returns-in_err-type_from
returns-in_err-type_from c =
    let n = rw (ap (λ t. t.calls) c.tables-in-loop-typed.view_is) at c.part_count.ensures in
    rw c.from_residual-in_err-type_from.ensures
    (turn_untyped (c.loop-typed.invariant.having _ c.in-Some.is) (omega arith) c.binders.result (cc) (omega (arith, n)) (omega arith) c.in_err-type_from.ensures)

pub loop-typed-preserved : goal.loop-typed-preserved
loop-typed-preserved c =
    let n = rw (ap (λ t. t.calls) c.tables-in-loop-typed.view_is) at c.part_count.ensures in
    turn_last (c.loop-typed.invariant.having _ c.in-Some.is) (omega arith) c.binders.result (cc) (omega (arith, n)) (omega arith) _ c.in_ok-type_from.ensures
