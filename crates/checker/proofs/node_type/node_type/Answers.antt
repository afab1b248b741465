use Rattle.std.proofs.Common.{rules, tests, ap, ◌≡◌, eqb, false}
use Rattle.syntax.specs.Words.{kind_of, type_of}
use Rattle.checker.specs.Nodes.{subject_of}
use Rattle.checker.proofs.LeastKinds.{node_least}
use Rattle.checker.proofs.node_type.node_type.Goals as goal

pub returns-in_ok-x-in_default : goal.returns-in_ok-x-in_default
returns-in_ok-x-in_default c =
    let a = c.args in
    let call : eqb (kind_of a.w) 1 ≡ false = search (rules, tests) in
    let bind : eqb (kind_of a.w) 4 ≡ false = search (rules, tests) in
    let s : c.if-shape_of.subject ≡ subject_of (kind_of a.w) (type_of a.w) a.a = search (rules, tests) in
    node_least _ _ _ _ _ (ap (λ t. t.types) c.tables.view_is) c.of.ensures call bind c.form.ensures s c.in_ok-x-in_default.ensures (rw c.ty-own.ensures at c.judge.ensures)
