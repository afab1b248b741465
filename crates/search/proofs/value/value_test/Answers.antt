-- Why `value_test` is right. The row of terms at the front holds values exactly if the row ahead does (`ValuesSoFar`), as every node passed
-- is a value's: of a value's node that is no function the parts come into the row (`opened`), and a function is passed as a whole, whatever
-- its body (`function`). A node of another kind shows that the row holds a computation (`no_value`); an empty row holds none.
use borrow.Author.Tests.{eq-eqb, eqb-true, le-leb, not-true}
use Rattle.std.proofs.Common.{ℕ, ◌≡◌, ◌+◌, ◌-◌, ◌≤◌, ◌<◌, true, false, not, eqb, leb, List, get_or, refl, sym, ◌∙◌, ap, arith}
use Rattle.syntax.specs.Kinds.{parts_of_kind}
use Rattle.reduction.specs.FitByKinds.{value_kind}
use Rattle.words.specs.Shapes.{Tabled, value_parts}
use Rattle.words.proofs.PartCounts.{of_kind, kinds_imply}
use Rattle.words.proofs.Traversal.{from_length}
use Rattle.words.proofs.Rows.{Marching, march_inside, march_first}
use Rattle.words.specs.Ends.{Sized}
use Rattle.words.specs.Fronts.{from}
use Rattle.search.specs.ValueTest.{TestsValue}
use Rattle.syntax.specs.Words.{kind_of}
use Rattle.std.proofs.Common.{None}
use Rattle.search.proofs.ValueByNode.{ValuesSoFar, test_begin, test_end, test_computation, test_function, part_words, test_open}
use Rattle.search.proofs.value.value_test.Goals as goal

-- a value's node that is no function, with so many parts
record ValueNode (k n : ℕ) : Type 0 where
  of_value : value_kind k ≡ true
  parts_are : n ≡ parts_of_kind 0 k
  no_call : k ≡ 1 → ⊥
  no_function : k ≡ 2 → ⊥

-- what the table says of a kind
module _ {counts : List ℕ} (table : Tabled value_parts counts) {k : ℕ} (l : k < 16) where
  opened : get_or counts k 0 ≤ 3 → ValueNode k (get_or counts k 0)
  unfolding value_kind
  opened few =
      let low : leb (value_parts k) 3 ≡ true = le-leb (value_parts k) 3 (omega (arith, table.at_kind k l, few)) in
      record {
        of_value = kinds_imply (λ j. leb (value_parts j) 3) value_kind refl k l low;
        parts_are = table.at_kind k l
            ∙ eqb-true _ _ (kinds_imply (λ j. leb (value_parts j) 3) (λ j. eqb (value_parts j) (parts_of_kind 0 j)) refl k l low);
        no_call = λ e. omega (arith, table.at_kind k l, ap value_parts e, few);
        no_function = λ e. omega (arith, table.at_kind k l, ap value_parts e, few);
      }

  function : get_or counts k 0 ≡ 4 → k ≡ 2
  unfolding value_kind
  function h = eqb-true _ _ (kinds_imply (λ j. eqb (value_parts j) 4) (λ j. eqb j 2) refl k l (eq-eqb _ _ (sym (table.at_kind k l) ∙ h)))

  no_value : 5 ≤ get_or counts k 0 → value_kind k ≡ false
  unfolding value_kind
  no_value h =
      let high : leb 5 (value_parts k) ≡ true = le-leb 5 (value_parts k) (omega (arith, table.at_kind k l, h)) in
      not-true _ (kinds_imply (λ j. leb 5 (value_parts j)) (λ j. not (value_kind j)) refl k l high)

-- in a turn of the loop, at a node of kind k, of which the table says n
module _ {calls t counts : List ℕ} {at owed k n : ℕ} (table : Tabled value_parts counts) (g : Marching calls t ValuesSoFar 1 at owed)
    (lt : 1 ≤ owed) (ke : k ≡ kind_of (get_or t at 0)) (l : k < 16) (ne : n ≡ get_or counts k 0) where
  past_node : n < 4 → Marching calls t ValuesSoFar 1 (at + 1) (owed - 1 + n)
  past_node few =
      let o = opened table l (omega (arith, few, ne)) in
      test_open g lt ke _ o.of_value o.no_function (of_kind _ _ _ _ ke o.no_call (ne ∙ o.parts_are)).0

  past_function : {size : ℕ} → n ≡ 4 → Sized calls (from t at) size → Marching calls t ValuesSoFar 1 (at + size) (owed - 1)
  past_function e s = test_function g lt ke _ (function table l (sym ne ∙ e)) s

  at_computation : 5 ≤ n → TestsValue calls t None
  at_computation many = test_computation g lt ke (no_value table l (omega (arith, many, ne)))

pub loop-owed-init : goal.loop-owed-init
loop-owed-init c =
    let g = test_begin c.requires.0 in
    record { table = c.value_parts-counts.ensures; going = g; inside = march_inside _ _ g }

pub loop-owed-preserved-then-n-lt-FUNCTION : goal.loop-owed-preserved-then-n-lt-FUNCTION
loop-owed-preserved-then-n-lt-FUNCTION c =
    let i = c.loop-owed.invariant in
    let g = past_node i.table i.going (omega arith) c.kind.ensures (omega (arith, c.type_inv.t c.loop-owed.at)) c.from-n.ensures (omega arith) in
    record { table = i.table; going = g; inside = march_inside _ _ g }

pub part_size-at-requires : goal.part_size-at-requires
part_size-at-requires c = (
  march_first _ _ c.loop-owed.invariant.going (omega arith),
  omega (arith, from_length c.args.t.now c.loop-owed.at),
)

pub loop-owed-smaller : goal.loop-owed-smaller
loop-owed-smaller c = omega (arith, part_words c.loop-owed.invariant.going (omega arith) _ c.part_size-at.ensures)

pub loop-owed-preserved : goal.loop-owed-preserved
loop-owed-preserved c =
    let i = c.loop-owed.invariant in
    let g = past_function i.table i.going (omega arith) c.kind.ensures (omega (arith, c.type_inv.t c.loop-owed.at)) c.from-n.ensures
    c.if-n-eq-FUNCTION.true c.part_size-at.ensures in
    record { table = i.table; going = g; inside = march_inside _ _ g }

pub returns-else-n-eq-FUNCTION : goal.returns-else-n-eq-FUNCTION
returns-else-n-eq-FUNCTION c =
    let i = c.loop-owed.invariant in
    at_computation i.table i.going (omega arith) c.kind.ensures (omega (arith, c.type_inv.t c.loop-owed.at)) c.from-n.ensures (omega arith)

pub returns : goal.returns
returns c = test_end c.loop-owed.invariant.going (omega arith)
