-- Why `scan_part` is right. Ahead are a row of `owed` terms and, under one binder more, a row of `later` ones (`Scanning`). If the first
-- row is empty, the binder is marked and the second row becomes the first. A variable raises the mark of its binder. The parts of a node
-- without inner parts come into the row. A node with inner parts is gone into if nothing else is ahead, so that the binders marked here
-- are those on one path; any other is gone through by a call, on fewer words. If nothing is ahead, the marks are final: the least place is
-- the least of them and of what the calls found.
use Rattle.std.proofs.Common.{ℕ, ◌≡◌, ◌+◌, ◌≤◌, List, length, arith, refl, ap, ◌∙◌}
use Rattle.syntax.specs.Words.{kind_of}
use Rattle.syntax.specs.Parts.{part_count}
use Rattle.words.specs.Reach.{outer_count}
use Rattle.words.specs.Fronts.{from}
use Rattle.words.proofs.Traversal.{from_length}
use Rattle.words.proofs.Rows.{march_inside}
use Rattle.search.proofs.UnusedRows.{Scanning, scan_begin, scan_end, scan_open, scan_starts, scan_room}
use Rattle.search.proofs.UnusedSteps.{part_moves, scan_part, scan_variable}
use Rattle.search.proofs.UnusedNodes.{NodeParts, outer_few, scan_flat, scan_enter}
use Rattle.search.proofs.unused.+scan_part.Goals as goal

-- and each of the terms ahead has a word
going : {calls words : List ℕ} {base depth : ℕ} {old cur : List ℕ} {owed later under at fresh first : ℕ}
    → Scanning calls words base depth old cur owed later under at fresh first
    → Scanning calls words base depth old cur owed later under at fresh first × (at + (owed + later) ≤ length words)
going s = (s, march_inside _ _ s.going)

node_parts : {calls table : List ℕ} {w k m o : ℕ} → k ≡ kind_of w → (k ≡ 0 → ⊥) → table ≡ calls → m ≡ part_count table w
    → o ≡ outer_count k m → NodeParts calls w k m o
node_parts {w = w} e z s p q = record { kind_is = e; compound = z; parts_are = p ∙ ap (λ ts. part_count ts w) s; outers_are = q }

pub loop-owed-init : goal.loop-owed-init
loop-owed-init t c = going (scan_begin _ _ _ _ _ c.requires.starts.0 c.requires.starts.1)

pub loop-owed-preserved-then-owed-eq0 : goal.loop-owed-preserved-then-owed-eq0
loop-owed-preserved-then-owed-eq0 t c = going (scan_open _ _ _ _ _ c.loop-owed.invariant.0 c.if-owed-eq0.true (omega arith) (omega arith))

pub loop-owed-preserved-then-k-eq0 : goal.loop-owed-preserved-then-k-eq0
loop-owed-preserved-then-k-eq0 t c =
    going (scan_variable c.loop-owed.invariant.0 (omega arith) _ c.kind-k.ensures _ _ c.if-k-eq0.true c.number.ensures c.mark.ensures
    c.mark.auto.used)

pub loop-owed-preserved-then-outer-n : goal.loop-owed-preserved-then-outer-n
loop-owed-preserved-then-outer-n t c = going (scan_flat c.loop-owed.invariant.0 (omega arith)
    (node_parts c.kind-k.ensures c.if-k-eq0.false c.words-table.ensures c.part_count-n.ensures.0 c.outer_count-outer.ensures) c.if-outer-n.true)

pub open_mark-fresh-requires : goal.open_mark-fresh-requires
open_mark-fresh-requires t c = (
  scan_starts _ _ _ _ _ c.loop-owed.invariant.0 (omega arith),
  omega (arith, from_length c.args.t.now c.loop-owed.at),
  omega arith,
)

pub overflow_sub-later : goal.overflow_sub-later
overflow_sub-later t c =
    outer_few c.loop-owed.invariant.0 (omega arith)
    (node_parts c.kind-k.ensures c.if-k-eq0.false c.words-table.ensures c.part_count-n.ensures.0 c.outer_count-outer.ensures)

pub loop-owed-preserved-then-owed-later-eq1 : goal.loop-owed-preserved-then-owed-later-eq1
loop-owed-preserved-then-owed-later-eq1 t c =
    going (scan_enter c.loop-owed.invariant.0 (omega arith)
    (node_parts c.kind-k.ensures c.if-k-eq0.false c.words-table.ensures c.part_count-n.ensures.0 c.outer_count-outer.ensures)
    _ c.if-outer-n.false c.if-owed-later-eq1.true c.open_mark-fresh.ensures)

pub scan_part-part-requires : goal.scan_part-part-requires
scan_part-part-requires t c =
    let s = c.loop-owed.invariant.0 in
    let fewer : length (from c.args.t.now c.loop-owed.at) + c.loop-owed.at ≡ length c.args.t.now =
    omega (arith, from_length c.args.t.now c.loop-owed.at) in (
      omega (arith, s.further c.if-owed-later-eq1.false),
      (
        (scan_starts _ _ _ _ _ s (omega arith), scan_room _ _ _ _ _ s (omega arith) c.requires.starts.1),
        (omega arith, omega arith),
      ),
    )

pub loop-owed-smaller : goal.loop-owed-smaller
loop-owed-smaller t c = omega (arith, part_moves c.loop-owed.invariant.0 (omega arith) c.scan_part-part.ensures)

pub loop-owed-preserved : goal.loop-owed-preserved
loop-owed-preserved t c =
    going (scan_part c.loop-owed.invariant.0 (omega arith) _ _ _ c.scan_part-part.ensures c.min-first.ensures c.scan_part-part.auto.used)

pub returns : goal.returns
returns t c = scan_end _ _ _ _ _ c.loop-owed.invariant.0 _ (omega arith) refl c.least_mark.ensures
