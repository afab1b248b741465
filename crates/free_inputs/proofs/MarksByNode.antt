-- Marking inputs node by node: an input is marked if a node passed names it, and the uses by the nodes passed and by the row ahead make up
-- the whole.
use Prim.Native.Nat.{ℕ, suc, ◌+◌, ◌-◌, ◌≤◌}
use native.Mathlib.Omega.{arith}
use native.Mathlib.Nat.{add-zero, zero-add, suc-add}
use mathlib.Core.Path.{◌≡◌, refl, sym, ◌∙◌, ap, ap₂}
use mathlib.Core.Bool.{Bool, true, false, ◌&&◌, ◌||◌, or-true, or-false}
use mathlib.Core.List.{List}
use lib.Dec.{eqb, ltb}
use lib.ListN.{length, get_or, replicate}
use Rattle.std.proofs.lemmas.List.{get_or-replicate, length-replicate}
use borrow.Author.Tests.{lt-ltb}
use Rattle.syntax.specs.Term.{Terms, done, arg, node}
use Rattle.syntax.specs.Parts.{part_count}
use Rattle.syntax.specs.Shaped.{count}
use Rattle.syntax.specs.Values.{counts, uses, uses_all}
use Rattle.words.specs.Fronts.{Starts}
use Rattle.words.specs.Joined.{joined}
use Rattle.words.specs.Reach.{outer, inner}
use Rattle.words.specs.Depths.{OpensParts}
use Rattle.words.proofs.Reach.{uses_of_node}
use Rattle.words.proofs.RowAtDepths.{Gathering, ahead, ahead_one, ahead_opened, Near, near_next, opens_room}
use Rattle.words.proofs.Rows.{Marching, march_from, march_inside, march_fits, march_end, march_on, one_starts, one_holds}
use Rattle.outcomes.specs.Marks.{mask, masks}
use Rattle.outcomes.specs.FreeInputs.{reads}
use Rattle.outcomes.proofs.Marks.{masks_same}
use Rattle.free_inputs.specs.InputMarks.{names, MarksNamed, MarksRead}

-- the uses of input i by terms at their depths
abbrev pub uses_of : ℕ → Gathering ℕ
unfolding uses
uses_of i = record {
  one = λ t d. uses t (d + i);
  all = λ ts d. uses_all ts (d + i);
  none = 0;
  join = ◌+◌;
  all_done = λ d. refl;
  all_arg = λ t ts d. refl;
  none-join = λ x. omega arith;
  join-none = λ x. omega arith;
  join-join = λ x y z. omega arith;
}

-- used at all, with one use more or not
used_too : (u : ℕ) (b : Bool) → ltb 0 (u + counts b) ≡ (ltb 0 u || b)
used_too u true = lt-ltb 0 (u + 1) (omega arith) ∙ sym (or-true (ltb 0 u))
used_too u false = ap (ltb 0) (add-zero u) ∙ sym (or-false (ltb 0 u))

-- so many uses of each input are seen before the row ahead
abbrev pub Reading : (p : List ℕ) → (ℕ → ℕ) → Terms → Terms → Type 0
Reading p seen ts us = (i : ℕ) → uses_all ts i ≡ seen i + ahead (uses_of i) p us

-- the loop's invariant
pub record Scan (calls words p marks : List ℕ) (owed at : ℕ) : Type 0 where
  pub seen : ℕ → ℕ
  pub marked : marks ≡ masks 4 (λ i. ltb 0 (seen i))
  pub space : length words + 2 ≤ length p
  pub near : Near p owed (0 + at)
  pub going : Marching calls words (Reading p seen) 1 at owed

pub scan_begin : {calls words : List ℕ} (n : ℕ) → Starts calls words → length words + 2 ≤ n
    → Scan calls words (replicate n 0) (replicate 4 0) 1 0
unfolding uses uses_of masks mask
scan_begin {calls} {words} n s sp = record {
  seen = λ i. 0;
  marked = refl;
  space = omega (arith, sp, length-replicate {A = ℕ} n 0);
  near = λ j l. omega (arith, get_or-replicate {A = ℕ} n j 0 0 (omega (arith, sp, l)));
  going = march_from calls words (Reading (replicate n 0) (λ i. 0)) 1 (one_starts s) λ ts e i.
      let a : ahead (uses_of i) (replicate n 0) ts ≡ uses_all ts (0 + i) =
      ahead_one (uses_of i) (replicate n 0) 0 ts e (get_or-replicate n 0 0 0 (omega (arith, sp))) in
      omega (arith, a, ap (uses_all ts) (zero-add i));
}

module _ {calls words p marks : List ℕ} {owed at : ℕ} (g : Scan calls words p marks owed at) where
  pub scan_inside : at + owed ≤ length words
  scan_inside = march_inside calls words g.going

  -- no term is owed
  pub scan_end : owed ≡ 0 → MarksRead calls words marks
  unfolding uses ahead reads
  scan_end z = record {
    told = λ t rest h.
        let e = march_end calls words g.going z (arg t done) rest (one_holds h) in
        g.marked ∙ masks_same 4 (λ i. ltb 0 (g.seen i)) (reads t) λ i l.
        let u : g.seen i ≡ uses t i = omega (arith, e.1 i) in
        ap (ltb 0) u;
  }

  module _ (lt : 1 ≤ owed) (far : length words ≤ 65536) where
    abbrev under : ℕ
    under = get_or p (owed - 1) 0

    -- the depths of the node's parts have room
    pub scan_opens : (owed - 1 + 3 ≤ length p) × (owed - 1 + part_count calls (get_or words at 0) ≤ length p) × (under ≤ 65536)
    scan_opens =
        opens_room p 0 2 g.going g.near (omega (arith, march_fits calls words g.going, g.space)) (omega arith) lt
        (omega (arith, far))

    -- a node
    pub scan_node : (q new : List ℕ) (r : ℕ) → length q ≡ length p → MarksNamed (get_or words at 0) under marks new
        → OpensParts calls (get_or words at 0) under p q (owed - 1) r → Scan calls words q new r (at + 1)
    unfolding ahead uses uses_of
    scan_node q new r l m w =
        let word = get_or words at 0 in
        let seen' : ℕ → ℕ = λ i. g.seen i + counts (names word (under + i)) in
        record {
          seen = seen';
          marked = m.told (λ i. ltb 0 (g.seen i)) g.marked
              ∙ masks_same 4 (λ i. ltb 0 (g.seen i) || names word (under + i)) (λ i. ltb 0 (seen' i)) λ i h.
              sym (used_too (g.seen i) (names word (under + i)));
          space = omega (arith, g.space, l);
          near = near_next p q 0 at owed r g.near lt w;
          going = march_on calls words g.going lt (Reading q seen') r w.many λ ts rest v i.
              let c : owed - 1 ≡ count v.later = omega (arith, v.many) in
              let os = outer v.term in
              let is = inner v.term in
              let a : ahead (uses_of i) q (joined os (joined is v.later))
              ≡ uses_all os (under + i) + (uses_all is (suc under + i) + ahead (uses_of i) p v.later) =
              ahead_opened (uses_of i) w.opened os is v.later c v.outers v.parts in
              let n = node v.term in
              let own : counts (names word (under + i)) ≡ counts (eqb n.kind 0 && eqb n.number (under + i)) =
              ap₂ (λ (k n : ℕ). counts (eqb k 0 && eqb n (under + i))) v.kind v.number in
              omega (
                arith,
                v.to_do i,
                ap (λ (j : ℕ). uses v.term (get_or p j 0 + i)) c,
                uses_of_node v.term (under + i),
                own,
                ap (uses_all is) (suc-add under i),
                a,
              );
        }
