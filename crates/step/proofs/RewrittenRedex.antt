-- A redex rewritten in place: its words stand behind the gap, and the rest of the term before the gap and behind the redex.
use Prim.Native.Nat.{ℕ, ◌+◌, ◌-◌, ◌≤◌}
use native.Mathlib.Omega.{arith}
use mathlib.Core.Path.{◌≡◌, refl, sym, ◌∙◌, ap, ap₂}
use mathlib.Core.List.{List, ◌++◌}
use mathlib.Core.Option.{some}
use lib.ListN.{length, take, drop, get_elem?}
use lib.Seq.{paste, length-paste, length-take-le, drop-drop, take_at, drop_at, sets, sets-eq}
use Rattle.syntax.specs.Term.{Term}
use Rattle.syntax.specs.Encoding.{encode, size}
use Rattle.syntax.specs.Positions.{Position, positions}
use Rattle.syntax.proofs.Nodes.{tail_part}
use Rattle.syntax.proofs.Sites.{Site, site, drop_site, size_site, size_plugged}
use Rattle.syntax.proofs.Inherited.{shaped_site}
use Rattle.words.specs.Fronts.{Holds, from}
use Rattle.step.specs.Currents.{Gapped, Current}
use Rattle.words.proofs.Pastes.{take_before, drop_pasted}
use Rattle.step.proofs.GapMoved.{gapped_size, gapped_behind}

module _ {calls words : List ℕ} {start end : ℕ} {t : Term} (c : Current calls words start end t) (p : Position Term)
    (at : get_elem? (positions t) start ≡ some p) where
  pub here : Site t start p
  here = site t start p at

  g : Gapped words start end t
  g = c.gapped

  -- the words before the gap
  before_gap : take start words ≡ here.before
  before_gap =
      let long : length (take start words) ≡ start = length-take-le start words (omega (arith, g.ordered, g.inside)) in
      sym (take_at (take start words) (drop end words) start long) ∙ ap (take start) (g.words_are ∙ here.whole)
      ∙ take_at here.before (encode p.subterm ++ here.after) start here.index

  -- the subterm's words stand behind it
  behind_gap : drop end words ≡ encode p.subterm ++ here.after
  behind_gap = gapped_behind g ∙ drop_site here

  pub holds_behind : Holds calls (from words end) p.subterm here.after
  holds_behind = record { shaped = shaped_site calls t c.shaped start p at; is = tail_part words end ∙ behind_gap }

  -- they are within the buffer
  pub redex_inside : (read : ℕ) → read ≡ size p.subterm → end + read ≤ length words
  redex_inside read re = omega (arith, re, g.inside, size_site here, gapped_size g)

  -- how long the term is with its subterm there replaced
  pub plugged_length : (read wrote : ℕ) (y : Term) → read ≡ size p.subterm → wrote ≡ size y
      → size (p.plug y) ≡ start + wrote + (length words - (end + read))
  plugged_length read wrote y re we = omega (arith, re, we, redex_inside read re, size_site here, size_plugged here y, gapped_size g)

  sized : {n : ℕ} → n ≡ size p.subterm → length (encode p.subterm) ≡ n
  unfolding size
  sized e = sym e

  -- written to end where the redex ended, the new words make up the term with its subterm replaced
  pub rewritten : (read wrote next : ℕ) (stretch after : List ℕ) (y : Term) → read ≡ size p.subterm → wrote ≤ length stretch
      → wrote ≤ end + read - start → next ≡ end + read - wrote → take wrote stretch ≡ encode y
      → after ≡ paste words next stretch wrote → Gapped after start next (p.plug y)
  rewritten read wrote next stretch after y re long room ne se ae =
      let o = g.ordered in
      let i = redex_inside read re in
      let e : next + wrote ≡ end + read = omega (arith, ne, room) in
      let low : start ≤ next = omega (arith, ne, room, o) in
      let high : next ≤ length words = omega (arith, e, i) in
      let same : length after ≡ length words =
      ap (λ (l : List ℕ). length l) ae ∙ length-paste words next stretch wrote (omega (arith, e, i)) long in
      let front : take start after ≡ here.before =
      ap (take start) ae ∙ take_before words next stretch wrote start high low ∙ before_gap in
      let behind : drop (next + wrote) words ≡ here.after =
      ap (λ (k : ℕ). drop k words) e ∙ sym (drop-drop read end words) ∙ ap (drop read) behind_gap
      ∙ drop_at (encode p.subterm) here.after read (sized re) in
      let back : drop next after ≡ encode y ++ here.after =
      ap (drop next) ae ∙ drop_pasted words next stretch wrote high ∙ ap₂ {C = List ℕ} (λ (x z : List ℕ). x ++ z) se behind in
      record {
        ordered = low;
        inside = omega (arith, same, high);
        words_are = ap₂ {C = List ℕ} (λ (x z : List ℕ). x ++ z) front back ∙ sym (here.plugged y);
      }

-- words written to a buffer's front are its front
pub written_front : (old : List ℕ) (xs : List ℕ) → length xs ≤ length old → take (length xs) (sets old 0 xs) ≡ xs
written_front old xs h =
    ap (take (length xs)) (sets-eq xs old 0 (omega (arith, h))) ∙ take_at xs (drop (0 + length xs) old) (length xs) refl
