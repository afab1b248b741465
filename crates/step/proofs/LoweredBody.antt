-- A body that is lowered where it stands: the part of the buffer that is handed on, and what lowering is by the rule.
use Prim.Native.Nat.{ℕ, zero, suc, ◌+◌, ◌-◌, ◌≤◌}
use native.Mathlib.Omega.{arith}
use mathlib.Core.Path.{◌≡◌, sym, ◌∙◌, ap, ap₂, fun_ext}
use mathlib.Core.List.{List, ◌++◌, append_assoc, append-nil}
use lib.ListN.{length, take, drop}
use lib.Seq.{paste, sets, sets-eq, drop-drop, drop-length, take_all}
use borrow.Rule.Slice.PartMut.{put_mid, Post-is}
use Rattle.syntax.specs.Term.{Term}
use Rattle.syntax.specs.Substitution.{rename}
use Rattle.syntax.specs.Under.{under_by, lower_at}
use Rattle.syntax.proofs.Nodes.{tail_part}
use Rattle.reduction.specs.Rules.{lower}
use Rattle.words.specs.Fronts.{from}

pub lower_at_lower : (b : Term) → rename b (lower_at 0) ≡ rename b lower
unfolding under_by
lower_at_lower b = ap (rename b) (fun_ext same)
  where
    same : (n : ℕ) → n - 1 ≡ lower n
    same zero = omega arith
    same (suc n) = omega arith

-- words written to the front of the last part of a list
pub put_pasted : (words ys vs : List ℕ) (next : ℕ) → next ≤ length words → length vs ≤ length (from words next)
    → ys ≡ sets (from words next) 0 vs → put_mid next (length words - next) words ys ≡ paste words next vs (length vs)
put_pasted words ys vs next h fit e =
    let part = from words next in
    let same : 0 + length vs ≡ length vs = omega arith in
    let behind : drop (0 + length vs) part ≡ drop (next + length vs) words =
    ap (λ (k : ℕ). drop k part) same ∙ ap (drop (length vs)) (tail_part words next) ∙ drop-drop (length vs) next words in
    let written : ys ≡ take (length vs) vs ++ drop (next + length vs) words =
    e ∙ sets-eq vs part 0 (omega (arith, fit))
    ∙ ap₂ {C = List ℕ} (λ (x z : List ℕ). x ++ z) (sym (take_all (length vs) vs (omega arith))) behind in
    ap (λ (l : List ℕ). take next words ++ (ys ++ l)) (Post-is next (length words) words h ∙ drop-length words)
    ∙ ap (λ (l : List ℕ). take next words ++ l) (append-nil ys ∙ written)
    ∙ sym (append_assoc (take next words) (take (length vs) vs) (drop (next + length vs) words))
