-- Lowering in place: the word of a variable is written over, any other stays, so the words behind are still those of the part.
use Prim.Native.Nat.{ℕ, ◌+◌, ◌-◌, ◌^◌, ◌≤◌}
use native.Mathlib.Omega.{arith}
use mathlib.Core.Path.{◌≡◌, refl, sym, ◌∙◌, ap, subst}
use mathlib.Core.Bool.{Bool, true, false, cond}
use mathlib.Core.List.{List, [], ◌∷◌}
use lib.Dec.{ltb}
use lib.ListN.{length, get_or, set}
use lib.Seq.{set-get_or}
use borrow.Author.Tests.{ltb-true, ltb-false}
use Rattle.syntax.specs.Words.{kind_of, number_of, pack}
use Rattle.syntax.specs.Term.{node}
use Rattle.syntax.specs.Encoding.{encode}
use Rattle.syntax.specs.Substitution.{traverse, renaming}
use Rattle.syntax.specs.Under.{lower_at}
use Rattle.syntax.proofs.Sizes.{size-rename}
use Rattle.syntax.proofs.Under.{lower_at_low, lower_at_above}
use Rattle.words.specs.Fronts.{Starts}
use Rattle.words.specs.Depths.{OpensParts}
use Rattle.binding.specs.Writes.{lowered_word, Lowers}
use Rattle.words.proofs.Traversal.{fits}
use Rattle.binding.proofs.TermTurns.{Turn, turn}
use Rattle.binding.proofs.TermWritten.{Trace, trace_begin, trace_behind, trace_variable, trace_node, trace_end}

-- variables are lowered
abbrev pub lowers : Unit {0} → ℕ → ℕ
lowers u n = n - 1

-- the word of a variable, lowered
pub lower_word : (w d n : ℕ) → w ≡ pack 0 n 0 → number_of w ≡ n → pack 0 (lower_at d n) 0 ≡ lowered_word d w
lower_word w d n e m = go (ltb d n) refl
  where
    chosen : (b : Bool) → ltb d n ≡ b → lowered_word d w ≡ cond b (w - 2 ^ 30) w
    chosen b f = ap (λ (x : Bool). cond x (w - 2 ^ 30) w) (ap (ltb d) m ∙ f)

    go : (b : Bool) → ltb d n ≡ b → pack 0 (lower_at d n) 0 ≡ lowered_word d w
    go true f = omega (arith, ap (λ (i : ℕ). pack 0 i 0) (lower_at_above d n (ltb-true d n f)), e, ltb-true d n f) ∙ sym (chosen true f)
    go false f = omega (arith, ap (λ (i : ℕ). pack 0 i 0) (lower_at_low d n (ltb-false d n f)), e) ∙ sym (chosen false f)

-- the loop's invariant: the words are read where they are written, so those behind are as they were
pub record Lowering (calls old p new : List ℕ) (owed i : ℕ) : Type 0 where
  pub turn : Turn renaming lowers calls old old 0 0 2 p new owed i i
  pub unread : get_or new i 0 ≡ get_or old i 0

lowering : {calls old p new : List ℕ} {owed i : ℕ} → Trace renaming lowers calls old old 0 0 2 p new owed i i → Lowering calls old p new owed i
lowering {i = i} g = record { turn = turn renaming lowers (omega arith) g; unread = trace_behind renaming lowers g i (omega arith) }

pub lower_begin : (calls old p : List ℕ) (d : ℕ) → d ≡ 0 → Starts calls old → length old ≤ 65536 → length old + 2 ≤ length p
    → Lowering calls old (set p 0 d) old 1 0
lower_begin calls old p d z s few e =
    subst (λ (x : ℕ). Lowering calls old (set p 0 x) old 1 0) (sym z)
    (lowering (trace_begin renaming lowers p 0 s tt (omega (arith, fits s.holds, size-rename s.term (lower_at 0)))
    (omega (arith, e, fits s.holds)) (omega (arith, few))))

module _ {calls old p new : List ℕ} {owed i : ℕ} (g : Lowering calls old p new owed i) where
  pub lower_variable : (x : ℕ) → 1 ≤ owed → kind_of (get_or new i 0) ≡ 0 → x ≡ lowered_word (get_or p (owed - 1) 0) (get_or new i 0)
      → Lowering calls old p (set new i x) (owed - 1) (i + 1)
  unfolding traverse encode node
  lower_variable x lt z e = lowering
      (trace_variable renaming lowers g.turn.trace lt (get_or new i 0) (get_or p (owed - 1) 0) g.unread refl z x i (omega arith) λ n f c u.
      ap {B = List ℕ} (λ (v : ℕ). v ∷ []) (lower_word _ _ n f c ∙ sym e))

  pub lower_node : (q : List ℕ) (r : ℕ) → 1 ≤ owed → (kind_of (get_or new i 0) ≡ 0 → ⊥) → length q ≡ length p
      → OpensParts calls (get_or new i 0) (get_or p (owed - 1) 0) p q (owed - 1) r
      → Lowering calls old q new r (i + 1)
  lower_node q r lt z l ops =
      subst (λ (n : List ℕ). Lowering calls old q n r (i + 1)) (set-get_or new i 0) (lowering
      (trace_node renaming lowers g.turn.trace lt (get_or new i 0) (get_or p (owed - 1) 0) g.unread refl z q r i l ops (omega arith)))

  pub lower_end : owed ≤ 0 → Lowers calls old new
  lower_end z = record { told = λ t rest h. (trace_end renaming lowers g.turn.trace z t rest h tt).1 }
