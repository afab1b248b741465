-- Renaming into a buffer: the word of a variable is raised, any other is copied, so as many words are written as are read.
use Prim.Native.Nat.{ℕ, ◌+◌, ◌-◌, ◌*◌, ◌^◌, ◌≤◌}
use native.Mathlib.Omega.{arith}
use mathlib.Core.Path.{◌≡◌, refl, sym, ◌∙◌, ap}
use mathlib.Core.Bool.{Bool, true, false, cond}
use mathlib.Core.List.{List, [], ◌∷◌}
use lib.Dec.{leb}
use lib.ListN.{length, get_or, set}
use borrow.Author.Tests.{leb-true, leb-false}
use Rattle.syntax.specs.Words.{kind_of, number_of, pack}
use Rattle.syntax.specs.Term.{node}
use Rattle.syntax.specs.Encoding.{encode}
use Rattle.syntax.specs.Substitution.{traverse, renaming}
use Rattle.syntax.specs.Under.{raise_at}
use Rattle.syntax.proofs.Sizes.{size-rename}
use Rattle.syntax.proofs.Under.{raise_at_below, raise_at_above}
use Rattle.words.specs.Depths.{OpensParts}
use Rattle.binding.specs.Writes.{raised_word, Room, Renames}
use Rattle.words.proofs.Traversal.{fits}
use Rattle.binding.proofs.TermTurns.{Turn, turn}
use Rattle.binding.proofs.TermWritten.{trace_begin, trace_variable, trace_node, trace_end}

-- variables are raised
abbrev pub raises : ℕ → Unit {0} → ℕ → ℕ
raises by u n = by + n

-- the word of a variable, raised
raise_variable : (w cut by n : ℕ) → w ≡ pack 0 n 0 → number_of w ≡ n → pack 0 (raise_at cut by n) 0 ≡ raised_word cut by w
raise_variable w cut by n e m = go (leb cut n) refl
  where
    chosen : (b : Bool) → leb cut n ≡ b → raised_word cut by w ≡ cond b (w + by * 2 ^ 30) w
    chosen b f = ap (λ (x : Bool). cond x (w + by * 2 ^ 30) w) (ap (leb cut) m ∙ f)

    go : (b : Bool) → leb cut n ≡ b → pack 0 (raise_at cut by n) 0 ≡ raised_word cut by w
    go true f = omega (arith, ap (λ (i : ℕ). pack 0 i 0) (raise_at_above cut by n (leb-true cut n f)), e) ∙ sym (chosen true f)
    go false f = omega (arith, ap (λ (i : ℕ). pack 0 i 0) (raise_at_below cut by n (leb-false cut n f)), e) ∙ sym (chosen false f)

-- the loop's invariant: as many words are written as are read
abbrev pub Renaming : (calls src old : List ℕ) (cut at by : ℕ) (p new : List ℕ) (owed i : ℕ) → Type 0
Renaming calls src old cut at by p new owed i = Turn renaming (raises by) calls src old cut at 2 p new owed i i

pub rename_begin : {calls src old : List ℕ} {at : ℕ} (p : List ℕ) (cut by : ℕ) → Room calls src (length old) at → cut + length src ≤ 65536
    → length src + 2 ≤ length p → Renaming calls src old cut at by (set p 0 cut) old 1 0
rename_begin p cut by r far e = turn renaming (raises by) (omega arith) (trace_begin renaming (raises by) p cut r.start tt
    (omega (arith, r.room, size-rename r.start.term (raise_at cut by))) (omega (arith, e, fits r.start.holds)) far)

module _ (by : ℕ) {calls src old : List ℕ} {cut at : ℕ} {p new : List ℕ} {owed i : ℕ}
    (g : Renaming calls src old cut at by p new owed i) where
  pub rename_variable : (x : ℕ) → 1 ≤ owed → kind_of (get_or src i 0) ≡ 0 → x ≡ raised_word (get_or p (owed - 1) 0) by (get_or src i 0)
      → Renaming calls src old cut at by p (set new (at + i) x) (owed - 1) (i + 1)
  unfolding traverse encode node
  rename_variable x lt z e = turn renaming (raises by) (omega arith)
      (trace_variable renaming (raises by) g.trace lt (get_or src i 0) (get_or p (owed - 1) 0) refl refl z x (at + i) refl λ n f c u.
      ap {B = List ℕ} (λ (v : ℕ). v ∷ []) (raise_variable _ _ by n f c ∙ sym e))

  pub rename_node : (q : List ℕ) (r : ℕ) → 1 ≤ owed → (kind_of (get_or src i 0) ≡ 0 → ⊥) → length q ≡ length p
      → OpensParts calls (get_or src i 0) (get_or p (owed - 1) 0) p q (owed - 1) r
      → Renaming calls src old cut at by q (set new (at + i) (get_or src i 0)) r (i + 1)
  rename_node q r lt z l ops = turn renaming (raises by) (omega arith)
      (trace_node renaming (raises by) g.trace lt (get_or src i 0) (get_or p (owed - 1) 0) refl refl z q r (at + i) l ops refl)

  pub rename_end : owed ≤ 0 → Renames calls src old new at cut by i
  rename_end z = record {
    told = λ t rest h. let e = trace_end renaming (raises by) g.trace z t rest h tt in record { read_is = e.0; new_is = e.1 };
  }
