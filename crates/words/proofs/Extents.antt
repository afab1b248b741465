-- The number of words that parts take, word by word: what a loop with an owed count keeps.
use mathlib.Core.Path.{◌≡◌, refl, sym, ◌∙◌, ap}
use mathlib.Core.List.{List, [], ◌∷◌}
use mathlib.Core.Bool.{Bool, true, false, cond}
use mathlib.Core.Option.{Option, some, none, map}
use Prim.Native.Nat.{ℕ, zero, suc, ◌+◌, ◌-◌, ◌*◌, ◌≤◌, ◌<◌}
use native.Mathlib.Omega.{arith}
use native.Mathlib.Nat.{add-zero, sub_self}
use lib.Dec.{leb}
use lib.ListN.{length}
use Rattle.std.proofs.Common.{Some, None}
use Rattle.syntax.specs.Maybe.{◌>>=◌, option_of}
use Rattle.syntax.specs.Kinds.{parts_of_kind}
use Rattle.syntax.specs.Parts.{known_parts, extent}
use Rattle.syntax.proofs.Parts.{longer, no_longer}
use Rattle.words.specs.Shapes.{Owes}

cond_le : (b : Bool) (x y n : ℕ) → x ≤ n → y ≤ n → cond b x y ≤ n
cond_le true x y n h g = h
cond_le false x y n h g = g

-- words whose fields fit 64 bits have at most 15 parts
pub parts_le : (a k : ℕ) → a ≤ 15 → parts_of_kind a k ≤ 15
parts_le a k h = cond_le (leb k 0) 0 _ 15 (omega arith)
    (cond_le (leb k 1) a _ 15 h
    (cond_le (leb k 2) 1 _ 15 (omega arith)
    (cond_le (leb k 5) 2 _ 15 (omega arith)
    (cond_le (leb k 9) 1 _ 15 (omega arith) (cond_le (leb k 10) 3 0 15 (omega arith) (omega arith))))))

pub nothing_owed : (calls ws : List ℕ) → extent calls ws 0 ≡ some 0
unfolding extent
nothing_owed calls [] = refl
nothing_owed calls (w ∷ ws) = refl

-- each word pays for one part at most, so more parts than words have no end
pub too_many : (calls ws : List ℕ) (owed : ℕ) → length ws < owed → extent calls ws owed ≡ none
unfolding extent
too_many calls [] zero h = absurd (omega arith)
too_many calls [] (suc owed) h = refl
too_many calls (w ∷ ws) zero h = absurd (omega arith)
too_many calls (w ∷ ws) (suc owed) h = go (known_parts calls w) (λ a. too_many calls ws (a + owed) (omega arith))
  where
    go : (o : Option ℕ) → ((a : ℕ) → extent calls ws (a + owed) ≡ none) → (o >>= λ a. map suc (extent calls ws (a + owed))) ≡ none
    go none ih = refl
    go (some a) ih = ap (map suc) (ih a)

-- one word read: where the number of its parts is not known, more are owed than words are left
extent_word : (calls : List ℕ) (w : ℕ) (ws : List ℕ) (owed many r : ℕ) → 0 < owed → length ws < many → Owes many (known_parts calls w) r
    → extent calls (w ∷ ws) owed ≡ map suc (extent calls ws (owed - 1 + r))
unfolding extent
extent_word calls w ws zero many r p h q = absurd (omega arith)
extent_word calls w ws (suc n) many r p h q = go (known_parts calls w) q
  where
    go : (o : Option ℕ) → Owes many o r → (o >>= λ a. map suc (extent calls ws (a + n))) ≡ map suc (extent calls ws (suc n - 1 + r))
    go none q = sym (ap (map suc) (too_many calls ws (suc n - 1 + r) (omega arith)))
    go (some a) q = ap (λ (k : ℕ). map suc (extent calls ws k)) (omega arith)

-- what a loop over the words of n parts keeps: from the words ws that are left on, so many parts are owed
pub record Owing (calls t : List ℕ) (n owed : ℕ) (ws : List ℕ) : Type 0 where
  pub within : length ws ≤ length t
  pub few : owed + 8192 * length ws ≤ 8192 * length t + n
  pub same : extent calls t n ≡ longer (length t - length ws) (extent calls ws owed)

pub owing_start : (calls t : List ℕ) (n : ℕ) → Owing calls t n n t
owing_start calls t n = record {
  within = omega arith;
  few = omega arith;
  same = rw sub_self (no_longer (extent calls t n));
}

-- one word more
longer_suc : (i j : ℕ) (o : Option ℕ) → i + 1 ≡ j → longer i (map suc o) ≡ longer j o
longer_suc i j none e = refl
longer_suc i j (some n) e = ap (λ (x : ℕ). some x) (omega arith)

module _ {calls t : List ℕ} {n owed : ℕ} {ws : List ℕ} (o : Owing calls t n owed ws) where
  pub owing_word : (w : ℕ) (us : List ℕ) (r : ℕ) → ws ≡ w ∷ us → 0 < owed → Owes (length t) (known_parts calls w) r × (r ≤ 8192)
      → Owing calls t n (owed - 1 + r) us
  owing_word w us r e p (q, l) =
      let k : length ws ≡ suc (length us) = ap length e in
      let h : length us < length t = omega (arith, o.within) in record {
        within = omega (arith, o.within);
        few = omega (arith, o.few);
        same = o.same
            ∙ ap (longer (length t - length ws)) (ap (λ (l : List ℕ). extent calls l owed) e ∙ extent_word calls w us owed (length t) r p h q)
            ∙ longer_suc _ _ (extent calls us (owed - 1 + r)) (omega (arith, o.within));
      }

  pub owing_short : 0 < owed → length ws ≡ 0 → None ≡ option_of (extent calls t n)
  owing_short p e = sym (ap option_of (o.same ∙ ap (longer (length t - length ws)) (too_many calls ws owed (omega arith))))

  pub owing_done : owed ≤ 0 → Some (length t - length ws) ≡ option_of (extent calls t n)
  owing_done z =
      let e : owed ≡ 0 = omega arith in
      sym (ap option_of (o.same ∙ ap (longer (length t - length ws)) (ap (extent calls ws) e ∙ nothing_owed calls ws)
      ∙ ap (λ (x : ℕ). some x) (add-zero (length t - length ws))))

-- what such a loop needs
pub ruleset owing = (owing_start, owing_word, owing_short, owing_done)
