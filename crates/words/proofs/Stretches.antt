-- Words written one stretch after the other: what is written so far and what is still to be written make up the whole.
use Prim.Native.Nat.{ℕ, suc, ◌+◌, ◌≤◌}
use native.Mathlib.Omega.{arith}
use native.Mathlib.Nat.{add-zero, add-suc, suc-add}
use mathlib.Core.Path.{◌≡◌, refl, sym, ◌∙◌, ap, subst}
use mathlib.Core.List.{List, [], ◌∷◌, ◌++◌, append_assoc, append-nil}
use lib.ListN.{length, get_or, set, length-append}
use lib.Seq.{sets, get_or-set_other}

-- two stretches in a row
pub sets_append : (l : List ℕ) (i : ℕ) (xs ys : List ℕ) → sets l i (xs ++ ys) ≡ sets (sets l i xs) (i + length xs) ys
sets_append l i [] ys = rw add-zero
sets_append l i (x ∷ xs) ys = rw (add-suc i (length xs), ← suc-add i (length xs)) (sets_append (set l i x) (suc i) xs ys)

-- what is behind a stretch stays
pub get_or_behind : (l : List ℕ) (i : ℕ) (xs : List ℕ) (j : ℕ) → i + length xs ≤ j → get_or (sets l i xs) j 0 ≡ get_or l j 0
get_or_behind l i [] j h = refl
get_or_behind l i (x ∷ xs) j h = get_or_behind (set l i x) (suc i) xs j (omega (arith, h)) ∙ get_or-set_other l i j x 0 (λ e. omega (arith, e, h))

-- o words of the whole are written from `at` on, and `left` is still to be written
pub record Writing (old new : List ℕ) (at o : ℕ) (whole left : List ℕ) : Type 0 where
  pub done : List ℕ
  pub written : new ≡ sets old at done
  pub reach : o ≡ length done
  pub same : whole ≡ done ++ left

pub write_none : (old : List ℕ) (at : ℕ) (whole : List ℕ) → Writing old old at 0 whole whole
write_none old at whole = record { done = []; written = refl; reach = refl; same = refl }

-- one word, and one stretch
pub write_word : (old : List ℕ) (at w v : ℕ) (whole left : List ℕ) → w ≡ v → whole ≡ v ∷ left → Writing old (set old at w) at 1 whole left
write_word old at w v whole left e h = record {
  done = v ∷ [];
  written = ap (λ (x : ℕ). set old at x) e;
  reach = refl;
  same = h;
}

pub write_next : {old new new' : List ℕ} {at o : ℕ} {whole : List ℕ} (xs left : List ℕ) (p r : ℕ) → Writing old new at o whole (xs ++ left)
    → p ≡ at + o → new' ≡ sets new p xs → r ≡ length xs → Writing old new' at (o + r) whole left
write_next {old} {new} {new'} {at} {o} {whole} xs left p r w pe e re = record {
  done = w.done ++ xs;
  written = e ∙ ap (λ (l : List ℕ). sets l p xs) w.written
      ∙ ap (λ (i : ℕ). sets (sets old at w.done) i xs) (pe ∙ ap (λ (i : ℕ). at + i) w.reach)
      ∙ sym (sets_append old at w.done xs);
  reach = omega (arith, w.reach, re, length-append w.done xs);
  same = w.same ∙ sym (append_assoc w.done xs left);
}

-- nothing is left
pub write_all : {old new : List ℕ} {at o : ℕ} {whole : List ℕ} → Writing old new at o whole [] → (new ≡ sets old at whole)
    × (o ≡ length whole)
write_all {old} {at = at} {whole = whole} w =
    let e : whole ≡ w.done = w.same ∙ append-nil w.done in
    (w.written ∙ ap (sets old at) (sym e), w.reach ∙ ap (λ (l : List ℕ). length l) (sym e))

-- the last stretch
pub write_last : {old new new' : List ℕ} {at o : ℕ} {whole : List ℕ} (xs : List ℕ) (p r : ℕ) → Writing old new at o whole xs
    → p ≡ at + o → new' ≡ sets new p xs → r ≡ length xs → (new' ≡ sets old at whole) × (o + r ≡ length whole)
write_last {old} {new} {at = at} {o = o} {whole = whole} xs p r w pe e re =
    write_all (write_next xs [] p r (subst (Writing old new at o whole) (sym (append-nil xs)) w) pe e re)

-- what is written and what comes next fit into the whole
pub write_room : {old new : List ℕ} {at o : ℕ} {whole : List ℕ} (xs left : List ℕ) → Writing old new at o whole (xs ++ left)
    → o + length xs ≤ length whole
write_room {whole = whole} xs left w =
    omega (arith, w.reach, ap (λ (l : List ℕ). length l) w.same, length-append w.done (xs ++ left), length-append xs left)
