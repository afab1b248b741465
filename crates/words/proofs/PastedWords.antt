-- Words copied one by one to a buffer, first to last or last to first: those copied so far, and one more.
use Prim.Native.Nat.{ℕ, suc, ◌+◌, ◌<◌, ◌≤◌}
use native.Mathlib.Omega.{arith}
use mathlib.Core.Path.{◌≡◌, refl, sym, ◌∙◌, ap, ap₂, subst}
use mathlib.Core.Bool.{Bool, true, false}
use mathlib.Core.List.{List, [], ◌∷◌, ◌++◌, append-nil}
use lib.Dec.{leb}
use lib.ListN.{length, get_or, set, take, drop, length-append, length-drop, drop_of_length-le}
use lib.Seq.{paste, paste-zero, length-paste, sets, sets-eq, take_all, length-take-le}
use borrow.Author.Tests.{leb-true, leb-false}
use Rattle.words.proofs.Pastes.{paste_next, paste_previous, get_or_paste_past, get_or_paste_before}

-- n words of src from `start` on stand in the buffer from `at` on, and the rest of it is as it was
pub record Pasted (src old new : List ℕ) (start at n : ℕ) : Type 0 where
  pub source : start + n ≤ length src
  pub room : at + n ≤ length old
  pub pasted : new ≡ paste old at (drop start src) n

pub pasted_none : (src old : List ℕ) (start at : ℕ) → start ≤ length src → at ≤ length old → Pasted src old old start at 0
pasted_none src old start at h g = record {
  source = omega (arith, h);
  room = omega (arith, g);
  pasted = paste-zero old at (drop start src);
}

module _ {src old new : List ℕ} {start at n : ℕ} (p : Pasted src old new start at n) where
  inside : n ≤ length (drop start src)
  inside = omega (arith, p.source, length-drop start src)

  pub pasted_length : length new ≡ length old
  pasted_length = ap (λ (l : List ℕ). length l) p.pasted ∙ length-paste old at (drop start src) n p.room inside

  -- the words before the copied ones, and those behind them
  pub unchanged_before : (i : ℕ) → i < at → get_or new i 0 ≡ get_or old i 0
  unchanged_before i lt = ap (λ (l : List ℕ). get_or l i 0) p.pasted
      ∙ get_or_paste_before old at (drop start src) n i (omega (arith, p.room)) lt

  pub unchanged_past : (i : ℕ) → at + n ≤ i → get_or new i 0 ≡ get_or old i 0
  unchanged_past i ge = ap (λ (l : List ℕ). get_or l i 0) p.pasted ∙ get_or_paste_past old at (drop start src) n i p.room inside ge

  -- one word more behind the copied ones
  pub pasted_next : (v : ℕ) → at + n < length old → start + n < length src → v ≡ get_or src (start + n) 0
      → Pasted src old (set new (at + n) v) start at (n + 1)
  pasted_next v h g e = record {
    source = omega (arith, g);
    room = omega (arith, h);
    pasted = ap (λ (l : List ℕ). set l (at + n) v) p.pasted ∙ paste_next old at src start n v h g e;
  }

-- one word more before them
pub pasted_previous : {src old new : List ℕ} {start at n : ℕ} → Pasted src old new (suc start) (suc at) n → (v : ℕ) → v ≡ get_or src start 0
    → Pasted src old (set new at v) start at (suc n)
pasted_previous {src} {old} {new} {start} {at} {n} p v e = record {
  source = omega (arith, p.source);
  room = omega (arith, p.room);
  pasted = ap (λ (l : List ℕ). set l at v) p.pasted
      ∙ paste_previous old at src start n v (omega (arith, p.room)) (omega (arith, p.source)) e;
}

-- the same numbers, written otherwise
pub pasted_at : {src old new : List ℕ} {start at n : ℕ} (start' at' n' : ℕ) → Pasted src old new start at n → start ≡ start' → at ≡ at'
    → n ≡ n' → Pasted src old new start' at' n'
pasted_at {src} {old} {new} {start} {at} {n} start' at' n' p d e f =
    subst (Pasted src old new start' at') f
    (subst (λ (a : ℕ). Pasted src old new start' a n) e (subst (λ (s : ℕ). Pasted src old new s at n) d p))

-- words pasted within a list are words set one after the other
pub paste_sets : (l : List ℕ) (at : ℕ) (s : List ℕ) (n : ℕ) → length (paste l at s n) ≡ length l → paste l at s n ≡ sets l at (take n s)
paste_sets l at s n same = go (leb at (length l)) refl (leb (at + n) (length l)) refl
  where
    xs : List ℕ
    xs = take n s

    total : length (take at l) + length xs + length (drop (at + n) l) ≡ length l
    total = sym (ap (λ (k : ℕ). k + length (drop (at + n) l)) (length-append (take at l) xs))
        ∙ sym (length-append (take at l ++ xs) (drop (at + n) l)) ∙ same

    inner : at ≤ length l → drop (at + length xs) l ≡ drop (at + n) l → paste l at s n ≡ sets l at xs
    inner h e =
        let fits : at + length xs ≤ length l = omega (arith, total, length-take-le at l h) in
        sym (sets-eq xs l at fits ∙ ap (λ (r : List ℕ). take at l ++ xs ++ r) e)

    none : (ys : List ℕ) → length ys ≡ 0 → ys ≡ []
    none [] e = refl
    none (y ∷ ys) e = absurd (omega (arith, e))

    go : (a : Bool) → leb at (length l) ≡ a → (b : Bool) → leb (at + n) (length l) ≡ b → paste l at s n ≡ sets l at xs
    go true p true q =
        let h = leb-true at (length l) p in
        let e : length xs ≡ n =
        omega (arith, total, length-take-le at l h, length-drop (at + n) l, leb-true (at + n) (length l) q) in
        inner h (ap (λ (k : ℕ). drop (at + k) l) e)
    go true p false q =
        let h = leb-true at (length l) p in
        let past = leb-false (at + n) (length l) q in
        let end : length l ≤ at + length xs = omega (arith, total, length-take-le at l h, length-drop (at + n) l, past) in
        inner h (drop_of_length-le l end ∙ sym (drop_of_length-le l {i = at + n} (omega (arith, past))))
    go false p b q =
        let past = leb-false at (length l) p in
        let all : take at l ≡ l = take_all at l (omega (arith, past)) in
        let e : xs ≡ [] = none xs (omega (arith, total, ap (λ (k : List ℕ). length k) all)) in
        ap₂ {C = List ℕ} (λ (x y : List ℕ). x ++ y ++ drop (at + n) l) all e
        ∙ ap (λ (x : List ℕ). l ++ [] ++ x) (drop_of_length-le l {i = at + n} (omega (arith, past))) ∙ append-nil (l ++ []) ∙ append-nil l
        ∙ sym (ap (sets l at) e)

-- what `copy` ensures, as words set one after the other
pub pasted_sets : (src old new : List ℕ) (start n at : ℕ) → length new ≡ length old → new ≡ paste old at (drop start src) n
    → new ≡ sets old at (take n (drop start src))
pasted_sets src old new start n at same e =
    e ∙ paste_sets old at (drop start src) n (ap (λ (l : List ℕ). length l) (sym e) ∙ same)
