-- Words pasted over a list, first to last and last to first: what is read has not been written over.
use Prim.Native.Nat.{ℕ, zero, suc, ◌+◌, ◌-◌, ◌≤◌, ◌<◌}
use native.Mathlib.Omega.{arith}
use native.Mathlib.Nat.{add-suc, suc-add}
use native.Mathlib.Numerals.{add-one}
use mathlib.Core.Path.{◌≡◌, refl, sym, ◌∙◌, ap}
use mathlib.Core.List.{List, [], ◌∷◌, ◌++◌, append_assoc, append-nil}
use lib.ListN.{length, get_or, drop, take, set, replicate, length-drop, length-replicate, take-append-drop}
use lib.Seq.{paste, paste-suc, drop-paste, get_or-drop, get_or-take, drop-cons, take-suc, set_at}
use lib.Seq.{length-take-le, drop-drop, drop-length, drop_at, take-append-le, take-take}

-- past what is pasted the words are the list's
pub get_or_paste_past : (l : List ℕ) (at : ℕ) (s : List ℕ) (n i : ℕ) → at + n ≤ length l → n ≤ length s → at + n ≤ i
    → get_or (paste l at s n) i 0 ≡ get_or l i 0
get_or_paste_past l at s n i h m ge =
    let e : at + n + (i - (at + n)) ≡ i = omega (arith, ge) in
    ap (λ (j : ℕ). get_or (paste l at s n) j 0) (sym e) ∙ sym (get_or-drop (at + n) (paste l at s n) (i - (at + n)) 0)
    ∙ ap (λ (x : List ℕ). get_or x (i - (at + n)) 0) (drop-paste l at s n (omega (arith, h)) m) ∙ get_or-drop (at + n) l (i - (at + n)) 0
    ∙ ap (λ (j : ℕ). get_or l j 0) e

-- before it too
get_or-append_before : (xs ys : List ℕ) (i : ℕ) → i < length xs → get_or (xs ++ ys) i 0 ≡ get_or xs i 0
get_or-append_before [] ys i h = absurd (omega (arith, h))
get_or-append_before (x ∷ xs) ys zero h = refl
get_or-append_before (x ∷ xs) ys (suc i) h = get_or-append_before xs ys i (omega (arith, h))

pub get_or_paste_before : (l : List ℕ) (at : ℕ) (s : List ℕ) (n i : ℕ) → at ≤ length l → i < at → get_or (paste l at s n) i 0 ≡ get_or l i 0
get_or_paste_before l at s n i h lt =
    ap (λ (x : List ℕ). get_or x i 0) (append_assoc (take at l) (take n s) (drop (at + n) l))
    ∙ get_or-append_before (take at l) (take n s ++ drop (at + n) l) i (omega (arith, lt, length-take-le at l h)) ∙ get_or-take at l i 0 lt

-- one word more at the end: the next of the source
pub paste_next : (l : List ℕ) (at : ℕ) (src : List ℕ) (start i v : ℕ) → at + i < length l → start + i < length src
    → v ≡ get_or src (start + i) 0
    → set (paste l at (drop start src) i) (at + i) v ≡ paste l at (drop start src) (i + 1)
paste_next l at src start i v h g e =
    ap (λ (x : ℕ). set (paste l at (drop start src) i) (at + i) x) (e ∙ sym (get_or-drop start src i 0))
    ∙ paste-suc l at (drop start src) i 0 h (omega (arith, g, length-drop start src)) ∙ ap (paste l at (drop start src)) (sym (add-one i))

-- one word more at the front
paste_before : (l : List ℕ) (at : ℕ) (s : List ℕ) (m v : ℕ) → at < length l → set (paste l (suc at) s m) at v ≡ paste l at (v ∷ s) (suc m)
paste_before l at s m v h =
    let R = drop (suc at + m) l in
    let y = get_or l at 0 in
    ap (λ (x : List ℕ). set (x ++ take m s ++ R) at v) (take-suc l at 0 h)
    ∙ ap (λ (x : List ℕ). set (x ++ R) at v) (append_assoc (take at l) (y ∷ []) (take m s))
    ∙ ap (λ (x : List ℕ). set x at v) (append_assoc (take at l) (y ∷ take m s) R)
    ∙ set_at (take at l) y (take m s ++ R) v at (length-take-le at l (omega (arith, h)))
    ∙ sym (append_assoc (take at l) (v ∷ take m s) R)
    ∙ ap (λ (k : ℕ). take at l ++ (v ∷ take m s) ++ drop k l) (suc-add at m ∙ sym (add-suc at m))

-- the one before of the source
pub paste_previous : (l : List ℕ) (at : ℕ) (src : List ℕ) (start m v : ℕ) → at < length l → start < length src → v ≡ get_or src start 0
    → set (paste l (suc at) (drop (suc start) src) m) at v ≡ paste l at (drop start src) (suc m)
paste_previous l at src start m v h g e =
    paste_before l at (drop (suc start) src) m v h
    ∙ ap (λ (x : List ℕ). paste l at x (suc m))
    (ap {B = List ℕ} (λ (x : ℕ). x ∷ drop (suc start) src) e ∙ sym (drop-cons src start 0 g))

-- a list set to zeros from the front
pub zeros_next : (l₀ l : List ℕ) (i : ℕ) → i < length l₀ → l ≡ replicate i 0 ++ drop i l₀ → set l i 0 ≡ replicate (i + 1) 0
    ++ drop (i + 1) l₀
zeros_next l₀ l i h e =
    ap (λ (x : List ℕ). set x i 0) (e ∙ ap (λ (x : List ℕ). replicate i 0 ++ x) (drop-cons l₀ i 0 h))
    ∙ set_at (replicate i 0) (get_or l₀ i 0) (drop (suc i) l₀) 0 i (length-replicate i 0)
    ∙ ap (λ (k : ℕ). replicate i 0 ++ (0 ∷ drop k l₀)) (sym (add-one i)) ∙ shift i (drop (i + 1) l₀)
    ∙ ap (λ (k : ℕ). replicate k 0 ++ drop (i + 1) l₀) (sym (add-one i))
  where
    shift : (n : ℕ) (xs : List ℕ) → replicate n 0 ++ (0 ∷ xs) ≡ replicate (suc n) 0 ++ xs
    shift zero xs = refl
    shift (suc n) xs = ap {B = List ℕ} (λ ys. 0 ∷ ys) (shift n xs)

pub zeros_all : (l₀ l : List ℕ) (i : ℕ) → length l₀ ≤ i → i ≤ length l₀ → l ≡ replicate i 0 ++ drop i l₀ → l ≡ replicate (length l₀) 0
zeros_all l₀ l i ge le e =
    let q : i ≡ length l₀ = omega (arith, ge, le) in
    e ∙ ap (λ (k : ℕ). replicate k 0 ++ drop k l₀) q ∙ ap (λ (x : List ℕ). replicate (length l₀) 0 ++ x) (drop-length l₀)
    ∙ append-nil (replicate (length l₀) 0)

-- the words before what is pasted, and those from it on
pub take_before : (l : List ℕ) (at : ℕ) (s : List ℕ) (n i : ℕ) → at ≤ length l → i ≤ at → take i (paste l at s n) ≡ take i l
take_before l at s n i h g =
    let e : length (take at l) ≡ at = length-take-le at l h in
    ap (take i) (append_assoc (take at l) (take n s) (drop (at + n) l))
    ∙ take-append-le i (take at l) (take n s ++ drop (at + n) l) (omega (arith, e, g)) ∙ take-take i at l g

pub drop_pasted : (l : List ℕ) (at : ℕ) (s : List ℕ) (n : ℕ) → at ≤ length l → drop at (paste l at s n) ≡ take n s ++ drop (at + n) l
drop_pasted l at s n h =
    ap (drop at) (append_assoc (take at l) (take n s) (drop (at + n) l))
    ∙ drop_at (take at l) (take n s ++ drop (at + n) l) at (length-take-le at l h)

-- words pasted where they stand change nothing
pub paste_same : (l : List ℕ) (at n : ℕ) → l ≡ paste l at (drop at l) n
paste_same l at n = sym (append_assoc (take at l) (take n (drop at l)) (drop (at + n) l)
    ∙ ap (λ (x : List ℕ). take at l ++ (take n (drop at l) ++ x)) (sym (drop-drop n at l))
    ∙ ap (λ (x : List ℕ). take at l ++ x) (take-append-drop n (drop at l)) ∙ take-append-drop at l)
