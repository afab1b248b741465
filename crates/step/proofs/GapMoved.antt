-- The gap is moved: the words between it and the place stand on its other side, so the words around it are the same.
use Prim.Native.Nat.{ℕ, ◌+◌, ◌-◌, ◌≤◌, ◌<◌}
use native.Mathlib.Omega.{arith}
use mathlib.Core.Path.{◌≡◌, sym, ◌∙◌, ap, ap₂}
use mathlib.Core.List.{List, ◌++◌, append_assoc}
use lib.ListN.{length, take, drop, length-append, length-drop, take-append-drop}
use lib.Seq.{paste, take-paste, drop-paste, length-paste, length-take-le, drop-drop, drop_at, take-add}
use Rattle.syntax.specs.Term.{Term}
use Rattle.syntax.specs.Encoding.{encode, size}
use Rattle.step.specs.Currents.{Gapped}
use Rattle.step.specs.Gaps.{Seekable, Seeks}
use Rattle.words.proofs.Pastes.{take_before, drop_pasted}

module _ {words : List ℕ} {start end place : ℕ} (s : Seekable words start end place) where
  -- towards the end: the words behind the gap up to the place stand before it
  pub seeks_on : (n : ℕ) (after : List ℕ) → start < place → n ≡ place - start → after ≡ paste words start (drop end words) n
      → Seeks words start end place after (end + n)
  seeks_on n after lt ne ae =
      let rest = drop end words in
      let long : n ≤ length rest = omega (arith, ne, lt, s.within, s.inside, length-drop end words) in
      let low : start ≤ length words = omega (arith, s.ordered, s.inside) in
      let room : start + n ≤ length words = omega (arith, ne, lt, s.within, s.ordered, s.inside) in
      let to : place ≡ start + n = omega (arith, ne, lt) in
      let further : end + n ≡ start + n + (end - start) = omega (arith, s.ordered) in
      let same : length after ≡ length words = ap (λ (l : List ℕ). length l) ae ∙ length-paste words start rest n room long in
      let front : take place after ≡ take start words ++ take n rest =
      ap₂ {C = List ℕ} take to ae ∙ take-paste words start rest n low long in
      let back : drop (end + n) after ≡ drop n rest =
      ap₂ {C = List ℕ} drop further ae ∙ sym (drop-drop (end - start) (start + n) (paste words start rest n))
      ∙ ap (drop (end - start)) (drop-paste words start rest n low long) ∙ drop-drop (end - start) (start + n) words
      ∙ ap (λ (k : ℕ). drop k words) (sym further) ∙ sym (drop-drop n end words) in
      record {
        ordered = omega (arith, to, s.ordered);
        inside = omega (arith, same, ne, lt, s.within, s.inside);
        same = ap₂ {C = List ℕ} (λ (x y : List ℕ). x ++ y) front back ∙ append_assoc (take start words) (take n rest) (drop n rest)
            ∙ ap (λ (x : List ℕ). take start words ++ x) (take-append-drop n rest);
      }

  -- towards the front: the words before the gap from the place on stand behind it
  pub seeks_back : (n r : ℕ) (after : List ℕ) → place ≤ start → n ≡ start - place → r ≡ end - n
      → after ≡ paste words r (drop place words) n → Seeks words start end place after r
  seeks_back n r after le ne re ae =
      let moved = drop place words in
      let to : place + n ≡ start = omega (arith, ne, le) in
      let up : r + n ≡ end = omega (arith, re, ne, s.ordered) in
      let long : n ≤ length moved = omega (arith, to, s.ordered, s.inside, length-drop place words) in
      let same : length after ≡ length words =
      ap (λ (l : List ℕ). length l) ae ∙ length-paste words r moved n (omega (arith, up, s.inside)) long in
      let front : take place after ≡ take place words =
      ap (take place) ae ∙ take_before words r moved n place (omega (arith, up, s.inside)) (omega (arith, to, up, s.ordered)) in
      let back : drop r after ≡ take n moved ++ drop end words =
      ap (drop r) ae ∙ drop_pasted words r moved n (omega (arith, up, s.inside)) ∙ ap (λ (k : ℕ). take n moved ++ drop k words) up in
      record {
        ordered = omega (arith, to, up, s.ordered);
        inside = omega (arith, same, up, s.inside);
        same = ap₂ {C = List ℕ} (λ (x y : List ℕ). x ++ y) front back
            ∙ sym (append_assoc (take place words) (take n moved) (drop end words))
            ∙ ap (λ (x : List ℕ). x ++ drop end words) (sym (take-add place n words) ∙ ap (λ (k : ℕ). take k words) to);
      }

module _ {words : List ℕ} {start end : ℕ} {t : Term} (g : Gapped words start end t) where
  -- the term's length is that of the words around the gap
  pub gapped_size : size t ≡ start + (length words - end)
  unfolding size
  gapped_size =
      ap (λ (l : List ℕ). length l) (sym g.words_are) ∙ length-append (take start words) (drop end words)
      ∙ ap₂ {C = ℕ} (λ (m n : ℕ). m + n) (length-take-le start words (omega (arith, g.ordered, g.inside))) (length-drop end words)

  -- the words behind the gap are the term's from its place on
  pub gapped_behind : drop end words ≡ drop start (encode t)
  gapped_behind =
      sym (drop_at (take start words) (drop end words) start (length-take-le start words (omega (arith, g.ordered, g.inside))))
      ∙ ap (drop start) g.words_are

  -- every place of the term can be sought, and its end
  pub gapped_seekable : (place : ℕ) → place ≤ size t → Seekable words start end place
  gapped_seekable place le = record { ordered = g.ordered; inside = g.inside; within = omega (arith, le, gapped_size) }

  -- the term is the same
  pub gapped_sought : {place r : ℕ} {after : List ℕ} → Seeks words start end place after r → Gapped after place r t
  gapped_sought s = record { ordered = s.ordered; inside = s.inside; words_are = s.same ∙ g.words_are }
