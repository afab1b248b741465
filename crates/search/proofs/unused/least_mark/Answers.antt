-- The least of a number and the members of a list, as a fold gives it.
use Rattle.std.proofs.Common.{ℕ, zero, suc, ◌≡◌, ◌+◌, ◌-◌, ◌≤◌, ◌<◌, min, List, [], ◌∷◌, length, get_or, drop, length-take, length-drop, ◌∙◌, fold, arith, rules, tests}
use Rattle.std.specs.List.{slice_range}
use Rattle.std.proofs.lemmas.List.{get_or-take, get_or-drop}
use Rattle.std.proofs.lemmas.Iterator.{YieldsList-from_slice}
use Rattle.std.proofs.lemmas.Iterator.Consumers.{fold_from_yields_List}
use Rattle.search.specs.Unused.{LeastMark}
use Rattle.search.proofs.unused.least_mark.Goals as goal

least_first : (first : ℕ) (xs : List ℕ) → fold min first xs ≤ first
least_first first [] = omega arith
least_first first (x ∷ xs) = omega (arith, least_first (min first x) xs)

least_member : (first : ℕ) (xs : List ℕ) (i : ℕ) → i < length xs → fold min first xs ≤ get_or xs i 0
least_member first [] i l = absurd (omega arith)
least_member first (x ∷ xs) zero l = omega (arith, least_first (min first x) xs)
least_member first (x ∷ xs) (suc i) l = least_member (min first x) xs i (omega arith)

least_greatest : (first : ℕ) (xs : List ℕ) (y : ℕ) → y ≤ first → ((i : ℕ) → i < length xs → y ≤ get_or xs i 0) → y ≤ fold min first xs
least_greatest first [] y l h = l
least_greatest first (x ∷ xs) y l h =
    least_greatest (min first x) xs y (omega (arith, h 0 (omega arith))) λ i m. h (suc i) (omega arith)

least_of : (used : List ℕ) (start end first r : ℕ) → start ≤ end → end ≤ length used → r ≡ fold min first (slice_range used start end)
    → LeastMark used start end first r
least_of used start end first r le lim e = record {
  first_least = omega (arith, e, least_first first marks);
  least = λ d l m.
      let i : start + (d - start) ≡ d = omega arith in
      rw (← i) (omega (arith, e, least_member first marks (d - start) (omega (arith, many)), at_mark (d - start) (omega arith)));
  greatest = λ x l h.
      omega (arith, e, least_greatest first marks x l λ i m. omega (arith, at_mark i (omega (arith, many)), h (start + i) (omega arith) (omega (arith, many))));
}
  where
    marks : List ℕ
    marks = slice_range used start end

    many : length marks ≡ end - start
    many = omega (arith, length-take {A = ℕ}, length-drop {A = ℕ})

    at_mark : (i : ℕ) → i < end - start → get_or marks i 0 ≡ get_or used (start + i) 0
    at_mark i l = get_or-take (end - start) (drop start used) i 0 l ∙ get_or-drop start used i 0

pub returns : goal.returns
returns c =
    least_of _ _ _ _ _ c.requires.0 c.requires.1
    (fold_from_yields_List _ min c.args.first c.fold.result c.fold.ensures.ran
    (YieldsList-from_slice (slice_range c.args.used.now c.args.start c.args.end) cc)
    (λ a x b q k. search (rules, tests)))
