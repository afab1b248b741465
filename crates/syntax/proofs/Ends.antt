-- The end of a part, and decoding. The part at the front of any words ends after n words exactly if the first n words decode to one term
-- (`end_at_term`, `term_at_end`), and it has no end exactly if no front of the words decodes (`no_end_no_term`, `no_term_no_end`). Nothing is
-- asked of the words or of the call table.
use mathlib.Core.Path.{◌≡◌, refl, sym, ◌∙◌, ap}
use mathlib.Core.List.{List, [], ◌∷◌}
use mathlib.Core.Option.{Option, some, none, map, some-injective, none-ne-some}
use Prim.Native.Nat.{ℕ, zero, suc, ◌+◌, ◌≤◌}
use native.Mathlib.Omega.{arith}
use lib.ListN.{length, length-take, take}
use Rattle.syntax.specs.Maybe.{◌>>=◌}
use Rattle.syntax.specs.Term.{Term}
use Rattle.syntax.specs.Decoding.{decode}
use Rattle.syntax.specs.Parts.{known_parts, extent, part_end}
use Rattle.syntax.proofs.Forests.{one_fewer, even_term}
use Rattle.syntax.proofs.ForestParts.{term_even}

module _ (calls : List ℕ) where
  -- what so many parts take is a front of the words
  extent_front : (ws : List ℕ) (owed n : ℕ) → extent calls ws owed ≡ some n → (n ≤ length ws) × (extent calls (take n ws) owed ≡ some n)
  unfolding extent
  extent_front [] zero zero e = (omega arith, refl)
  extent_front [] zero (suc n) e = absurd (omega (arith, some-injective 0 (suc n) e))
  extent_front [] (suc owed) n e = absurd (none-ne-some n e)
  extent_front (w ∷ ws) zero zero e = (omega arith, refl)
  extent_front (w ∷ ws) zero (suc n) e = absurd (omega (arith, some-injective 0 (suc n) e))
  extent_front (w ∷ ws) (suc owed) zero e = go (known_parts calls w) e
    where
      some_words : (o : Option ℕ) → map suc o ≡ some 0 → (0 ≤ suc (length ws)) × (extent calls [] (suc owed) ≡ some 0)
      some_words none d = absurd (none-ne-some 0 d)
      some_words (some m) d = absurd (omega (arith, some-injective (suc m) 0 d))

      go : (o : Option ℕ) → (o >>= λ a. map suc (extent calls ws (a + owed))) ≡ some 0
          → (0 ≤ suc (length ws)) × (extent calls [] (suc owed) ≡ some 0)
      go none d = absurd (none-ne-some 0 d)
      go (some a) d = some_words (extent calls ws (a + owed)) d
  extent_front (w ∷ ws) (suc owed) (suc n) e = go (known_parts calls w) e (λ m. extent_front ws m n)
    where
      go : (o : Option ℕ) → (o >>= λ a. map suc (extent calls ws (a + owed))) ≡ some (suc n)
          → ((m : ℕ) → extent calls ws m ≡ some n → (n ≤ length ws) × (extent calls (take n ws) m ≡ some n))
          → (suc n ≤ suc (length ws)) × ((o >>= λ a. map suc (extent calls (take n ws) (a + owed))) ≡ some (suc n))
      go none d ih = absurd (none-ne-some (suc n) d)
      go (some a) d ih = let i = ih (a + owed) (one_fewer _ n d) in (omega (arith, i.0), ap (map suc) i.1)

  -- and a front that is so many parts is what they take
  front_extent : (ws : List ℕ) (owed n : ℕ) → n ≤ length ws → extent calls (take n ws) owed ≡ some n → extent calls ws owed ≡ some n
  unfolding extent
  front_extent [] owed zero h e = e
  front_extent [] owed (suc n) h e = absurd (omega arith)
  front_extent (w ∷ ws) zero zero h e = e
  front_extent (w ∷ ws) zero (suc n) h e = e
  front_extent (w ∷ ws) (suc owed) zero h e = absurd (none-ne-some 0 e)
  front_extent (w ∷ ws) (suc owed) (suc n) h e = go (known_parts calls w) e (λ m. front_extent ws m n (omega (arith, h)))
    where
      go : (o : Option ℕ) → (o >>= λ a. map suc (extent calls (take n ws) (a + owed))) ≡ some (suc n)
          → ((m : ℕ) → extent calls (take n ws) m ≡ some n → extent calls ws m ≡ some n)
          → (o >>= λ a. map suc (extent calls ws (a + owed))) ≡ some (suc n)
      go none d ih = d
      go (some a) d ih = ap (map suc) (ih (a + owed) (one_fewer _ n d))

  take_taken : (n : ℕ) (ws : List ℕ) → take (length (take n ws)) ws ≡ take n ws
  take_taken zero ws = refl
  take_taken (suc n) [] = refl
  take_taken (suc n) (w ∷ ws) = ap {B = List ℕ} (λ l. w ∷ l) (take_taken n ws)

  front_length : (ws : List ℕ) (n : ℕ) → n ≤ length ws → length (take n ws) ≡ n
  front_length ws n h = omega (arith, h, length-take n ws)

  module _ (ws : List ℕ) where
    -- the first n words decode to one term
    pub record TermOf (n : ℕ) : Type 0 where
      pub inside : n ≤ length ws
      pub term : Term
      pub is : decode calls (take n ws) ≡ some term

    -- the end is n exactly if they do
    pub end_at_term : (n : ℕ) → TermOf n → part_end calls ws ≡ some n
    unfolding part_end
    end_at_term n x = front_extent ws 1 n x.inside
        (term_even calls (take n ws) x.term x.is ∙ ap (λ (l : ℕ). some l) (front_length ws n x.inside))

    pub term_at_end : (n : ℕ) → part_end calls ws ≡ some n → TermOf n
    unfolding part_end
    term_at_end n e = go (decode calls (take n ws)) refl
      where
        f : (n ≤ length ws) × (extent calls (take n ws) 1 ≡ some n)
        f = extent_front ws 1 n e

        go : (o : Option Term) → decode calls (take n ws) ≡ o → TermOf n
        go none d = absurd (even_term calls (take n ws) (f.1 ∙ ap (λ (l : ℕ). some l) (sym (front_length ws n f.0))) d)
        go (some t) d = record { inside = f.0; term = t; is = d }

    -- there is none exactly if no front decodes
    pub no_end_no_term : part_end calls ws ≡ none → (n : ℕ) → decode calls (take n ws) ≡ none
    no_end_no_term e n = go (decode calls (take n ws)) refl
      where
        m : ℕ
        m = length (take n ws)

        go : (o : Option Term) → decode calls (take n ws) ≡ o → decode calls (take n ws) ≡ none
        go none d = d
        go (some t) d =
            let x : TermOf m = record {
              inside = omega (arith, length-take n ws);
              term = t;
              is = ap (decode calls) (take_taken n ws) ∙ d;
            } in
            absurd (none-ne-some m (sym e ∙ end_at_term m x))

    pub no_term_no_end : ((n : ℕ) → decode calls (take n ws) ≡ none) → part_end calls ws ≡ none
    no_term_no_end h = go (part_end calls ws) refl
      where
        go : (o : Option ℕ) → part_end calls ws ≡ o → part_end calls ws ≡ none
        go none d = d
        go (some n) d = let x = term_at_end n d in absurd (none-ne-some x.term (sym (h n) ∙ x.is))
