-- The end of the part at the front, as the call answers it, is the size of the term there: a term's words do not run out.
use Prim.Native.Nat.{ℕ}
use mathlib.Core.Path.{◌≡◌, refl, sym, ◌∙◌, ap}
use mathlib.Core.List.{List, ◌++◌}
use mathlib.Core.Option.{Option, some, some-injective}
use native.Mathlib.Omega.{arith}
use native.Mathlib.Nat.{add-zero}
use Rattle.std.proofs.Common.{unwrap_or}
use Rattle.syntax.specs.Maybe.{option_of}
use Rattle.syntax.specs.Term.{Term, Terms}
use Rattle.syntax.specs.Encoding.{size, encode_all}
use Rattle.syntax.specs.Decoding.{decode}
use Rattle.syntax.specs.Shaped.{count}
use Rattle.syntax.specs.Parts.{extent, part_end}
use Rattle.syntax.proofs.Decoding.{decode-words}
use Rattle.syntax.proofs.Parts.{longer, terms_hold, part_end_lem}
use Rattle.syntax.proofs.Sizes.{size_all}
use Rattle.words.specs.Fronts.{Holds, HoldsAll, StartsAll}
use Rattle.words.specs.Ends.{SizedAll}
use Rattle.words.proofs.Traversal.{front_words, all_fit}
use Rattle.words.proofs.Extents.{nothing_owed}

-- two terms at the front of the same words have the same size
pub same_size : {calls words : List ℕ} {t u : Term} {rest more : List ℕ} → Holds calls words t rest → Holds calls words u more
    → size t ≡ size u
same_size {calls} {words} {t} {u} {rest} {more} h g = some-injective (size t) (size u)
    (sym (part_end_lem calls t rest h.shaped) ∙ ap (part_end calls) (sym h.is ∙ g.is) ∙ part_end_lem calls u more g.shaped)

-- so they are the same
pub same_term : {calls words : List ℕ} {t u : Term} {rest more : List ℕ} → Holds calls words t rest → Holds calls words u more → t ≡ u
same_term {calls} {words} {t} {u} h g = some-injective t u
    (sym (decode-words calls t h.shaped)
    ∙ ap (decode calls) (sym (front_words h (size t) refl) ∙ front_words g (size t) (same_size h g))
    ∙ decode-words calls u g.shaped)

module _ (calls words : List ℕ) (m r : ℕ) (s : StartsAll calls words m)
    (e : r ≡ unwrap_or (option_of (extent calls words m)) 0) where
  -- the words of a row of terms end where its size says
  row_size : (ts : Terms) (rest : List ℕ) → HoldsAll calls words m ts rest → r ≡ size_all ts
  row_size ts rest h = e
      ∙ ap (λ (o : Option ℕ). unwrap_or (option_of o) 0)
      (ap (λ (l : List ℕ). extent calls l m) h.is
      ∙ ap (extent calls (encode_all ts ++ rest)) (sym (add-zero (count ts) ∙ h.many))
      ∙ terms_hold calls ts h.shaped rest 0
      ∙ ap (longer (size_all ts)) (nothing_owed calls rest)
      ∙ ap (λ (x : ℕ). some x) (add-zero (size_all ts)))

  pub row_sized : SizedAll calls words m r
  row_sized = record { within = omega (arith, row_size s.terms s.rest s.holds, all_fit s.holds); told = row_size }
