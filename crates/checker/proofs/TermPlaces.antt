-- What passed the places 1, 6 and 7 tells: the lengths are within their limits, and the words are those of a term.
use mathlib.Core.Path.{◌≡◌, refl, sym, ◌∙◌, ap, subst}
use mathlib.Core.Bool.{Bool, true, false}
use mathlib.Core.List.{List, []}
use mathlib.Core.Option.{Option, some, none}
use Prim.Native.Nat.{ℕ}
use lib.Dec.{T}
use lib.ListN.{length}
use borrow.Author.Tests.{eqb-true, eq-eqb}
use Rattle.syntax.specs.Tables.{Tables}
use Rattle.syntax.specs.Term.{Term}
use Rattle.syntax.specs.Decoding.{decode}
use Rattle.syntax.specs.Parts.{part_end}
use Rattle.syntax.proofs.Forests.{even_term}
use Rattle.syntax.proofs.ForestParts.{term_even}
use Rattle.words.specs.Fronts.{Holds, Starts}
use Rattle.typing.specs.TableChecks.{lengths_fit}
use Rattle.typing.specs.TermChecks.{well_formed_words}
use Rattle.typing.proofs.LengthsFit.{Lengths, lengths_of_lem}
use Rattle.checker.specs.Answers.{whole_of}
use Rattle.checker.proofs.DecodedTerm.{holds_decoded}

-- place 1 passed
pub lengths_told : {limit : ℕ} {tables : Tables} {words : List ℕ} {b : Bool} → b ≡ lengths_fit limit tables words → b ≡ true
    → Lengths limit tables words
lengths_told e p = lengths_of_lem _ _ _ (subst T (sym p ∙ e) tt)

-- place 7 passed: the term that the words stand for
pub record Decoded (tables : Tables) (words : List ℕ) : Type 0 where
  pub term : Term
  pub is : decode tables.calls words ≡ some term
  pub holds : Holds tables.calls words term []

pub starts : {tables : Tables} {words : List ℕ} → Decoded tables words → Starts tables.calls words
starts d = record { term = d.term; rest = []; holds = d.holds }

-- words that pass place 6 stand for a term if they are one part, and else for none
module _ (tables : Tables) (words : List ℕ) (formed : well_formed_words tables words ≡ true) where
  abbrev whole : Bool
  whole = whole_of (part_end tables.calls words) (length words)

  decoded : (t : Term) → decode tables.calls words ≡ some t → Decoded tables words
  decoded t d = record { term = t; is = d; holds = holds_decoded tables words (subst T (sym formed) tt) t d }

  exact : (o : Option ℕ) → whole_of o (length words) ≡ true → o ≡ some (length words)
  exact none p = absurd (subst T (sym p) tt)
  exact (some m) p = ap (λ (x : ℕ). some x) (eqb-true m (length words) p)

  pub whole_decoded : whole ≡ true → Decoded tables words
  whole_decoded f = go (decode tables.calls words) refl
    where
      go : (o : Option Term) → decode tables.calls words ≡ o → Decoded tables words
      go none d = absurd (even_term tables.calls words (exact (part_end tables.calls words) f) d)
      go (some t) d = decoded t d

  pub not_whole : whole ≡ false → decode tables.calls words ≡ none
  not_whole f = go (decode tables.calls words) refl
    where
      go : (o : Option Term) → decode tables.calls words ≡ o → decode tables.calls words ≡ none
      go none d = d
      go (some t) d =
          let w : whole ≡ true = ap (λ (o : Option ℕ). whole_of o (length words)) (term_even tables.calls words t d)
          ∙ eq-eqb (length words) (length words) refl in
          absurd (subst T (sym w ∙ f) tt)
