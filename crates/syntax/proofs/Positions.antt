-- A position's place among the positions is its node's index among the words.
use mathlib.Core.Path.{◌≡◌, sym, ◌∙◌, ap}
use mathlib.Core.List.{List, map, map-map}
use lib.ListN.{length, length-map}
use Rattle.syntax.specs.Term.{Term}
use Rattle.syntax.specs.Encoding.{word_of, encode, size}
use Rattle.syntax.specs.Positions.{positions}
use Rattle.syntax.proofs.Subterms.{subterms_nodes, words_nodes}

pub words_positions : (t : Term) → map (λ p. word_of p.subterm) (positions t) ≡ encode t
words_positions t = sym (map-map word_of (λ p. p.subterm) (positions t))
    ∙ ap (λ (ts : List Term). map word_of ts) (subterms_nodes t) ∙ words_nodes t

-- there are as many positions as words
pub length_positions : (t : Term) → length (positions t) ≡ size t
unfolding size
length_positions t = sym (length-map (positions t) (λ p. word_of p.subterm)) ∙ ap length (words_positions t)
