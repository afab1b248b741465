-- What check 1 says: the lengths of the tables and of the term words are within their limits, and there is a term word.
use mathlib.Core.Bool.{Bool, ◌&&◌}
use mathlib.Core.List.{List}
use lib.Dec.{T, leb, leb→le, le→leb}
use lib.ListN.{length}
use Prim.Native.Nat.{ℕ, ◌≤◌}
use Rattle.syntax.specs.Tables.{Tables}
use Rattle.syntax.proofs.Options.{and_left, and_right, both_true}
use Rattle.typing.specs.TableChecks.{lengths_fit}

pub record Lengths (limit : ℕ) (tables : Tables) (words : List ℕ) : Type 0 where
  pub types : length tables.types ≤ 1024
  pub calls : length tables.calls ≤ 1024
  pub inputs : length tables.inputs ≤ 256
  pub words' : length words ≤ limit
  pub some_word : 1 ≤ length words

module _ (limit : ℕ) (tables : Tables) (words : List ℕ) where
  -- the five tests
  abbrev t : Bool
  t = leb (length tables.types) 1024

  abbrev c : Bool
  c = leb (length tables.calls) 1024

  abbrev i : Bool
  i = leb (length tables.inputs) 256

  abbrev w : Bool
  w = leb (length words) limit

  abbrev s : Bool
  s = leb 1 (length words)

  pub lengths_of_lem : T (lengths_fit limit tables words) → Lengths limit tables words
  unfolding lengths_fit
  lengths_of_lem h =
      let x = and_left (t && c && i && w) s h in
      let y = and_left (t && c && i) w x in
      let z = and_left (t && c) i y in
      record {
        types = leb→le _ 1024 (and_left t c z);
        calls = leb→le _ 1024 (and_right t c z);
        inputs = leb→le _ 256 (and_right (t && c) i y);
        words' = leb→le _ limit (and_right (t && c && i) w x);
        some_word = leb→le 1 _ (and_right (t && c && i && w) s h);
      }

  pub lengths_fit_lem : Lengths limit tables words → T (lengths_fit limit tables words)
  unfolding lengths_fit
  lengths_fit_lem l =
      both_true (t && c && i && w) s
      (both_true (t && c && i) w
      (both_true (t && c) i (both_true t c (le→leb _ 1024 l.types) (le→leb _ 1024 l.calls)) (le→leb _ 256 l.inputs))
      (le→leb _ limit l.words'))
      (le→leb 1 _ l.some_word)
