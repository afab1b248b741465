-- The term that words decode to which pass place 6 is the term that they begin with.
use mathlib.Core.Path.{◌≡◌, sym, ◌∙◌}
use mathlib.Core.List.{List, [], append-nil}
use mathlib.Core.Option.{some}
use Prim.Native.Nat.{ℕ}
use lib.Dec.{T}
use Rattle.syntax.specs.Tables.{Tables}
use Rattle.syntax.specs.Term.{Term}
use Rattle.syntax.specs.Encoding.{encode}
use Rattle.syntax.specs.Decoding.{decode}
use Rattle.syntax.proofs.ShapedForests.{shaped_term}
use Rattle.words.specs.Fronts.{Holds}
use Rattle.typing.specs.TermChecks.{well_formed_words}
use Rattle.typing.proofs.Encoding.{encode-decode}

pub holds_decoded : (tables : Tables) (words : List ℕ) → T (well_formed_words tables words) → (t : Term)
    → decode tables.calls words ≡ some t → Holds tables.calls words t []
holds_decoded tables words h t d = record {
  shaped = shaped_term tables.calls words t d;
  is = sym (encode-decode tables words h t d) ∙ sym (append-nil (encode t));
}
