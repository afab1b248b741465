-- What the search for the first redex from a place on asks and says.
use Rattle.std.specs.Prelude.{ℕ, ◌+◌, ◌≡◌, List, drop, Option, Some, None}
use Rattle.syntax.specs.Term.{Term}
use Rattle.syntax.specs.Encoding.{encode}
use Rattle.syntax.specs.Shaped.{Shaped}
use Rattle.reduction.specs.MayDrop.{may_drop}
use Rattle.reduction.specs.Clear.{Clear}
use Rattle.reduction.specs.declared.Phase.{Phase}
use Rattle.reduction.specs.declared.Redex.{Redex}
use Rattle.reduction.specs.Redex.{first_redex}
use Rattle.search.specs.Fits.{Scannable}

-- the words are those of the term t from index i on, and no redex of the phase stands before i
pub record Onward (phase : Phase) (calls words : List ℕ) (t : Term) (i : ℕ) : Type 0 where
  pub shaped : Shaped calls t
  pub is : words ≡ drop i (encode t)
  pub clear : Clear (may_drop calls) phase t i
  pub ready : Scannable calls phase t

-- the words are those of some term from some index on
pub record Continues (phase : Phase) (calls words : List ℕ) : Type 0 where
  pub term : Term
  pub index : ℕ
  pub onward : Onward phase calls words term index

-- what is found at a place of a slice that starts at index i
abbrev pub moved_by : ℕ → Option Redex → Option Redex
moved_by i None = None
moved_by i (Some r) = Some (record { rule = r.rule; place = i + r.place })

-- for whatever term the words go on with, from whatever index on: its first redex
pub record FindsFirst (phase : Phase) (calls words : List ℕ) (r : Option Redex) : Type 0 where
  pub told : (t : Term) (i : ℕ) → Onward phase calls words t i → moved_by i r ≡ first_redex (may_drop calls) phase t
