-- What the search for the first redex of a phase asks and says.
use Rattle.std.specs.Prelude.{ℕ, ◌≤◌, ◌≡◌, List, length, drop, Option}
use Rattle.syntax.specs.Term.{Term}
use Rattle.syntax.specs.Encoding.{encode}
use Rattle.syntax.specs.Shaped.{Shaped}
use Rattle.reduction.specs.MayDrop.{may_drop}
use Rattle.reduction.specs.Redex.{first_redex}
use Rattle.reduction.specs.Clear.{Clear}
use Rattle.reduction.specs.declared.Phase.{Phase}
use Rattle.reduction.specs.declared.Redex.{Redex}
use Rattle.search.specs.Searches.{moved_by}
use Rattle.search.specs.PhasePremise.{PhasePremise}

-- the words are those of the term t from an index on, before which no redex of the phase stands
pub record SearchAt (phase : Phase) (calls rest : List ℕ) (from : ℕ) (t : Term) : Type 0 where
  pub shaped : Shaped calls t
  pub is : rest ≡ drop from (encode t)
  pub clear : Clear (may_drop calls) phase t from
  pub premise : PhasePremise calls phase t from

-- the words are those of some term from some index on, and there is a mark for each
pub record Searchable (phase : Phase) (calls rest marks : List ℕ) : Type 0 where
  pub term : Term
  pub from : ℕ
  pub at : SearchAt phase calls rest from term
  pub small : length rest ≤ 8192
  pub deep : length rest ≤ length marks
  pub marks_small : length marks ≤ 65536

-- for whatever term the words go on with, from whatever index on
pub record Finds (phase : Phase) (calls rest : List ℕ) (r : Option Redex) : Type 0 where
  pub told : (t : Term) (from : ℕ) → SearchAt phase calls rest from t → moved_by from r ≡ first_redex (may_drop calls) phase t
