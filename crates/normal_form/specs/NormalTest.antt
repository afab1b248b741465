-- What a test of the part at the front says: yes exactly if the term there passes, and then where it ends and what it uses.
use Rattle.std.specs.Prelude.{◌≡◌, Bool, true, false, List, ℕ, Option, MatchOption}
use Rattle.syntax.specs.Term.{Term}
use Rattle.syntax.specs.Encoding.{size}
use Rattle.reduction.specs.MayDrop.{may_drop}
use Rattle.reduction.specs.Grammar.{class, is_a_value, in_grammar}
use Rattle.words.specs.Fronts.{Holds}
use Rattle.search.specs.Marks.{Marked}

-- a term in normal form, and a value in normal form, over a call table
abbrev pub is_normal_form : List ℕ → Term → Bool
is_normal_form calls t = in_grammar (may_drop calls) t

unfoldable pub is_normal_value : List ℕ → Term → Bool
is_normal_value calls t = is_a_value (class (may_drop calls) t)

-- a term that passed: it ends where the answer says, and its uses are marked
pub record PassedPart (test : Term → Bool) (t : Term) (depth : ℕ) (old new : List ℕ) (end : ℕ) : Type 0 where
  pub passes : test t ≡ true
  pub end_is : end ≡ size t
  pub marked : Marked 1 t depth old new

-- an end if the term passes, and none if it does not
abbrev pub NormalAnswer : (test : Term → Bool) (t : Term) (depth : ℕ) (old new : List ℕ) → Option ℕ → Type 0
NormalAnswer test t depth old new r = MatchOption r (test t ≡ false) (PassedPart test t depth old new)

pub record TestsNormal (test : List ℕ → Term → Bool) (calls words : List ℕ) (depth : ℕ) (old new : List ℕ) (r : Option ℕ) : Type 0 where
  pub told : (t : Term) (rest : List ℕ) → Holds calls words t rest → NormalAnswer (test calls) t depth old new r

-- yes exactly if the term at the front is in normal form
pub record Decides (calls words : List ℕ) (r : Bool) : Type 0 where
  pub told : (t : Term) (rest : List ℕ) → Holds calls words t rest → r ≡ is_normal_form calls t
