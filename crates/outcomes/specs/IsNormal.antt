-- The outcome of the public call `is_normal` (paper 01: the flat test).
use Rattle.std.specs.Prelude.{ℕ, Bool, false, List, Result, Ok, Err}
use Rattle.syntax.specs.Tables.{Tables}
use Rattle.syntax.specs.Term.{Term}
use Rattle.typing.specs.Refusals.{Verdict, refused, accepted, TypedTerm, elaborate, other_limit}
use Rattle.reduction.specs.MayDrop.{may_drop}
use Rattle.reduction.specs.NormalForm.{is_normal}
use Rattle.outcomes.specs.declared.Refusal.{Refusal}
use Rattle.outcomes.specs.Refusal.{number_of}

-- the answer: refusal 0 and whether no rule of any phase fits, or the refusal's number and no
pub record Tested : Type 0 where
  pub refusal : ℕ
  pub normal : Bool

-- from the verdict of the checks; `pure` says what may be dropped
abbrev pub tested_of : (Term → Bool) → Verdict TypedTerm → Tested
tested_of pure (refused n) = record { refusal = n; normal = false }
tested_of pure (accepted x) = record { refusal = 0; normal = is_normal pure x.term }

-- from what the call answers
abbrev pub tested_answer : Result Bool Refusal → Tested
tested_answer (Ok b) = record { refusal = 0; normal = b }
tested_answer (Err r) = record { refusal = number_of r; normal = false }

-- the outcome, from the tables and the term words
unfoldable pub is_normal_outcome : Tables → List ℕ → Tested
is_normal_outcome tables words = tested_of (may_drop tables.calls) (elaborate other_limit tables words)
