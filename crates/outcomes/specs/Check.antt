-- The outcome of the public call `check`: the type check.
use Rattle.std.specs.Prelude.{ℕ, List, Result, Ok, Err}
use Rattle.syntax.specs.Tables.{Tables}
use Rattle.typing.specs.Refusals.{Verdict, refused, accepted, TypedTerm, elaborate, other_limit}
use Rattle.outcomes.specs.declared.Refusal.{Refusal}
use Rattle.outcomes.specs.Refusal.{number_of}

-- the answer: refusal 0 and the type number, or the refusal's number and 0
pub record Checked : Type 0 where
  pub refusal : ℕ
  pub ty : ℕ

-- from the verdict of the checks
abbrev pub checked_of : Verdict TypedTerm → Checked
checked_of (refused n) = record { refusal = n; ty = 0 }
checked_of (accepted x) = record { refusal = 0; ty = x.type }

-- from what the call answers
abbrev pub check_answer : Result ℕ Refusal → Checked
check_answer (Ok A) = record { refusal = 0; ty = A }
check_answer (Err r) = record { refusal = number_of r; ty = 0 }

-- the outcome, from the tables and the term words
unfoldable pub check_outcome : Tables → List ℕ → Checked
check_outcome tables words = checked_of (elaborate other_limit tables words)
