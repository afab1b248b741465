-- What the functions of the places answer, from the verdicts of the places.
use Rattle.std.specs.Prelude.{ℕ, ◌≡◌, List, Result, Ok, Err}
use Rattle.syntax.specs.Tables.{Tables}
use Rattle.syntax.specs.Term.{Term}
use Rattle.words.specs.Fronts.{Holds}
use Rattle.typing.specs.Refusals.{Verdict, refused, accepted, ◌>>=◌, TypedTerm, scope_place, type_place}
use Rattle.outcomes.specs.declared.Refusal.{Refusal}
use Rattle.outcomes.specs.Refusal.{number_of}
use Rattle.outcomes.specs.Check.{Checked, checked_of}

-- the number of a refusal, 0 if there is none
abbrev pub refusal_number : {X : Type 0} → Verdict X → ℕ
refusal_number (refused n) = n
refusal_number (accepted x) = 0

-- the same of what the code answers
abbrev pub refusal_in : {X : Type 0} → Result X Refusal → ℕ
refusal_in (Ok x) = 0
refusal_in (Err r) = number_of r

-- the places 8 and 9, and the term with its type
abbrev pub typed_term : Tables → Term → Verdict TypedTerm
typed_term tables t = do
  _ ← scope_place tables t
  A ← type_place tables t
  accepted (record { term = t; type = A })

-- for whatever term the words begin with: the answer of the places 8 and 9
abbrev pub Types : Tables → List ℕ → Checked → Type 0
Types tables words r = (t : Term) (rest : List ℕ) → Holds tables.calls words t rest → r ≡ checked_of (typed_term tables t)
