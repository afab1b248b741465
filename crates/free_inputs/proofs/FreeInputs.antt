-- The answer of `free_inputs` from that of the checks: zeros where they refuse, else the marks of the inputs that the term reads and the
-- sum of the ones in the four words.
use Prim.Native.Nat.{ℕ, ◌≤◌}
use native.Mathlib.Omega.{arith}
use mathlib.Core.Path.{◌≡◌, sym, ◌∙◌, ap, ap₂}
use mathlib.Core.List.{List, []}
use lib.ListN.{replicate}
use Rattle.std.specs.Prelude.{Err}
use Rattle.syntax.specs.Tables.{Tables}
use Rattle.typing.specs.Refusals.{elaborate, other_limit}
use Rattle.words.specs.Fronts.{Starts}
use Rattle.outcomes.specs.declared.Refusal.{Refusal}
use Rattle.outcomes.specs.Refusal.{number_of}
use Rattle.outcomes.specs.Check.{Checked, checked_of, check_answer}
use Rattle.outcomes.specs.FreeInputs.{reads, read_of, free_inputs_outcome}
use Rattle.outcomes.specs.declared.FreeInputs.{FreeInputs}
use Rattle.outcomes.proofs.Marks.{how_many_most, ones_of, ones_masks}
use Rattle.outcomes.proofs.Numbers.{number_some}
use Rattle.checker.proofs.Verdicts.{Accepts, refused_of}
use Rattle.free_inputs.specs.InputMarks.{MarksRead}

pub ones_few : {calls words marks : List ℕ} → MarksRead calls words marks → Starts calls words → ones_of marks ≤ 256
ones_few m s =
    let f = reads s.term in
    omega (arith, ap ones_of (m.told s.term s.rest s.holds), ones_masks f, how_many_most 256 f)

module _ (tables : Tables) (words : List ℕ) where
  -- refused by a check
  pub refused_read : (r : Checked) → r ≡ checked_of (elaborate other_limit tables words) → (r.refusal ≡ 0 → ⊥)
      → ◌≡◌ {A = FreeInputs} (record { refusal = r.refusal; marks = replicate 4 0; count = 0 }) (free_inputs_outcome tables words)
  unfolding free_inputs_outcome
  refused_read r e z = ap read_of (sym (refused_of other_limit tables words r e z))

  -- with the number of a refusal
  pub err_read : (why : Refusal) → check_answer (Err why) ≡ checked_of (elaborate other_limit tables words) → (n : ℕ) → n ≡ number_of why
      → ◌≡◌ {A = FreeInputs} (record { refusal = n; marks = replicate 4 0; count = 0 }) (free_inputs_outcome tables words)
  err_read why e n ne =
      ap {B = FreeInputs} (λ i. record { refusal = i; marks = replicate 4 0; count = 0 }) ne
      ∙ refused_read (check_answer (Err why)) e (number_some why)

  -- accepted
  pub accepted_read : {A : ℕ} → Accepts other_limit tables words A → (marks : List ℕ) → MarksRead tables.calls words marks
      → ◌≡◌ {A = FreeInputs} (record { refusal = 0; marks = marks; count = ones_of marks }) (free_inputs_outcome tables words)
  unfolding free_inputs_outcome
  accepted_read a marks m =
      let x = a.typed in
      let n = m.told x.term [] a.holds in
      ap₂ {C = FreeInputs} (λ (ws : List ℕ) (k : ℕ). record { refusal = 0; marks = ws; count = k }) n
      (ap ones_of n ∙ ones_masks (reads x.term))
      ∙ ap read_of (sym a.is)
