-- The answer of `is_normal` from that of the checks: a term that is accepted is typed, so the grammar says whether a rule fits.
use Prim.Native.Nat.{ℕ}
use mathlib.Core.Path.{◌≡◌, sym, ◌∙◌, ap}
use mathlib.Core.Bool.{Bool, false}
use mathlib.Core.List.{List, []}
use Rattle.std.specs.Prelude.{Ok, Err}
use Rattle.syntax.specs.Tables.{Tables}
use Rattle.typing.specs.Refusals.{elaborate, other_limit}
use Rattle.reduction.specs.MayDrop.{may_drop}
use Rattle.outcomes.specs.declared.Refusal.{Refusal}
use Rattle.outcomes.specs.Check.{Checked, checked_of, check_answer}
use Rattle.outcomes.specs.IsNormal.{Tested, tested_of, tested_answer, is_normal_outcome}
use Rattle.outcomes.proofs.Numbers.{number_some}
use Rattle.theory.proofs.GrammarNormal.{grammar_is_normal}
use Rattle.checker.proofs.Verdicts.{Accepts, refused_of}
use Rattle.normal_form.specs.NormalTest.{Decides}

module _ (tables : Tables) (words : List ℕ) where
  -- refused by a check
  pub refused_tested : (r : Checked) → r ≡ checked_of (elaborate other_limit tables words) → (r.refusal ≡ 0 → ⊥)
      → ◌≡◌ {A = Tested} (record { refusal = r.refusal; normal = false }) (is_normal_outcome tables words)
  unfolding is_normal_outcome
  refused_tested r e z = ap (tested_of (may_drop tables.calls)) (sym (refused_of other_limit tables words r e z))

  -- with the number of a refusal
  pub err_tested : (why : Refusal) → check_answer (Err why) ≡ checked_of (elaborate other_limit tables words)
      → tested_answer (Err why) ≡ is_normal_outcome tables words
  err_tested why e = refused_tested (check_answer (Err why)) e (number_some why)

  -- accepted
  pub accepted_tested : {A : ℕ} {b : Bool} → Accepts other_limit tables words A → Decides tables.calls words b
      → tested_answer (Ok b) ≡ is_normal_outcome tables words
  unfolding is_normal_outcome
  accepted_tested a d =
      let x = a.typed in
      let n = d.told x.term [] a.holds ∙ grammar_is_normal (may_drop tables.calls) tables tables.inputs x.type x.term a.passed.type in
      ap {B = Tested} (λ c. record { refusal = 0; normal = c }) n ∙ ap (tested_of (may_drop tables.calls)) (sym a.is)
