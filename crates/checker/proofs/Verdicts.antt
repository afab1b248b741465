-- What an answer of `check_within` tells: after a type the term was accepted with it, and after a refusal, or any number but 0, it was refused
-- with that number.
use mathlib.Core.Path.{◌≡◌, refl, sym, ap}
use mathlib.Core.List.{List, []}
use lib.ListN.{length}
use Prim.Native.Nat.{ℕ, ◌≤◌}
use native.Mathlib.Omega.{arith}
use Rattle.std.specs.Prelude.{Ok, Err}
use Rattle.syntax.specs.Tables.{Tables}
use Rattle.words.specs.Fronts.{Holds, Starts}
use Rattle.typing.specs.Refusals.{Verdict, refused, accepted, TypedTerm, elaborate}
use Rattle.typing.proofs.LengthsFit.{lengths_of_lem}
use Rattle.typing.proofs.Accepted.{Verdicts, refusal, passed, Passed, elaborated}
use Rattle.outcomes.specs.declared.Refusal.{Refusal}
use Rattle.outcomes.specs.Refusal.{number_of}
use Rattle.outcomes.specs.Check.{Checked, checked_of, check_answer}
use Rattle.outcomes.proofs.Numbers.{number_some}
use Rattle.checker.proofs.DecodedTerm.{holds_decoded}

-- the words are those of a term of type A, which has passed the checks
pub record Accepts (limit : ℕ) (tables : Tables) (words : List ℕ) (A : ℕ) : Type 0 where
  pub typed : TypedTerm
  pub is : elaborate limit tables words ≡ accepted typed
  pub type : typed.type ≡ A
  pub passed : Passed limit tables words typed
  pub holds : Holds tables.calls words typed.term []
  pub short : length words ≤ limit

module _ (limit : ℕ) (tables : Tables) (words : List ℕ) where
  pub accepted_of : {A : ℕ} → check_answer (Ok A) ≡ checked_of (elaborate limit tables words) → Accepts limit tables words A
  accepted_of {A} e = at (elaborate limit tables words) (elaborated limit tables words) refl e
    where
      at : (v : Verdict TypedTerm) → Verdicts (Passed limit tables words) v → elaborate limit tables words ≡ v
          → check_answer (Ok A) ≡ checked_of v → Accepts limit tables words A
      at v (refusal n) is e = absurd (omega (arith, ap (λ (x : Checked). x.refusal) e))
      at v (passed {x = x} p) is e = record {
        typed = x;
        is = is;
        type = sym (ap (λ (c : Checked). c.ty) e);
        passed = p;
        holds = holds_decoded tables words p.words' x.term p.term;
        short = (lengths_of_lem limit tables words p.lengths).words';
      }

  -- with whatever number but 0
  pub refused_of : (r : Checked) → r ≡ checked_of (elaborate limit tables words) → (r.refusal ≡ 0 → ⊥)
      → elaborate limit tables words ≡ refused r.refusal
  refused_of r e z = at (elaborate limit tables words) e
    where
      at : (v : Verdict TypedTerm) → r ≡ checked_of v → v ≡ refused r.refusal
      at (refused n) e = ap (λ (c : Checked). refused c.refusal) (sym e)
      at (accepted x) e = absurd (z (ap (λ (c : Checked). c.refusal) e))

  -- with the number of a refusal
  pub err_refused : (why : Refusal) → check_answer (Err why) ≡ checked_of (elaborate limit tables words)
      → elaborate limit tables words ≡ refused (number_of why)
  err_refused why e = refused_of (check_answer (Err why)) e (number_some why)

-- what a call may ask of words that the checks accepted: they begin with a term
pub accepted_starts : {limit : ℕ} {tables : Tables} {words : List ℕ} {A : ℕ} → Accepts limit tables words A → Starts tables.calls words
accepted_starts a = record { term = a.typed.term; rest = []; holds = a.holds }
