-- The call's answer and output, for each way it can go: refused by a check, too long, or what the reduction comes to.
use Prim.Native.Nat.{ℕ, ◌≤◌, ◌<◌, min}
use native.Mathlib.Omega.{arith}
use mathlib.Core.Path.{◌≡◌, refl, ◌∙◌, ap}
use mathlib.Core.List.{List, append-nil}
use lib.ListN.{length, take, length-take}
use Rattle.std.specs.Prelude.{Err}
use Rattle.syntax.specs.Tables.{Tables}
use Rattle.syntax.specs.Encoding.{encode, size}
use Rattle.typing.specs.Refusals.{elaborate, normalize_limit}
use Rattle.reduction.specs.MayDrop.{may_drop}
use Rattle.reduction.specs.declared.Settings.{Settings}
use Rattle.reduction.specs.Reduction.{zero_counts, reduce}
use Rattle.reduction.proofs.Remaining.{reduce_too_long}
use Rattle.outcomes.specs.Buffers.{overwrite}
use Rattle.outcomes.specs.declared.Refusal.{Refusal}
use Rattle.outcomes.specs.Refusal.{number_of}
use Rattle.outcomes.specs.Check.{Checked, checked_of, check_answer}
use Rattle.outcomes.specs.Normalize.{reduced_to, checked_to, normalize_within, Buffers, capacity_of}
use Rattle.outcomes.specs.declared.Answer.{Answer}
use Rattle.outcomes.proofs.Numbers.{number_some}
use Rattle.checker.proofs.Verdicts.{Accepts, refused_of}
use Rattle.normalizer.specs.Answers.{FillsNormalized, Settleable, Settles}

-- refused by a check
pub refusal_fills : (tables : Tables) (words : List ℕ) (before : Buffers) (settings : Settings) (checked : Checked) {a : Answer}
    → checked ≡ checked_of (elaborate normalize_limit tables words) → (checked.refusal ≡ 0 → ⊥)
    → a ≡ record { refusal = checked.refusal; ty = 0; length = 0; counts = zero_counts }
    → FillsNormalized settings tables words before a before.output
unfolding normalize_within checked_to overwrite
refusal_fills tables words before settings checked ce z ae = grind (arith, refused_of normalize_limit tables words checked ce z)

-- with the number of a refusal
pub err_fills : (tables : Tables) (words : List ℕ) (before : Buffers) (settings : Settings) (why : Refusal) {a : Answer}
    → check_answer (Err why) ≡ checked_of (elaborate normalize_limit tables words)
    → a ≡ record { refusal = number_of why; ty = 0; length = 0; counts = zero_counts }
    → FillsNormalized settings tables words before a before.output
err_fills tables words before settings why e ae = refusal_fills tables words before settings (check_answer (Err why)) e (number_some why) ae

module _ {tables : Tables} {words : List ℕ} {A : ℕ} (x : Accepts normalize_limit tables words A) where
  is_encoded : words ≡ encode x.typed.term
  is_encoded = x.holds.is ∙ append-nil (encode x.typed.term)

  -- the parts of the scratch buffers are as long as the capacity
  module _ (before : Buffers) (capacity : ℕ)
      (k : capacity ≡ min (min (length before.output) (min (length before.scratch₁) (length before.scratch₂))) 8192) where
    pub first_length : length (take capacity before.scratch₁) ≡ capacity
    first_length = omega (arith, length-take capacity before.scratch₁, k)

    pub second_length : length (take capacity before.scratch₂) ≡ capacity
    second_length = omega (arith, length-take capacity before.scratch₂, k)

    pub accepted_settleable : length words ≤ capacity
        → Settleable tables.calls words before.output (take capacity before.scratch₁) (take capacity before.scratch₂)
    accepted_settleable h =
        let p = x.passed in
        record {
          term = x.typed.term;
          shaped = x.holds.shaped;
          is = is_encoded;
          typed = record {
            types = tables.types;
            inputs = tables.inputs;
            source = words;
            limit = normalize_limit;
            lengths = p.lengths;
            signatures = p.calls;
            type = x.typed.type;
            typed = p.type;
          };
          small = omega (arith, h, first_length);
          at_most = omega (arith, first_length, k);
          scratch = omega (arith, first_length, second_length);
          room = omega (arith, first_length, k);
        }

    module _ (settings : Settings) where
      reduced : normalize_within (capacity_of before) settings tables words
          ≡ reduced_to x.typed.type (reduce (may_drop tables.calls) capacity settings x.typed.term)
      unfolding normalize_within checked_to capacity_of
      reduced = rw (x.is, k) refl

      -- longer than the capacity
      pub too_long_fills : {a : Answer} → capacity < length words → a ≡ record { refusal = 11; ty = 0; length = 0; counts = zero_counts }
          → FillsNormalized settings tables words before a before.output
      unfolding reduced_to size overwrite
      too_long_fills h ae =
          let long : capacity < size x.typed.term = omega (arith, h, ap (λ (l : List ℕ). length l) is_encoded) in
          grind (arith, reduced, reduce_too_long (may_drop tables.calls) capacity settings x.typed.term long)

      -- what the reduction comes to
      pub settled_fills : {a : Answer} {out : List ℕ}
          → Settles tables.calls words A settings (length (take capacity before.scratch₁)) before.output a out
          → FillsNormalized settings tables words before a out
      settled_fills s = rw (reduced, x.type, ← first_length) (s.told x.typed.term x.holds.shaped is_encoded)
