-- Only what the former checks refused with 2 or 6 has another answer now: any other number stays, and what they accepted stays.
use mathlib.Core.Path.{◌≡◌, refl, sym, ◌∙◌, ap, subst⁻¹}
use mathlib.Core.Bool.{Bool, true, false, true≢false}
use mathlib.Core.List.{List}
use mathlib.Core.Logic.{◌≢◌}
use lib.Dec.{T}
use Prim.Native.Nat.{ℕ}
use Rattle.syntax.specs.Tables.{Tables}
use Rattle.typing.specs.TableChecks.{every, lengths_fit, well_formed_types, distinct, well_formed_calls, well_formed_inputs}
use Rattle.typing.specs.TermChecks.{well_formed_word}
use Rattle.typing.specs.Refusals.{Verdict, refused, accepted, ◌>>=◌, require, TypedTerm, elaborate}
use Rattle.typing.proofs.PlacesBy.{elaborate_by, elaborate_by_lem}
use Rattle.typing.proofs.BeforeUnits.{former_types, former_word, former_elaborate, types_without, types_same}
use Rattle.typing.proofs.BeforeUnits.{words_without, words_same, former_accepted}

-- where the first verdict refuses with m, the second does
record Keeps {X : Type 0} (m : ℕ) (v w : Verdict X) : Type 0 where
  kept : v ≡ refused m → w ≡ refused m

number_or : {X : Type 0} → ℕ → Verdict X → ℕ
number_or default (refused n) = n
number_or default (accepted x) = default

-- a test with number n: the second one passes what the first does, and is the same where n is m
test_keeps : {X : Type 0} {m : ℕ} (n : ℕ) (b b' : Bool) (f g : Bool → Verdict X) → (T b → T b') → (n ≡ m → b ≡ b')
    → Keeps m (f true) (g true) → Keeps m (require n b >>= f) (require n b' >>= g)
unfolding number_or
test_keeps n true true f g p q s = record { kept = s.kept }
test_keeps n true false f g p q s = absurd (p tt)
test_keeps n false false f g p q s = record { kept = λ e. e }
test_keeps {m = m} n false true f g p q s = record { kept = λ e. absurd (true≢false (sym (q (ap (number_or m) e)))) }

-- the same of the first test of a longer place
first_test_keeps : {X Y : Type 0} {m : ℕ} (n : ℕ) (b b' : Bool) (f : Bool → Verdict X) (h k : X → Verdict Y) → (T b → T b')
    → (n ≡ m → b ≡ b') → Keeps m (f true >>= h) (f true >>= k) → Keeps m (require n b >>= f >>= h) (require n b' >>= f >>= k)
unfolding number_or
first_test_keeps n true true f h k p q s = record { kept = s.kept }
first_test_keeps n true false f h k p q s = absurd (p tt)
first_test_keeps n false false f h k p q s = record { kept = λ e. e }
first_test_keeps {m = m} n false true f h k p q s = record { kept = λ e. absurd (true≢false (sym (q (ap (number_or m) e)))) }

module _ (limit : ℕ) (tables : Tables) (words : List ℕ) where
  places_keep : (m : ℕ) (a a' b b' : Bool) → (T a → T a') → (T b → T b') → m ≢ 2 → m ≢ 6
      → Keeps m (elaborate_by a (well_formed_calls tables) b limit tables words)
      (elaborate_by a' (well_formed_calls tables) b' limit tables words)
  unfolding elaborate_by
  places_keep m a a' b b' p q x y =
      test_keeps 1 (lengths_fit limit tables words) _ _ _ (λ h. h) (λ _. refl)
      (first_test_keeps 2 a a' _ _ _ p (λ e. absurd (x (sym e)))
      (first_test_keeps 3 (distinct tables.types) _ _ _ _ (λ h. h) (λ _. refl)
      (first_test_keeps 4 (well_formed_calls tables) _ _ _ _ (λ h. h) (λ _. refl)
      (test_keeps 5 (well_formed_inputs tables) _ _ _ (λ h. h) (λ _. refl)
      (test_keeps 6 b b' _ _ q (λ e. absurd (y (sym e))) (record { kept = λ e. e }))))))

  former_refused : (n : ℕ) → n ≢ 2 → n ≢ 6 → former_elaborate limit tables words ≡ refused n → elaborate limit tables words ≡ refused n
  former_refused n x y e = elaborate_by_lem limit tables words
      ∙ (places_keep n (former_types 0 tables.types) (well_formed_types 0 tables.types) (every (former_word tables) words)
      (every (well_formed_word tables) words) (λ h. subst⁻¹ T (types_same 0 tables.types (types_without 0 tables.types h)) h)
      (λ h. subst⁻¹ T (words_same tables words (words_without tables words h)) h) x y).kept e

  -- any answer of the former checks but a refusal with 2 or 6 is the answer of the checks
  pub same_unless_2_or_6 : former_elaborate limit tables words ≢ refused 2 → former_elaborate limit tables words ≢ refused 6
      → elaborate limit tables words ≡ former_elaborate limit tables words
  same_unless_2_or_6 x y = go (former_elaborate limit tables words) refl
    where
      go : (v : Verdict TypedTerm) → former_elaborate limit tables words ≡ v
          → elaborate limit tables words ≡ former_elaborate limit tables words
      go (refused n) e =
          former_refused n (λ d. x (e ∙ ap (λ (k : ℕ). refused k) d)) (λ d. y (e ∙ ap (λ (k : ℕ). refused k) d)) e ∙ sym e
      go (accepted t) e = former_accepted limit tables words t e ∙ sym e
