-- What an answer of the code tells of the type, and of how a part starts.
use mathlib.Core.Path.{◌≡◌, refl}
use mathlib.Core.Logic.{◌⊎◌}
use mathlib.Core.Option.{Option, some, none}
use Prim.Native.Nat.{ℕ, ◌≤◌, ◌<◌}
use native.Mathlib.Omega.{arith}
use Rattle.std.proofs.lemmas.Grind.{common_steps}
use Rattle.std.proofs.lemmas.Bool.Decides.{nat_tests}
use Rattle.std.specs.Prelude.{Some, None}
use Rattle.std.specs.declared.option.Option as code
use Rattle.syntax.specs.Maybe.{option_of}
use Rattle.checker.specs.Answers.{start_of}
use Rattle.checker.specs.declared.infer.Start.{Start}
use Rattle.checker.specs.declared.infer.Start.TheVariants.{Typed, Node}

pub none_told : (o : Option ℕ) → None ≡ option_of o → o ≡ none
none_told none e = refl
none_told (some A) e = cc

pub some_told : (o : Option ℕ) (A : ℕ) → Some A ≡ option_of o → o ≡ some A
some_told none A e = cc
some_told (some B) A e = cc

-- one of the three, by the number of parts
module _ (n : ℕ) (o : Option ℕ) where
  pub typed_told : (A : ℕ) → ◌≡◌ {A = code.Option Start} (Some (Typed A)) (start_of n o) → (n ≡ 0) × (o ≡ some A)
  unfolding start_of
  typed_told A e = (grind (arith, nat_tests, common_steps), grind (arith, nat_tests, common_steps))

  pub node_told : ◌≡◌ {A = code.Option Start} (Some Node) (start_of n o) → (1 ≤ n) × (n ≤ 3)
  unfolding start_of
  node_told e = (grind (arith, nat_tests, common_steps), grind (arith, nat_tests, common_steps))

  pub untyped_told : ◌≡◌ {A = code.Option Start} None (start_of n o) → ((n ≡ 0) × (o ≡ none)) ⊎ (3 < n)
  unfolding start_of
  untyped_told e = grind (arith, nat_tests, common_steps)
