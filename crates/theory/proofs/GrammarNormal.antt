-- For well-typed terms the grammar of normal forms holds exactly where no rule fits, as an equation of the two tests: the grammar's test
-- answers yes of the grammar's terms, and those are the typed terms that no rule fits.
use mathlib.Core.Path.{◌≡◌, refl, sym}
use mathlib.Core.Bool.{Bool, true, false}
use mathlib.Core.Option.{some}
use lib.Dec.{T}
use Prim.Native.Nat.{ℕ}
use Rattle.syntax.specs.Tables.{Tables}
use Rattle.syntax.specs.Term.{Term}
use Rattle.typing.specs.Infer.{Context, infer}
use Rattle.reduction.specs.NormalForm.{is_normal}
use Rattle.reduction.specs.Grammar.{in_grammar}
use Rattle.theory.proofs.Grammar.{grammar_normal, normal_grammar}
use Rattle.theory.proofs.GrammarTest.{test_grammar, grammar_test}

-- two tests that follow from each other are equal
same_test : (a b : Bool) → (T a → b ≡ true) → (b ≡ true → T a) → a ≡ b
same_test true b f g = sym (f tt)
same_test false true f g = absurd (g refl)
same_test false false f g = refl

pub grammar_is_normal : (pure : Term → Bool) (tables : Tables) (Γ : Context) (A : ℕ) (t : Term) → infer tables t Γ ≡ some A
    → in_grammar pure t ≡ is_normal pure t
grammar_is_normal pure tables Γ A t e = same_test (in_grammar pure t) (is_normal pure t)
    (λ h. grammar_normal pure t (test_grammar pure t h)) (λ h. grammar_test pure t (normal_grammar pure tables Γ A t e h))
