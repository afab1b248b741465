-- What the functions of the type check answer, from what the definitions say.
use Rattle.std.specs.Prelude.{ℕ, zero, suc, ◌≡◌, Bool, false, cond, List, ◌∷◌, eqb, leb, get_or, Some, None}
use Rattle.std.specs.declared.option.Option as code
use Rattle.std.proofs.Math.Option.{Option, some, none}
use Rattle.syntax.specs.Maybe.{given, option_of}
use Rattle.syntax.specs.Words.{kind_of, number_of}
use Rattle.syntax.specs.Tables.{Tables}
use Rattle.syntax.specs.Term.{Term}
use Rattle.words.specs.Fronts.{Holds}
use Rattle.typing.specs.Infer.{Context, infer}
use Rattle.typing.specs.TermChecks.{scoped_at}
use Rattle.checker.specs.declared.infer.Start.{Start}
use Rattle.checker.specs.declared.infer.Start.TheVariants.{Typed, Node}

-- 7: whether the first part is all of the words
abbrev pub whole_of : Option ℕ → ℕ → Bool
whole_of none n = false
whole_of (some m) n = eqb m n

-- the variables in scope: so many binders from the top of a stack down, then the inputs
unfoldable pub scope : List ℕ → List ℕ → ℕ → Context
scope inputs stack zero = inputs
scope inputs stack (suc depth) = get_or stack depth 0 ∷ scope inputs stack depth

-- a part with no parts, from the type that it has
abbrev pub known_of : Option ℕ → code.Option Start
known_of none = None
known_of (some A) = Some (Typed A)

-- how a part of n parts starts, from the type that it has if n is zero
unfoldable pub start_of : ℕ → Option ℕ → code.Option Start
start_of n o = cond (eqb n 0) (known_of o) (cond (leb n 3) (Some Node) None)

-- for whatever term the words begin with: its type in a context
abbrev pub Infers : Tables → Context → List ℕ → code.Option ℕ → Type 0
Infers tables Γ words r =
    (t : Term) (rest : List ℕ) → Holds tables.calls words t rest → r ≡ option_of (infer tables t Γ)

-- the number in a word that is a variable's
abbrev pub variable_of : ℕ → Option ℕ
variable_of w = given (eqb (kind_of w) 0) (number_of w)

-- for whatever term the words begin with: whether its variables are in scope
abbrev pub Scopes : List ℕ → ℕ → List ℕ → Bool → Type 0
Scopes calls m words r = (t : Term) (rest : List ℕ) → Holds calls words t rest → r ≡ scoped_at m t
