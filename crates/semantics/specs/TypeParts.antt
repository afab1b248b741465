-- Parts of a type (subformulas), types without functions, and the types of the calls in a term.
use Rattle.std.specs.Prelude.{ℕ, ◌≡◌, List, ◌∷◌, T}
use Rattle.std.proofs.Math.Option.{some, none}
use Rattle.syntax.specs.Tables.{Tables, arrow, is_composite, components, Signature, signature}
use Rattle.syntax.specs.Term.{Term}
use Rattle.syntax.specs.Lists.{◌∈◌}
use Rattle.syntax.specs.Calls.{calls_in}

module _ (tables : Tables) where
  -- D is part of A: a type is part of itself, and parts of parts count
  pub data PartOf (D : ℕ) : ℕ → Type 0 where
    itself : PartOf D D
    of_left : {A l r : ℕ} (k : ℕ) → T (is_composite k) → components tables k A ≡ some (l, r) → PartOf D l → PartOf D A
    of_right : {A l r : ℕ} (k : ℕ) → T (is_composite k) → components tables k A ≡ some (l, r) → PartOf D r → PartOf D A

  -- no part of the type is a function type
  abbrev pub FunctionFree : ℕ → Type 0
  FunctionFree A = (D : ℕ) → PartOf D A → components tables arrow D ≡ none

-- the types of a call: its result type and its argument types
abbrev pub types_of : Signature → List ℕ
types_of s = s.result ∷ s.arguments

-- A is a type of a call in the term
pub record CallType (tables : Tables) (t : Term) (A : ℕ) : Type 0 where
  pub number : ℕ
  pub sign : Signature
  pub occurs : number ∈ calls_in t
  pub listed : signature tables number ≡ some sign
  pub among : A ∈ types_of sign
