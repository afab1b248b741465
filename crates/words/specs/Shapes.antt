-- What a node's kind decides, as the code answers it, and a call word's argument types by place.
use Rattle.std.specs.Prelude.{◌≡◌, ℕ, ◌-◌, ◌≤◌, ◌<◌, cond, ◌||◌, List, leb, eqb, get_or}
use Rattle.std.proofs.Math.Option.{Option, some, none}
use Rattle.syntax.specs.Maybe.{given, option_of}
use Rattle.syntax.specs.Words.{argument_fields}
use Rattle.syntax.specs.Kinds.{parts_of_kind, uses_number, uses_type, binds_of, free_of}
use Rattle.words.specs.declared.shape.Shape.{Shape}

-- a call word's argument type at a place
unfoldable pub argument_of : ℕ → ℕ → ℕ
argument_of w i = get_or (argument_fields w) i 0

-- what a kind decides
pub record Shaping (k : ℕ) (s : Shape) : Type 0 where
  pub parts : s.parts ≡ parts_of_kind 0 k
  pub number : s.number ≡ uses_number k
  pub ty : s.ty ≡ uses_type k
  pub binder : s.binder ≡ option_of (given (binds_of k) (free_of k))

-- how many of the n parts of a node of kind k are operands, the first ones: none of a function's and a let's, a case's subject, and all
-- parts of any other node
unfoldable pub operand_count : ℕ → ℕ → ℕ
operand_count k n = cond (eqb k 2 || eqb k 4) 0 (cond (eqb k 10) 1 n)

-- the parts that a word owes: as many as are known, and where that is not known so many or more
abbrev pub Owes : ℕ → Option ℕ → ℕ → Type 0
Owes many none r = many ≤ r
Owes many (some n) r = r ≡ n

-- in a table 8,192 stands for a number that is not known
abbrev pub owed_for : Option ℕ → ℕ
owed_for none = 8192
owed_for (some n) = n

-- of a word of a kind that is no call, and of a call whose word has a count
abbrev pub owed_by_kind : ℕ → ℕ
owed_by_kind k = owed_for (given (leb k 11) (parts_of_kind 0 k))

abbrev pub owed_by_count : ℕ → ℕ
owed_by_count c = let a = cond (leb 8 c) (c - 8) c in owed_for (given (leb a 3) a)

-- how many parts a value's node of a kind has; 4 if it is a function, whose body is any term; 5 if the kind is no value's
abbrev pub value_parts : ℕ → ℕ
value_parts k = cond (eqb k 2) 4 (cond (eqb k 0 || uses_type k) (parts_of_kind 0 k) 5)

-- a table of the sixteen kinds
pub record Tabled (f : ℕ → ℕ) (table : List ℕ) : Type 0 where
  pub at_kind : (k : ℕ) → k < 16 → get_or table k 0 ≡ f k
