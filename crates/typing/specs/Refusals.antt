-- Refusals 1 to 9 in their order, as a sequence of places; what is accepted is a term and its type.
use Rattle.std.specs.Prelude.{ℕ, Bool, true, false, List}
use Rattle.std.proofs.Math.Option.{Option, some, none}
use Rattle.syntax.specs.Tables.{Tables}
use Rattle.syntax.specs.Term.{Term}
use Rattle.syntax.specs.Decoding.{decode}
use Rattle.typing.specs.Infer.{infer}
use Rattle.typing.specs.TableChecks.{every, lengths_fit, well_formed_types, distinct, well_formed_calls, well_formed_inputs}
use Rattle.typing.specs.TermChecks.{well_formed_word, scoped}

-- an answer, or the number of a refusal
pub data Verdict (X : Type 0) : Type 0 where
  refused : ℕ → Verdict X
  accepted : X → Verdict X

-- what follows is asked only if what came before is accepted
infixl 55 ◌>>=◌
abbrev pub ◌>>=◌ : {X Y : Type 0} → Verdict X → (X → Verdict Y) → Verdict Y
◌>>=◌ (refused n) f = refused n
◌>>=◌ (accepted x) f = f x

-- refused with a number unless the test passes
abbrev pub require : ℕ → Bool → Verdict Bool
require n true = accepted true
require n false = refused n

-- refused with a number unless there is an answer
abbrev pub provide : {X : Type 0} → ℕ → Option X → Verdict X
provide n none = refused n
provide n (some x) = accepted x

-- a term that passes the checks, and its type
pub record TypedTerm : Type 0 where
  pub term : Term
  pub type : ℕ

-- The places where the checks refuse, in their order. A call with tests of its own may put them between any two.

-- 1: the lengths; `limit` is the largest number of term words
abbrev pub lengths_place : ℕ → Tables → List ℕ → Verdict Bool
lengths_place limit tables words = require 1 (lengths_fit limit tables words)

-- 2 to 5: the tables, each test asked of a whole table before the next
abbrev pub tables_place : Tables → Verdict Bool
tables_place tables = do
  _ ← require 2 (well_formed_types 0 tables.types)
  _ ← require 3 (distinct tables.types)
  _ ← require 4 (well_formed_calls tables)
  require 5 (well_formed_inputs tables)

-- 6: every term word, by a test of one
abbrev pub words_place : (ℕ → Bool) → List ℕ → Verdict Bool
words_place test words = require 6 (every test words)

-- 7: the term that the words stand for
abbrev pub term_place : Tables → List ℕ → Verdict Term
term_place tables words = provide 7 (decode tables.calls words)

-- 8: its variables
abbrev pub scope_place : Tables → Term → Verdict Bool
scope_place tables t = require 8 (scoped tables t)

-- 9: its type
abbrev pub type_place : Tables → Term → Verdict ℕ
type_place tables t = provide 9 (infer tables t tables.inputs)

-- the checks: every place in order
unfoldable pub elaborate : ℕ → Tables → List ℕ → Verdict TypedTerm
elaborate limit tables words = do
  _ ← lengths_place limit tables words
  _ ← tables_place tables
  _ ← words_place (well_formed_word tables) words
  t ← term_place tables words
  _ ← scope_place tables t
  A ← type_place tables t
  accepted (record { term = t; type = A })

-- the term words a call that normalizes takes, and any other
abbrev pub normalize_limit : ℕ
normalize_limit = 4096

abbrev pub other_limit : ℕ
other_limit = 8192
