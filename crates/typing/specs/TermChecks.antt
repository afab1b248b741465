-- The tests on term words and variables: refusals 6 and 8.
use Rattle.std.specs.Prelude.{ℕ, ◌+◌, Bool, true, false, ◌&&◌, ◌||◌, List, leb, ltb, eqb, length}
use Rattle.std.proofs.Math.Option.{Option, some, none}
use Rattle.syntax.specs.Kinds.{uses_number, uses_type}
use Rattle.syntax.specs.Words.{kind_of, number_of, type_of}
use Rattle.syntax.specs.Tables.{Tables}
use Rattle.syntax.specs.Term.{Term, as_var}
use Rattle.syntax.specs.Positions.{positions}
use Rattle.typing.specs.TableChecks.{every}

-- a field that is used is below its bound, one that is unused is zero
abbrev pub field_fits : Bool → ℕ → ℕ → Bool
field_fits true bound x = ltb x bound
field_fits false bound x = eqb x 0

-- 6: a kind up to 11; a number or type that the kind does not use is zero, and one that it does is known; a variable's number is left to 8
abbrev pub well_formed_fields : Tables → ℕ → ℕ → ℕ → Bool
well_formed_fields tables k n A =
    leb k 11 && (eqb k 0 || field_fits (uses_number k) (length tables.calls) n) && field_fits (uses_type k) (length tables.types) A

abbrev pub well_formed_word : Tables → ℕ → Bool
well_formed_word tables w = well_formed_fields tables (kind_of w) (number_of w) (type_of w)

unfoldable pub well_formed_words : Tables → List ℕ → Bool
well_formed_words tables words = every (well_formed_word tables) words

-- whether a number names one of n things, where there is a number
abbrev pub below : ℕ → Option ℕ → Bool
below n none = true
below n (some m) = ltb m n

-- whether each variable names a binder around it or one of m outer variables
unfoldable pub scoped_at : ℕ → Term → Bool
scoped_at m t = every (λ p. below (p.depth + m) (as_var p.subterm)) (positions t)

-- 8: each variable names a binder around it or an input
unfoldable pub scoped : Tables → Term → Bool
scoped tables t = scoped_at (length tables.inputs) t
