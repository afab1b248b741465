-- Where the words of a part end, on words alone.
-- No public contract rests on this module: it serves proofs.
use Rattle.std.specs.Prelude.{ℕ, zero, suc, ◌+◌, cond, List, [], ◌∷◌, leb, eqb}
use Rattle.std.proofs.Math.Option.{Option, some, none, map}
use Rattle.syntax.specs.Maybe.{◌>>=◌, given}
use Rattle.syntax.specs.Words.{kind_of, number_of}
use Rattle.syntax.specs.Tables.{arity, known_arity}
use Rattle.syntax.specs.Kinds.{parts_of_kind}

-- how many parts a word's node has; none of an unknown kind
unfoldable pub part_count : List ℕ → ℕ → ℕ
part_count calls w = parts_of_kind (arity calls (number_of w)) (kind_of w)

-- the same if it is known: the kind is, and so is a call's number of arguments
unfoldable pub known_parts : List ℕ → ℕ → Option ℕ
known_parts calls w = do
  a ← cond (eqb (kind_of w) 1) (known_arity calls (number_of w)) (some 0)
  given (leb (kind_of w) 11) (parts_of_kind a (kind_of w))

-- how many words so many parts take, if each number of parts is known and the words do not run out; each word pays for one part and owes
-- its own
unfoldable pub extent : List ℕ → List ℕ → ℕ → Option ℕ
extent calls [] zero = some zero
extent calls [] (suc owed) = none
extent calls (w ∷ ws) zero = some zero
extent calls (w ∷ ws) (suc owed) = do
  n ← known_parts calls w
  map suc (extent calls ws (n + owed))

-- how many words the first part takes
unfoldable pub part_end : List ℕ → List ℕ → Option ℕ
part_end calls ws = extent calls ws 1
