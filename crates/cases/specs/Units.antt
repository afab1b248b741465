-- Cases with the unit type: its word and its node refused and accepted, its value in rules and in runs, and inputs that are read beside it.
use Rattle.std.specs.Prelude.{ℕ, ◌+◌, ◌^◌, true, false, List, [], ◌∷◌, ◌++◌}
use Rattle.syntax.specs.Words.{pack}
use Rattle.syntax.specs.Tables.{Tables, over}
use Rattle.syntax.specs.Term.{Term, lam, app, bind, inl, inr, case, unit}
use Rattle.syntax.specs.Encoding.{encode}
use Rattle.reduction.specs.Reduction.{zero_counts}
use Rattle.semantics.specs.Value.{num, right, trivial}
use Rattle.cases.specs.Table.{Case, c, d, v0, v1, accepts_over as accepts, refuses}
use Rattle.cases.specs.Further.{Question, asks}
use Rattle.cases.specs.Reading.{Reading, none, first}
use Rattle.cases.specs.Runs.{Trial, trial, made, counting}

-- types: 0 base, 1 unit, 2 the functions from unit to base, 3 the sum of base and unit; calls: c takes nothing, d a unit, and both give a
-- base value
abbrev types : List ℕ
types = pack 0 0 0 ∷ pack 4 0 0 ∷ pack 1 1 0 ∷ pack 3 0 1 ∷ []

abbrev with_unit : List ℕ → Tables
with_unit inputs = over types (0 ∷ (2 ^ 60 + 2 ^ 30) ∷ []) inputs

-- these types behind a base type, and an input of the base type
abbrev typing : List ℕ → Tables
typing more = over (pack 0 0 0 ∷ more) [] (0 ∷ [])

abbrev u : Term
u = unit 1

unfoldable pub units : List Case
units =
    -- 2: either field of the type's word set, also where the word is duplicated; the kinds past it. 3: a second unit type word
    refuses (typing (pack 4 0 1 ∷ [])) (encode v0) 2
    ∷ refuses (typing (pack 4 1 0 ∷ [])) (encode v0) 2
    ∷ refuses (typing (pack 4 1 0 ∷ pack 4 1 0 ∷ [])) (encode v0) 2
    ∷ refuses (typing (pack 5 0 0 ∷ [])) (encode v0) 2
    ∷ refuses (typing (pack 15 0 0 ∷ [])) (encode v0) 2
    ∷ refuses (typing (pack 4 0 0 ∷ pack 4 0 0 ∷ [])) (encode v0) 3
    -- 6: the node's number set, an unknown type, the kinds past it
    ∷ refuses (with_unit []) (pack 11 1 1 ∷ []) 6
    ∷ refuses (with_unit []) (pack 11 0 4 ∷ []) 6
    ∷ refuses (with_unit []) (pack 12 0 1 ∷ []) 6
    ∷ refuses (with_unit []) (pack 15 0 0 ∷ []) 6
    -- 7: the node has no parts, so a second word is one too many
    ∷ refuses (with_unit (0 ∷ [])) (encode u ++ encode v0) 7
    -- 9: a base type, a function type and a sum in the type field; a base value for a unit, and a unit for a base value
    ∷ refuses (with_unit []) (encode (unit 0)) 9
    ∷ refuses (with_unit []) (encode (unit 2)) 9
    ∷ refuses (with_unit []) (encode (unit 3)) 9
    ∷ refuses (with_unit (0 ∷ [])) (encode (app (lam 2 c) v0)) 9
    ∷ refuses (with_unit []) (encode (inl 3 u)) 9
    -- a unit by itself, over a table whose first type it is, too
    ∷ accepts 0 (over (pack 4 0 0 ∷ []) [] []) (unit 0) (unit 0) zero_counts
    ∷ accepts 1 (with_unit []) u u zero_counts
    -- a value: a let of it is a let of a value, and where it is an operand phase 1 does not bind it
    ∷ accepts 1 (with_unit []) (bind u v0) u (0 ∷ 0 ∷ 0 ∷ 0 ∷ 0 ∷ 0 ∷ 0 ∷ 0 ∷ 1 ∷ 0 ∷ [])
    ∷ accepts 0 (with_unit []) (d u) (d u) zero_counts
    ∷ accepts 3 (with_unit []) (inr 3 u) (inr 3 u) zero_counts
    -- a helper that takes nothing
    ∷ accepts 0 (with_unit []) (app (lam 2 c) u) c (0 ∷ 0 ∷ 0 ∷ 1 ∷ 0 ∷ 0 ∷ 0 ∷ 0 ∷ 0 ∷ 0 ∷ [])
    ∷ accepts 0 (with_unit []) (bind (lam 2 (d v0)) (app v0 u)) (d u) (0 ∷ 0 ∷ 0 ∷ 1 ∷ 0 ∷ 0 ∷ 0 ∷ 0 ∷ 1 ∷ 0 ∷ [])
    -- a choice between a base value and nothing
    ∷ accepts 0 (with_unit []) (case (inr 3 u) v0 (d v0)) (d u) (0 ∷ 0 ∷ 0 ∷ 0 ∷ 0 ∷ 0 ∷ 0 ∷ 1 ∷ 0 ∷ 0 ∷ [])
    ∷ accepts 0 (with_unit (3 ∷ [])) (case v0 v0 (d v0)) (case v0 v0 (d v0)) zero_counts
    ∷ []

unfoldable pub unit_questions : List Question
unit_questions =
    asks (with_unit []) (encode u) 0 1 true
    ∷ asks (with_unit []) (encode (d u)) 0 0 true
    ∷ asks (with_unit []) (encode (bind u (d v0))) 0 0 false
    ∷ asks (with_unit []) (encode (app (lam 2 c) u)) 0 0 false
    ∷ asks (with_unit []) (encode (unit 0)) 9 0 false
    ∷ []

-- a unit node is no variable, whatever its type's number
unfoldable pub unit_readings : List Reading
unit_readings =
    record { tables = with_unit (0 ∷ 1 ∷ []); words = encode u; answer = record { refusal = 0; marks = none; count = 0 } }
    ∷ record { tables = with_unit (0 ∷ []); words = encode (bind u v1); answer = record { refusal = 0; marks = first; count = 1 } }
    ∷ record { tables = with_unit []; words = encode (unit 0); answer = record { refusal = 9; marks = none; count = 0 } }
    ∷ []

unfoldable pub unit_runs : List Trial
unit_runs =
    -- the unit type's one value, with no call
    trial u [] counting trivial []
    -- an argument in the list of calls; a helper that takes nothing
    ∷ trial (d u) [] counting (num 10) (made 1 (trivial ∷ []) ∷ [])
    ∷ trial (app (lam 2 c) u) [] counting (num 7) (made 0 [] ∷ [])
    -- an input of the unit type is that value
    ∷ trial (d v0) (trivial ∷ []) counting (num 10) (made 1 (trivial ∷ []) ∷ [])
    -- injected, and the branch that takes it
    ∷ trial (inr 3 u) [] counting (right trivial) []
    ∷ trial (case v0 v0 (d v0)) (right trivial ∷ []) counting (num 10) (made 1 (trivial ∷ []) ∷ [])
    ∷ []
