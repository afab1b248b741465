-- Calls that act (paper 02, P3): counts that are refused and accepted; an acting call whose answer is not used stays, and so does an
-- application, but only over a table with an acting call; and the acting calls of runs.
use Rattle.std.specs.Prelude.{ℕ, true, false, List, [], ◌∷◌, ◌++◌}
use Rattle.syntax.specs.Words.{pack}
use Rattle.syntax.specs.Tables.{Tables, over}
use Rattle.syntax.specs.Term.{Term, call, lam, app, bind, fst, snd, case, done, arg}
use Rattle.syntax.specs.Encoding.{encode}
use Rattle.reduction.specs.Reduction.{Counts, zero_counts}
use Rattle.semantics.specs.Value.{Value, num, right, Trace}
use Rattle.semantics.specs.Run.{RunOutcome, ended, stuck, spent, run}
use Rattle.semantics.specs.Claim.{acting_calls}
use Rattle.cases.specs.Table.{Case, tables_with, c, d, v0, v1, accepts_over, refuses}
use Rattle.cases.specs.Further.{call_word, calling, Question, asks, v2, v3}
use Rattle.cases.specs.Reading.{Reading, none, first}
use Rattle.cases.specs.Runs.{values, made, counting}

-- paper 01's types and calls, then `stamp`, which acts and takes no argument, and `clear`, which acts and takes one
abbrev acting : List ℕ → Tables
acting inputs = over (tables_with []).types ((tables_with []).calls ++ (pack 8 0 0 ∷ pack 9 0 0 ∷ [])) inputs

abbrev stamp : Term
stamp = call 2 done

abbrev clear : Term → Term
clear t = call 3 (arg t done)

abbrev kept : Tables → Term → Case
kept tables t = accepts_over 0 tables t t zero_counts

abbrev drops : ℕ → Counts
drops n = 0 ∷ 0 ∷ 0 ∷ 0 ∷ 0 ∷ 0 ∷ 0 ∷ 0 ∷ 0 ∷ n ∷ []

unfoldable pub acting_cases : List Case
acting_cases =
    -- 4: counts 4 to 7 and 12 to 15
    refuses (calling (call_word 4 0 0 0 0)) (encode v0) 4
    ∷ refuses (calling (call_word 7 0 0 0 0)) (encode v0) 4
    ∷ refuses (calling (call_word 12 0 0 0 0)) (encode v0) 4
    ∷ refuses (calling (call_word 15 0 0 0 0)) (encode v0) 4
    -- 4: an unknown argument, an unknown result, and a field set just past the arguments, of an acting call
    ∷ refuses (calling (call_word 9 0 4 0 0)) (encode v0) 4
    ∷ refuses (calling (call_word 8 4 0 0 0)) (encode v0) 4
    ∷ refuses (calling (call_word 8 0 1 0 0)) (encode v0) 4
    ∷ refuses (calling (call_word 9 0 0 1 0)) (encode v0) 4
    ∷ refuses (calling (call_word 10 0 0 0 1)) (encode v0) 4
    -- 8 is a call with no argument, 11 one with three; 7: an argument too few, one too many; 9: an argument of another type
    ∷ kept (calling (call_word 8 0 0 0 0)) (call 0 done)
    ∷ kept (calling (call_word 11 0 0 0 0)) (call 0 (arg v0 (arg v0 (arg v0 done))))
    ∷ refuses (calling (call_word 9 0 0 0 0)) (encode (call 0 done)) 7
    ∷ refuses (calling (call_word 9 0 0 0 0)) (encode (call 0 (arg v0 (arg v0 done)))) 7
    ∷ refuses (acting (2 ∷ [])) (encode (clear v0)) 9
    -- the answer is not used: an acting call stays, and so does what it uses; another call and a projection are dropped
    ∷ kept (acting (0 ∷ [])) (bind stamp v1)
    ∷ kept (acting (0 ∷ [])) (bind c (bind (clear v0) v2))
    ∷ accepts_over 0 (acting (0 ∷ [])) (bind c v1) v0 (drops 1)
    ∷ accepts_over 0 (acting (2 ∷ 0 ∷ [])) (bind (fst v0) v2) v1 (drops 1)
    ∷ accepts_over 0 (acting (2 ∷ 0 ∷ [])) (bind (snd v0) v2) v1 (drops 1)
    -- an application: dropped if no call of the table acts, else kept, though the term names none
    ∷ accepts_over 0 (tables_with (1 ∷ 0 ∷ [])) (bind (app v0 v1) v2) v1 (drops 1)
    ∷ kept (acting (1 ∷ 0 ∷ [])) (bind (app v0 v1) v2)
    -- a let of a case moves into the branches before anything is dropped, and both acting calls stay
    ∷ accepts_over 0 (acting (3 ∷ 0 ∷ [])) (bind (case v0 stamp stamp) v2) (case v0 (bind stamp v3) (bind stamp v3))
    (0 ∷ 0 ∷ 1 ∷ 0 ∷ 0 ∷ 0 ∷ 0 ∷ 0 ∷ 0 ∷ 0 ∷ [])
    -- between two acting calls that stay, one that does not act is dropped
    ∷ accepts_over 0 (acting (0 ∷ [])) (bind stamp (bind c (bind (clear v2) v3))) (bind stamp (bind (clear v1) v2)) (drops 1)
    ∷ []

-- the test for normal forms follows
unfoldable pub acting_questions : List Question
acting_questions =
    asks (acting (0 ∷ [])) (encode (bind stamp v1)) 0 0 true
    ∷ asks (acting (0 ∷ [])) (encode (bind c v1)) 0 0 false
    ∷ asks (acting (0 ∷ [])) (encode (bind c (bind (clear v0) v2))) 0 0 true
    ∷ asks (tables_with (1 ∷ 0 ∷ [])) (encode (bind (app v0 v1) v2)) 0 0 false
    ∷ asks (acting (1 ∷ 0 ∷ [])) (encode (bind (app v0 v1) v2)) 0 0 true
    ∷ asks (calling (call_word 12 0 0 0 0)) (encode v0) 4 0 false
    ∷ []

-- the inputs that are read: an acting call's arguments count as any other's
unfoldable pub acting_readings : List Reading
acting_readings =
    record { tables = acting (0 ∷ 0 ∷ []); words = encode (bind (clear v0) v1); answer = record { refusal = 0; marks = first; count = 1 } }
    ∷ record { tables = calling (call_word 12 0 0 0 0); words = encode v0; answer = record { refusal = 4; marks = none; count = 0 } }
    ∷ []

-- the acting calls of a run of a term over the values of the inputs
pub record ActingTrial : Type 0 where
  pub term : Term
  pub inputs : List Value
  pub trace : Trace

abbrev acting_run : Term → List Value → Trace → ActingTrial
acting_run t inputs trace = record { term = t; inputs = inputs; trace = trace }

abbrev acting_of : RunOutcome Value → Trace
acting_of (ended v trace) = acting_calls (acting []).calls trace
acting_of stuck = []
acting_of spent = []

unfoldable pub acting_ran : ActingTrial → Trace
acting_ran x = acting_of (run counting 20 (values x.inputs) x.term)

unfoldable pub acting_foreseen : ActingTrial → Trace
acting_foreseen x = x.trace

-- each of them, in order, and no other; the second of each two is the normal form of the first
unfoldable pub acting_runs : List ActingTrial
acting_runs =
    acting_run (bind stamp (bind c (bind (clear v2) v3))) (num 5 ∷ []) (made 2 [] ∷ made 3 (num 5 ∷ []) ∷ [])
    ∷ acting_run (bind stamp (bind (clear v1) v2)) (num 5 ∷ []) (made 2 [] ∷ made 3 (num 5 ∷ []) ∷ [])
    ∷ acting_run (bind (case v0 stamp (clear v0)) v2) (right (num 4) ∷ num 5 ∷ []) (made 3 (num 4 ∷ []) ∷ [])
    ∷ acting_run (case v0 (bind stamp v3) (bind (clear v0) v3)) (right (num 4) ∷ num 5 ∷ []) (made 3 (num 4 ∷ []) ∷ [])
    ∷ acting_run (bind (lam 1 (clear (clear v0))) (app v0 (d v1))) (num 5 ∷ []) (made 3 (num 15 ∷ []) ∷ made 3 (num 15 ∷ []) ∷ [])
    ∷ acting_run (d c) [] []
    ∷ []
