-- Runs of small terms, each with what it is fed and what it must end with: paper 01's order of running, closures, choices, and the list of
-- calls made.
use Rattle.std.specs.Prelude.{ℕ, zero, suc, ◌+◌, ◌-◌, List, [], ◌∷◌}
use Rattle.syntax.specs.Term.{Term, var, call, lam, app, bind, pair, fst, snd, inl, inr, case, done, arg}
use Rattle.semantics.specs.Value.{Value, Values, num, closure, tuple, left, right, trivial, empty, also, Call, Trace}
use Rattle.semantics.specs.Run.{RunOutcome, ended, run}
use Rattle.cases.specs.Table.{c, d, v0, v1, A, A'}

-- a run: the term, the values of the inputs, what answers the calls, and the expected value and trace
pub record Trial : Type 0 where
  pub term : Term
  pub inputs : Values
  pub answer : ℕ → Values → Value
  pub value : Value
  pub trace : Trace

abbrev pub values : List Value → Values
values [] = empty
values (v ∷ vs) = also v (values vs)

-- a call made, by its number and its arguments
abbrev pub made : ℕ → List Value → Call
made k vs = record { number = k; arguments = values vs }

abbrev pub trial : Term → List Value → (ℕ → Values → Value) → Value → Trace → Trial
trial t inputs answer v trace = record { term = t; inputs = values inputs; answer = answer; value = v; trace = trace }

-- the number that argument i is
abbrev number_of : Value → ℕ
number_of (num n) = n
number_of (closure ρ b) = 0
number_of (tuple a b) = 0
number_of (left a) = 0
number_of (right a) = 0
number_of trivial = 0

abbrev argument : ℕ → Values → ℕ
argument i empty = 0
argument zero (also v vs) = number_of v
argument (suc i) (also v vs) = argument i vs

-- beside c and d of paper 01's table, a call e with two arguments
abbrev e : Term → Term → Term
e t u = call 2 (arg t (arg u done))

-- c answers 7, d its argument and 10 more, e its first argument less its second
abbrev pub counting : ℕ → Values → Value
counting zero vs = num 7
counting (suc zero) vs = num (argument 0 vs + 10)
counting (suc (suc k)) vs = num (argument 0 vs - argument 1 vs)

-- c answers the right injection of 5, d as before
abbrev pub choosing : ℕ → Values → Value
choosing zero vs = right (num 5)
choosing (suc k) vs = num (argument 0 vs + 10)

unfoldable pub runs : List Trial
runs =
    -- past the last binder, a variable counts the inputs from 0
    trial v1 (num 3 ∷ num 4 ∷ []) counting (num 4) []
    -- an argument comes before its call, and the first argument before the second
    ∷ trial (d c) [] counting (num 17) (made 0 [] ∷ made 1 (num 7 ∷ []) ∷ [])
    ∷ trial (e (d c) c) [] counting (num 10)
    (made 0 [] ∷ made 1 (num 7 ∷ []) ∷ made 0 [] ∷ made 2 (num 17 ∷ num 7 ∷ []) ∷ [])
    -- case A and its normal form: the same answer, the same calls
    ∷ trial A [] counting (num 17) (made 0 [] ∷ made 1 (num 7 ∷ []) ∷ [])
    ∷ trial A' [] counting (num 17) (made 0 [] ∷ made 1 (num 7 ∷ []) ∷ [])
    -- a let's bound part runs once, however often its variable is used: twice, or never
    ∷ trial (bind c (pair 2 v0 v0)) [] counting (tuple (num 7) (num 7)) (made 0 [] ∷ [])
    ∷ trial (bind c v1) (num 3 ∷ []) counting (num 3) (made 0 [] ∷ [])
    -- both parts of a pair run, whichever is taken
    ∷ trial (fst (pair 2 (d v0) c)) (num 3 ∷ []) counting (num 13) (made 1 (num 3 ∷ []) ∷ made 0 [] ∷ [])
    ∷ trial (snd (pair 2 (d v0) c)) (num 3 ∷ []) counting (num 7) (made 1 (num 3 ∷ []) ∷ made 0 [] ∷ [])
    -- one branch of a case runs, with the value injected: the left one, the right one, and the one that a call's answer chooses
    ∷ trial (case (inl 3 v0) (d v0) c) (num 3 ∷ []) counting (num 13) (made 1 (num 3 ∷ []) ∷ [])
    ∷ trial (case v0 c (e v0 (var 2))) (right (num 9) ∷ num 3 ∷ []) counting (num 6) (made 2 (num 9 ∷ num 3 ∷ []) ∷ [])
    ∷ trial (case c v0 (d v0)) [] choosing (num 15) (made 0 [] ∷ made 1 (num 5 ∷ []) ∷ [])
    -- an injection's operand runs, and the injection is the answer
    ∷ trial (inr 3 (d v0)) (num 3 ∷ []) counting (right (num 13)) (made 1 (num 3 ∷ []) ∷ [])
    -- a function is a closure over the values in scope; its body does not run
    ∷ trial (lam 1 (e v0 v1)) (num 3 ∷ []) counting (closure (values (num 3 ∷ [])) (e v0 v1)) []
    -- applied under further binders it still has the values that it kept: v1 in its body is the input, not the let's c
    ∷ trial (bind (lam 1 (e v0 v1)) (bind c (app v1 v0))) (num 3 ∷ []) counting (num 4) (made 0 [] ∷ made 2 (num 7 ∷ num 3 ∷ []) ∷ [])
    -- a head runs before its operand, and the body after both
    ∷ trial (app (bind c (lam 1 (e v0 v1))) (d v0)) (num 3 ∷ []) counting (num 6)
    (made 0 [] ∷ made 1 (num 3 ∷ []) ∷ made 2 (num 13 ∷ num 7 ∷ []) ∷ [])
    ∷ []

-- what the definition makes of a run, and what is expected; none has more than 20 nodes one inside another
unfoldable pub ran : Trial → RunOutcome Value
ran x = run x.answer 20 x.inputs x.term

unfoldable pub foreseen : Trial → RunOutcome Value
foreseen x = ended x.value x.trace
