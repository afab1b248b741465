-- Which computations may be dropped, given the call table (paper 02, P3): not an acting call, and over a table with an acting call not an
-- application either.
use Rattle.std.specs.Prelude.{ℕ, Bool, true, not, List}
use Rattle.syntax.specs.Tables.{acts, some_acts}
use Rattle.syntax.specs.Term.{Term, var, call, lam, app, bind, pair, fst, snd, inl, inr, case, unit}

-- by what a let binds; whether the term names an acting call does not matter to an application
unfoldable pub may_drop : List ℕ → Term → Bool
may_drop calls (var n) = true
may_drop calls (call k ts) = not (acts calls k)
may_drop calls (lam A b) = true
may_drop calls (app f a) = not (some_acts calls)
may_drop calls (bind e b) = true
may_drop calls (pair A a b) = true
may_drop calls (fst a) = true
may_drop calls (snd a) = true
may_drop calls (inl A a) = true
may_drop calls (inr A a) = true
may_drop calls (case s l r) = true
may_drop calls (unit A) = true
