-- What holds of each node of a term holds of each node of the subterm at each of its positions.
use mathlib.Core.Path.{◌≡◌}
use mathlib.Core.Option.{some}
use Prim.Native.Nat.{ℕ}
use lib.ListN.{get_elem?}
use Rattle.syntax.specs.Term.{Term, var, call, lam, app, bind, pair, fst, snd, inl, inr, case, unit, node}
use Rattle.syntax.specs.Positions.{Position, positions}
use Rattle.syntax.proofs.Inherited.{Inherited, inherited}
use Rattle.reduction.proofs.Search.{Each, EachAll}

module _ (P : Term → Type 0) where
  each_parts : (t : Term) → Each t P → EachAll (node t).parts P
  unfolding Each node
  each_parts (var n) e = tt
  each_parts (call k ts) e = e.1
  each_parts (lam A b) e = (e.1, tt)
  each_parts (app f a) e = (e.1, (e.2, tt))
  each_parts (bind d b) e = (e.1, (e.2, tt))
  each_parts (pair A a b) e = (e.1, (e.2, tt))
  each_parts (fst a) e = (e.1, tt)
  each_parts (snd a) e = (e.1, tt)
  each_parts (inl A a) e = (e.1, tt)
  each_parts (inr A a) e = (e.1, tt)
  each_parts (case s l r) e = (e.1, (e.2, (e.3, tt)))
  each_parts (unit A) e = tt

  each_inherited : Inherited (λ t. Each t P) (λ ts. EachAll ts P)
  unfolding Each
  each_inherited = record { parts = each_parts; first = λ t ts e. e.0; rest = λ t ts e. e.1 }

  pub each_site : (t : Term) → Each t P → (i : ℕ) (p : Position Term) → get_elem? (positions t) i ≡ some p → Each p.subterm P
  each_site t e i p d = inherited each_inherited t e i p d
