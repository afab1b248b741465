-- No two rules of a phase fit the same node, so the order of a phase's rules does not matter.
use mathlib.Core.Bool.{Bool}
use mathlib.Core.List.{List, [], ◌∷◌}
use Prim.Native.Nat.{ℕ, ◌+◌, ◌≤◌}
use native.Mathlib.Omega.{arith}
use Rattle.syntax.specs.Maybe.{is_some}
use Rattle.syntax.specs.Term.{Term, var, call, lam, app, bind, pair, fst, snd, inl, inr, case, unit, node, parts_of, as_var, as_lam, as_app}
use Rattle.syntax.specs.Term.{as_bind, as_pair, as_fst, as_snd, as_inl, as_inr, as_case}
use Rattle.syntax.specs.Values.{is_value, is_computation, counts}
use Rattle.syntax.proofs.Options.{counts_one}
use Rattle.reduction.specs.Rules.{let_of_let, let_of_case, apply, first, second, left_case, right_case, let_value, fire, rules}
use Rattle.reduction.specs.declared.Phase.{Phase}
use Rattle.reduction.specs.declared.Phase.TheVariants.{Insertion, Reduction, Dropping}
use Rattle.reduction.specs.declared.Rule.{Rule}
use Rattle.reduction.specs.declared.Rule.TheVariants.{LetInsertion, LetOfLet, LetOfCase, Apply, First, Second, LeftCase, RightCase}
use Rattle.reduction.specs.declared.Rule.TheVariants.{LetValue, Drop}

module _ (pure : Term → Bool) where
  -- how many of these rules fit a node
  unfoldable pub fitting : List Rule → Term → ℕ
  fitting [] t = 0
  fitting (r ∷ rs) t = counts (is_some (fire pure r t)) + fitting rs t

  reduction_alone : (t : Term) → fitting (rules Reduction) t ≤ 1
  unfolding fitting rules fire let_of_let let_of_case apply first second left_case right_case let_value node parts_of as_var as_lam as_app as_bind
      as_pair as_fst as_snd as_inl as_inr as_case is_value is_computation
  reduction_alone (var n) = omega arith
  reduction_alone (call k ts) = omega arith
  reduction_alone (lam A b) = omega arith
  reduction_alone (app (var n') v) = omega arith
  reduction_alone (app (call k' ts') v) = omega arith
  reduction_alone (app (lam A' b') v) = omega (arith, counts_one (is_some (fire pure Apply (app (lam A' b') v))))
  reduction_alone (app (app f' a') v) = omega arith
  reduction_alone (app (bind x' y') v) = omega arith
  reduction_alone (app (pair A' a' b') v) = omega arith
  reduction_alone (app (fst a') v) = omega arith
  reduction_alone (app (snd a') v) = omega arith
  reduction_alone (app (inl A' a') v) = omega arith
  reduction_alone (app (inr A' a') v) = omega arith
  reduction_alone (app (case s' l' r') v) = omega arith
  reduction_alone (app (unit A') v) = omega arith
  reduction_alone (bind (var n') c) = omega arith
  reduction_alone (bind (call k' ts') c) = omega arith
  reduction_alone (bind (lam A' b') c) = omega arith
  reduction_alone (bind (app f' a') c) = omega arith
  reduction_alone (bind (bind x' y') c) = omega (arith, counts_one (is_some (fire pure LetOfLet (bind (bind x' y') c))))
  reduction_alone (bind (pair A' a' b') c) = omega (arith, counts_one (is_some (fire pure LetValue (bind (pair A' a' b') c))))
  reduction_alone (bind (fst a') c) = omega arith
  reduction_alone (bind (snd a') c) = omega arith
  reduction_alone (bind (inl A' a') c) = omega (arith, counts_one (is_some (fire pure LetValue (bind (inl A' a') c))))
  reduction_alone (bind (inr A' a') c) = omega (arith, counts_one (is_some (fire pure LetValue (bind (inr A' a') c))))
  reduction_alone (bind (case s' l' r') c) = omega (arith, counts_one (is_some (fire pure LetOfCase (bind (case s' l' r') c))))
  reduction_alone (bind (unit A') c) = omega arith
  reduction_alone (pair A a b) = omega arith
  reduction_alone (fst (var n')) = omega arith
  reduction_alone (fst (call k' ts')) = omega arith
  reduction_alone (fst (lam A' b')) = omega arith
  reduction_alone (fst (app f' a')) = omega arith
  reduction_alone (fst (bind x' y')) = omega arith
  reduction_alone (fst (pair A' a' b')) = omega (arith, counts_one (is_some (fire pure First (fst (pair A' a' b')))))
  reduction_alone (fst (fst a')) = omega arith
  reduction_alone (fst (snd a')) = omega arith
  reduction_alone (fst (inl A' a')) = omega arith
  reduction_alone (fst (inr A' a')) = omega arith
  reduction_alone (fst (case s' l' r')) = omega arith
  reduction_alone (fst (unit A')) = omega arith
  reduction_alone (snd (var n')) = omega arith
  reduction_alone (snd (call k' ts')) = omega arith
  reduction_alone (snd (lam A' b')) = omega arith
  reduction_alone (snd (app f' a')) = omega arith
  reduction_alone (snd (bind x' y')) = omega arith
  reduction_alone (snd (pair A' a' b')) = omega (arith, counts_one (is_some (fire pure Second (snd (pair A' a' b')))))
  reduction_alone (snd (fst a')) = omega arith
  reduction_alone (snd (snd a')) = omega arith
  reduction_alone (snd (inl A' a')) = omega arith
  reduction_alone (snd (inr A' a')) = omega arith
  reduction_alone (snd (case s' l' r')) = omega arith
  reduction_alone (snd (unit A')) = omega arith
  reduction_alone (inl A a) = omega arith
  reduction_alone (inr A a) = omega arith
  reduction_alone (case (var n') l r) = omega arith
  reduction_alone (case (call k' ts') l r) = omega arith
  reduction_alone (case (lam A' b') l r) = omega arith
  reduction_alone (case (app f' a') l r) = omega arith
  reduction_alone (case (bind x' y') l r) = omega arith
  reduction_alone (case (pair A' a' b') l r) = omega arith
  reduction_alone (case (fst a') l r) = omega arith
  reduction_alone (case (snd a') l r) = omega arith
  reduction_alone (case (inl A' a') l r) = omega (arith, counts_one (is_some (fire pure LeftCase (case (inl A' a') l r))))
  reduction_alone (case (inr A' a') l r) = omega (arith, counts_one (is_some (fire pure RightCase (case (inr A' a') l r))))
  reduction_alone (case (case s' l' r') l r) = omega arith
  reduction_alone (case (unit A') l r) = omega arith
  reduction_alone (unit A) = omega arith

  -- the other phases have one rule
  pub alone : (phase : Phase) (t : Term) → fitting (rules phase) t ≤ 1
  unfolding fitting rules
  alone Insertion t = omega (arith, counts_one (is_some (fire pure LetInsertion t)))
  alone Reduction t = reduction_alone t
  alone Dropping t = omega (arith, counts_one (is_some (fire pure Drop t)))
