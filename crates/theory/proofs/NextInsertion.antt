-- After a let insertion no redex of phase 1 stands before its place: a let insertion keeps a value a value and a computation a computation,
-- so the nodes around it keep operands that are values.
use mathlib.Core.Path.{◌≡◌, subst}
use mathlib.Core.Bool.{Bool}
use mathlib.Core.Option.{some}
use lib.Dec.{T}
use lib.ListN.{get_elem?}
use Prim.Native.Nat.{ℕ, ◌+◌, ◌<◌}
use native.Mathlib.Omega.{arith}
use Rattle.syntax.specs.Term.{Term, Terms}
use Rattle.syntax.specs.Positions.{Position, positions}
use Rattle.syntax.specs.Values.{is_value}
use Rattle.reduction.specs.declared.Phase.TheVariants.{Insertion}
use Rattle.reduction.specs.Redex.{Step as Stepped, step}
use Rattle.reduction.specs.Clear.{Clear}
use Rattle.reduction.proofs.Roots.{Insert}
use Rattle.reduction.proofs.Places.{At, AtAll, a_root, a_call, a_lam, a_app₁, a_app₂, a_bind₁, a_bind₂, a_pair₁, a_pair₂, a_fst, a_snd}
use Rattle.reduction.proofs.Places.{a_inl, a_inr, a_case₁, a_case₂, a_case₃, a_this, a_next, at_step, step_place}
use Rattle.reduction.proofs.Below.{kept_before}
use Rattle.reduction.proofs.Clear.{step_at}
use Rattle.theory.proofs.Operands.{AllValues, Ops, ops_of, of_ops, only_rule, rule_only}
use Rattle.theory.proofs.PendingSteps.{value_step}

value_kept : {t t' : Term} {i : ℕ} → At Insert t i t' → T (is_value t) → T (is_value t')
value_kept s h = subst T (value_step (at_step s)) h

values_kept : {ts us : Terms} {i : ℕ} → AtAll Insert ts i us → AllValues ts → AllValues us
values_kept (a_this e s) h = (value_kept s h.0, h.1)
values_kept (a_next e s) h = (h.0, values_kept s h.1)

operands_kept : {t t' : Term} {i : ℕ} → At Insert t i t' → 0 < i → Ops t → Ops t'
operands_kept (a_root e r) l h = absurd (omega arith)
operands_kept (a_call e s) l h = values_kept s h
operands_kept (a_lam e s) l h = tt
operands_kept (a_app₁ e s) l h = (value_kept s h.0, h.1)
operands_kept (a_app₂ e s) l h = (h.0, value_kept s h.1)
operands_kept (a_bind₁ e s) l h = tt
operands_kept (a_bind₂ e s) l h = tt
operands_kept (a_pair₁ e s) l h = (value_kept s h.0, h.1)
operands_kept (a_pair₂ e s) l h = (h.0, value_kept s h.1)
operands_kept (a_fst e s) l h = value_kept s h
operands_kept (a_snd e s) l h = value_kept s h
operands_kept (a_inl e s) l h = value_kept s h
operands_kept (a_inr e s) l h = value_kept s h
operands_kept (a_case₁ e s) l h = value_kept s h
operands_kept (a_case₂ e s) l h = h
operands_kept (a_case₃ e s) l h = h

module _ (pure : Term → Bool) (t : Term) (s : Stepped) (e : step pure Insertion t ≡ some s) where
  operands_before : (j : ℕ) (p : Position Term) → j < s.place → get_elem? (positions t) j ≡ some p → Ops p.subterm
  operands_before j p l d = ops_of p.subterm (only_rule pure p.subterm ((step_at pure Insertion t s e).clear.misses j p l d))

  operands_after : (j : ℕ) (p : Position Term) → j + 0 < s.place → get_elem? (positions s.next) j ≡ some p → Ops p.subterm
  operands_after = kept_before Ops Insert 0 (λ t t' i a l h. operands_kept a l h) t s.next s.place (step_place pure Insertion t s e)
      operands_before

  pub next_insertion : Clear pure Insertion s.next s.place
  next_insertion = record {
    misses = λ j p l d. rule_only pure p.subterm (of_ops p.subterm (operands_after j p (omega arith) d));
  }
