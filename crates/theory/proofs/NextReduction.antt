-- After a step of phase 2 at i no redex of phase 2 stands before i - 1. A redex is a computation, so it is no operand; a let looks at the
-- kind of its bound part, one word further, and at that part's first part only if that is a value, where no redex stands.
use mathlib.Core.Path.{◌≡◌, refl, sym, ◌∙◌, ap, subst}
use mathlib.Core.Bool.{Bool, cond, not}
use mathlib.Core.Option.{some, none, map}
use lib.Dec.{T, eqb}
use lib.ListN.{get_elem?}
use Prim.Native.Nat.{ℕ, ◌+◌, ◌-◌, ◌<◌}
use native.Mathlib.Omega.{arith}
use Rattle.syntax.specs.Maybe.{given}
use Rattle.syntax.specs.Term.{Term, node}
use Rattle.syntax.specs.Positions.{Position, positions}
use Rattle.syntax.specs.Values.{is_value}
use Rattle.syntax.proofs.Options.{map-none, given_none, not_not}
use Rattle.reduction.specs.Rules.{rules}
use Rattle.reduction.specs.declared.Phase.TheVariants.{Reduction}
use Rattle.reduction.specs.declared.Rule.TheVariants.{LetOfLet, LetOfCase, Apply, First, Second, LeftCase, RightCase}
use Rattle.reduction.specs.Redex.{Contraction, contract, Step as Stepped, step}
use Rattle.reduction.specs.Clear.{Clear}
use Rattle.reduction.specs.FitByKinds.{value_kind, let_by_kinds, rule_by_kinds}
use Rattle.reduction.proofs.Roots.{Reduce}
use Rattle.reduction.proofs.Places.{At, a_root, a_call, a_lam, a_app₁, a_app₂, a_bind₁, a_bind₂, a_pair₁, a_pair₂, a_fst, a_snd, a_inl}
use Rattle.reduction.proofs.Places.{a_inr, a_case₁, a_case₂, a_case₃, at_step, step_place}
use Rattle.reduction.proofs.Below.{kept_before}
use Rattle.reduction.proofs.Clear.{step_at}
use Rattle.reduction.proofs.Search.{Each}
use Rattle.reduction.proofs.EachSite.{each_site}
use Rattle.theory.proofs.Operands.{Ops}
use Rattle.theory.proofs.OperandsKept.{root_value, step_ops}
use Rattle.theory.proofs.FitByKinds.{kind₁, kind₂, value_kind_lem, root_each, by_kinds}

-- a step keeps the kind of a value: it is in a part, since no rule fits a value
kind_kept : {t t' : Term} {i : ℕ} → At Reduce t i t' → T (is_value t) → (node t).kind ≡ (node t').kind
unfolding node
kind_kept (a_root e r) h = absurd (root_value r h)
kind_kept (a_call e s) h = refl
kind_kept (a_lam e s) h = refl
kind_kept (a_app₁ e s) h = refl
kind_kept (a_app₂ e s) h = refl
kind_kept (a_bind₁ e s) h = refl
kind_kept (a_bind₂ e s) h = refl
kind_kept (a_pair₁ e s) h = refl
kind_kept (a_pair₂ e s) h = refl
kind_kept (a_fst e s) h = refl
kind_kept (a_snd e s) h = refl
kind_kept (a_inl e s) h = refl
kind_kept (a_inr e s) h = refl
kind_kept (a_case₁ e s) h = refl
kind_kept (a_case₂ e s) h = refl
kind_kept (a_case₃ e s) h = refl

-- a step in a let's bound part, not at its first word, makes no rule fit the let
bound_kept : {e e' : Term} {i : ℕ} → At Reduce e i e' → 0 < i → Each e Ops → (d : ℕ) → let_by_kinds (node e).kind (kind₁ e d) ≡ none
    → let_by_kinds (node e').kind (kind₁ e' d) ≡ none
unfolding node let_by_kinds value_kind Each
bound_kept (a_root e r) l o d h = absurd (omega arith)
bound_kept (a_call e s) l o d h = h
bound_kept (a_lam e s) l o d h = h
bound_kept (a_app₁ e s) l o d h = h
bound_kept (a_app₂ e s) l o d h = h
bound_kept (a_bind₁ {a = p} e s) l o d h =
    let k = value_kind (node p).kind in
    let v : T (is_value p) = subst T (sym (value_kind_lem p (root_each Ops p o.1))) (not_not k (given_none (not k) LetOfLet h)) in
    subst (λ (k : ℕ). given (not (value_kind k)) LetOfLet ≡ none) (kind_kept s v) h
bound_kept (a_bind₂ e s) l o d h = h
bound_kept (a_pair₁ e s) l o d h = h
bound_kept (a_pair₂ e s) l o d h = h
bound_kept (a_fst e s) l o d h = h
bound_kept (a_snd e s) l o d h = h
bound_kept (a_inl e s) l o d h = h
bound_kept (a_inr e s) l o d h = h
bound_kept (a_case₁ e s) l o d h = subst (λ (k : ℕ). given (eqb k 0) LetOfCase ≡ none) (kind_kept s o.0) h
bound_kept (a_case₂ e s) l o d h = h
bound_kept (a_case₃ e s) l o d h = h

-- a step in a part more than one word behind the node makes no rule fit the node
kinds_kept : {t t' : Term} {i : ℕ} → At Reduce t i t' → 1 < i → Each t Ops → (d : ℕ)
    → rule_by_kinds (node t).kind (kind₁ t d) (kind₂ t d) ≡ none → rule_by_kinds (node t').kind (kind₁ t' d) (kind₂ t' d) ≡ none
unfolding node rule_by_kinds Each
kinds_kept (a_root e r) l o d h = absurd (omega arith)
kinds_kept (a_call e s) l o d h = h
kinds_kept (a_lam e s) l o d h = h
kinds_kept (a_app₁ e s) l o d h = subst (λ (k : ℕ). given (eqb k 2) Apply ≡ none) (kind_kept s o.0.0) h
kinds_kept (a_app₂ e s) l o d h = h
kinds_kept (a_bind₁ e s) l o d h = bound_kept s (omega arith) o.1 d h
kinds_kept (a_bind₂ e s) l o d h = h
kinds_kept (a_pair₁ e s) l o d h = h
kinds_kept (a_pair₂ e s) l o d h = h
kinds_kept (a_fst e s) l o d h = subst (λ (k : ℕ). given (eqb k 5) First ≡ none) (kind_kept s o.0) h
kinds_kept (a_snd e s) l o d h = subst (λ (k : ℕ). given (eqb k 5) Second ≡ none) (kind_kept s o.0) h
kinds_kept (a_inl e s) l o d h = h
kinds_kept (a_inr e s) l o d h = h
kinds_kept (a_case₁ e s) l o d h =
    subst (λ (k : ℕ). cond (eqb k 8) (some LeftCase) (given (eqb k 9) RightCase) ≡ none) (kind_kept s o.0) h
kinds_kept (a_case₂ e s) l o d h = h
kinds_kept (a_case₃ e s) l o d h = h

module _ (pure : Term → Bool) where
  -- the operands of each node are values, and no rule fits
  record Quiet (t : Term) : Type 0 where
    operands : Each t Ops
    misses : contract pure (rules Reduction) t ≡ none

  quiet_kept : {t t' : Term} {i : ℕ} → At Reduce t i t' → 1 < i → Quiet t → Quiet t'
  quiet_kept {t} {t'} s l q = record {
    operands = o;
    misses = map-none _ _ (by_kinds pure t' 0 0 o ∙ kinds_kept s l q.operands 0
        (sym (by_kinds pure t 0 0 q.operands) ∙ ap (map (λ (x : Contraction). x.rule)) q.misses));
  }
    where
      o : Each t' Ops
      o = step_ops (at_step s) q.operands

  module _ (t : Term) (s : Stepped) (o : Each t Ops) (e : step pure Reduction t ≡ some s) where
    quiet_before : (j : ℕ) (p : Position Term) → j < s.place → get_elem? (positions t) j ≡ some p → Quiet p.subterm
    quiet_before j p l d =
        record { operands = each_site Ops t o j p d; misses = (step_at pure Reduction t s e).clear.misses j p l d }

    quiet_after : (j : ℕ) (p : Position Term) → j + 1 < s.place → get_elem? (positions s.next) j ≡ some p → Quiet p.subterm
    quiet_after = kept_before Quiet Reduce 1 (λ t t' i a l h. quiet_kept a l h) t s.next s.place (step_place pure Reduction t s e)
        quiet_before

    pub next_reduction : Clear pure Reduction s.next (s.place - 1)
    next_reduction = record { misses = λ j p l d. (quiet_after j p (omega arith) d).misses }

    -- and every operand is a value again
    pub operands_next : Each s.next Ops
    operands_next = step_ops (at_step (step_place pure Reduction t s e)) o
