-- Phase 3 keeps the weaker grammar, because it has no condition on a let's variable; and in it no rule of phases 1 and 2 fits.
use mathlib.Core.Path.{◌≡◌, refl}
use mathlib.Core.Bool.{Bool}
use mathlib.Core.Option.{none}
use Prim.Native.Nat.{ℕ}
use Rattle.syntax.specs.Term.{Term, Terms, var, bind, node, parts_of, as_var, as_lam, as_app, as_bind, as_pair, as_fst, as_snd, as_inl, as_inr}
use Rattle.syntax.specs.Term.{as_case, unit}
use Rattle.syntax.specs.Substitution.{under, traverse, traverse_all, renaming, rename}
use Rattle.syntax.specs.Values.{is_value, is_computation}
use Rattle.reduction.specs.Rules.{let_of_let, let_of_case, apply, first, second, left_case, right_case, let_value, lower, fire, rules}
use Rattle.reduction.specs.declared.Phase.TheVariants.{Insertion}
use Rattle.reduction.specs.declared.Phase.TheVariants.{Reduction}
use Rattle.reduction.specs.Redex.{contract, step}
use Rattle.reduction.specs.NormalForm.{NormalValue, NormalValues, Operation, Normal, variable, function, product as both, left, right}
use Rattle.reduction.specs.NormalForm.{the_unit}
use Rattle.reduction.specs.NormalForm.{no_more, more, application, calling, first as taking₁, second as taking₂, value, operation, letting}
use Rattle.reduction.specs.NormalForm.{branching}
use Rattle.reduction.proofs.Roots.{Drops, r_drop, Step, StepAll, s_root, s_call, s_lam, s_app₁, s_app₂, s_bind₁, s_bind₂, s_pair₁, s_pair₂}
use Rattle.reduction.proofs.Roots.{s_fst, s_snd, s_inl, s_inr, s_case₁, s_case₂, s_case₃, s_this, s_next}
use Rattle.reduction.proofs.Search.{Each, EachAll, Misses, nowhere}
use Rattle.theory.proofs.Operands.{AllValues, Ops, not_inserted}
use Rattle.theory.proofs.Forms.{never, stays, value_is}

mutual
  unfolding traverse

  form_rename : {t : Term} (f : ℕ → ℕ) → Normal never t → Normal never (rename t f)
  form_rename f (value v) = value (value_rename f v)
  form_rename f (operation o) = operation (operation_rename f o)
  form_rename f (letting {e = e} {b = b} o k n) = letting (operation_rename f o) (stays (rename e f) (rename b (under renaming f)))
      (form_rename (under renaming f) n)
  form_rename f (branching a b) = branching (form_rename (under renaming f) a) (form_rename (under renaming f) b)

  value_rename : {t : Term} (f : ℕ → ℕ) → NormalValue never t → NormalValue never (rename t f)
  value_rename f variable = variable
  value_rename f (function b) = function (form_rename (under renaming f) b)
  value_rename f (both a b) = both (value_rename f a) (value_rename f b)
  value_rename f (left a) = left (value_rename f a)
  value_rename f (right a) = right (value_rename f a)
  value_rename f the_unit = the_unit

  values_rename : {ts : Terms} (f : ℕ → ℕ) → NormalValues never ts → NormalValues never (traverse_all renaming ts f)
  values_rename f no_more = no_more
  values_rename f (more v vs) = more (value_rename f v) (values_rename f vs)

  operation_rename : {t : Term} (f : ℕ → ℕ) → Operation never t → Operation never (rename t f)
  operation_rename f (application v) = application (value_rename f v)
  operation_rename f (calling vs) = calling (values_rename f vs)
  operation_rename f taking₁ = taking₁
  operation_rename f taking₂ = taking₂

module _ (pure : Term → Bool) where
  -- a variable takes no step, nor does a unit
  pub var_step : {n : ℕ} {t : Term} → Step (Drops pure) (var n) t → ⊥
  var_step (s_root r) = no_drop r
    where
      no_drop : {n : ℕ} {t : Term} → Drops pure (var n) t → ⊥
      no_drop = elim [ ]

  pub unit_step : {A : ℕ} {t : Term} → Step (Drops pure) (unit A) t → ⊥
  unit_step (s_root r) = no_drop r
    where
      no_drop : {A : ℕ} {t : Term} → Drops pure (unit A) t → ⊥
      no_drop = elim [ ]

  mutual
    pub form_step : {t t' : Term} → Normal never t → Step (Drops pure) t t' → Normal never t'
    form_step (value v) s = value (value_step v s)
    form_step (operation o) s = operation (operation_step o s)
    form_step (letting o k b) (s_root (r_drop _ _ _)) = form_rename lower b
    form_step (letting {b = c} o k b) (s_bind₁ {a' = e} s) = letting (operation_step o s) (stays e c) b
    form_step (letting {e = e} o k b) (s_bind₂ {b' = c} s) = letting o (stays e c) (form_step b s)
    form_step (branching a b) (s_root r) = elim r [ ]
    form_step (branching a b) (s_case₁ s) = absurd (var_step s)
    form_step (branching a b) (s_case₂ s) = branching (form_step a s) b
    form_step (branching a b) (s_case₃ s) = branching a (form_step b s)

    value_step : {t t' : Term} → NormalValue never t → Step (Drops pure) t t' → NormalValue never t'
    value_step variable s = absurd (var_step s)
    value_step (function b) (s_root r) = elim r [ ]
    value_step (function b) (s_lam s) = function (form_step b s)
    value_step (both a b) (s_root r) = elim r [ ]
    value_step (both a b) (s_pair₁ s) = both (value_step a s) b
    value_step (both a b) (s_pair₂ s) = both a (value_step b s)
    value_step (left a) (s_root r) = elim r [ ]
    value_step (left a) (s_inl s) = left (value_step a s)
    value_step (right a) (s_root r) = elim r [ ]
    value_step (right a) (s_inr s) = right (value_step a s)
    value_step the_unit s = absurd (unit_step s)

    values_step : {ts us : Terms} → NormalValues never ts → StepAll (Drops pure) ts us → NormalValues never us
    values_step no_more s = elim s [ ]
    values_step (more v vs) (s_this s) = more (value_step v s) vs
    values_step (more v vs) (s_next s) = more v (values_step vs s)

    operation_step : {t t' : Term} → Operation never t → Step (Drops pure) t t' → Operation never t'
    operation_step (application v) (s_root r) = elim r [ ]
    operation_step (application v) (s_app₁ s) = absurd (var_step s)
    operation_step (application v) (s_app₂ s) = application (value_step v s)
    operation_step (calling vs) (s_root r) = elim r [ ]
    operation_step (calling vs) (s_call s) = calling (values_step vs s)
    operation_step taking₁ (s_root r) = elim r [ ]
    operation_step taking₁ (s_fst s) = absurd (var_step s)
    operation_step taking₂ (s_root r) = elim r [ ]
    operation_step taking₂ (s_snd s) = absurd (var_step s)

values_are : {ts : Terms} → NormalValues never ts → AllValues ts
values_are no_more = tt
values_are (more v vs) = (value_is v, values_are vs)

mutual
  unfolding Each is_value

  form_ops : {t : Term} → Normal never t → Each t Ops
  form_ops (value v) = value_ops v
  form_ops (operation o) = operation_ops o
  form_ops (letting o k b) = (tt, operation_ops o, form_ops b)
  form_ops (branching a b) = (tt, tt, form_ops a, form_ops b)

  value_ops : {t : Term} → NormalValue never t → Each t Ops
  value_ops variable = tt
  value_ops (function b) = (tt, form_ops b)
  value_ops (both a b) = ((value_is a, value_is b), value_ops a, value_ops b)
  value_ops (left a) = (value_is a, value_ops a)
  value_ops (right a) = (value_is a, value_ops a)
  value_ops the_unit = tt

  values_ops : {ts : Terms} → NormalValues never ts → EachAll ts Ops
  values_ops no_more = tt
  values_ops (more v vs) = (value_ops v, values_ops vs)

  operation_ops : {t : Term} → Operation never t → Each t Ops
  operation_ops (application v) = ((tt, value_is v), tt, value_ops v)
  operation_ops (calling vs) = (values_are vs, values_ops vs)
  operation_ops taking₁ = (tt, tt)
  operation_ops taking₂ = (tt, tt)

module _ (pure : Term → Bool) where
  let_misses : {e : Term} (b : Term) → Operation never e → Misses pure Reduction (bind e b)
  unfolding contract rules fire let_of_let let_of_case apply first second left_case right_case let_value node parts_of as_var as_lam as_app as_bind
      as_pair as_fst as_snd as_inl as_inr as_case is_value is_computation
  let_misses b (application v) = refl
  let_misses b (calling vs) = refl
  let_misses b taking₁ = refl
  let_misses b taking₂ = refl

  mutual
    unfolding Each contract rules fire let_of_let let_of_case apply first second left_case right_case let_value node parts_of as_var as_lam as_app
        as_bind as_pair as_fst as_snd as_inl as_inr as_case is_value is_computation

    form_misses : {t : Term} → Normal never t → Each t (Misses pure Reduction)
    form_misses (value v) = value_misses v
    form_misses (operation o) = operation_misses o
    form_misses (letting o k b) = (let_misses _ o, operation_misses o, form_misses b)
    form_misses (branching a b) = (refl, refl, form_misses a, form_misses b)

    value_misses : {t : Term} → NormalValue never t → Each t (Misses pure Reduction)
    value_misses variable = refl
    value_misses (function b) = (refl, form_misses b)
    value_misses (both a b) = (refl, value_misses a, value_misses b)
    value_misses (left a) = (refl, value_misses a)
    value_misses (right a) = (refl, value_misses a)
    value_misses the_unit = refl

    values_misses : {ts : Terms} → NormalValues never ts → EachAll ts (Misses pure Reduction)
    values_misses no_more = tt
    values_misses (more v vs) = (value_misses v, values_misses vs)

    operation_misses : {t : Term} → Operation never t → Each t (Misses pure Reduction)
    operation_misses (application v) = (refl, refl, value_misses v)
    operation_misses (calling vs) = (refl, values_misses vs)
    operation_misses taking₁ = (refl, refl)
    operation_misses taking₂ = (refl, refl)

  -- no rule of phases 1 and 2 fits
  pub no_insertion : {t : Term} → Normal never t → step pure Insertion t ≡ none
  no_insertion {t} f = not_inserted pure t (form_ops f)

  pub no_reduction : {t : Term} → Normal never t → step pure Reduction t ≡ none
  no_reduction {t} f = nowhere pure Reduction t (form_misses f)
