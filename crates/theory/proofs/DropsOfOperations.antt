-- In the weaker grammar a drop drops one operation: there a let binds nothing else. Drop by itself says no such thing: it fits
-- `let (case v0, clear, clear), body`, whose bound part is neither an acting call nor an application, and makes one.
use mathlib.Core.Bool.{Bool}
use lib.Dec.{T, eqb}
use Rattle.syntax.specs.Term.{Term, Terms, bind}
use Rattle.syntax.specs.Substitution.{rename}
use Rattle.syntax.specs.Values.{uses}
use Rattle.reduction.specs.Rules.{lower}
use Rattle.reduction.specs.NormalForm.{NormalValue, NormalValues, Operation, Normal, variable, function, product as both, left, right}
use Rattle.reduction.specs.NormalForm.{the_unit, no_more, more, application, calling, first as taking₁, second as taking₂, value, operation, letting}
use Rattle.reduction.specs.NormalForm.{branching}
use Rattle.reduction.proofs.Roots.{Drops, r_drop, Step, StepAll, s_root, s_call, s_lam, s_app₁, s_app₂, s_bind₁, s_bind₂, s_pair₁, s_pair₂}
use Rattle.reduction.proofs.Roots.{s_fst, s_snd, s_inl, s_inr, s_case₁, s_case₂, s_case₃, s_this, s_next}
use Rattle.theory.proofs.Forms.{never}
use Rattle.theory.proofs.FormsKept.{var_step, unit_step}

module _ (pure : Term → Bool) where
  -- a drop of one operation
  pub data DropsOperation : Term → Term → Type 0 where
    drops : {e b : Term} → Operation never e → T (pure e) → T (eqb (uses b 0) 0) → DropsOperation (bind e b) (rename b lower)

  mutual
    pub form_drops : {t t' : Term} → Normal never t → Step (Drops pure) t t' → Step DropsOperation t t'
    form_drops (value v) s = value_drops v s
    form_drops (operation o) s = operation_drops o s
    form_drops (letting o k b) (s_root (r_drop _ h u)) = s_root (drops o h u)
    form_drops (letting o k b) (s_bind₁ s) = s_bind₁ (operation_drops o s)
    form_drops (letting o k b) (s_bind₂ s) = s_bind₂ (form_drops b s)
    form_drops (branching a b) (s_root r) = elim r [ ]
    form_drops (branching a b) (s_case₁ s) = absurd (var_step pure s)
    form_drops (branching a b) (s_case₂ s) = s_case₂ (form_drops a s)
    form_drops (branching a b) (s_case₃ s) = s_case₃ (form_drops b s)

    value_drops : {t t' : Term} → NormalValue never t → Step (Drops pure) t t' → Step DropsOperation t t'
    value_drops variable s = absurd (var_step pure s)
    value_drops (function b) (s_root r) = elim r [ ]
    value_drops (function b) (s_lam s) = s_lam (form_drops b s)
    value_drops (both a b) (s_root r) = elim r [ ]
    value_drops (both a b) (s_pair₁ s) = s_pair₁ (value_drops a s)
    value_drops (both a b) (s_pair₂ s) = s_pair₂ (value_drops b s)
    value_drops (left a) (s_root r) = elim r [ ]
    value_drops (left a) (s_inl s) = s_inl (value_drops a s)
    value_drops (right a) (s_root r) = elim r [ ]
    value_drops (right a) (s_inr s) = s_inr (value_drops a s)
    value_drops the_unit s = absurd (unit_step pure s)

    values_drop : {ts us : Terms} → NormalValues never ts → StepAll (Drops pure) ts us → StepAll DropsOperation ts us
    values_drop no_more s = elim s [ ]
    values_drop (more v vs) (s_this s) = s_this (value_drops v s)
    values_drop (more v vs) (s_next s) = s_next (values_drop vs s)

    operation_drops : {t t' : Term} → Operation never t → Step (Drops pure) t t' → Step DropsOperation t t'
    operation_drops (application v) (s_root r) = elim r [ ]
    operation_drops (application v) (s_app₁ s) = absurd (var_step pure s)
    operation_drops (application v) (s_app₂ s) = s_app₂ (value_drops v s)
    operation_drops (calling vs) (s_root r) = elim r [ ]
    operation_drops (calling vs) (s_call s) = s_call (values_drop vs s)
    operation_drops taking₁ (s_root r) = elim r [ ]
    operation_drops taking₁ (s_fst s) = absurd (var_step pure s)
    operation_drops taking₂ (s_root r) = elim r [ ]
    operation_drops taking₂ (s_snd s) = absurd (var_step pure s)
