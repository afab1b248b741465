-- Phase 2 keeps operands values: what its rules put for variables are values, and no rule of it fits a value's own node.
use mathlib.Core.Path.{◌≡◌}
use mathlib.Core.Bool.{true}
use lib.Dec.{T}
use Prim.Native.Nat.{ℕ, zero, suc}
use Rattle.syntax.specs.Term.{Term, Terms, var, call, lam, app, bind, pair, fst, snd, inl, inr, case, unit, done, arg}
use Rattle.syntax.specs.Substitution.{Kit, under, traverse, traverse_all, renaming, rename, substitution, only, ◌⟦◌⟧}
use Rattle.syntax.specs.Values.{is_value}
use Rattle.syntax.proofs.Options.{is_true, and_left, and_right, both_true}
use Rattle.syntax.proofs.Values.{value_kept, value_renamed}
use Rattle.reduction.proofs.Roots.{Reduce, r_let, r_case, r_apply, r_fst, r_snd, r_left, r_right, r_value, Step, StepAll, s_root, s_call}
use Rattle.reduction.proofs.Roots.{s_lam, s_app₁, s_app₂, s_bind₁, s_bind₂, s_pair₁, s_pair₂, s_fst, s_snd, s_inl, s_inr, s_case₁, s_case₂}
use Rattle.reduction.proofs.Roots.{s_case₃, s_this, s_next}
use Rattle.reduction.proofs.Search.{Each, EachAll}
use Rattle.theory.proofs.Operands.{AllValues, Ops}

-- what is put for variables is good: a value whose operands are values
module _ {X : Type 0} (K : Kit X) (Good : X → Type 0) (new : Good (K.variable zero)) (weakened : (x : X) → Good x → Good (K.weaken x))
    (value : (x : X) → Good x → T (is_value (K.term x))) (operands : (x : X) → Good x → Each (K.term x) Ops) where
  up : (f : ℕ → X) → ((n : ℕ) → Good (f n)) → (n : ℕ) → Good (under K f n)
  up f g zero = new
  up f g (suc n) = weakened (f n) (g n)

  good : (f : ℕ → X) → ((n : ℕ) → Good (f n)) → (n : ℕ) → is_value (K.term (f n)) ≡ true
  good f g n = is_true (is_value (K.term (f n))) (value (f n) (g n))

  kept : (t : Term) (f : ℕ → X) → ((n : ℕ) → Good (f n)) → T (is_value t) → T (is_value (traverse K t f))
  kept t f g h = value_kept K t f (good f g) h

  values_kept : (ts : Terms) (f : ℕ → X) → ((n : ℕ) → Good (f n)) → AllValues ts → AllValues (traverse_all K ts f)
  unfolding traverse
  values_kept done f g h = tt
  values_kept (arg t ts) f g h = (kept t f g h.0, values_kept ts f g h.1)

  mutual
    unfolding Each traverse

    pub each_kept : (t : Term) (f : ℕ → X) → ((n : ℕ) → Good (f n)) → Each t Ops → Each (traverse K t f) Ops
    each_kept (var n) f g e = operands (f n) (g n)
    each_kept (call k ts) f g e = (values_kept ts f g e.0, each_kept_all ts f g e.1)
    each_kept (lam A b) f g e = (tt, each_kept b (under K f) (up f g) e.1)
    each_kept (app a b) f g e = ((kept a f g e.0.0, kept b f g e.0.1), each_kept a f g e.1, each_kept b f g e.2)
    each_kept (bind a b) f g e = (tt, each_kept a f g e.1, each_kept b (under K f) (up f g) e.2)
    each_kept (pair A a b) f g e = ((kept a f g e.0.0, kept b f g e.0.1), each_kept a f g e.1, each_kept b f g e.2)
    each_kept (fst a) f g e = (kept a f g e.0, each_kept a f g e.1)
    each_kept (snd a) f g e = (kept a f g e.0, each_kept a f g e.1)
    each_kept (inl A a) f g e = (kept a f g e.0, each_kept a f g e.1)
    each_kept (inr A a) f g e = (kept a f g e.0, each_kept a f g e.1)
    each_kept (case s l r) f g e =
        (kept s f g e.0, each_kept s f g e.1, each_kept l (under K f) (up f g) e.2, each_kept r (under K f) (up f g) e.3)
    each_kept (unit A) f g e = tt

    pub each_kept_all : (ts : Terms) (f : ℕ → X) → ((n : ℕ) → Good (f n)) → EachAll ts Ops → EachAll (traverse_all K ts f) Ops
    each_kept_all done f g e = tt
    each_kept_all (arg t ts) f g e = (each_kept t f g e.0, each_kept_all ts f g e.1)

-- a renaming
abbrev AnyName : ℕ → Type 0
AnyName n = Unit

pub each_renamed : (t : Term) (f : ℕ → ℕ) → Each t Ops → Each (rename t f) Ops
unfolding Each is_value
each_renamed t f e = each_kept renaming AnyName tt (λ n h. tt) (λ n h. tt) (λ n h. tt) t f (λ n. tt) e

-- a value put in
abbrev Good : Term → Type 0
Good v = T (is_value v) × Each v Ops

put_kept : (b v : Term) → T (is_value v) → Each v Ops → Each b Ops → Each (b ⟦ v ⟧) Ops
unfolding Each is_value
put_kept b v h e d = each_kept substitution Good (tt, tt) (λ x g. (value_renamed x suc g.0, each_renamed x suc g.1)) (λ x g. g.0)
    (λ x g. g.1) b (only v) puts d
  where
    puts : (n : ℕ) → Good (only v n)
    puts zero = (h, e)
    puts (suc n) = (tt, tt)

-- a step of phase 2
root_ops : {t t' : Term} → Reduce t t' → Each t Ops → Each t' Ops
unfolding Each is_value
root_ops (r_let {c = c} _) e = (tt, e.1.1, (tt, e.1.2, each_renamed c (under renaming suc) e.2))
root_ops (r_case {c = c}) e =
    (tt, tt, (tt, e.1.2, each_renamed c (under renaming suc) e.2), (tt, e.1.3, each_renamed c (under renaming suc) e.2))
root_ops (r_apply {b = b} {v = v} h) e = put_kept b v h e.2 e.1.1
root_ops (r_fst h k) e = e.1.1
root_ops (r_snd h k) e = e.1.2
root_ops (r_left {v = v} {l = l} h) e = put_kept l v h e.1.1 e.2
root_ops (r_right {v = v} {r = r} h) e = put_kept r v h e.1.1 e.3
root_ops (r_value {v = v} {b = b} h) e = put_kept b v h e.1 e.2

pub root_value : {t t' : Term} → Reduce t t' → T (is_value t) → ⊥
unfolding is_value
root_value (r_let _) h = h
root_value r_case h = h
root_value (r_apply _) h = h
root_value (r_fst _ _) h = h
root_value (r_snd _ _) h = h
root_value (r_left _) h = h
root_value (r_right _) h = h
root_value (r_value _) h = h

value_step : {t t' : Term} → Step Reduce t t' → T (is_value t) → T (is_value t')
unfolding is_value
value_step (s_root r) h = absurd (root_value r h)
value_step (s_call s) h = absurd h
value_step (s_lam s) h = tt
value_step (s_app₁ s) h = absurd h
value_step (s_app₂ s) h = absurd h
value_step (s_bind₁ s) h = absurd h
value_step (s_bind₂ s) h = absurd h
value_step (s_pair₁ {a = a} {a' = a'} {b = b} s) h = both_true (is_value a') (is_value b) (value_step s (and_left (is_value a) (is_value b) h))
    (and_right (is_value a) (is_value b) h)
value_step (s_pair₂ {a = a} {b = b} {b' = b'} s) h = both_true (is_value a) (is_value b') (and_left (is_value a) (is_value b) h)
    (value_step s (and_right (is_value a) (is_value b) h))
value_step (s_fst s) h = absurd h
value_step (s_snd s) h = absurd h
value_step (s_inl s) h = value_step s h
value_step (s_inr s) h = value_step s h
value_step (s_case₁ s) h = absurd h
value_step (s_case₂ s) h = absurd h
value_step (s_case₃ s) h = absurd h

values_step : {ts us : Terms} → StepAll Reduce ts us → AllValues ts → AllValues us
values_step (s_this s) h = (value_step s h.0, h.1)
values_step (s_next s) h = (h.0, values_step s h.1)

mutual
  unfolding Each

  pub step_ops : {t t' : Term} → Step Reduce t t' → Each t Ops → Each t' Ops
  step_ops (s_root r) e = root_ops r e
  step_ops (s_call s) e = (values_step s e.0, step_ops_all s e.1)
  step_ops (s_lam s) e = (tt, step_ops s e.1)
  step_ops (s_app₁ s) e = ((value_step s e.0.0, e.0.1), step_ops s e.1, e.2)
  step_ops (s_app₂ s) e = ((e.0.0, value_step s e.0.1), e.1, step_ops s e.2)
  step_ops (s_bind₁ s) e = (tt, step_ops s e.1, e.2)
  step_ops (s_bind₂ s) e = (tt, e.1, step_ops s e.2)
  step_ops (s_pair₁ s) e = ((value_step s e.0.0, e.0.1), step_ops s e.1, e.2)
  step_ops (s_pair₂ s) e = ((e.0.0, value_step s e.0.1), e.1, step_ops s e.2)
  step_ops (s_fst s) e = (value_step s e.0, step_ops s e.1)
  step_ops (s_snd s) e = (value_step s e.0, step_ops s e.1)
  step_ops (s_inl s) e = (value_step s e.0, step_ops s e.1)
  step_ops (s_inr s) e = (value_step s e.0, step_ops s e.1)
  step_ops (s_case₁ s) e = (value_step s e.0, step_ops s e.1, e.2, e.3)
  step_ops (s_case₂ s) e = (e.0, e.1, step_ops s e.2, e.3)
  step_ops (s_case₃ s) e = (e.0, e.1, e.2, step_ops s e.3)

  pub step_ops_all : {ts us : Terms} → StepAll Reduce ts us → EachAll ts Ops → EachAll us Ops
  step_ops_all (s_this s) e = (step_ops s e.0, e.1)
  step_ops_all (s_next s) e = (e.0, step_ops_all s e.1)
