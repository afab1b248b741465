-- The steps of phase 1 are as many as the operand positions of the input that hold a computation: a step names one of them and makes no
-- new one, and where no step is left none is held. So phase 1 ends, on every term.
use mathlib.Core.Path.{◌≡◌, refl, sym, ◌∙◌, ap, ap₂}
use mathlib.Core.Bool.{Bool, true, false, ◌&&◌, not}
use mathlib.Core.List.{List, [], ◌∷◌}
use mathlib.Core.Option.{Option, some, none}
use lib.Dec.{T}
use lib.ListN.{length}
use Prim.Native.Nat.{ℕ, zero, suc, ◌+◌}
use native.Mathlib.Omega.{arith}
use Rattle.syntax.specs.Term.{Term, Terms, var, call, lam, app, bind, pair, fst, snd, inl, inr, case, unit, done, arg}
use Rattle.syntax.specs.Substitution.{under, traverse, traverse_all, renaming, rename}
use Rattle.syntax.specs.Values.{is_value, is_computation, counts}
use Rattle.syntax.specs.Pending.{pending}
use Rattle.reduction.specs.declared.Phase.TheVariants.{Insertion}
use Rattle.reduction.specs.Redex.{Step as Stepped, step}
use Rattle.reduction.specs.Sequence.{Steps, ended, stepped}
use Rattle.reduction.proofs.Roots.{Names, this, next, Insert, i_call, i_app₁, i_app₂, i_pair₁, i_pair₂, i_fst, i_snd, i_inl, i_inr, i_case}
use Rattle.reduction.proofs.Roots.{Step, StepAll, s_root, s_call, s_lam, s_app₁, s_app₂, s_bind₁, s_bind₂, s_pair₁, s_pair₂, s_fst, s_snd}
use Rattle.reduction.proofs.Roots.{s_inl, s_inr, s_case₁, s_case₂, s_case₃, s_this, s_next}
use Rattle.reduction.proofs.Search.{Each, EachAll, one_step}
use Rattle.theory.proofs.Operands.{AllValues, Ops, inserted}
use Rattle.syntax.proofs.Options.{is_false}
use Rattle.syntax.proofs.Values.{value_rename}
use Rattle.theory.proofs.PendingStructure.{comp, comp_all, pend, pend_all, pending_structure}

-- a renaming changes nothing
comp_rename : (t : Term) (f : ℕ → ℕ) → comp (rename t f) ≡ comp t
unfolding comp is_computation
comp_rename t f = ap (λ (b : Bool). counts (not b)) (value_rename t f)

comp_all_rename : (ts : Terms) (f : ℕ → ℕ) → comp_all (traverse_all renaming ts f) ≡ comp_all ts
unfolding comp_all traverse
comp_all_rename done f = refl
comp_all_rename (arg t ts) f = ap₂ (λ (m n : ℕ). m + n) (comp_rename t f) (comp_all_rename ts f)

mutual
  unfolding pend traverse

  pend_rename : (t : Term) (f : ℕ → ℕ) → pend (rename t f) ≡ pend t
  pend_rename (var n) f = refl
  pend_rename (call k ts) f = λ i. comp_all_rename ts f i + pend_all_rename ts f i
  pend_rename (lam A b) f = pend_rename b (under renaming f)
  pend_rename (app a b) f = λ i. comp_rename a f i + comp_rename b f i + pend_rename a f i + pend_rename b f i
  pend_rename (bind a b) f = λ i. pend_rename a f i + pend_rename b (under renaming f) i
  pend_rename (pair A a b) f = λ i. comp_rename a f i + comp_rename b f i + pend_rename a f i + pend_rename b f i
  pend_rename (fst a) f = λ i. comp_rename a f i + pend_rename a f i
  pend_rename (snd a) f = λ i. comp_rename a f i + pend_rename a f i
  pend_rename (inl A a) f = λ i. comp_rename a f i + pend_rename a f i
  pend_rename (inr A a) f = λ i. comp_rename a f i + pend_rename a f i
  pend_rename (case s l r) f = λ i. comp_rename s f i + pend_rename s f i + pend_rename l (under renaming f) i + pend_rename r
      (under renaming f) i
  pend_rename (unit A) f = refl

  pend_all_rename : (ts : Terms) (f : ℕ → ℕ) → pend_all (traverse_all renaming ts f) ≡ pend_all ts
  pend_all_rename done f = refl
  pend_all_rename (arg t ts) f = λ i. pend_rename t f i + pend_all_rename ts f i

-- a computation counts 1, a value 0
comp_one : (t : Term) → T (is_computation t) → comp t ≡ 1
unfolding comp
comp_one t h = go (is_computation t) h
  where
    go : (b : Bool) → T b → counts b ≡ 1
    go true h = refl
    go false h = absurd h

comp_zero : (t : Term) → T (is_value t) → comp t ≡ 0
unfolding comp is_computation
comp_zero t h = go (is_value t) h
  where
    go : (b : Bool) → T b → counts (not b) ≡ 0
    go true h = refl
    go false h = absurd h

comp_var : (n : ℕ) → comp (var n) ≡ 0
unfolding comp is_computation is_value
comp_var n = refl

-- a call's arguments
named : {ts us : Terms} {p : Term} → Names ts p us → (comp_all ts ≡ suc (comp_all us)) × (pend_all ts ≡ pend p + pend_all us)
unfolding comp_all pend
named (this {t = t} {ts = ts} h) =
    let a = comp_one t h in let b = comp_all_rename ts suc in let c = pend_all_rename ts suc in let d = comp_var 0 in
    (omega (arith, a, b, d), omega (arith, c))
named (next {t = t} {p = p} {ts = ts} {us = us} h l) =
    let r = named l in let e = r.0 in let f = r.1 in let a = comp_rename t suc in let b = pend_rename t suc in
    (omega (arith, e, a), omega (arith, f, b))

-- a let takes one away
root_lowers : {t t' : Term} → Insert t t' → pend t ≡ suc (pend t')
unfolding pend
root_lowers (i_call l) = let r = named l in let e = r.0 in let f = r.1 in omega (arith, e, f)
root_lowers (i_app₁ {f = f} {a = a} h) = let x = comp_one f h in let y = comp_rename a suc in let z = pend_rename a suc
    in let w = comp_var 0 in omega (arith, x, y, z, w)
root_lowers (i_app₂ {f = f} {a = a} k h) = let x = comp_one a h in let y = comp_rename f suc in let z = pend_rename f suc
    in let w = comp_var 0 in omega (arith, x, y, z, w)
root_lowers (i_pair₁ {a = a} {b = b} h) = let x = comp_one a h in let y = comp_rename b suc in let z = pend_rename b suc
    in let w = comp_var 0 in omega (arith, x, y, z, w)
root_lowers (i_pair₂ {a = a} {b = b} k h) = let x = comp_one b h in let y = comp_rename a suc in let z = pend_rename a suc
    in let w = comp_var 0 in omega (arith, x, y, z, w)
root_lowers (i_fst {a = a} h) = let x = comp_one a h in let w = comp_var 0 in omega (arith, x, w)
root_lowers (i_snd {a = a} h) = let x = comp_one a h in let w = comp_var 0 in omega (arith, x, w)
root_lowers (i_inl {a = a} h) = let x = comp_one a h in let w = comp_var 0 in omega (arith, x, w)
root_lowers (i_inr {a = a} h) = let x = comp_one a h in let w = comp_var 0 in omega (arith, x, w)
root_lowers (i_case {s = s} {l = l} {r = r} h) = let x = comp_one s h in let w = comp_var 0 in let y = pend_rename l (under renaming suc)
    in let z = pend_rename r (under renaming suc) in omega (arith, x, w, y, z)

-- and keeps a value a value, a computation a computation
and_false : (a b : Bool) → b ≡ false → (a && b) ≡ false
and_false true b h = h
and_false false b h = refl

root_value : {t t' : Term} → Insert t t' → is_value t ≡ is_value t'
unfolding is_value is_computation
root_value (i_call l) = refl
root_value (i_app₁ h) = refl
root_value (i_app₂ k h) = refl
root_value (i_pair₁ {a = a} {b = b} h) = ap (λ (x : Bool). x && is_value b) (is_false (is_value a) h)
root_value (i_pair₂ {a = a} {b = b} k h) = and_false (is_value a) (is_value b) (is_false (is_value b) h)
root_value (i_fst h) = refl
root_value (i_snd h) = refl
root_value (i_inl {a = a} h) = is_false (is_value a) h
root_value (i_inr {a = a} h) = is_false (is_value a) h
root_value (i_case h) = refl

pub value_step : {t t' : Term} → Step Insert t t' → is_value t ≡ is_value t'
unfolding is_value
value_step (s_root r) = root_value r
value_step (s_call s) = refl
value_step (s_lam s) = refl
value_step (s_app₁ s) = refl
value_step (s_app₂ s) = refl
value_step (s_bind₁ s) = refl
value_step (s_bind₂ s) = refl
value_step (s_pair₁ {b = b} s) = ap (λ (x : Bool). x && is_value b) (value_step s)
value_step (s_pair₂ {a = a} s) = ap (λ (x : Bool). is_value a && x) (value_step s)
value_step (s_fst s) = refl
value_step (s_snd s) = refl
value_step (s_inl s) = value_step s
value_step (s_inr s) = value_step s
value_step (s_case₁ s) = refl
value_step (s_case₂ s) = refl
value_step (s_case₃ s) = refl

comp_step : {t t' : Term} → Step Insert t t' → comp t ≡ comp t'
unfolding comp is_computation
comp_step s = ap (λ (b : Bool). counts (not b)) (value_step s)

mutual
  unfolding pend comp_all

  lowers : {t t' : Term} → Step Insert t t' → pend t ≡ suc (pend t')
  lowers (s_root r) = root_lowers r
  lowers (s_call s) = let r = lowers_all s in let e = r.0 in let f = r.1 in omega (arith, e, f)
  lowers (s_lam s) = lowers s
  lowers (s_app₁ s) = let e = comp_step s in let f = lowers s in omega (arith, e, f)
  lowers (s_app₂ s) = let e = comp_step s in let f = lowers s in omega (arith, e, f)
  lowers (s_bind₁ s) = let f = lowers s in omega (arith, f)
  lowers (s_bind₂ s) = let f = lowers s in omega (arith, f)
  lowers (s_pair₁ s) = let e = comp_step s in let f = lowers s in omega (arith, e, f)
  lowers (s_pair₂ s) = let e = comp_step s in let f = lowers s in omega (arith, e, f)
  lowers (s_fst s) = let e = comp_step s in let f = lowers s in omega (arith, e, f)
  lowers (s_snd s) = let e = comp_step s in let f = lowers s in omega (arith, e, f)
  lowers (s_inl s) = let e = comp_step s in let f = lowers s in omega (arith, e, f)
  lowers (s_inr s) = let e = comp_step s in let f = lowers s in omega (arith, e, f)
  lowers (s_case₁ s) = let e = comp_step s in let f = lowers s in omega (arith, e, f)
  lowers (s_case₂ s) = let f = lowers s in omega (arith, f)
  lowers (s_case₃ s) = let f = lowers s in omega (arith, f)

  lowers_all : {ts us : Terms} → StepAll Insert ts us → (comp_all ts ≡ comp_all us) × (pend_all ts ≡ suc (pend_all us))
  lowers_all (s_this s) = let e = comp_step s in let f = lowers s in (omega (arith, e), omega (arith, f))
  lowers_all (s_next s) = let r = lowers_all s in let e = r.0 in let f = r.1 in (omega (arith, e), omega (arith, f))

-- where all operands are values there is none
comp_all_zero : (ts : Terms) → AllValues ts → comp_all ts ≡ 0
unfolding comp_all
comp_all_zero done h = refl
comp_all_zero (arg t ts) h = ap₂ (λ (m n : ℕ). m + n) (comp_zero t h.0) (comp_all_zero ts h.1)

mutual
  unfolding pend Each

  none_pending : (t : Term) → Each t Ops → pend t ≡ 0
  none_pending (var n) e = refl
  none_pending (call k ts) e = λ i. comp_all_zero ts e.0 i + none_pending_all ts e.1 i
  none_pending (lam A b) e = none_pending b e.1
  none_pending (app a b) e = λ i. comp_zero a e.0.0 i + comp_zero b e.0.1 i + none_pending a e.1 i + none_pending b e.2 i
  none_pending (bind a b) e = λ i. none_pending a e.1 i + none_pending b e.2 i
  none_pending (pair A a b) e = λ i. comp_zero a e.0.0 i + comp_zero b e.0.1 i + none_pending a e.1 i + none_pending b e.2 i
  none_pending (fst a) e = λ i. comp_zero a e.0 i + none_pending a e.1 i
  none_pending (snd a) e = λ i. comp_zero a e.0 i + none_pending a e.1 i
  none_pending (inl A a) e = λ i. comp_zero a e.0 i + none_pending a e.1 i
  none_pending (inr A a) e = λ i. comp_zero a e.0 i + none_pending a e.1 i
  none_pending (case s l r) e = λ i. comp_zero s e.0 i + none_pending s e.1 i + none_pending l e.2 i + none_pending r e.3 i
  none_pending (unit A) e = refl

  none_pending_all : (ts : Terms) → EachAll ts Ops → pend_all ts ≡ 0
  none_pending_all done e = refl
  none_pending_all (arg t ts) e = λ i. none_pending t e.0 i + none_pending_all ts e.1 i

module _ (pure : Term → Bool) where
  count_steps : {t u : Term} {ss : List Stepped} → Steps pure Insertion t ss u → length ss ≡ pend t
  count_steps (ended {t = t} e) = sym (none_pending t (inserted pure t e))
  count_steps (stepped {t = t} {s = s} e q) = ap (λ (n : ℕ). suc n) (count_steps q) ∙ sym (lowers (one_step pure Insertion t s e))

  -- the steps of phase 1 are as many as the operand positions of t that hold a computation
  pub insertion_length : {t u : Term} {ss : List Stepped} → Steps pure Insertion t ss u → length ss ≡ pending t
  insertion_length {t} q = count_steps q ∙ sym (pending_structure t)

  -- so phase 1 ends
  pub record Inserted (t : Term) : Type 0 where
    pub steps : List Stepped
    pub last : Term
    pub are : Steps pure Insertion t steps last

  within : (n : ℕ) (t : Term) → pend t ≡ n → Inserted t
  within zero t h = go (step pure Insertion t) refl
    where
      go : (o : Option Stepped) → step pure Insertion t ≡ o → Inserted t
      go none e = record { steps = []; last = t; are = ended e }
      go (some s) e = let l = lowers (one_step pure Insertion t s e) in absurd (omega (arith, h, l))
  within (suc n) t h = go (step pure Insertion t) refl (λ u. within n u)
    where
      go : (o : Option Stepped) → step pure Insertion t ≡ o → ((u : Term) → pend u ≡ n → Inserted u) → Inserted t
      go none e r = record { steps = []; last = t; are = ended e }
      go (some s) e r =
          let l = lowers (one_step pure Insertion t s e) in
          let i = r s.next (omega (arith, h, l)) in
          record { steps = s ∷ i.steps; last = i.last; are = stepped e i.are }

  pub insertion_ends : (t : Term) → Inserted t
  insertion_ends t = within (pend t) t refl
