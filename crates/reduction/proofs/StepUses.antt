-- A step uses no new variable: no rule's contractum does, and a node uses what its parts use.
use mathlib.Core.Path.{◌≡◌, ◌∙◌, ap}
use mathlib.Core.Bool.{Bool}
use mathlib.Core.Option.{some}
use lib.Dec.{eqb→eq, eqb-zero-suc}
use Prim.Native.Nat.{ℕ, suc, ◌+◌}
use native.Mathlib.Omega.{arith}
use Rattle.syntax.specs.Term.{Term, Terms, var}
use Rattle.syntax.specs.Substitution.{◌⟦◌⟧}
use Rattle.syntax.specs.Values.{counts, uses, uses_all}
use Rattle.syntax.proofs.Options.{every_at}
use Rattle.syntax.proofs.Uses.{uses-weaken-suc, uses_weakens_suc, uses-weaken_body_past, uses_substitute}
use Rattle.reduction.specs.declared.Phase.{Phase}
use Rattle.reduction.specs.declared.Phase.TheVariants.{Insertion, Reduction, Dropping}
use Rattle.reduction.specs.Redex.{Step as Stepped, step}
use Rattle.reduction.proofs.DropSubstitutes.{uses_lower}
use Rattle.reduction.proofs.Roots.{Names, this, next, Insert, i_call, i_app₁, i_app₂, i_pair₁, i_pair₂, i_fst, i_snd, i_inl, i_inr}
use Rattle.reduction.proofs.Roots.{i_case, Reduce, r_let, r_case, r_apply, r_fst, r_snd, r_left, r_right, r_value, Drops, r_drop}
use Rattle.reduction.proofs.Roots.{Step, StepAll, s_root, s_call, s_lam, s_app₁, s_app₂, s_bind₁, s_bind₂, s_pair₁, s_pair₂, s_fst}
use Rattle.reduction.proofs.Roots.{s_snd, s_inl, s_inr, s_case₁, s_case₂, s_case₃, s_this, s_next}
use Rattle.reduction.proofs.Fits.{Root}
use Rattle.reduction.proofs.Search.{step_is}

zeroth : (n : ℕ) → uses (var 0) (suc n) ≡ 0
unfolding uses
zeroth n = ap counts (eqb-zero-suc n)

-- phase 1: each variable is used as often as before
names_uses : {ts us : Terms} {p : Term} (n : ℕ) → Names ts p us → uses p n + uses_all us (suc n) ≡ uses_all ts n
unfolding uses
names_uses n (this {ts = ts} h) = omega (arith, zeroth n, uses_weakens_suc ts n)
names_uses n (next {t = t} h r) = omega (arith, uses-weaken-suc t n, names_uses n r)

pub insert_uses : {t t' : Term} (n : ℕ) → Insert t t' → uses t' n ≡ uses t n
unfolding uses
insert_uses n (i_call r) = names_uses n r
insert_uses n (i_app₁ {a = a} h) = omega (arith, zeroth n, uses-weaken-suc a n)
insert_uses n (i_app₂ {f = f} h k) = omega (arith, zeroth n, uses-weaken-suc f n)
insert_uses n (i_pair₁ {b = b} h) = omega (arith, zeroth n, uses-weaken-suc b n)
insert_uses n (i_pair₂ {a = a} h k) = omega (arith, zeroth n, uses-weaken-suc a n)
insert_uses n (i_fst h) = omega (arith, zeroth n)
insert_uses n (i_snd h) = omega (arith, zeroth n)
insert_uses n (i_inl h) = omega (arith, zeroth n)
insert_uses n (i_inr h) = omega (arith, zeroth n)
insert_uses n (i_case {l = l} {r = r} h) = omega (arith, zeroth n, uses-weaken_body_past l n, uses-weaken_body_past r n)

-- phase 2: what is put in is used by the node
unused_substitute : (b v : Term) (n : ℕ) → uses b (suc n) ≡ 0 → uses v n ≡ 0 → uses (b ⟦ v ⟧) n ≡ 0
unused_substitute b v n h k = uses_substitute b v n ∙ rw (h, k) (omega arith)

pub reduce_uses : {t t' : Term} (n : ℕ) → Reduce t t' → uses t n ≡ 0 → uses t' n ≡ 0
unfolding uses
reduce_uses n (r_let {c = c} h) e = omega (arith, uses-weaken_body_past c n, e)
reduce_uses n (r_case {c = c}) e = omega (arith, uses-weaken_body_past c n, e)
reduce_uses n (r_apply {b = b} {v = v} h) e = unused_substitute b v n (omega (arith, e)) (omega (arith, e))
reduce_uses n (r_fst h k) e = omega (arith, e)
reduce_uses n (r_snd h k) e = omega (arith, e)
reduce_uses n (r_left {v = v} {l = l} h) e = unused_substitute l v n (omega (arith, e)) (omega (arith, e))
reduce_uses n (r_right {v = v} {r = r} h) e = unused_substitute r v n (omega (arith, e)) (omega (arith, e))
reduce_uses n (r_value {v = v} {b = b} h) e = unused_substitute b v n (omega (arith, e)) (omega (arith, e))

-- phase 3
pub drops_uses : {pure : Term → Bool} {t t' : Term} (n : ℕ) → Drops pure t t' → uses t n ≡ 0 → uses t' n ≡ 0
unfolding uses
drops_uses n (r_drop {b = b} h k u) e = uses_lower b n (eqb→eq (uses b 0) 0 u) ∙ omega (arith, e)

-- a step anywhere
module _ (R : Term → Term → Type 0) (root : (t t' : Term) (n : ℕ) → R t t' → uses t n ≡ 0 → uses t' n ≡ 0) where
  mutual
    unfolding uses

    pub anywhere_uses : {t t' : Term} (n : ℕ) → Step R t t' → uses t n ≡ 0 → uses t' n ≡ 0
    anywhere_uses n (s_root {t = t} {t' = t'} r) e = root t t' n r e
    anywhere_uses n (s_call s) e = anywheres_uses n s e
    anywhere_uses n (s_lam s) e = anywhere_uses (suc n) s e
    anywhere_uses n (s_app₁ s) e = omega (arith, anywhere_uses n s (omega (arith, e)), e)
    anywhere_uses n (s_app₂ s) e = omega (arith, anywhere_uses n s (omega (arith, e)), e)
    anywhere_uses n (s_bind₁ s) e = omega (arith, anywhere_uses n s (omega (arith, e)), e)
    anywhere_uses n (s_bind₂ s) e = omega (arith, anywhere_uses (suc n) s (omega (arith, e)), e)
    anywhere_uses n (s_pair₁ s) e = omega (arith, anywhere_uses n s (omega (arith, e)), e)
    anywhere_uses n (s_pair₂ s) e = omega (arith, anywhere_uses n s (omega (arith, e)), e)
    anywhere_uses n (s_fst s) e = anywhere_uses n s e
    anywhere_uses n (s_snd s) e = anywhere_uses n s e
    anywhere_uses n (s_inl s) e = anywhere_uses n s e
    anywhere_uses n (s_inr s) e = anywhere_uses n s e
    anywhere_uses n (s_case₁ s) e = omega (arith, anywhere_uses n s (omega (arith, e)), e)
    anywhere_uses n (s_case₂ s) e = omega (arith, anywhere_uses (suc n) s (omega (arith, e)), e)
    anywhere_uses n (s_case₃ s) e = omega (arith, anywhere_uses (suc n) s (omega (arith, e)), e)

    pub anywheres_uses : {ts us : Terms} (n : ℕ) → StepAll R ts us → uses_all ts n ≡ 0 → uses_all us n ≡ 0
    anywheres_uses n (s_this s) e = omega (arith, anywhere_uses n s (omega (arith, e)), e)
    anywheres_uses n (s_next s) e = omega (arith, anywheres_uses n s (omega (arith, e)), e)

module _ (pure : Term → Bool) where
  root_uses : (phase : Phase) (t t' : Term) (n : ℕ) → Root pure phase t t' → uses t n ≡ 0 → uses t' n ≡ 0
  root_uses Insertion t t' n r e = insert_uses n r ∙ e
  root_uses Reduction t t' n r e = reduce_uses n r e
  root_uses Dropping t t' n r e = drops_uses n r e

  pub step_uses : (phase : Phase) (t : Term) (s : Stepped) → step pure phase t ≡ some s → (n : ℕ) → uses t n ≡ 0 → uses s.next n ≡ 0
  step_uses phase t s e n u = anywhere_uses (Root pure phase) (root_uses phase) n (every_at s (step_is pure phase t) e) u
