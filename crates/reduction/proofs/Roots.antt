-- The rules at a node as families, with the rules' tests as premises; and a step anywhere, for any relation at the node.
use mathlib.Core.Bool.{Bool}
use lib.Dec.{T, eqb}
use Prim.Native.Nat.{ℕ, suc}
use Rattle.syntax.specs.Term.{Term, Terms, var, call, lam, app, bind, pair, fst, snd, inl, inr, case, arg}
use Rattle.syntax.specs.Substitution.{traverse_all, renaming, rename, weaken, weaken_body, ◌⟦◌⟧}
use Rattle.syntax.specs.Values.{is_value, is_computation, uses}
use Rattle.reduction.specs.Rules.{lower}

-- p is the first computation of ts, and us are ts under a new binder with its variable for p
pub data Names : Terms → Term → Terms → Type 0 where
  this : {t : Term} {ts : Terms} → T (is_computation t) → Names (arg t ts) t (arg (var 0) (traverse_all renaming ts suc))
  next : {t p : Term} {ts us : Terms} → T (is_value t) → Names ts p us → Names (arg t ts) p (arg (weaken t) us)

-- phase 1: let
pub data Insert : Term → Term → Type 0 where
  i_call : {k : ℕ} {p : Term} {ts us : Terms} → Names ts p us → Insert (call k ts) (bind p (call k us))
  i_app₁ : {f a : Term} → T (is_computation f) → Insert (app f a) (bind f (app (var 0) (weaken a)))
  i_app₂ : {f a : Term} → T (is_value f) → T (is_computation a) → Insert (app f a) (bind a (app (weaken f) (var 0)))
  i_pair₁ : {A : ℕ} {a b : Term} → T (is_computation a) → Insert (pair A a b) (bind a (pair A (var 0) (weaken b)))
  i_pair₂ : {A : ℕ} {a b : Term} → T (is_value a) → T (is_computation b) → Insert (pair A a b) (bind b (pair A (weaken a) (var 0)))
  i_fst : {a : Term} → T (is_computation a) → Insert (fst a) (bind a (fst (var 0)))
  i_snd : {a : Term} → T (is_computation a) → Insert (snd a) (bind a (snd (var 0)))
  i_inl : {A : ℕ} {a : Term} → T (is_computation a) → Insert (inl A a) (bind a (inl A (var 0)))
  i_inr : {A : ℕ} {a : Term} → T (is_computation a) → Insert (inr A a) (bind a (inr A (var 0)))
  i_case : {s l r : Term} → T (is_computation s) → Insert (case s l r) (bind s (case (var 0) (weaken_body l) (weaken_body r)))

-- phase 2
pub data Reduce : Term → Term → Type 0 where
  r_let : {p b c : Term} → T (is_computation p) → Reduce (bind (bind p b) c) (bind p (bind b (weaken_body c)))
  r_case : {n : ℕ} {l r c : Term} → Reduce (bind (case (var n) l r) c) (case (var n) (bind l (weaken_body c)) (bind r (weaken_body c)))
  r_apply : {A : ℕ} {b v : Term} → T (is_value v) → Reduce (app (lam A b) v) (b ⟦ v ⟧)
  r_fst : {A : ℕ} {v w : Term} → T (is_value v) → T (is_value w) → Reduce (fst (pair A v w)) v
  r_snd : {A : ℕ} {v w : Term} → T (is_value v) → T (is_value w) → Reduce (snd (pair A v w)) w
  r_left : {A : ℕ} {v l r : Term} → T (is_value v) → Reduce (case (inl A v) l r) (l ⟦ v ⟧)
  r_right : {A : ℕ} {v l r : Term} → T (is_value v) → Reduce (case (inr A v) l r) (r ⟦ v ⟧)
  r_value : {v b : Term} → T (is_value v) → Reduce (bind v b) (b ⟦ v ⟧)

-- phase 3: drop, of what may be dropped
pub data Drops (pure : Term → Bool) : Term → Term → Type 0 where
  r_drop : {e b : Term} → T (is_computation e) → T (pure e) → T (eqb (uses b 0) 0) → Drops pure (bind e b) (rename b lower)

-- a step at a node, or in a part
mutual
  pub data Step (R : Term → Term → Type 0) : Term → Term → Type 0 where
    s_root : {t t' : Term} → R t t' → Step R t t'
    s_call : {k : ℕ} {ts us : Terms} → StepAll R ts us → Step R (call k ts) (call k us)
    s_lam : {A : ℕ} {b b' : Term} → Step R b b' → Step R (lam A b) (lam A b')
    s_app₁ : {a a' b : Term} → Step R a a' → Step R (app a b) (app a' b)
    s_app₂ : {a b b' : Term} → Step R b b' → Step R (app a b) (app a b')
    s_bind₁ : {a a' b : Term} → Step R a a' → Step R (bind a b) (bind a' b)
    s_bind₂ : {a b b' : Term} → Step R b b' → Step R (bind a b) (bind a b')
    s_pair₁ : {A : ℕ} {a a' b : Term} → Step R a a' → Step R (pair A a b) (pair A a' b)
    s_pair₂ : {A : ℕ} {a b b' : Term} → Step R b b' → Step R (pair A a b) (pair A a b')
    s_fst : {a a' : Term} → Step R a a' → Step R (fst a) (fst a')
    s_snd : {a a' : Term} → Step R a a' → Step R (snd a) (snd a')
    s_inl : {A : ℕ} {a a' : Term} → Step R a a' → Step R (inl A a) (inl A a')
    s_inr : {A : ℕ} {a a' : Term} → Step R a a' → Step R (inr A a) (inr A a')
    s_case₁ : {s s' l r : Term} → Step R s s' → Step R (case s l r) (case s' l r)
    s_case₂ : {s l l' r : Term} → Step R l l' → Step R (case s l r) (case s l' r)
    s_case₃ : {s l r r' : Term} → Step R r r' → Step R (case s l r) (case s l r')

  pub data StepAll (R : Term → Term → Type 0) : Terms → Terms → Type 0 where
    s_this : {t t' : Term} {ts : Terms} → Step R t t' → StepAll R (arg t ts) (arg t' ts)
    s_next : {t : Term} {ts us : Terms} → StepAll R ts us → StepAll R (arg t ts) (arg t us)
