-- The size of each rule's contractum, by the size of the node and of its parts: what a rule takes away stands left, what it adds right.
use mathlib.Core.Path.{◌≡◌}
use Prim.Native.Nat.{ℕ, suc, ◌+◌, ◌*◌}
use native.Mathlib.Omega.{arith}
use Rattle.syntax.specs.Term.{Term, Terms, var, call, lam, app, bind, pair, fst, snd, inl, inr, case}
use Rattle.syntax.specs.Encoding.{size}
use Rattle.syntax.specs.Substitution.{traverse_all, under, renaming, rename, weaken, weaken_body, ◌⟦◌⟧}
use Rattle.syntax.specs.Values.{uses}
use Rattle.syntax.proofs.Sizes.{size_all, size_var, size_call, size_lam, size_app, size_bind, size_pair, size_fst, size_snd, size_inl}
use Rattle.syntax.proofs.Sizes.{size_inr, size_case, size_arg, size-rename, size_renames, size_substitute}
use Rattle.reduction.specs.Rules.{lower}
use Rattle.reduction.proofs.Roots.{Names, this, next, Insert, i_call, i_app₁, i_app₂, i_pair₁, i_pair₂, i_fst, i_snd, i_inl, i_inr}
use Rattle.reduction.proofs.Roots.{i_case}

-- let: a let and a variable more
size_names : {ts us : Terms} {p : Term} → Names ts p us → size p + size_all us ≡ suc (size_all ts)
size_names (this {t = t} {ts = ts} h) =
    let us = traverse_all renaming ts suc in
    omega (arith, size_arg t ts, size_arg (var 0) us, size_var 0, size_renames ts suc)
size_names (next {t = t} {ts = ts} {us = us} h r) =
    omega (arith, size_arg t ts, size_arg (weaken t) us, size-rename t suc, size_names r)

pub size-let_insertion : {t t' : Term} → Insert t t' → size t' ≡ size t + 2
size-let_insertion (i_call {k = k} {p = p} {ts = ts} {us = us} r) =
    omega (arith, size_bind p (call k us), size_call k ts, size_call k us, size_names r)
size-let_insertion (i_app₁ {f = f} {a = a} h) =
    let u = app (var 0) (weaken a) in
    omega (arith, size_bind f u, size_app f a, size_app (var 0) (weaken a), size_var 0, size-rename a suc)
size-let_insertion (i_app₂ {f = f} {a = a} h k) =
    let u = app (weaken f) (var 0) in
    omega (arith, size_bind a u, size_app f a, size_app (weaken f) (var 0), size_var 0, size-rename f suc)
size-let_insertion (i_pair₁ {A = A} {a = a} {b = b} h) =
    let u = pair A (var 0) (weaken b) in
    omega (arith, size_bind a u, size_pair A a b, size_pair A (var 0) (weaken b), size_var 0, size-rename b suc)
size-let_insertion (i_pair₂ {A = A} {a = a} {b = b} h k) =
    let u = pair A (weaken a) (var 0) in
    omega (arith, size_bind b u, size_pair A a b, size_pair A (weaken a) (var 0), size_var 0, size-rename a suc)
size-let_insertion (i_fst {a = a} h) = omega (arith, size_bind a (fst (var 0)), size_fst a, size_fst (var 0), size_var 0)
size-let_insertion (i_snd {a = a} h) = omega (arith, size_bind a (snd (var 0)), size_snd a, size_snd (var 0), size_var 0)
size-let_insertion (i_inl {A = A} {a = a} h) = omega (arith, size_bind a (inl A (var 0)), size_inl A a, size_inl A (var 0), size_var 0)
size-let_insertion (i_inr {A = A} {a = a} h) = omega (arith, size_bind a (inr A (var 0)), size_inr A a, size_inr A (var 0), size_var 0)
size-let_insertion (i_case {s = s} {l = l} {r = r} h) =
    let f = under renaming suc in
    let u = case (var 0) (weaken_body l) (weaken_body r) in
    omega (
      arith,
      size_bind s u,
      size_case s l r,
      size_case (var 0) (weaken_body l) (weaken_body r),
      size_var 0,
      size-rename l f,
      size-rename r f,
    )

-- let of let: the same words, rearranged
pub size-let_of_let : (p b c : Term) → size (bind p (bind b (weaken_body c))) ≡ size (bind (bind p b) c)
size-let_of_let p b c =
    omega (
      arith,
      size_bind p (bind b (weaken_body c)),
      size_bind b (weaken_body c),
      size-rename c (under renaming suc),
      size_bind (bind p b) c,
      size_bind p b,
    )

-- let of case: the outer body is copied, with a let over it
pub size-let_of_case : (n : ℕ) (l r c : Term)
    → size (case (var n) (bind l (weaken_body c)) (bind r (weaken_body c))) ≡ size (bind (case (var n) l r) c) + (1 + size c)
size-let_of_case n l r c =
    omega (
      arith,
      size_case (var n) (bind l (weaken_body c)) (bind r (weaken_body c)),
      size_bind l (weaken_body c),
      size_bind r (weaken_body c),
      size-rename c (under renaming suc),
      size_bind (case (var n) l r) c,
      size_case (var n) l r,
    )

-- apply, left case, right case, let value: the node and what it does not keep go, and the value comes in for each use
pub size_apply : (A : ℕ) (b v : Term)
    → size (b ⟦ v ⟧) + (2 + size v + uses b 0) ≡ size (app (lam A b) v) + uses b 0 * size v
size_apply A b v = omega (arith, size_substitute b v, size_app (lam A b) v, size_lam A b)

pub size-left_case : (A : ℕ) (v l r : Term)
    → size (l ⟦ v ⟧) + (2 + size v + size r + uses l 0) ≡ size (case (inl A v) l r) + uses l 0 * size v
size-left_case A v l r = omega (arith, size_substitute l v, size_case (inl A v) l r, size_inl A v)

pub size-right_case : (A : ℕ) (v l r : Term)
    → size (r ⟦ v ⟧) + (2 + size v + size l + uses r 0) ≡ size (case (inr A v) l r) + uses r 0 * size v
size-right_case A v l r = omega (arith, size_substitute r v, size_case (inr A v) l r, size_inr A v)

pub size-let_value : (v b : Term) → size (b ⟦ v ⟧) + (1 + size v + uses b 0) ≡ size (bind v b) + uses b 0 * size v
size-let_value v b = omega (arith, size_substitute b v, size_bind v b)

-- first, second: one half stays
pub size_first : (A : ℕ) (v w : Term) → size v + (2 + size w) ≡ size (fst (pair A v w))
size_first A v w = omega (arith, size_fst (pair A v w), size_pair A v w)

pub size_second : (A : ℕ) (v w : Term) → size w + (2 + size v) ≡ size (snd (pair A v w))
size_second A v w = omega (arith, size_snd (pair A v w), size_pair A v w)

-- drop: the body stays
pub size-drop : (e b : Term) → size (rename b lower) + (1 + size e) ≡ size (bind e b)
size-drop e b = omega (arith, size-rename b lower, size_bind e b)
