-- Sizes: a node is one word more than its parts, a renaming keeps the size, and a substitution adds the size of what is put in, less one
-- word, for each use of the variable.
use mathlib.Core.Path.{◌≡◌, refl, ap}
use Prim.Native.Nat.{ℕ, zero, suc, ◌+◌, ◌*◌, ◌≤◌}
use native.Mathlib.Omega.{arith}
use lib.Dec.{eqb, eqb-zero-suc, eqb-suc-zero, eqb-suc-suc}
use mathlib.Core.List.{◌++◌}
use lib.ListN.{length, length-append}
use Rattle.syntax.specs.Term.{Term, Terms, var, call, lam, app, bind, pair, fst, snd, inl, inr, case, unit, done, arg, node}
use Rattle.syntax.specs.Encoding.{encode, encode_all, size}
use Rattle.syntax.specs.Substitution.{under, traverse, traverse_all, renaming, rename, substitution, substitute, ◌⟦◌⟧}
use Rattle.syntax.specs.Under.{under_by, only_at}
use Rattle.syntax.specs.Values.{counts, uses, uses_all}
use Rattle.syntax.proofs.Nodes.{encode_node}

-- the number of words of a list of terms
abbrev pub size_all : Terms → ℕ
size_all ts = length (encode_all ts)

pub size_var : (n : ℕ) → size (var n) ≡ 1
unfolding size encode
size_var n = refl

pub size_call : (k : ℕ) (ts : Terms) → size (call k ts) ≡ suc (size_all ts)
unfolding size encode
size_call k ts = refl

pub size_lam : (A : ℕ) (b : Term) → size (lam A b) ≡ suc (size b)
unfolding size encode
size_lam A b = refl

pub size_app : (f a : Term) → size (app f a) ≡ suc (size f + size a)
unfolding size encode
size_app f a = ap suc (length-append (encode f) (encode a))

pub size_bind : (e b : Term) → size (bind e b) ≡ suc (size e + size b)
unfolding size encode
size_bind e b = ap suc (length-append (encode e) (encode b))

pub size_pair : (A : ℕ) (a b : Term) → size (pair A a b) ≡ suc (size a + size b)
unfolding size encode
size_pair A a b = ap suc (length-append (encode a) (encode b))

pub size_fst : (a : Term) → size (fst a) ≡ suc (size a)
unfolding size encode
size_fst a = refl

pub size_snd : (a : Term) → size (snd a) ≡ suc (size a)
unfolding size encode
size_snd a = refl

pub size_inl : (A : ℕ) (a : Term) → size (inl A a) ≡ suc (size a)
unfolding size encode
size_inl A a = refl

pub size_inr : (A : ℕ) (a : Term) → size (inr A a) ≡ suc (size a)
unfolding size encode
size_inr A a = refl

pub size_unit : (A : ℕ) → size (unit A) ≡ 1
unfolding size encode
size_unit A = refl

pub size_case : (s l r : Term) → size (case s l r) ≡ suc (size s + (size l + size r))
unfolding size encode
size_case s l r = omega (arith, length-append (encode s) (encode l ++ encode r), length-append (encode l) (encode r))

pub size_done : size_all done ≡ 0
unfolding encode
size_done = refl

pub size_arg : (t : Term) (ts : Terms) → size_all (arg t ts) ≡ size t + size_all ts
unfolding size encode
size_arg t ts = length-append (encode t) (encode_all ts)

pub size_node : (t : Term) → size t ≡ suc (size_all (node t).parts)
unfolding size
size_node t = ap length (encode_node t)

pub size_positive : (t : Term) → 1 ≤ size t
size_positive t = omega (arith, size_node t)

-- renaming
mutual
  unfolding size encode traverse

  pub size-rename : (t : Term) (f : ℕ → ℕ) → size (rename t f) ≡ size t
  size-rename (var n) f = refl
  size-rename (call k ts) f = ap suc (size_renames ts f)
  size-rename (lam A b) f = ap suc (size-rename b (under renaming f))
  size-rename (app a b) f = omega (arith, size_app (rename a f) (rename b f), size_app a b, size-rename a f, size-rename b f)
  size-rename (bind e b) f =
      let g = under renaming f in omega (arith, size_bind (rename e f) (rename b g), size_bind e b, size-rename e f, size-rename b g)
  size-rename (pair A a b) f = omega (arith, size_pair A (rename a f) (rename b f), size_pair A a b, size-rename a f, size-rename b f)
  size-rename (fst a) f = ap suc (size-rename a f)
  size-rename (snd a) f = ap suc (size-rename a f)
  size-rename (inl A a) f = ap suc (size-rename a f)
  size-rename (inr A a) f = ap suc (size-rename a f)
  size-rename (case s l r) f =
      let g = under renaming f in
      omega (arith, size_case (rename s f) (rename l g) (rename r g), size_case s l r, size-rename s f, size-rename l g, size-rename r g)
  size-rename (unit A) f = refl

  pub size_renames : (ts : Terms) (f : ℕ → ℕ) → size_all (traverse_all renaming ts f) ≡ size_all ts
  size_renames done f = refl
  size_renames (arg t ts) f =
      omega (arith, size_arg (rename t f) (traverse_all renaming ts f), size_arg t ts, size-rename t f, size_renames ts f)

-- substitution: what is put for one variable
size_put_var : (d : ℕ) (v : Term) (n : ℕ) → size (only_at d v n) + counts (eqb n d) ≡ 1 + counts (eqb n d) * size v
unfolding under_by
size_put_var zero v zero = omega arith
size_put_var zero v (suc n) = rw (eqb-suc-zero n) (omega (arith, size_var n))
size_put_var (suc d) v zero = rw (eqb-zero-suc d) (omega (arith, size_var 0))
size_put_var (suc d) v (suc n) = rw (eqb-suc-suc n d) (omega (arith, size-rename (only_at d v n) suc, size_put_var d v n))

-- substitution under d binders
module _ (v : Term) where
  abbrev put : Term → ℕ → Term
  put t d = substitute t (only_at d v)

  abbrev put_all : Terms → ℕ → Terms
  put_all ts d = traverse_all substitution ts (only_at d v)

  mutual
    unfolding traverse under_by uses

    pub size-only_at : (t : Term) (d : ℕ) → size (substitute t (only_at d v)) + uses t d ≡ size t + uses t d * size v
    size-only_at (var n) d = omega (arith, size_var n, size_put_var d v n)
    size-only_at (call k ts) d = omega (arith, size_call k (put_all ts d), size_call k ts, sizes-only_at ts d)
    size-only_at (lam A b) d = omega (arith, size_lam A (put b (suc d)), size_lam A b, size-only_at b (suc d))
    size-only_at (app a b) d = omega (arith, size_app (put a d) (put b d), size_app a b, size-only_at a d, size-only_at b d)
    size-only_at (bind e b) d = omega (arith, size_bind (put e d) (put b (suc d)), size_bind e b, size-only_at e d, size-only_at b (suc d))
    size-only_at (pair A a b) d = omega (arith, size_pair A (put a d) (put b d), size_pair A a b, size-only_at a d, size-only_at b d)
    size-only_at (fst a) d = omega (arith, size_fst (put a d), size_fst a, size-only_at a d)
    size-only_at (snd a) d = omega (arith, size_snd (put a d), size_snd a, size-only_at a d)
    size-only_at (inl A a) d = omega (arith, size_inl A (put a d), size_inl A a, size-only_at a d)
    size-only_at (inr A a) d = omega (arith, size_inr A (put a d), size_inr A a, size-only_at a d)
    size-only_at (case s l r) d =
        let e = suc d in
        omega (arith, size_case (put s d) (put l e) (put r e), size_case s l r, size-only_at s d, size-only_at l e, size-only_at r e)
    size-only_at (unit A) d = omega (arith, size_unit A)

    pub sizes-only_at : (ts : Terms) (d : ℕ)
        → size_all (traverse_all substitution ts (only_at d v)) + uses_all ts d ≡ size_all ts + uses_all ts d * size v
    sizes-only_at done d = omega (arith, size_done)
    sizes-only_at (arg t ts) d = omega (arith, size_arg (put t d) (put_all ts d), size_arg t ts, size-only_at t d, sizes-only_at ts d)

-- a body with v substituted for the variable it binds
pub size_substitute : (b v : Term) → size (b ⟦ v ⟧) + uses b 0 ≡ size b + uses b 0 * size v
unfolding under_by
size_substitute b v = size-only_at v b 0
