-- A term by the kind of its node: what holds of every term of a kind holds of a term whose node is of that kind.
use Prim.Native.Nat.{ℕ, zero, suc}
use mathlib.Core.Path.{◌≡◌, sym, subst}
use Rattle.syntax.specs.Term.{Term, Terms, var, call, lam, app, bind, pair, fst, snd, inl, inr, case, unit, node}

-- P holds of every term of a kind
abbrev pub OfKind : (Term → Type 0) → ℕ → Type 0
OfKind P zero = (n : ℕ) → P (var n)
OfKind P (suc zero) = (n : ℕ) (ts : Terms) → P (call n ts)
OfKind P (suc (suc zero)) = (A : ℕ) (b : Term) → P (lam A b)
OfKind P (suc (suc (suc zero))) = (f a : Term) → P (app f a)
OfKind P (suc (suc (suc (suc zero)))) = (e b : Term) → P (bind e b)
OfKind P (suc (suc (suc (suc (suc zero))))) = (A : ℕ) (a b : Term) → P (pair A a b)
OfKind P (suc (suc (suc (suc (suc (suc zero)))))) = (a : Term) → P (fst a)
OfKind P (suc (suc (suc (suc (suc (suc (suc zero))))))) = (a : Term) → P (snd a)
OfKind P (suc (suc (suc (suc (suc (suc (suc (suc zero)))))))) = (A : ℕ) (a : Term) → P (inl A a)
OfKind P (suc (suc (suc (suc (suc (suc (suc (suc (suc zero))))))))) = (A : ℕ) (a : Term) → P (inr A a)
OfKind P (suc (suc (suc (suc (suc (suc (suc (suc (suc (suc zero)))))))))) = (s l r : Term) → P (case s l r)
OfKind P (suc (suc (suc (suc (suc (suc (suc (suc (suc (suc (suc zero))))))))))) = (A : ℕ) → P (unit A)
OfKind P (suc (suc (suc (suc (suc (suc (suc (suc (suc (suc (suc (suc k)))))))))))) = Unit

of_node : (P : Term → Type 0) (t : Term) → OfKind P (node t).kind → P t
unfolding node
of_node P (var n) h = h n
of_node P (call k ts) h = h k ts
of_node P (lam A b) h = h A b
of_node P (app f a) h = h f a
of_node P (bind e b) h = h e b
of_node P (pair A a b) h = h A a b
of_node P (fst a) h = h a
of_node P (snd a) h = h a
of_node P (inl A a) h = h A a
of_node P (inr A a) h = h A a
of_node P (case s l r) h = h s l r
of_node P (unit A) h = h A

pub by_kind : (P : Term → Type 0) (k : ℕ) (t : Term) → (node t).kind ≡ k → OfKind P k → P t
by_kind P k t e h = of_node P t (subst (OfKind P) (sym e) h)
