-- A traversal that puts values for variables keeps values values and computations computations: an equation of the tests, for every kit.
use mathlib.Core.Path.{◌≡◌, refl, sym, ap₂, subst}
use mathlib.Core.Bool.{true, ◌&&◌}
use lib.Dec.{T}
use Prim.Native.Nat.{ℕ}
use Rattle.syntax.specs.Term.{Term, var, call, lam, app, bind, pair, fst, snd, inl, inr, case, unit}
use Rattle.syntax.specs.Substitution.{Kit, traverse, renaming, rename, substitution, substitute}
use Rattle.syntax.specs.Values.{is_value}

module _ {X : Type 0} (K : Kit X) where
  pub value_traverse : (t : Term) (f : ℕ → X) → ((n : ℕ) → is_value (K.term (f n)) ≡ true) → is_value (traverse K t f) ≡ is_value t
  unfolding is_value traverse
  value_traverse (var n) f h = h n
  value_traverse (call k ts) f h = refl
  value_traverse (lam A b) f h = refl
  value_traverse (app a b) f h = refl
  value_traverse (bind a b) f h = refl
  value_traverse (pair A a b) f h = ap₂ ◌&&◌ (value_traverse a f h) (value_traverse b f h)
  value_traverse (fst a) f h = refl
  value_traverse (snd a) f h = refl
  value_traverse (inl A a) f h = value_traverse a f h
  value_traverse (inr A a) f h = value_traverse a f h
  value_traverse (case s l r) f h = refl
  value_traverse (unit A) f h = refl

  pub value_kept : (t : Term) (f : ℕ → X) → ((n : ℕ) → is_value (K.term (f n)) ≡ true) → T (is_value t) → T (is_value (traverse K t f))
  value_kept t f h v = subst T (sym (value_traverse t f h)) v

pub value_rename : (t : Term) (f : ℕ → ℕ) → is_value (rename t f) ≡ is_value t
unfolding is_value
value_rename t f = value_traverse renaming t f (λ n. refl)

pub value_renamed : (t : Term) (f : ℕ → ℕ) → T (is_value t) → T (is_value (rename t f))
value_renamed t f h = subst T (sym (value_rename t f)) h

pub value_sub : (t : Term) (s : ℕ → Term) → ((n : ℕ) → is_value (s n) ≡ true) → is_value (substitute t s) ≡ is_value t
value_sub t s h = value_traverse substitution t s h
