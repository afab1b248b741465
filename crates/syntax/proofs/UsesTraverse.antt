-- How often a traversed term uses a variable, by how often the term uses two others: this is a sum over the variables of the term, so it is
-- enough to count in what is put for one variable.
use mathlib.Core.Path.{◌≡◌, ◌∙◌, ap}
use Prim.Native.Nat.{ℕ, zero, suc, ◌+◌, ◌*◌}
use native.Mathlib.Omega.{arith}
use lib.Dec.{eqb, eqb-zero-suc, eqb-suc-suc}
use Rattle.syntax.specs.Term.{Term, Terms, var, call, lam, app, bind, pair, fst, snd, inl, inr, case, unit, done, arg}
use Rattle.syntax.specs.Substitution.{Kit, under, traverse, traverse_all}
use Rattle.syntax.specs.Values.{counts, uses, uses_all}

-- a kit whose weakening moves every variable up by one
pub record Weakens {X : Type 0} (K : Kit X) : Type 0 where
  pub zeroth : (n : ℕ) → uses (K.term (K.variable 0)) n ≡ counts (eqb 0 n)
  pub fresh : (x : X) → uses (K.term (K.weaken x)) 0 ≡ 0
  pub moved : (x : X) (n : ℕ) → uses (K.term (K.weaken x)) (suc n) ≡ uses (K.term x) n

-- what is put for n uses n' a times, what is put for d uses it w times, and what is put for others does not
abbrev pub Puts : {X : Type 0} → Kit X → ℕ → ℕ → (ℕ → X) → ℕ → ℕ → ℕ → Type 0
Puts K a w f n' n d = (m : ℕ) → uses (K.term (f m)) n' ≡ a * counts (eqb m n) + w * counts (eqb m d)

module _ {X : Type 0} (K : Kit X) (weakens : Weakens K) (a w : ℕ) where
  -- kept under a binder
  pub puts_under : (f : ℕ → X) (n' n d : ℕ) → Puts K a w f n' n d → Puts K a w (under K f) (suc n') (suc n) (suc d)
  puts_under f n' n d h zero = rw (eqb-zero-suc n, eqb-zero-suc d)
      (weakens.zeroth (suc n') ∙ ap counts (eqb-zero-suc n') ∙ none a w)
    where
      none : (a w : ℕ) → 0 ≡ a * 0 + w * 0
      none a w = omega arith
  puts_under f n' n d h (suc m) = rw (eqb-suc-suc m n, eqb-suc-suc m d) (weakens.moved (f m) n' ∙ h m)

  mutual
    unfolding traverse uses

    pub uses_traverse : (t : Term) (f : ℕ → X) (n' n d : ℕ) → Puts K a w f n' n d
        → uses (traverse K t f) n' ≡ a * uses t n + w * uses t d
    uses_traverse (var m) f n' n d h = h m
    uses_traverse (call k ts) f n' n d h = uses_traverses ts f n' n d h
    uses_traverse (lam A b) f n' n d h = uses_traverse b (under K f) (suc n') (suc n) (suc d) (puts_under f n' n d h)
    uses_traverse (app x y) f n' n d h = omega (arith, uses_traverse x f n' n d h, uses_traverse y f n' n d h)
    uses_traverse (bind x y) f n' n d h =
        omega (arith, uses_traverse x f n' n d h, uses_traverse y (under K f) (suc n') (suc n) (suc d) (puts_under f n' n d h))
    uses_traverse (pair A x y) f n' n d h = omega (arith, uses_traverse x f n' n d h, uses_traverse y f n' n d h)
    uses_traverse (fst x) f n' n d h = uses_traverse x f n' n d h
    uses_traverse (snd x) f n' n d h = uses_traverse x f n' n d h
    uses_traverse (inl A x) f n' n d h = uses_traverse x f n' n d h
    uses_traverse (inr A x) f n' n d h = uses_traverse x f n' n d h
    uses_traverse (case s l r) f n' n d h =
        let u = puts_under f n' n d h in
        omega (
          arith,
          uses_traverse s f n' n d h,
          uses_traverse l (under K f) (suc n') (suc n) (suc d) u,
          uses_traverse r (under K f) (suc n') (suc n) (suc d) u,
        )
    uses_traverse (unit A) f n' n d h = omega arith

    pub uses_traverses : (ts : Terms) (f : ℕ → X) (n' n d : ℕ) → Puts K a w f n' n d
        → uses_all (traverse_all K ts f) n' ≡ a * uses_all ts n + w * uses_all ts d
    uses_traverses done f n' n d h = omega arith
    uses_traverses (arg t ts) f n' n d h = omega (arith, uses_traverse t f n' n d h, uses_traverses ts f n' n d h)
