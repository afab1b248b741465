-- The operand positions of a renamed node are the node's own: as many, in the same order, each operand renamed, and the node around each
-- renamed too. With a renaming that moves a node under one more binder, this is what the rule `let` reads side by side.
use mathlib.Core.Path.{◌≡◌, refl}
use mathlib.Core.List.{List, [], ◌∷◌}
use Prim.Native.Nat.{ℕ}
use Rattle.syntax.specs.Term.{Term, Terms, var, call, lam, app, bind, pair, fst, snd, inl, inr, case, unit, done, arg}
use Rattle.syntax.specs.Substitution.{traverse, traverse_all, renaming, rename}
use Rattle.syntax.specs.Values.{Operand, arguments_in, operands}

-- position by position
pub data Renamed (f : ℕ → ℕ) : List Operand → List Operand → Type 0 where
  no_more : Renamed f [] []
  one_more : {p q : Operand} {ps qs : List Operand} → q.operand ≡ rename p.operand f
      → ((x : Term) → q.plug (rename x f) ≡ rename (p.plug x) f) → Renamed f ps qs → Renamed f (p ∷ ps) (q ∷ qs)

-- a call's arguments; C and D are the call and the renamed call by their arguments
arguments_renamed : (f : ℕ → ℕ) (C D : Terms → Term) → ((ts : Terms) → D (traverse_all renaming ts f) ≡ rename (C ts) f) → (ts : Terms)
    → Renamed f (arguments_in C ts) (arguments_in D (traverse_all renaming ts f))
unfolding traverse arguments_in
arguments_renamed f C D h done = no_more
arguments_renamed f C D h (arg t ts) = one_more refl (λ x. h (arg x ts))
    (arguments_renamed f (λ us. C (arg t us)) (λ us. D (arg (rename t f) us)) (λ us. h (arg t us)) ts)

pub operands_renamed : (f : ℕ → ℕ) (t : Term) → Renamed f (operands t) (operands (rename t f))
unfolding traverse operands
operands_renamed f (var n) = no_more
operands_renamed f (call k ts) = arguments_renamed f (call k) (call k) (λ us. refl) ts
operands_renamed f (lam A b) = no_more
operands_renamed f (app a b) = one_more refl (λ x. refl) (one_more refl (λ x. refl) no_more)
operands_renamed f (bind e b) = no_more
operands_renamed f (pair A a b) = one_more refl (λ x. refl) (one_more refl (λ x. refl) no_more)
operands_renamed f (fst a) = one_more refl (λ x. refl) no_more
operands_renamed f (snd a) = one_more refl (λ x. refl) no_more
operands_renamed f (inl A a) = one_more refl (λ x. refl) no_more
operands_renamed f (inr A a) = one_more refl (λ x. refl) no_more
operands_renamed f (case s l r) = one_more refl (λ x. refl) no_more
operands_renamed f (unit A) = no_more
