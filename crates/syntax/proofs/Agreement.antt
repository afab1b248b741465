-- A traversal looks only at what is put for the variables that the term uses; and a renaming is a substitution that puts variables.
use mathlib.Core.Path.{◌≡◌, refl, sym, ◌∙◌, ap, ap₂}
use Prim.Native.Nat.{ℕ, zero, suc, ◌≤◌}
use Rattle.syntax.specs.Term.{Term, Terms, var, call, lam, app, bind, pair, fst, snd, inl, inr, case, unit, done, arg}
use Rattle.syntax.specs.Substitution.{Kit, under, traverse, traverse_all, rename, weaken, substitution, substitute}
use Rattle.syntax.specs.Values.{uses, uses_all}
use Rattle.syntax.proofs.Algebra.{identity, sub_rename}
use Rattle.syntax.proofs.Options.{uses_itself, add_left, add_right}

module _ {X : Type 0} (K : Kit X) where
  -- the same is put for every variable that a term uses
  abbrev SameOn : (ℕ → ℕ) → (ℕ → X) → (ℕ → X) → Type 0
  SameOn used f g = (n : ℕ) → 1 ≤ used n → f n ≡ g n

  same_under : (used : ℕ → ℕ) (f g : ℕ → X) → ((n : ℕ) → 1 ≤ used (suc n) → f n ≡ g n) → SameOn used (under K f) (under K g)
  same_under used f g h zero u = refl
  same_under used f g h (suc n) u = ap K.weaken (h n u)

  mutual
    unfolding traverse uses

    pub traverse_agrees : (t : Term) (f g : ℕ → X) → ((n : ℕ) → 1 ≤ uses t n → f n ≡ g n) → traverse K t f ≡ traverse K t g
    traverse_agrees (var n) f g h = ap K.term (h n (uses_itself n))
    traverse_agrees (call k ts) f g h = ap (call k) (traverses_agree ts f g h)
    traverse_agrees (lam A b) f g h = ap (lam A) (traverse_agrees b (under K f) (under K g) (same_under (uses b) f g h))
    traverse_agrees (app a b) f g h = ap₂ app (traverse_agrees a f g (λ n u. h n (add_left (uses a n) (uses b n) u)))
        (traverse_agrees b f g (λ n u. h n (add_right (uses a n) (uses b n) u)))
    traverse_agrees (bind a b) f g h = ap₂ bind (traverse_agrees a f g (λ n u. h n (add_left (uses a n) (uses b (suc n)) u)))
        (traverse_agrees b (under K f) (under K g) (same_under (uses b) f g (λ n u. h n (add_right (uses a n) (uses b (suc n)) u))))
    traverse_agrees (pair A a b) f g h = ap₂ (pair A) (traverse_agrees a f g (λ n u. h n (add_left (uses a n) (uses b n) u)))
        (traverse_agrees b f g (λ n u. h n (add_right (uses a n) (uses b n) u)))
    traverse_agrees (fst a) f g h = ap fst (traverse_agrees a f g h)
    traverse_agrees (snd a) f g h = ap snd (traverse_agrees a f g h)
    traverse_agrees (inl A a) f g h = ap (inl A) (traverse_agrees a f g h)
    traverse_agrees (inr A a) f g h = ap (inr A) (traverse_agrees a f g h)
    traverse_agrees (case s l r) f g h =
        let p = traverse_agrees s f g (λ n u. h n (add_left (uses s n) _ u)) in
        let q = traverse_agrees l (under K f) (under K g)
        (same_under (uses l) f g (λ n u. h n (add_right (uses s n) _ (add_left (uses l (suc n)) (uses r (suc n)) u)))) in
        let o = traverse_agrees r (under K f) (under K g)
        (same_under (uses r) f g (λ n u. h n (add_right (uses s n) _ (add_right (uses l (suc n)) (uses r (suc n)) u)))) in
        λ i. case (p i) (q i) (o i)
    traverse_agrees (unit A) f g h = refl

    pub traverses_agree : (ts : Terms) (f g : ℕ → X) → ((n : ℕ) → 1 ≤ uses_all ts n → f n ≡ g n) → traverse_all K ts f ≡ traverse_all K ts g
    traverses_agree done f g h = refl
    traverses_agree (arg t ts) f g h = ap₂ arg (traverse_agrees t f g (λ n u. h n (add_left (uses t n) (uses_all ts n) u)))
        (traverses_agree ts f g (λ n u. h n (add_right (uses t n) (uses_all ts n) u)))

lift_var : (f : ℕ → Term) → ((n : ℕ) → f n ≡ var n) → (n : ℕ) → under substitution f n ≡ var n
unfolding traverse
lift_var f h zero = refl
lift_var f h (suc n) = ap weaken (h n)

pub sub_id : (t : Term) → substitute t var ≡ t
sub_id t = identity substitution lift_var t var (λ n. refl)

-- a renaming as a substitution
pub rename_is : (t : Term) (f : ℕ → ℕ) → rename t f ≡ substitute t (λ n. var (f n))
rename_is t f = sym (sub_id (rename t f)) ∙ sub_rename t f var
