-- What drop leaves: a let that binds an acting call, and over a table with an acting call a let that binds an application. A let that binds
-- anything else is dropped or not as if everything might be dropped, and so is every let over a table where no call acts.
use mathlib.Core.Path.{◌≡◌, refl, ap, subst⁻¹, fun_ext}
use mathlib.Core.Bool.{Bool, true, false, not, ◌&&◌, ◌||◌}
use mathlib.Core.List.{List}
use mathlib.Core.Option.{none}
use lib.Dec.{T, eqb, leb}
use Prim.Native.Nat.{ℕ}
use Rattle.syntax.specs.Maybe.{given}
use Rattle.syntax.specs.Substitution.{rename}
use Rattle.syntax.specs.Tables.{acts, some_acts}
use Rattle.syntax.specs.Term.{Term, Terms, var, call, lam, app, bind, pair, fst, snd, inl, inr, case, unit, node, parts_of, as_bind}
use Rattle.syntax.specs.Values.{is_value, is_computation, uses}
use Rattle.syntax.proofs.CallWords.{none_acts}
use Rattle.reduction.specs.MayDrop.{may_drop}
use Rattle.reduction.specs.Rules.{drop, lower}
use Rattle.reduction.specs.NormalForm.{needed, NormalValue, NormalValues, Normal, application, calling, letting}

module _ (calls : List ℕ) where
  -- an acting call stays, used or not
  pub acting_stays : (k : ℕ) (ts : Terms) (b : Term) → acts calls k ≡ true → drop (may_drop calls) (bind (call k ts) b) ≡ none
  unfolding drop may_drop as_bind parts_of node is_computation is_value
  acting_stays k ts b h = ap (λ (a : Bool). given (not a && eqb (uses b 0) 0) (rename b lower)) h

  -- so does an application, if some call of the table acts
  pub application_stays : (f a b : Term) → some_acts calls ≡ true → drop (may_drop calls) (bind (app f a) b) ≡ none
  unfolding drop may_drop as_bind parts_of node is_computation is_value
  application_stays f a b h = ap (λ (s : Bool). given (not s && eqb (uses b 0) 0) (rename b lower)) h

  -- first, second and a call that does not act are dropped as before
  pub call_drops : (k : ℕ) (ts : Terms) (b : Term) → acts calls k ≡ false
      → drop (may_drop calls) (bind (call k ts) b) ≡ drop (λ e. true) (bind (call k ts) b)
  unfolding drop may_drop as_bind parts_of node is_computation is_value
  call_drops k ts b h = ap (λ (a : Bool). given (not a && eqb (uses b 0) 0) (rename b lower)) h

  pub first_drops : (a b : Term) → drop (may_drop calls) (bind (fst a) b) ≡ drop (λ e. true) (bind (fst a) b)
  unfolding drop may_drop as_bind parts_of node is_computation is_value
  first_drops a b = refl

  pub second_drops : (a b : Term) → drop (may_drop calls) (bind (snd a) b) ≡ drop (λ e. true) (bind (snd a) b)
  unfolding drop may_drop as_bind parts_of node is_computation is_value
  second_drops a b = refl

-- the grammar of normal forms follows: a let that drop leaves is a normal form, used or not, if its parts are
module _ (calls : List ℕ) where
  abbrev pure : Term → Bool
  pure = may_drop calls

  stays_needed : (e b : Term) → pure e ≡ false → T (needed pure e b)
  unfolding needed
  stays_needed e b h = subst⁻¹ (λ (p : Bool). T (leb 1 (uses b 0) || not p)) h (or_true (leb 1 (uses b 0)))
    where
      or_true : (a : Bool) → T (a || true)
      or_true true = tt
      or_true false = tt

  pub acting_normal : {k : ℕ} {ts : Terms} {b : Term} → acts calls k ≡ true → NormalValues pure ts → Normal pure b
      → Normal pure (bind (call k ts) b)
  unfolding may_drop
  acting_normal {k} {ts} {b} h vs n = letting (calling vs) (stays_needed (call k ts) b (ap not h)) n

  pub application_normal : {n : ℕ} {a b : Term} → some_acts calls ≡ true → NormalValue pure a → Normal pure b
      → Normal pure (bind (app (var n) a) b)
  unfolding may_drop
  application_normal {n} {a} {b} h v m = letting (application v) (stays_needed (app (var n) a) b (ap not h)) m

module _ (calls : List ℕ) (none : some_acts calls ≡ false) where
  all_may_drop : (e : Term) → may_drop calls e ≡ true
  unfolding may_drop
  all_may_drop (var n) = refl
  all_may_drop (call k ts) = ap not (none_acts calls none k)
  all_may_drop (lam A b) = refl
  all_may_drop (app f a) = ap not none
  all_may_drop (bind e b) = refl
  all_may_drop (pair A a b) = refl
  all_may_drop (fst a) = refl
  all_may_drop (snd a) = refl
  all_may_drop (inl A a) = refl
  all_may_drop (inr A a) = refl
  all_may_drop (case s l r) = refl
  all_may_drop (unit A) = refl

  -- what may be dropped is then everything
  pub may_drop_all : may_drop calls ≡ (λ e. true)
  may_drop_all = fun_ext all_may_drop
