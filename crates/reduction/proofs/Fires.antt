-- What a rule makes of a node that it fits, by the shapes of the two: each rule looks through views, and its test is the premise.
use mathlib.Core.Path.{◌≡◌, refl, sym, ◌∙◌, ap, subst}
use mathlib.Core.Bool.{Bool, true, false, ◌&&◌, not}
use mathlib.Core.Option.{Option, some, none}
use lib.Dec.{T, eqb}
use Prim.Native.Nat.{ℕ, suc}
use Rattle.syntax.specs.Term.{Term, Terms, var, call, lam, app, bind, pair, fst, snd, inl, inr, case, unit, done, arg}
use Rattle.syntax.specs.Substitution.{traverse, traverse_all, renaming, rename, weaken, weaken_body, ◌⟦◌⟧}
use Rattle.syntax.specs.Values.{is_value, is_computation, arguments_in, operands, uses}
use Rattle.reduction.specs.Rules.{name_first, let_insertion, let_of_let, let_of_case, apply, first, second, left_case, right_case, let_value}
use Rattle.reduction.specs.Rules.{lower, drop, fire}
use Rattle.reduction.specs.declared.Rule.{Rule}
use Rattle.reduction.specs.declared.Rule.TheVariants.{LetInsertion, LetOfLet, LetOfCase, Apply, First, Second, LeftCase, RightCase}
use Rattle.reduction.specs.declared.Rule.TheVariants.{LetValue, Drop}
use Rattle.syntax.proofs.Options.{Every, every_none, every_some, every_bind, every_given, every_to, and_left, and_right}
use Rattle.syntax.proofs.Views.{var_is, lam_is, app_is, bind_is, pair_is, fst_is, snd_is, inl_is, inr_is, case_is}
use Rattle.reduction.proofs.Roots.{Names, this, next, Insert, i_call, i_app₁, i_app₂, i_pair₁, i_pair₂, i_fst, i_snd, i_inl, i_inr}
use Rattle.reduction.proofs.Roots.{i_case}

-- let insertion
-- the named argument, and the arguments under its let
record NamedBy (D : Terms → Term) (ts : Terms) (u : Term) : Type 0 where
  p : Term
  us : Terms
  names : Names ts p us
  is : u ≡ bind p (D us)

arguments_named : (C D : Terms → Term) (ts : Terms)
    → Every (NamedBy D ts) (name_first (arguments_in C ts) (arguments_in D (traverse_all renaming ts suc)))
unfolding name_first arguments_in traverse is_computation
arguments_named C D done = every_none
arguments_named C D (arg t ts) = go (is_value t) (λ h. h) (λ h. h) (arguments_named (λ us. C (arg t us)) (λ us. D (arg (weaken t) us)) ts)
  where
    more : T (is_value t) → (u : Term) → NamedBy (λ us. D (arg (weaken t) us)) ts u → NamedBy D (arg t ts) u
    more h u n = record { p = n.p; us = arg (weaken t) n.us; names = next h n.names; is = n.is }

    go : (b : Bool) → (T b → T (is_value t)) → (T (not b) → T (not (is_value t))) → {o : Option Term}
        → Every (NamedBy (λ us. D (arg (weaken t) us)) ts) o
        → Every (NamedBy D (arg t ts)) (elim b [ true ↦ o | false ↦ some (bind t (D (arg (var 0) (traverse_all renaming ts suc)))) ])
    go true h k e = every_to (more (h tt)) e
    go false h k e = every_some (record { p = t; us = arg (var 0) (traverse_all renaming ts suc); names = this (k tt); is = refl })

-- one operand, and two
one_operand : {t u : Term} (b : Bool) → (T (not b) → Insert t u)
    → Every (Insert t) (elim b as (λ _. Option Term) [ true ↦ none | false ↦ some u ])
one_operand true h = every_none
one_operand false h = every_some (h tt)

two_operands : {t u w : Term} (b c : Bool) → (T (not b) → Insert t u) → (T b → T (not c) → Insert t w)
    → Every (Insert t)
    (elim b as (λ _. Option Term) [ true ↦ elim c as (λ _. Option Term) [ true ↦ none | false ↦ some w ] | false ↦ some u ])
two_operands true true h k = every_none
two_operands true false h k = every_some (k tt tt)
two_operands false c h k = every_some (h tt)

insert_is : (t : Term) → Every (Insert t) (let_insertion t)
unfolding let_insertion name_first operands traverse is_computation
insert_is (var n) = every_none
insert_is (call k ts) = every_to (λ u n. subst (λ (w : Term). Insert (call k ts) w) (sym n.is) (i_call n.names))
    (arguments_named (call k) (call k) ts)
insert_is (lam A b) = every_none
insert_is (app f a) = two_operands (is_value f) (is_value a) i_app₁ i_app₂
insert_is (bind e b) = every_none
insert_is (pair A a b) = two_operands (is_value a) (is_value b) i_pair₁ i_pair₂
insert_is (fst a) = one_operand (is_value a) i_fst
insert_is (snd a) = one_operand (is_value a) i_snd
insert_is (inl A a) = one_operand (is_value a) i_inl
insert_is (inr A a) = one_operand (is_value a) i_inr
insert_is (case s l r) = one_operand (is_value s) i_case
insert_is (unit A) = every_none

-- a rule, a node that it fits, and what it makes of it
pub data Fires (pure : Term → Bool) : Rule → Term → Term → Type 0 where
  f_insertion : {t u : Term} → Insert t u → Fires pure LetInsertion t u
  f_let : {p b c : Term} → T (is_computation p) → Fires pure LetOfLet (bind (bind p b) c) (bind p (bind b (weaken_body c)))
  f_case : {n : ℕ} {l r c : Term}
      → Fires pure LetOfCase (bind (case (var n) l r) c) (case (var n) (bind l (weaken_body c)) (bind r (weaken_body c)))
  f_apply : {A : ℕ} {b v : Term} → T (is_value v) → Fires pure Apply (app (lam A b) v) (b ⟦ v ⟧)
  f_first : {A : ℕ} {v w : Term} → T (is_value v) → T (is_value w) → Fires pure First (fst (pair A v w)) v
  f_second : {A : ℕ} {v w : Term} → T (is_value v) → T (is_value w) → Fires pure Second (snd (pair A v w)) w
  f_left : {A : ℕ} {v l r : Term} → T (is_value v) → Fires pure LeftCase (case (inl A v) l r) (l ⟦ v ⟧)
  f_right : {A : ℕ} {v l r : Term} → T (is_value v) → Fires pure RightCase (case (inr A v) l r) (r ⟦ v ⟧)
  f_value : {v b : Term} → T (is_value v) → Fires pure LetValue (bind v b) (b ⟦ v ⟧)
  f_drop : {e b : Term} → T (is_computation e) → T (pure e) → T (eqb (uses b 0) 0) → Fires pure Drop (bind e b) (rename b lower)

module _ (pure : Term → Bool) where
  at_is : {r : Rule} {t t' u : Term} → t ≡ t' → Fires pure r t' u → Fires pure r t u
  at_is {r = r} {u = u} e f = subst (λ (x : Term). Fires pure r x u) (sym e) f

  let_of_let_is : (t : Term) → Every (Fires pure LetOfLet t) (let_of_let t)
  unfolding let_of_let
  let_of_let_is t =
      every_bind _ (bind_is t) λ x i.
      every_bind _ (bind_is x.0) λ y j.
      every_given (is_computation y.0) (bind y.0 (bind y.1 (weaken_body x.1))) λ h. at_is (i ∙ ap (λ (z : Term). bind z x.1) j)
      (f_let h)

  let_of_case_is : (t : Term) → Every (Fires pure LetOfCase t) (let_of_case t)
  unfolding let_of_case
  let_of_case_is t =
      every_bind _ (bind_is t) λ x i.
      every_bind _ (case_is x.0) λ y j.
      every_bind _ (var_is y.0) λ n k.
      every_some (at_is (i ∙ ap (λ (z : Term). bind z x.1) (j ∙ ap (λ (z : Term). case z y.1 y.2) k)) f_case)

  apply_is : (t : Term) → Every (Fires pure Apply t) (apply t)
  unfolding apply
  apply_is t =
      every_bind _ (app_is t) λ x i.
      every_bind _ (lam_is x.0) λ b j.
      every_given (is_value x.1) (b ⟦ x.1 ⟧) λ h. at_is (i ∙ ap (λ (z : Term). app z x.1) j) (f_apply h)

  first_is : (t : Term) → Every (Fires pure First t) (first t)
  unfolding first
  first_is t =
      every_bind _ (fst_is t) λ p i.
      every_bind _ (pair_is p) λ x j.
      every_given (is_value x.0 && is_value x.1) x.0 λ h. at_is (i ∙ ap fst j)
      (f_first (and_left (is_value x.0) (is_value x.1) h) (and_right (is_value x.0) (is_value x.1) h))

  second_is : (t : Term) → Every (Fires pure Second t) (second t)
  unfolding second
  second_is t =
      every_bind _ (snd_is t) λ p i.
      every_bind _ (pair_is p) λ x j.
      every_given (is_value x.0 && is_value x.1) x.1 λ h. at_is (i ∙ ap snd j)
      (f_second (and_left (is_value x.0) (is_value x.1) h) (and_right (is_value x.0) (is_value x.1) h))

  left_case_is : (t : Term) → Every (Fires pure LeftCase t) (left_case t)
  unfolding left_case
  left_case_is t =
      every_bind _ (case_is t) λ x i.
      every_bind _ (inl_is x.0) λ v j.
      every_given (is_value v) (x.1 ⟦ v ⟧) λ h. at_is (i ∙ ap (λ (z : Term). case z x.1 x.2) j) (f_left h)

  right_case_is : (t : Term) → Every (Fires pure RightCase t) (right_case t)
  unfolding right_case
  right_case_is t =
      every_bind _ (case_is t) λ x i.
      every_bind _ (inr_is x.0) λ v j.
      every_given (is_value v) (x.2 ⟦ v ⟧) λ h. at_is (i ∙ ap (λ (z : Term). case z x.1 x.2) j) (f_right h)

  let_value_is : (t : Term) → Every (Fires pure LetValue t) (let_value t)
  unfolding let_value
  let_value_is t =
      every_bind _ (bind_is t) λ x i.
      every_given (is_value x.0) (x.1 ⟦ x.0 ⟧) λ h. at_is i (f_value h)

  drop_is : (t : Term) → Every (Fires pure Drop t) (drop pure t)
  unfolding drop
  drop_is t =
      every_bind _ (bind_is t) λ x i.
      every_given (is_computation x.0 && pure x.0 && eqb (uses x.1 0) 0) (rename x.1 lower) λ h.
      let j = and_left (is_computation x.0 && pure x.0) (eqb (uses x.1 0) 0) h in
      at_is i
      (f_drop (and_left (is_computation x.0) (pure x.0) j) (and_right (is_computation x.0) (pure x.0) j)
      (and_right (is_computation x.0 && pure x.0) (eqb (uses x.1 0) 0) h))

  pub fires : (r : Rule) (t : Term) → Every (Fires pure r t) (fire pure r t)
  unfolding fire
  fires LetInsertion t = every_to (λ u i. f_insertion i) (insert_is t)
  fires LetOfLet t = let_of_let_is t
  fires LetOfCase t = let_of_case_is t
  fires Apply t = apply_is t
  fires First t = first_is t
  fires Second t = second_is t
  fires LeftCase t = left_case_is t
  fires RightCase t = right_case_is t
  fires LetValue t = let_value_is t
  fires Drop t = drop_is t
