-- After phase 1 each operand is a value, and only then: let insertion fits a node exactly if one of its operands is a computation.
use mathlib.Core.Path.{◌≡◌, refl}
use mathlib.Core.Bool.{Bool, true, false}
use mathlib.Core.Option.{Option, some, none, some-ne-none}
use lib.Dec.{T}
use Prim.Native.Nat.{suc}
use Rattle.syntax.specs.Term.{Term, Terms, var, call, lam, app, bind, pair, fst, snd, inl, inr, case, unit, done, arg}
use Rattle.syntax.specs.Substitution.{traverse, traverse_all, renaming, weaken}
use Rattle.syntax.specs.Values.{is_value, arguments_in, operands}
use Rattle.reduction.specs.Rules.{name_first, let_insertion, fire, rules}
use Rattle.reduction.specs.declared.Phase.TheVariants.{Insertion}
use Rattle.reduction.specs.Redex.{Contraction, contract, step}
use Rattle.reduction.specs.declared.Rule.{Rule}
use Rattle.reduction.proofs.Search.{Each, EachAll, Misses, no_step, nowhere}

abbrev pub AllValues : Terms → Type 0
AllValues done = Unit
AllValues (arg t ts) = T (is_value t) × AllValues ts

-- the operands of a node are values
abbrev pub Ops : Term → Type 0
Ops (var n) = Unit
Ops (call k ts) = AllValues ts
Ops (lam A b) = Unit
Ops (app f a) = T (is_value f) × T (is_value a)
Ops (bind e b) = Unit
Ops (pair A a b) = T (is_value a) × T (is_value b)
Ops (fst a) = T (is_value a)
Ops (snd a) = T (is_value a)
Ops (inl A a) = T (is_value a)
Ops (inr A a) = T (is_value a)
Ops (case s l r) = T (is_value s)
Ops (unit A) = Unit

-- no let fits exactly if the operands are values
abbrev searched : (Terms → Term) → (Terms → Term) → Terms → Option Term
searched C D ts = name_first (arguments_in C ts) (arguments_in D (traverse_all renaming ts suc))

-- what is found for a first operand that is a value or not, given what is found for the rest
abbrev first_or : (Terms → Term) → Term → Terms → Bool → Option Term → Option Term
first_or D t ts b rest = elim b [ true ↦ rest | false ↦ some (bind t (D (arg (var 0) (traverse_all renaming ts suc)))) ]

values_of : (C D : Terms → Term) (ts : Terms) → searched C D ts ≡ none → AllValues ts
unfolding name_first arguments_in traverse
values_of C D done e = tt
values_of C D (arg t ts) e = go (is_value t) (λ h. h) _ e (values_of (λ us. C (arg t us)) (λ us. D (arg (weaken t) us)) ts)
  where
    go : (b : Bool) → (T b → T (is_value t)) → (o : Option Term) → first_or D t ts b o ≡ none → (o ≡ none → AllValues ts) → T (is_value t)
        × AllValues ts
    go true h o d k = (h tt, k d)
    go false h o d k = absurd (some-ne-none _ d)

of_values : (C D : Terms → Term) (ts : Terms) → AllValues ts → searched C D ts ≡ none
unfolding name_first arguments_in traverse
of_values C D done h = refl
of_values C D (arg t ts) h = go (is_value t) h.0 _ (of_values (λ us. C (arg t us)) (λ us. D (arg (weaken t) us)) ts h.1)
  where
    go : (b : Bool) → T b → (o : Option Term) → o ≡ none → first_or D t ts b o ≡ none
    go true h o d = d
    go false h o d = absurd h

one_value : (u : Term) (b : Bool) → ◌≡◌ {A = Option Term} (elim b [ true ↦ none | false ↦ some u ]) none → T b
one_value u true e = tt
one_value u false e = some-ne-none u e

two_values : (u w : Term) (b c : Bool)
    → ◌≡◌ {A = Option Term} (elim b [ true ↦ elim c as (λ _. Option Term) [ true ↦ none | false ↦ some w ] | false ↦ some u ]) none → T b
    × T c
two_values u w true true e = (tt, tt)
two_values u w true false e = absurd (some-ne-none w e)
two_values u w false c e = absurd (some-ne-none u e)

value_one : (u : Term) (b : Bool) → T b → ◌≡◌ {A = Option Term} (elim b [ true ↦ none | false ↦ some u ]) none
value_one u true h = refl
value_one u false h = absurd h

value_two : (u w : Term) (b c : Bool) → T b × T c
    → ◌≡◌ {A = Option Term} (elim b [ true ↦ elim c as (λ _. Option Term) [ true ↦ none | false ↦ some w ] | false ↦ some u ]) none
value_two u w true true h = refl
value_two u w true false h = absurd h.1
value_two u w false c h = absurd h.0

pub ops_of : (t : Term) → let_insertion t ≡ none → Ops t
unfolding let_insertion name_first operands traverse
ops_of (var n) e = tt
ops_of (call k ts) e = values_of (call k) (call k) ts e
ops_of (lam A b) e = tt
ops_of (app f a) e = two_values _ _ (is_value f) (is_value a) e
ops_of (bind d b) e = tt
ops_of (pair A a b) e = two_values _ _ (is_value a) (is_value b) e
ops_of (fst a) e = one_value _ (is_value a) e
ops_of (snd a) e = one_value _ (is_value a) e
ops_of (inl A a) e = one_value _ (is_value a) e
ops_of (inr A a) e = one_value _ (is_value a) e
ops_of (case s l r) e = one_value _ (is_value s) e
ops_of (unit A) e = tt

pub of_ops : (t : Term) → Ops t → let_insertion t ≡ none
unfolding let_insertion name_first operands traverse
of_ops (var n) h = refl
of_ops (call k ts) h = of_values (call k) (call k) ts h
of_ops (lam A b) h = refl
of_ops (app f a) h = value_two _ _ (is_value f) (is_value a) h
of_ops (bind d b) h = refl
of_ops (pair A a b) h = value_two _ _ (is_value a) (is_value b) h
of_ops (fst a) h = value_one _ (is_value a) h
of_ops (snd a) h = value_one _ (is_value a) h
of_ops (inl A a) h = value_one _ (is_value a) h
of_ops (inr A a) h = value_one _ (is_value a) h
of_ops (case s l r) h = value_one _ (is_value s) h
of_ops (unit A) h = refl

mutual
  unfolding Each

  pub each_map : (P Q : Term → Type 0) → ((t : Term) → P t → Q t) → (t : Term) → Each t P → Each t Q
  each_map P Q f (var n) e = f (var n) e
  each_map P Q f (call k ts) e = (f (call k ts) e.0, each_map_all P Q f ts e.1)
  each_map P Q f (lam A b) e = (f (lam A b) e.0, each_map P Q f b e.1)
  each_map P Q f (app a b) e = (f (app a b) e.0, each_map P Q f a e.1, each_map P Q f b e.2)
  each_map P Q f (bind a b) e = (f (bind a b) e.0, each_map P Q f a e.1, each_map P Q f b e.2)
  each_map P Q f (pair A a b) e = (f (pair A a b) e.0, each_map P Q f a e.1, each_map P Q f b e.2)
  each_map P Q f (fst a) e = (f (fst a) e.0, each_map P Q f a e.1)
  each_map P Q f (snd a) e = (f (snd a) e.0, each_map P Q f a e.1)
  each_map P Q f (inl A a) e = (f (inl A a) e.0, each_map P Q f a e.1)
  each_map P Q f (inr A a) e = (f (inr A a) e.0, each_map P Q f a e.1)
  each_map P Q f (case s l r) e = (f (case s l r) e.0, each_map P Q f s e.1, each_map P Q f l e.2, each_map P Q f r e.3)
  each_map P Q f (unit A) e = f (unit A) e

  pub each_map_all : (P Q : Term → Type 0) → ((t : Term) → P t → Q t) → (ts : Terms) → EachAll ts P → EachAll ts Q
  each_map_all P Q f done e = tt
  each_map_all P Q f (arg t ts) e = (each_map P Q f t e.0, each_map_all P Q f ts e.1)

module _ (pure : Term → Bool) where
  pub only_rule : (t : Term) → Misses pure Insertion t → let_insertion t ≡ none
  unfolding contract rules fire
  only_rule t e = go (let_insertion t) e
    where
      go : (o : Option Term) → ◌≡◌ {A = Option Contraction}
          (elim o [
            | some u ↦ some
                (record { rule = Rattle.reduction.specs.declared.Rule.TheVariants.LetInsertion; contractum = u })
            | none ↦ none
          ]) none
          → o ≡ none
      go none d = refl
      go (some u) d = absurd (some-ne-none _ d)

  pub rule_only : (t : Term) → let_insertion t ≡ none → Misses pure Insertion t
  unfolding contract rules fire
  rule_only t e = go (let_insertion t) e
    where
      go : (o : Option Term) → o ≡ none
          → ◌≡◌ {A = Option Contraction}
          (elim o [
            | some u ↦ some
                (record { rule = Rattle.reduction.specs.declared.Rule.TheVariants.LetInsertion; contractum = u })
            | none ↦ none
          ]) none
      go none d = refl
      go (some u) d = absurd (some-ne-none u d)

  -- phase 1 is over exactly if all operands are values
  pub inserted : (t : Term) → step pure Insertion t ≡ none → Each t Ops
  inserted t e = each_map (Misses pure Insertion) Ops (λ u d. ops_of u (only_rule u d)) t (no_step pure Insertion t e)

  pub not_inserted : (t : Term) → Each t Ops → step pure Insertion t ≡ none
  not_inserted t e = nowhere pure Insertion t (each_map Ops (Misses pure Insertion) (λ u h. rule_only u (of_ops u h)) t e)
