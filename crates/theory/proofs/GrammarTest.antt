-- The test of the grammar answers yes exactly of the grammar's terms: a term's class says which family it is in.
use mathlib.Core.Path.{◌≡◌, refl, sym, subst}
use mathlib.Core.Bool.{Bool, true, false, ◌&&◌}
use mathlib.Core.Option.{Option}
use lib.Dec.{T}
use Prim.Native.Nat.{ℕ}
use Rattle.syntax.specs.Maybe.{is_some}
use Rattle.syntax.specs.Term.{Term, Terms, var, call, lam, app, bind, pair, fst, snd, inl, inr, case, unit, done, arg, node, as_var}
use Rattle.reduction.specs.NormalForm.{needed, NormalValue, NormalValues, Operation, Normal, variable, function, product as both, left}
use Rattle.reduction.specs.NormalForm.{right, the_unit, no_more, more, application, calling, first as taking₁, second as taking₂, value}
use Rattle.reduction.specs.NormalForm.{operation}
use Rattle.reduction.specs.NormalForm.{letting, branching}
use Rattle.reduction.specs.Grammar.{Class, a_value, an_operation, a_block, not_normal, is_a_value, is_an_operation, is_in_grammar, provided, class}
use Rattle.reduction.specs.Grammar.{are_values, in_grammar}
use Rattle.syntax.proofs.Options.{Every, every_none, every_some, and_left, and_right, both_true}
use Rattle.syntax.proofs.Views.{var_is}

-- a variable, where the view has one
pub record Variable (t : Term) : Type 0 where
  pub number : ℕ
  pub is : t ≡ var number

a_variable : (t : Term) → T (is_some (as_var t)) → Variable t
a_variable t h = go (var_is t) h
  where
    go : {o : Option ℕ} → Every (λ n. t ≡ var n) o → T (is_some o) → Variable t
    go every_none h = absurd h
    go (every_some {x = n} e) h = record { number = n; is = e }

module _ (pure : Term → Bool) where
  -- what a class says of a term
  abbrev Is : Term → Class → Type 0
  Is t a_value = NormalValue pure t
  Is t an_operation = Operation pure t
  Is t a_block = Normal pure t
  Is t not_normal = Unit

  is_provided : (t : Term) (b : Bool) (c : Class) → (T b → Is t c) → Is t (provided b c)
  is_provided t true c h = h tt
  is_provided t false c h = tt

  a_value_lem : (t : Term) (c : Class) → Is t c → T (is_a_value c) → NormalValue pure t
  a_value_lem t a_value i h = i
  a_value_lem t an_operation i h = absurd h
  a_value_lem t a_block i h = absurd h
  a_value_lem t not_normal i h = absurd h

  an_operation_lem : (t : Term) (c : Class) → Is t c → T (is_an_operation c) → Operation pure t
  an_operation_lem t a_value i h = absurd h
  an_operation_lem t an_operation i h = i
  an_operation_lem t a_block i h = absurd h
  an_operation_lem t not_normal i h = absurd h

  in_grammar_lem : (t : Term) (c : Class) → Is t c → T (is_in_grammar c) → Normal pure t
  in_grammar_lem t a_value i h = value i
  in_grammar_lem t an_operation i h = operation i
  in_grammar_lem t a_block i h = i
  in_grammar_lem t not_normal i h = absurd h

  on_variable : (C : Term → Term) (P : Term → Type 0) (t : Term) → Variable t → ((n : ℕ) → P (C (var n))) → P (C t)
  on_variable C P t v h = subst (λ (x : Term). P (C x)) (sym v.is) (h v.number)

  mutual
    unfolding class

    class_is : (t : Term) → Is t (class pure t)
    class_is (var n) = variable
    class_is (call k ts) = is_provided (call k ts) (are_values pure ts) an_operation λ h. calling (values_are ts h)
    class_is (lam A b) = is_provided (lam A b) (is_in_grammar (class pure b)) a_value λ h. function
        (in_grammar_lem b (class pure b) (class_is b) h)
    class_is (app f a) = is_provided (app f a) (is_some (as_var f) && is_a_value (class pure a)) an_operation λ h.
        let v = a_value_lem a (class pure a) (class_is a) (and_right (is_some (as_var f)) (is_a_value (class pure a)) h) in
        on_variable (λ x. app x a) (Operation pure) f (a_variable f (and_left (is_some (as_var f)) (is_a_value (class pure a)) h))
        (λ n. application v)
    class_is (bind e b) = is_provided (bind e b) (is_an_operation (class pure e) && needed pure e b && is_in_grammar (class pure b)) a_block λ h.
        let x = and_left (is_an_operation (class pure e) && needed pure e b) (is_in_grammar (class pure b)) h in
        letting (an_operation_lem e (class pure e) (class_is e) (and_left (is_an_operation (class pure e)) (needed pure e b) x))
        (and_right (is_an_operation (class pure e)) (needed pure e b) x)
        (in_grammar_lem b (class pure b) (class_is b)
        (and_right (is_an_operation (class pure e) && needed pure e b) (is_in_grammar (class pure b)) h))
    class_is (pair A a b) = is_provided (pair A a b) (is_a_value (class pure a) && is_a_value (class pure b)) a_value λ h.
        both (a_value_lem a (class pure a) (class_is a) (and_left (is_a_value (class pure a)) (is_a_value (class pure b)) h))
        (a_value_lem b (class pure b) (class_is b) (and_right (is_a_value (class pure a)) (is_a_value (class pure b)) h))
    class_is (fst a) = is_provided (fst a) (is_some (as_var a)) an_operation λ h. on_variable fst (Operation pure) a (a_variable a h)
        (λ n. taking₁)
    class_is (snd a) = is_provided (snd a) (is_some (as_var a)) an_operation λ h. on_variable snd (Operation pure) a (a_variable a h)
        (λ n. taking₂)
    class_is (inl A a) = is_provided (inl A a) (is_a_value (class pure a)) a_value λ h. left (a_value_lem a (class pure a) (class_is a) h)
    class_is (inr A a) = is_provided (inr A a) (is_a_value (class pure a)) a_value λ h. right (a_value_lem a (class pure a) (class_is a) h)
    class_is (case s l r) = is_provided (case s l r)
        (is_some (as_var s) && is_in_grammar (class pure l) && is_in_grammar (class pure r)) a_block λ h.
        let x = and_left (is_some (as_var s) && is_in_grammar (class pure l)) (is_in_grammar (class pure r)) h in
        let y = in_grammar_lem l (class pure l) (class_is l) (and_right (is_some (as_var s)) (is_in_grammar (class pure l)) x) in
        let z = in_grammar_lem r (class pure r) (class_is r)
        (and_right (is_some (as_var s) && is_in_grammar (class pure l)) (is_in_grammar (class pure r)) h) in
        on_variable (λ x. case x l r) (Normal pure) s (a_variable s (and_left (is_some (as_var s)) (is_in_grammar (class pure l)) x))
        (λ n. branching y z)
    class_is (unit A) = the_unit

    values_are : (ts : Terms) → T (are_values pure ts) → NormalValues pure ts
    values_are done h = no_more
    values_are (arg t ts) h = more (a_value_lem t (class pure t) (class_is t) (and_left (is_a_value (class pure t)) (are_values pure ts) h))
        (values_are ts (and_right (is_a_value (class pure t)) (are_values pure ts) h))

  -- and back
  provided_is : (b : Bool) (c : Class) → T b → provided b c ≡ c
  provided_is true c h = refl
  provided_is false c h = absurd h

  value_test : {c : Class} → c ≡ a_value → T (is_a_value c)
  value_test e = subst (λ (c : Class). T (is_a_value c)) (sym e) tt

  operation_test : {c : Class} → c ≡ an_operation → T (is_an_operation c)
  operation_test e = subst (λ (c : Class). T (is_an_operation c)) (sym e) tt

  mutual
    unfolding class as_var node

    value_class : {t : Term} → NormalValue pure t → class pure t ≡ a_value
    value_class variable = refl
    value_class (function {b = b} n) = provided_is (is_in_grammar (class pure b)) a_value (normal_class n)
    value_class (both {a = a} {b = b} v w) = provided_is (is_a_value (class pure a) && is_a_value (class pure b)) a_value
        (both_true (is_a_value (class pure a)) (is_a_value (class pure b)) (value_test (value_class v)) (value_test (value_class w)))
    value_class (left {a = a} v) = provided_is (is_a_value (class pure a)) a_value (value_test (value_class v))
    value_class (right {a = a} v) = provided_is (is_a_value (class pure a)) a_value (value_test (value_class v))
    value_class the_unit = refl

    values_class : {ts : Terms} → NormalValues pure ts → T (are_values pure ts)
    values_class no_more = tt
    values_class (more {t = t} {ts = ts} v vs) = both_true (is_a_value (class pure t)) (are_values pure ts) (value_test (value_class v))
        (values_class vs)

    operation_class : {t : Term} → Operation pure t → class pure t ≡ an_operation
    operation_class (application {v = v} x) = provided_is (is_a_value (class pure v)) an_operation (value_test (value_class x))
    operation_class (calling {ts = ts} vs) = provided_is (are_values pure ts) an_operation (values_class vs)
    operation_class taking₁ = refl
    operation_class taking₂ = refl

    normal_class : {t : Term} → Normal pure t → T (is_in_grammar (class pure t))
    normal_class (value v) = subst (λ (c : Class). T (is_in_grammar c)) (sym (value_class v)) tt
    normal_class (operation o) = subst (λ (c : Class). T (is_in_grammar c)) (sym (operation_class o)) tt
    normal_class (letting {e = e} {b = b} o u n) = subst (λ (c : Class). T (is_in_grammar c))
        (sym (provided_is (is_an_operation (class pure e) && needed pure e b && is_in_grammar (class pure b)) a_block
        (both_true (is_an_operation (class pure e) && needed pure e b) (is_in_grammar (class pure b))
        (both_true (is_an_operation (class pure e)) (needed pure e b) (operation_test (operation_class o)) u) (normal_class n)))) tt
    normal_class (branching {l = l} {r = r} x y) = subst (λ (c : Class). T (is_in_grammar c))
        (sym (provided_is (is_in_grammar (class pure l) && is_in_grammar (class pure r)) a_block
        (both_true (is_in_grammar (class pure l)) (is_in_grammar (class pure r)) (normal_class x) (normal_class y)))) tt

  -- the test and the family
  pub test_grammar : (t : Term) → T (in_grammar pure t) → Normal pure t
  unfolding in_grammar
  test_grammar t h = in_grammar_lem t (class pure t) (class_is t) h

  pub grammar_test : (t : Term) → Normal pure t → T (in_grammar pure t)
  unfolding in_grammar
  grammar_test t n = normal_class n
