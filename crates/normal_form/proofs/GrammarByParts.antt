-- The grammar by parts, one law for each kind of node: an operation, a let or a case is in normal form exactly if each of its parts is in
-- normal form, begins with a node that can be what the part has to be, and uses the variable if it has to. A pair, an injection
-- and a unit are normal values exactly if their parts are, because the kind of a normal form says whether it is a value.
use native.Mathlib.Omega.{arith}
use mathlib.Core.Path.{◌≡◌, refl, sym, ◌∙◌, ap, ap₂}
use mathlib.Core.Bool.{Bool, true, false, ◌&&◌, ◌||◌, not, cond, and-true, true≢false}
use mathlib.Core.List.{List}
use Prim.Native.Nat.{ℕ, suc}
use lib.Dec.{eqb, leb}
use Rattle.syntax.specs.Maybe.{is_some}
use Rattle.syntax.specs.Term.{Term, Terms, var, call, lam, app, bind, pair, fst, snd, inl, inr, case, unit, done, arg, node, as_var}
use Rattle.syntax.specs.Values.{uses}
use Rattle.syntax.proofs.Options.{and_last}
use Rattle.reduction.specs.MayDrop.{may_drop}
use Rattle.reduction.specs.NormalForm.{needed}
use Rattle.reduction.specs.FitByKinds.{value_kind}
use Rattle.reduction.specs.Grammar.{Class, a_value, an_operation, not_normal, is_a_value, is_an_operation, is_in_grammar, provided, class, are_values}
use Rattle.reduction.specs.Grammar.{in_grammar}
use Rattle.normal_form.specs.Roles.{role_of, suits, operation_kind, keeps_variable}
use Rattle.normal_form.specs.declared.normal.Role.{Role}
use Rattle.normal_form.specs.declared.normal.Role.TheVariants.{Variable, Value, Operation}
use Rattle.normal_form.specs.NormalTest.{is_normal_value}
use Rattle.syntax.proofs.ByKind.{by_kind}

-- whether every part passes the test of its place
unfoldable pub all_pass : (ℕ → Term → Bool) → ℕ → Terms → Bool
all_pass test j done = true
all_pass test j (arg t ts) = test j t && all_pass test (suc j) ts

-- whether the first part may be dropped
unfoldable pub first_may_drop : List ℕ → Terms → Bool
first_may_drop calls done = true
first_may_drop calls (arg e ts) = may_drop calls e

-- the test of part j of a node of kind k whose first part may be dropped or not
unfoldable pub part_passes : List ℕ → ℕ → Bool → ℕ → Term → Bool
part_passes calls k droppable j t =
    suits (role_of k j) (node t).kind && in_grammar (may_drop calls) t && keeps_variable k j droppable (uses t 0)

-- two questions about a class have one answer, if they have where the test passes and where it does not
same : (f g : Class → Bool) {c : Class} → f c ≡ g c → f not_normal ≡ g not_normal → (b : Bool) → f (provided b c) ≡ g (provided b c)
same f g e n true = e
same f g e n false = n

value_provided : (b : Bool) → is_a_value (provided b a_value) ≡ is_in_grammar (provided b a_value)
value_provided = same is_a_value is_in_grammar refl refl

operation_provided : (b : Bool) → is_an_operation (provided b an_operation) ≡ is_in_grammar (provided b an_operation)
operation_provided = same is_an_operation is_in_grammar refl refl

no_value : (c : Class) → is_a_value c ≡ false → (b : Bool) → is_a_value (provided b c) ≡ false
no_value c e = same is_a_value (λ c. false) e refl

no_operation : (c : Class) → is_an_operation c ≡ false → (b : Bool) → is_an_operation (provided b c) ≡ false
no_operation c e = same is_an_operation (λ c. false) e refl

passes : (f : Class → Bool) {c : Class} → f c ≡ true → f not_normal ≡ false → (b : Bool) → f (provided b c) ≡ b
passes f e n true = e
passes f e n false = n

value_passes : (b : Bool) → is_a_value (provided b a_value) ≡ b
value_passes = passes is_a_value refl refl

-- two parts; a let's and a case's
two : {a a' b b' : Bool} → a ≡ a' → b ≡ b' → (a && b) ≡ (a' && (b' && true))
two e d = ap₂ ◌&&◌ e (and_last d)

let_parts : {a a' : Bool} → a ≡ a' → (u b : Bool) → (a && u && b) ≡ (a' && ((true && b && u) && true))
let_parts e u b = grind arith

case_parts : {a a' : Bool} → a ≡ a' → (l r : Bool) → (a && l && r) ≡ (a' && ((true && l && true) && ((true && r && true) && true)))
case_parts e l r = grind arith

module _ (calls : List ℕ) where
  abbrev pure : Term → Bool
  pure = may_drop calls

  -- a normal value is a normal form of the kind of a value
  pub value_kind_lem : (t : Term) → is_normal_value calls t ≡ (value_kind (node t).kind && in_grammar pure t)
  unfolding is_normal_value in_grammar class value_kind node
  value_kind_lem (var n) = refl
  value_kind_lem (call k ts) = no_value _ refl (are_values pure ts)
  value_kind_lem (lam A b) = value_provided (is_in_grammar (class pure b))
  value_kind_lem (app f a) = no_value _ refl (is_some (as_var f) && is_a_value (class pure a))
  value_kind_lem (bind e b) = no_value _ refl (is_an_operation (class pure e) && needed pure e b && is_in_grammar (class pure b))
  value_kind_lem (pair A a b) = value_provided (is_a_value (class pure a) && is_a_value (class pure b))
  value_kind_lem (fst a) = no_value _ refl (is_some (as_var a))
  value_kind_lem (snd a) = no_value _ refl (is_some (as_var a))
  value_kind_lem (inl A a) = value_provided (is_a_value (class pure a))
  value_kind_lem (inr A a) = value_provided (is_a_value (class pure a))
  value_kind_lem (case s l r) = no_value _ refl (is_some (as_var s) && is_in_grammar (class pure l) && is_in_grammar (class pure r))
  value_kind_lem (unit A) = refl

  operation_kind_lem : (t : Term) → is_an_operation (class pure t) ≡ (operation_kind (node t).kind && in_grammar pure t)
  unfolding in_grammar class operation_kind node
  operation_kind_lem (var n) = refl
  operation_kind_lem (call k ts) = operation_provided (are_values pure ts)
  operation_kind_lem (lam A b) = no_operation _ refl (is_in_grammar (class pure b))
  operation_kind_lem (app f a) = operation_provided (is_some (as_var f) && is_a_value (class pure a))
  operation_kind_lem (bind e b) = no_operation _ refl (is_an_operation (class pure e) && needed pure e b && is_in_grammar (class pure b))
  operation_kind_lem (pair A a b) = no_operation _ refl (is_a_value (class pure a) && is_a_value (class pure b))
  operation_kind_lem (fst a) = operation_provided (is_some (as_var a))
  operation_kind_lem (snd a) = operation_provided (is_some (as_var a))
  operation_kind_lem (inl A a) = no_operation _ refl (is_a_value (class pure a))
  operation_kind_lem (inr A a) = no_operation _ refl (is_a_value (class pure a))
  operation_kind_lem (case s l r) = no_operation _ refl (is_some (as_var s) && is_in_grammar (class pure l) && is_in_grammar (class pure r))
  operation_kind_lem (unit A) = refl

  -- a part by its role
  variable_part : (t : Term) → is_some (as_var t) ≡ (suits Variable (node t).kind && in_grammar pure t && true)
  unfolding in_grammar class node as_var suits
  variable_part (var n) = refl
  variable_part (call k ts) = refl
  variable_part (lam A b) = refl
  variable_part (app f a) = refl
  variable_part (bind e b) = refl
  variable_part (pair A a b) = refl
  variable_part (fst a) = refl
  variable_part (snd a) = refl
  variable_part (inl A a) = refl
  variable_part (inr A a) = refl
  variable_part (case s l r) = refl
  variable_part (unit A) = refl

  value_part : (t : Term) → is_a_value (class pure t) ≡ (suits Value (node t).kind && in_grammar pure t && true)
  unfolding is_normal_value suits
  value_part t = value_kind_lem t ∙ sym (and-true _)

  operation_part : (t : Term) → is_an_operation (class pure t) ≡ (suits Operation (node t).kind && in_grammar pure t && true)
  unfolding suits
  operation_part t = operation_kind_lem t ∙ sym (and-true _)

  argument_role : (j : ℕ) → role_of 1 j ≡ Value
  unfolding role_of
  argument_role j = go (eqb j 0)
    where
      go : (b : Bool) → cond b Value Value ≡ Value
      go true = refl
      go false = refl

  arguments_pass : (d : Bool) (j : ℕ) (ts : Terms) → are_values pure ts ≡ all_pass (part_passes calls 1 d) j ts
  unfolding class all_pass part_passes keeps_variable
  arguments_pass d j done = refl
  arguments_pass d j (arg t ts) =
      ap₂ ◌&&◌ (value_part t ∙ ap (λ (r : Role). suits r (node t).kind && in_grammar pure t && true) (sym (argument_role j)))
      (arguments_pass d (suc j) ts)

  -- an operation, a let and a case
  pub grammar_parts : (t : Term) → value_kind (node t).kind ≡ false
      → in_grammar pure t ≡ all_pass (part_passes calls (node t).kind (first_may_drop calls (node t).parts)) 0 (node t).parts
  unfolding in_grammar class node all_pass first_may_drop part_passes role_of suits keeps_variable value_kind needed
  grammar_parts (var n) h = absurd (true≢false h)
  grammar_parts (call k ts) h = passes is_in_grammar refl refl _ ∙ arguments_pass (first_may_drop calls ts) 0 ts
  grammar_parts (lam A b) h = absurd (true≢false h)
  grammar_parts (app f a) h = passes is_in_grammar refl refl _ ∙ two (variable_part f) (value_part a)
  grammar_parts (bind e b) h = passes is_in_grammar refl refl _
      ∙ let_parts (operation_part e) (leb 1 (uses b 0) || not (may_drop calls e)) (in_grammar pure b)
  grammar_parts (pair A a b) h = absurd (true≢false h)
  grammar_parts (fst a) h = passes is_in_grammar refl refl _ ∙ and_last (variable_part a)
  grammar_parts (snd a) h = passes is_in_grammar refl refl _ ∙ and_last (variable_part a)
  grammar_parts (inl A a) h = absurd (true≢false h)
  grammar_parts (inr A a) h = absurd (true≢false h)
  grammar_parts (case s l r) h = passes is_in_grammar refl refl _ ∙ case_parts (variable_part s) (in_grammar pure l) (in_grammar pure r)
  grammar_parts (unit A) h = absurd (true≢false h)

  -- a pair, an injection and a unit
  pub value_parts_lem : (t : Term) → value_kind (node t).kind ≡ true → ((node t).kind ≡ 0 → ⊥) → ((node t).kind ≡ 2 → ⊥)
      → is_normal_value calls t ≡ all_pass (λ j. is_normal_value calls) 0 (node t).parts
  unfolding is_normal_value class node all_pass value_kind
  value_parts_lem (var n) h z l = absurd (z refl)
  value_parts_lem (call k ts) h z l = absurd (true≢false (sym h))
  value_parts_lem (lam A b) h z l = absurd (l refl)
  value_parts_lem (app f a) h z l = absurd (true≢false (sym h))
  value_parts_lem (bind e b) h z l = absurd (true≢false (sym h))
  value_parts_lem (pair A a b) h z l = value_passes (is_normal_value calls a && is_normal_value calls b)
      ∙ ap (λ (x : Bool). is_normal_value calls a && x) (sym (and-true (is_normal_value calls b)))
  value_parts_lem (fst a) h z l = absurd (true≢false (sym h))
  value_parts_lem (snd a) h z l = absurd (true≢false (sym h))
  value_parts_lem (inl A a) h z l = value_passes (is_normal_value calls a) ∙ sym (and-true (is_normal_value calls a))
  value_parts_lem (inr A a) h z l = value_passes (is_normal_value calls a) ∙ sym (and-true (is_normal_value calls a))
  value_parts_lem (case s l r) h z l' = absurd (true≢false (sym h))
  value_parts_lem (unit A) h z l = refl

  -- a function
  pub function_parts : (t : Term) → (node t).kind ≡ 2 → is_normal_value calls t ≡ all_pass (λ j. in_grammar pure) 0 (node t).parts
  unfolding is_normal_value in_grammar class node all_pass
  function_parts t h = by_kind (λ u. is_normal_value calls u ≡ all_pass (λ j. in_grammar pure) 0 (node u).parts) 2 t h λ A b.
      value_passes (in_grammar pure b) ∙ sym (and-true (in_grammar pure b))
