-- The value test node by node: a function is a value, and any other node of a value's kind is one if its parts are.
use Prim.Native.Nat.{ℕ, ◌+◌, ◌-◌, ◌≤◌}
use mathlib.Core.Path.{◌≡◌, refl, sym, ◌∙◌, ap}
use mathlib.Core.Bool.{Bool, true, false, ◌&&◌, and-true, and_assoc}
use mathlib.Core.List.{List}
use native.Mathlib.Omega.{arith}
use lib.ListN.{get_or}
use Rattle.syntax.specs.Words.{kind_of}
use Rattle.syntax.specs.Term.{Term, Terms, var, call, lam, app, bind, pair, fst, snd, inl, inr, case, unit, done, arg, node}
use Rattle.syntax.specs.Parts.{part_count}
use Rattle.syntax.specs.Values.{is_value}
use Rattle.reduction.specs.FitByKinds.{value_kind}
use Rattle.words.specs.Fronts.{Starts, from}
use Rattle.syntax.proofs.Sizes.{size_arg, size_done, size_positive}
use Rattle.words.specs.Joined.{joined}
use Rattle.words.specs.Reach.{outer, inner}
use Rattle.words.proofs.Traversal.{front_of}
use Rattle.words.proofs.Joined.{joined_assoc}
use Rattle.words.proofs.Reach.{node_parts}
use Rattle.words.proofs.PartsAt.{first_from}
use Rattle.words.proofs.Rows.{Marching, march, one_starts, one_holds, march_end, visit, march_first, march_term, march_on}
use Rattle.words.specs.Ends.{Sized}
use Rattle.search.specs.ValueTest.{TestsValue}
use Rattle.search.specs.Operands.{all_values}
use Rattle.std.proofs.Common.{Some, None}
use Rattle.syntax.proofs.ByKind.{by_kind}

-- true is not false
pub apart : {X : Type 0} {b : Bool} → b ≡ true → b ≡ false → X
apart p q = absurd cc

value_parts_lem : (t : Term) → value_kind (node t).kind ≡ true → ((node t).kind ≡ 2 → ⊥) → is_value t ≡ all_values (node t).parts
unfolding is_value value_kind node all_values
value_parts_lem (var n) h k = refl
value_parts_lem (call f ts) h k = apart h refl
value_parts_lem (lam A b) h k = absurd (k refl)
value_parts_lem (app f a) h k = apart h refl
value_parts_lem (bind e b) h k = apart h refl
value_parts_lem (pair A a b) h k = ap (λ (x : Bool). is_value a && x) (sym (and-true (is_value b)))
value_parts_lem (fst a) h k = apart h refl
value_parts_lem (snd a) h k = apart h refl
value_parts_lem (inl A a) h k = sym (and-true (is_value a))
value_parts_lem (inr A a) h k = sym (and-true (is_value a))
value_parts_lem (case s l r) h k = apart h refl
value_parts_lem (unit A) h k = refl

function_value : (t : Term) → (node t).kind ≡ 2 → is_value t ≡ true
unfolding is_value
function_value t h = by_kind (λ u. is_value u ≡ true) 2 t h λ A b. refl

pub other_kind : (t : Term) → value_kind (node t).kind ≡ false → is_value t ≡ false
unfolding is_value value_kind node
other_kind (var n) h = h
other_kind (call f ts) h = refl
other_kind (lam A b) h = h
other_kind (app f a) h = refl
other_kind (bind e b) h = refl
other_kind (pair A a b) h = apart refl h
other_kind (fst a) h = refl
other_kind (snd a) h = refl
other_kind (inl A a) h = apart refl h
other_kind (inr A a) h = apart refl h
other_kind (case s l r) h = refl
other_kind (unit A) h = apart refl h

values_joined : (ts us : Terms) → all_values (joined ts us) ≡ (all_values ts && all_values us)
unfolding all_values joined
values_joined done us = refl
values_joined (arg t ts) us = ap (λ (x : Bool). is_value t && x) (values_joined ts us)
    ∙ sym (and_assoc (is_value t) (all_values ts) (all_values us))

-- the nodes passed are values' so far: the row holds values only if the row ahead does
abbrev pub ValuesSoFar : Terms → Terms → Type 0
ValuesSoFar ts us = all_values ts ≡ all_values us

-- a row of one term
values_one : (t : Term) → all_values (arg t done) ≡ is_value t
unfolding all_values
values_one t = and-true (is_value t)

pub test_begin : {calls words : List ℕ} → Starts calls words → Marching calls words ValuesSoFar 1 0 1
test_begin {calls} {words} s = march calls words ValuesSoFar 1 (one_starts s) λ ts. refl

module _ {calls words : List ℕ} {at owed : ℕ} (g : Marching calls words ValuesSoFar 1 at owed) where
  -- no term is owed
  pub test_end : owed ≡ 0 → TestsValue calls words (Some at)
  unfolding all_values
  test_end z = record {
    told = λ t rest h.
        let e = march_end calls words g z (arg t done) rest (one_holds h) in
        record {
          value_is = sym (sym (values_one t) ∙ e.1);
          end_is = omega (arith, e.0, size_arg t done, size_done);
        };
  }

  -- the next part has words
  pub part_words : 1 ≤ owed → (l : ℕ) → Sized calls (from words at) l → 1 ≤ l
  part_words lt l s =
      let f = march_first calls words g lt in
      omega (arith, s.told f.term f.rest f.holds, size_positive f.term)

  module _ (lt : 1 ≤ owed) {k : ℕ} (ke : k ≡ kind_of (get_or words at 0)) where
    -- a computation
    pub test_computation : value_kind k ≡ false → TestsValue calls words None
    unfolding all_values
    test_computation kf = record {
      told = λ t rest h.
          let v = visit calls words g lt (arg t done) rest (one_holds h) in
          let c = other_kind v.term (ap value_kind (sym v.kind ∙ sym ke) ∙ kf) in
          record {
            value_is = sym (sym (values_one t) ∙ v.to_do ∙ ap (λ (x : Bool). x && all_values v.later) c);
            end_is = tt;
          };
    }

    -- a function, passed as a whole
    pub test_function : (l : ℕ) → k ≡ 2 → Sized calls (from words at) l → Marching calls words ValuesSoFar 1 (at + l) (owed - 1)
    unfolding all_values
    test_function l e s = march_term calls words g lt ValuesSoFar l s λ ts us t rest h q.
        q ∙ ap (λ (x : Bool). x && all_values us) (function_value t (sym (front_of h).kind ∙ same ∙ sym ke ∙ e))
      where
        same : kind_of (get_or (from words at) 0 0) ≡ kind_of (get_or words at 0)
        same = ap kind_of (first_from words at)

    -- any other value's node: its parts come first
    pub test_open : (m : ℕ) → value_kind k ≡ true → (k ≡ 2 → ⊥) → m ≡ part_count calls (get_or words at 0)
        → Marching calls words ValuesSoFar 1 (at + 1) (owed - 1 + m)
    unfolding all_values
    test_open m kt k2 me = march_on calls words g lt ValuesSoFar (owed - 1 + m) (omega (arith, me)) λ ts rest v.
        let t = v.term in
        let f : (node t).kind ≡ k = sym v.kind ∙ sym ke in
        v.to_do
        ∙ ap (λ (x : Bool). x && all_values v.later) (value_parts_lem t (ap value_kind f ∙ kt) (λ d. k2 (sym f ∙ d)))
        ∙ sym (values_joined (node t).parts v.later)
        ∙ ap (λ (x : Terms). all_values (joined x v.later)) (node_parts t)
        ∙ ap all_values (joined_assoc (outer t) (inner t) v.later)
