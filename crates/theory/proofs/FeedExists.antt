-- What the claim asks of a run's feed can be met: a known type with no function in it has a value, so a term whose types have no function
-- can be fed. The value is read off the type's tree: a number for a base type, a pair for a product, the left injection for a sum, and the
-- unit type's own.
use mathlib.Core.Path.{◌≡◌, refl, sym, ◌∙◌, ap, subst}
use mathlib.Core.List.{List, [], ◌∷◌}
use mathlib.Core.Option.{Option, some, none, some-ne-none}
use lib.Dec.{T, ltb, ltb→lt}
use lib.ListN.{length, get_elem?}
use Prim.Native.Nat.{ℕ, zero, suc, ◌<◌}
use native.Mathlib.Omega.{arith}
use Rattle.syntax.specs.Words.{kind_of, left_of, right_of}
use Rattle.syntax.specs.Tables.{Tables, base, arrow, product, sum, unit_type, Signature, signature}
use Rattle.syntax.specs.Term.{Term}
use Rattle.syntax.specs.Lists.{◌∈◌, here, there}
use Rattle.syntax.proofs.Options.{and_left, and_right}
use Rattle.typing.specs.TableChecks.{every, well_formed_types, well_formed_inputs}
use Rattle.typing.specs.Refusals.{TypedTerm}
use Rattle.typing.proofs.Accepted.{Passed}
use Rattle.typing.proofs.Trees.{Ty, void, number, function, both, either, unit_tree, shape, tree, ty, word_tree, Formed, a_base}
use Rattle.typing.proofs.Trees.{a_composite, a_unit as a_unit_word, entry_formed, at_word, earlier}
use Rattle.typing.proofs.TypeNumbers.{present}
use Rattle.semantics.specs.Value.{Value, Values, num, tuple, left, trivial, empty, also}
use Rattle.semantics.specs.ValueTypes.{HasType, a_number, a_tuple, a_left, a_unit, HaveTypes, no_more, one_more}
use Rattle.semantics.specs.TypeParts.{itself, FunctionFree}
use Rattle.semantics.specs.Claim.{FirstOrder, Feed}
use Rattle.theory.proofs.Fields.{fitting}
use Rattle.theory.proofs.KnownTypes.{result_known}
use Rattle.theory.proofs.RuledOut.{tables as case_tables, source, call_types}
use Rattle.semantics.proofs.PartsEarlier.{part_at_most}
use Rattle.theory.proofs.FunctionFree.{components_of_lem, free_left, free_right}

-- a value of a type, by its tree; a function type has none, and what stands for it is never asked for
unfoldable pub value_of : Ty → Value
value_of void = num 0
value_of (number n) = num 0
value_of (function A B) = num 0
value_of (both A B) = tuple (value_of A) (value_of B)
value_of (either A B) = left (value_of A)
value_of unit_tree = trivial

module _ (tables : Tables) where
  -- values for a list of types
  unfoldable pub values_of : List ℕ → Values
  values_of [] = empty
  values_of (A ∷ As) = also (value_of (ty tables A)) (values_of As)

  -- every call is answered by the one value of its result type
  unfoldable pub answer_of : ℕ → Values → Value
  answer_of k vs = elim (signature tables k) [
    | none ↦ num 0
    | some s ↦ value_of (ty tables s.result)
  ]

  answer_is : (k : ℕ) (s : Signature) (vs : Values) → signature tables k ≡ some s → answer_of k vs ≡ value_of (ty tables s.result)
  unfolding answer_of
  answer_is k s vs e =
      ap (λ (o : Option Signature). elim o as (λ _. Value) [ none ↦ num 0 | some s ↦ value_of (ty tables s.result) ]) e

module _ (tables : Tables) (checked : T (well_formed_types 0 tables.types)) where
  abbrev Inhabited : ℕ → ℕ → Type 0
  Inhabited f B = FunctionFree tables B → HasType tables B (value_of (tree tables f B))

  -- the value of a type word, if the earlier types have theirs
  word_value : (f A w k : ℕ) → get_elem? tables.types A ≡ some w → kind_of w ≡ k → Formed A w → FunctionFree tables A
      → ((B : ℕ) → B < A → Inhabited f B) → HasType tables A (value_of (word_tree tables f k w))
  unfolding value_of shape
  word_value f A w zero e h formed free ih = a_number (components_of_lem tables (earlier tables checked) base A w e h)
  word_value f A w (suc zero) e h formed free ih =
      absurd (some-ne-none _ (sym (components_of_lem tables (earlier tables checked) arrow A w e h) ∙ free A itself))
  word_value f A w (suc (suc zero)) e h formed free ih =
      let wf = earlier tables checked in
      let c = components_of_lem tables wf product A w e h in
      let p = wf.parts A w product tt e h in
      a_tuple c (ih (left_of w) p.0 (free_left tables wf product tt c free))
      (ih (right_of w) p.1 (free_right tables wf product tt c free))
  word_value f A w (suc (suc (suc zero))) e h formed free ih =
      let wf = earlier tables checked in
      let c = components_of_lem tables wf sum A w e h in
      a_left c (ih (left_of w) (wf.parts A w sum tt e h).0 (free_left tables wf sum tt c free))
  word_value f A w (suc (suc (suc (suc zero)))) e h formed free ih = a_unit (components_of_lem tables (earlier tables checked) unit_type A w e h)
  word_value f A w (suc (suc (suc (suc (suc k))))) e h (a_base z _) free ih = absurd (omega (arith, h, z))
  word_value f A w (suc (suc (suc (suc (suc k))))) e h (a_composite _ z _ _) free ih = absurd (omega (arith, h, z))
  word_value f A w (suc (suc (suc (suc (suc k))))) e h (a_unit_word z _ _) free ih = absurd (omega (arith, h, z))

  tree_value : (f A : ℕ) → A < f → A < length tables.types → Inhabited f A
  tree_value zero A l i free = absurd (omega (arith, l))
  tree_value (suc f) A l i free =
      let (w, e) = present tables.types A i in
      subst (λ (X : Ty). HasType tables A (value_of X)) (sym (at_word tables f A w e))
      (word_value f A w (kind_of w) e refl (entry_formed tables.types checked A w e) free
      (λ B m. tree_value f B (omega (arith, l, m)) (omega (arith, i, m))))

  -- a known type with no function in it has a value
  pub value_exists : {A : ℕ} → A < length tables.types → FunctionFree tables A → HasType tables A (value_of (ty tables A))
  value_exists {A} i free = tree_value (suc A) A (omega arith) i free

  values_exist : (As : List ℕ) → T (every (λ A. ltb A (length tables.types)) As) → ((A : ℕ) → A ∈ As → FunctionFree tables A)
      → HaveTypes tables As (values_of tables As)
  unfolding values_of
  values_exist [] h free = no_more
  values_exist (A ∷ As) h free =
      let first = ltb A (length tables.types) in
      let rest = every (λ B. ltb B (length tables.types)) As in
      one_more (value_exists (ltb→lt A (length tables.types) (and_left first rest h)) (free A here))
      (values_exist As (and_right first rest h) (λ B i. free B (there i)))

-- a feed for a term
pub record Fed (tables : Tables) (t : Term) : Type 0 where
  pub inputs : Values
  pub answer : ℕ → Values → Value
  pub feed : Feed tables t inputs answer

-- A term that passes the checks and whose types have no function in them can be fed.
pub feed_exists : (limit : ℕ) (tables : Tables) (words : List ℕ) (x : TypedTerm) → Passed limit tables words x
    → FirstOrder tables x.type x.term → Fed tables x.term
unfolding well_formed_inputs
feed_exists limit tables words x p free = record {
  inputs = values_of tables tables.inputs;
  answer = answer_of tables;
  feed = record {
    inputs = values_exist tables p.types tables.inputs p.inputs free.inputs;
    answers = λ k s i e vs h. subst (λ (v : Value). HasType tables s.result v) (sym (answer_is tables k s vs e))
        (value_exists tables p.types
        (result_known tables (earlier tables p.types) (fitting limit tables words p.lengths p.calls) (λ k. Unit)
        (record { is = e }) refl)
        (free.calls s.result (record { number = k; sign = s; occurs = i; listed = e; among = here })));
  };
}

-- Case A, though it has a function in it, is such a term: each type that the claim looks at is the base type 0.
base_free : FunctionFree case_tables 0
unfolding well_formed_types
base_free zero p = refl
base_free (suc D) p = absurd (omega (arith, part_at_most case_tables tt p))

pub source_first_order : FirstOrder case_tables 0 source
source_first_order = record {
  inputs = λ A. elim [ ];
  result' = base_free;
  calls = λ A c. subst (λ (B : ℕ). FunctionFree case_tables B) (sym (call_types c.number c.sign c.listed c.among)) base_free;
}
