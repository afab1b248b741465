-- The two tests at a node: what each answer of the code says of whatever term is at the front.
use Prim.Native.Nat.{ℕ, ◌+◌, ◌≤◌, ◌<◌}
use native.Mathlib.Omega.{arith}
use mathlib.Core.Path.{◌≡◌, refl, sym, ◌∙◌, ap, subst}
use mathlib.Core.Bool.{Bool, true, false, ◌&&◌, ◌||◌, not, cond, and-false, true≢false}
use mathlib.Core.List.{List}
use lib.Dec.{eqb, leb}
use lib.ListN.{length, get_or}
use lib.Seq.{get_or-drop}
use borrow.Author.Tests.{ne_eqb, eqb-true, eqb-false}
use Rattle.std.specs.Prelude.{Option, Some, None}
use Rattle.syntax.specs.Words.{kind_of, number_of}
use Rattle.syntax.specs.Kinds.{binders_at, parts_of_kind}
use Rattle.syntax.specs.Tables.{arity}
use Rattle.syntax.specs.Parts.{part_count}
use Rattle.syntax.specs.Term.{Term, Terms, var, done, arg, node}
use Rattle.syntax.specs.Values.{uses}
use Rattle.syntax.proofs.Nodes.{tail_part}
use Rattle.syntax.proofs.Sizes.{size_var}
use Rattle.reduction.specs.FitByKinds.{value_kind}
use Rattle.reduction.specs.Grammar.{class}
use Rattle.words.specs.Fronts.{Holds, Starts, from}
use Rattle.words.proofs.Traversal.{front_of}
use Rattle.words.proofs.PartsAt.{first_from, PartsAt, parts_of_lem, part_here}
use Rattle.words.proofs.Variables.{variable_at}
use Rattle.search.specs.Marks.{Marked}
use Rattle.search.specs.NodeMayDrop.{node_may_drop}
use Rattle.search.proofs.NodeMayDrop.{by_word}
use Rattle.normal_form.specs.Roles.{role_of, suits, keeps_variable}
use Rattle.normal_form.specs.NormalTest.{is_normal_form, is_normal_value, NormalAnswer, TestsNormal}
use Rattle.search.proofs.MarkedUses.{OpenedMark, own_mark, body_binds}
use Rattle.normal_form.proofs.GrammarByParts.{all_pass, first_may_drop, part_passes, value_kind_lem, grammar_parts, value_parts_lem}
use Rattle.normal_form.proofs.GrammarByParts.{function_parts}
use Rattle.normal_form.proofs.TestedParts.{Testing, test_enter, test_fails, test_next}

-- the kind of the node at the front
abbrev pub first_kind : List ℕ → ℕ
first_kind words = kind_of (get_or words 0 0)

-- whether a node's first part may be dropped, by the word behind the node's
abbrev pub first_droppable : List ℕ → List ℕ → Bool
first_droppable calls words = node_may_drop calls (kind_of (get_or words 1 0)) (number_of (get_or words 1 0))

first_shows : {calls words rest : List ℕ} (k : ℕ) (ts : Terms) → PartsAt calls words 1 ts rest
    → all_pass (part_passes calls k (first_may_drop calls ts)) 0 ts ≡ all_pass (part_passes calls k (first_droppable calls words)) 0 ts
unfolding all_pass first_may_drop
first_shows k done p = refl
first_shows {calls} {words} k (arg e ts) p = ap (λ (d : Bool). all_pass (part_passes calls k d) 0 (arg e ts))
    (sym (ap (λ (w : ℕ). node_may_drop calls (kind_of w) (number_of w)) (sym (first_from words 1))
    ∙ by_word calls (from words 1) e _ (part_here calls words p)))

kind_is : {calls words : List ℕ} {t : Term} {rest : List ℕ} → Holds calls words t rest → (node t).kind ≡ first_kind words
kind_is h = sym (front_of h).kind

-- one test answers as another does
as_other : (test other : Term → Bool) (t : Term) (depth : ℕ) (old new : List ℕ) (r : Option ℕ) → other t ≡ test t
    → NormalAnswer test t depth old new r → NormalAnswer other t depth old new r
as_other test other t depth old new None e a = e ∙ a
as_other test other t depth old new (Some end) e a = record { passes = e ∙ a.passes; end_is = a.end_is; marked = a.marked }

module _ {calls words old : List ℕ} {depth : ℕ} (s : Starts calls words) where
  -- a variable
  pub value_variable : {new : List ℕ} {number : ℕ} → first_kind words ≡ 0 → number ≡ number_of (get_or words 0 0)
      → Marked 1 (var number) depth old new
      → TestsNormal is_normal_value calls words depth old new (Some 1)
  unfolding is_normal_value class
  value_variable {new} {number} z ne m = record {
    told = λ t rest h.
        variable_at h z (λ x. NormalAnswer (is_normal_value calls) x depth old new (Some 1)) λ v e.
        record {
          passes = refl;
          end_is = sym (size_var v);
          marked = subst (λ (i : ℕ). Marked 1 (var i) depth old new) (ne ∙ e) m;
        };
  }

  -- a node that is not of the kind of a value
  pub value_none : {new : List ℕ} → value_kind (first_kind words) ≡ false → TestsNormal is_normal_value calls words depth old new None
  value_none e = record {
    told = λ t rest h. value_kind_lem calls t ∙ ap (λ (i : ℕ). value_kind i && is_normal_form calls t) (kind_is h)
        ∙ ap (λ (x : Bool). x && is_normal_form calls t) e;
  }

  -- a node of the kind of a value is in normal form exactly if it is a normal value
  pub value_normal : {new : List ℕ} {r : Option ℕ} → value_kind (first_kind words) ≡ true
      → TestsNormal is_normal_value calls words depth old new r
      → TestsNormal is_normal_form calls words depth old new r
  value_normal {new} {r} e a = record {
    told = λ t rest h.
        as_other (is_normal_value calls) (is_normal_form calls) t depth old new r
        (sym (value_kind_lem calls t ∙ ap (λ (i : ℕ). value_kind i && is_normal_form calls t) (kind_is h)
        ∙ ap (λ (x : Bool). x && is_normal_form calls t) e)) (a.told t rest h);
  }

  -- before the parts of a function, of another value (a pair, an injection, a unit), of any other node
  pub function_enter : first_kind words ≡ 2
      → Testing is_normal_value (λ j. is_normal_form calls) calls words old depth (first_kind words) old 1 1 0
  unfolding part_count
  function_enter e =
      test_enter is_normal_value (λ j. is_normal_form calls) calls words old depth (first_kind words) 1 s refl (λ z. omega arith)
      (ap (parts_of_kind (arity calls (number_of (get_or words 0 0)))) (sym e)) λ t rest h f. function_parts calls t (f ∙ e)

  pub values_enter : {n : ℕ} → (first_kind words ≡ 0 → ⊥) → (first_kind words ≡ 2 → ⊥) → value_kind (first_kind words) ≡ true
      → n ≡ part_count calls (get_or words 0 0)
      → Testing is_normal_value (λ j. is_normal_value calls) calls words old depth (first_kind words) old n 1 0
  values_enter {n} z l e ne =
      test_enter is_normal_value (λ j. is_normal_value calls) calls words old depth (first_kind words) n s refl z ne λ t rest h f.
      value_parts_lem calls t (ap value_kind f ∙ e) (λ y. z (sym f ∙ y)) (λ y. l (sym f ∙ y))

  pub normal_enter : {n : ℕ} → value_kind (first_kind words) ≡ false → n ≡ part_count calls (get_or words 0 0)
      → Testing is_normal_form (part_passes calls (first_kind words) (first_droppable calls words)) calls words old depth
      (first_kind words) old n 1 0
  unfolding value_kind
  normal_enter {n} e ne =
      test_enter is_normal_form (part_passes calls (first_kind words) (first_droppable calls words)) calls words old depth
      (first_kind words) n s refl
      (λ z. true≢false (ap value_kind (sym z) ∙ e)) ne λ t rest h f.
      grammar_parts calls t (ap value_kind f ∙ e)
      ∙ ap (λ (i : ℕ). all_pass (part_passes calls i (first_may_drop calls (node t).parts)) 0 (node t).parts) f
      ∙ first_shows (first_kind words) (node t).parts (parts_of_lem calls words h)

-- the variable's mark counts only where the part binds it
keeps_mark : (k j : ℕ) (d : Bool) (m u : ℕ) → (binders_at k j ≡ 1 → m ≡ u) → keeps_variable k j d m ≡ keeps_variable k j d u
unfolding keeps_variable
keeps_mark k j d m u h = go (eqb k 4) (eqb j 0) refl refl
  where
    go : (x y : Bool) → eqb k 4 ≡ x → eqb j 0 ≡ y
        → cond x (cond y true (leb 1 m || not d)) true ≡ cond x (cond y true (leb 1 u || not d)) true
    go true true e f = refl
    go true false e f = ap (λ (i : ℕ). leb 1 i || not d) (h (body_binds k j (eqb-true k 4 e) (eqb-false j 0 f)))
    go false y e f = refl

-- a turn of the loop over the parts of an operation, a let or a case
module _ {calls words old : List ℕ} {depth k : ℕ} {mid : List ℕ} {n at j : ℕ}
    (g : Testing is_normal_form (part_passes calls k (first_droppable calls words)) calls words old depth k mid n at j) (lt : j < n) where
  -- the kind of the part's first word
  role_test : {part : Term} {rest : List ℕ} → Holds calls (from words at) part rest
      → suits (role_of k j) (node part).kind ≡ suits (role_of k j) (kind_of (get_or words at 0))
  role_test holds =
      let w : get_or (from words at) 0 0 ≡ get_or words at 0 =
      ap (λ (l : List ℕ). get_or l 0 0) (tail_part words at) ∙ get_or-drop at words 0 0
      ∙ ap (λ (i : ℕ). get_or words i 0) (omega arith) in
      ap (suits (role_of k j)) (sym (front_of holds).kind ∙ ap kind_of w)

  -- a part that cannot be what it has to be
  pub role_fails : {new : List ℕ} → suits (role_of k j) (kind_of (get_or words at 0)) ≡ false
      → TestsNormal is_normal_form calls words depth old new None
  unfolding part_passes
  role_fails e =
      test_fails g lt λ part rest holds.
      simp (role_test holds, e)

  -- a part that is not in normal form
  pub form_fails : {under : ℕ} {opened closed new : List ℕ} → TestsNormal is_normal_form calls (from words at) under opened closed None
      → TestsNormal is_normal_form calls words depth old new None
  unfolding part_passes
  form_fails a =
      test_fails g lt λ part rest holds.
      simp (a.told part rest holds, and-false)

  module _ {c : ℕ} {opened closed : List ℕ} {end : ℕ} (o : OpenedMark mid opened depth c) (ce : c ≡ binders_at k j)
      (a : TestsNormal is_normal_form calls (from words at) (depth + c) opened closed (Some end)) where
    keeps_test : {part : Term} {rest : List ℕ} → Holds calls (from words at) part rest
        → keeps_variable k j (first_droppable calls words) (uses part 0)
        ≡ keeps_variable k j (first_droppable calls words) (get_or closed depth 0)
    keeps_test {part} {rest} holds =
        keeps_mark k j (first_droppable calls words) _ _ λ e. sym (own_mark o (a.told part rest holds).marked (ce ∙ e))

    -- a let's body that does not use the variable
    pub use_fails : {new : List ℕ} → keeps_variable k j (first_droppable calls words) (get_or closed depth 0) ≡ false
        → TestsNormal is_normal_form calls words depth old new None
    unfolding part_passes
    use_fails e =
        test_fails g lt λ part rest holds.
        simp (keeps_test holds, e, and-false)

    -- a part that passes
    pub parts_next : suits (role_of k j) (kind_of (get_or words at 0)) ≡ true
        → keeps_variable k j (first_droppable calls words) (get_or closed depth 0) ≡ true → c ≤ 1 → length closed ≡ length opened
        → Testing is_normal_form (part_passes calls k (first_droppable calls words)) calls words old depth k closed n (at + end) (j + 1)
    unfolding part_passes
    parts_next r u c1 =
        test_next g lt o c1 refl ce a λ part rest holds.
        simp (role_test holds, r, (a.told part rest holds).passes, keeps_test holds, u)

-- a function's body stands under its binder; the parts of any other value stand under none
pub function_binds : (k : ℕ) → k ≡ 2 → 1 ≡ binders_at k 0
unfolding binders_at
function_binds k e = ap (λ (i : ℕ). binders_at i 0) (sym e)

pub values_bind_none : (k j : ℕ) → value_kind k ≡ true → (k ≡ 2 → ⊥) → 0 ≡ binders_at k j
unfolding binders_at value_kind
values_bind_none k j v l =
    simp (ne_eqb k 2 l, ne_eqb k 4 (λ z. true≢false (sym v ∙ ap value_kind z)), ne_eqb k 10 (λ z. true≢false (sym v ∙ ap value_kind z)))
