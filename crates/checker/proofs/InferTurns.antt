-- The turns of the inference, for whatever term the words begin with.
use mathlib.Core.Path.{◌≡◌, refl, sym, ◌∙◌, ap, subst}
use mathlib.Core.List.{List}
use mathlib.Core.Logic.{inl, inr}
use mathlib.Core.Option.{none}
use Prim.Native.Nat.{ℕ, ◌+◌, ◌-◌, ◌*◌, ◌/◌, ◌%◌, ◌≤◌, ◌<◌}
use native.Mathlib.Omega.{arith}
use lib.ListN.{length, get_or, set}
use Rattle.std.proofs.lemmas.Option.{same_Some}
use Rattle.std.specs.Prelude.{Some, None}
use Rattle.std.specs.declared.option.Option as code
use Rattle.syntax.specs.Maybe.{option_of}
use Rattle.syntax.specs.Words.{kind_of, number_of, type_of}
use Rattle.syntax.specs.Kinds.{binders_at}
use Rattle.syntax.specs.Tables.{over}
use Rattle.syntax.specs.Term.{Term}
use Rattle.syntax.specs.Parts.{part_count}
use Rattle.words.specs.Fronts.{Holds, Starts, from}
use Rattle.words.proofs.PartsAt.{first_from}
use Rattle.typing.specs.Infer.{infer}
use Rattle.checker.specs.Nodes.{node_type, leaf_type, types_to, Enters}
use Rattle.checker.specs.Answers.{scope, start_of, Infers}
use Rattle.checker.specs.declared.infer.Start.{Start}
use Rattle.checker.specs.declared.infer.Start.TheVariants.{Typed, Node}
use Rattle.checker.proofs.InferredTypes.{none_told, some_told, typed_told, node_told, untyped_told}
use Rattle.checker.proofs.KeptNodes.{kept_depth, Head, kept_head}
use Rattle.checker.proofs.TypeSoFar.{Waits, Ended, begins}
use Rattle.checker.proofs.PartBegins.{waits_inside, waits_depth, begin_many, begin_fail, begin_has, begin_open}
use Rattle.checker.proofs.PartHasType.{give_next, give_last, give_whole}

-- a head in its two parts
halves : (h : ℕ) → h ≡ h / 4 * 4 + h % 4
halves h = omega arith

quarter : (h : ℕ) → h % 4 ≤ 3
quarter h = omega arith

module _ (types calls inputs words : List ℕ) where
  -- the next word begins a part that is to be typed
  pub record Waiting (stack nodes : List ℕ) (at top depth : ℕ) : Type 0 where
    pub start : Starts calls words
    pub low : top ≤ at
    pub stand : (t : Term) (rest : List ℕ) → Holds calls words t rest → Waits types calls inputs words stack nodes at top depth t rest

  -- a part of type A ends before the next word
  pub record Having (stack nodes : List ℕ) (at top depth A : ℕ) : Type 0 where
    pub start : Starts calls words
    pub low : top + 1 ≤ at
    pub stand : (t : Term) (rest : List ℕ) → Holds calls words t rest → Ended types calls inputs words stack nodes at top depth A t rest

  -- the loop's invariant, by whether a type is at hand
  pub record Turn (stack nodes : List ℕ) (at top depth : ℕ) (typed : code.Option ℕ) : Type 0 where
    pub inside : at ≤ length words
    pub low : top ≤ at
    pub deep : depth ≤ top
    pub head : 1 ≤ top → Head calls inputs words nodes top depth
    pub waiting : typed ≡ None → Waiting stack nodes at top depth
    pub having : (A : ℕ) → typed ≡ Some A → Having stack nodes at top depth A

  pub waits : {stack nodes : List ℕ} {at top depth : ℕ} → Waiting stack nodes at top depth → Turn stack nodes at top depth None
  waits {stack} {nodes} {at} {top} {depth} g =
      let s = g.stand _ _ g.start.holds in
      let i = waits_inside types calls inputs words s in
      record {
        inside = omega (arith, i);
        low = g.low;
        deep = waits_depth types calls inputs words s;
        head = kept_head calls inputs words stack nodes s.around top depth s.kept;
        waiting = λ e. g;
        having = λ A e. cc;
      }

  pub has : {stack nodes : List ℕ} {at top depth A : ℕ} → Having stack nodes at top depth A → Turn stack nodes at top depth (Some A)
  has {stack} {nodes} {at} {top} {depth} g =
      let s = g.stand _ _ g.start.holds in
      record {
        inside = omega (arith, s.here.inside);
        low = omega (arith, g.low);
        deep = kept_depth calls inputs words stack nodes s.around top depth s.kept;
        head = kept_head calls inputs words stack nodes s.around top depth s.kept;
        waiting = λ e. cc;
        having = λ B e. subst (Having stack nodes at top depth) (same_Some _ _ e) g;
      }

  untyped : ((t : Term) (rest : List ℕ) → Holds calls words t rest → infer (over types calls inputs) t inputs ≡ none)
      → Infers (over types calls inputs) inputs words None
  untyped e t rest h = ap option_of (sym (e t rest h))

module _ {types calls inputs words : List ℕ} where
  pub turn_first : {stack nodes : List ℕ} → Starts calls words → Turn types calls inputs words stack nodes 0 0 0 None
  turn_first {stack} {nodes} s = waits types calls inputs words
      (record { start = s; low = omega arith; stand = begins types calls inputs words stack nodes })

  module _ {stack nodes : List ℕ} {at top depth : ℕ} (g : Waiting types calls inputs words stack nodes at top depth) where
    abbrev w : ℕ
    w = get_or words at 0

    pub turn_inside : at < length words
    turn_inside = waits_inside types calls inputs words (g.stand _ _ g.start.holds)

    -- what `begin` answers of the slice that starts with the part
    abbrev Begins : code.Option Start → Type 0
    Begins r =
        r ≡ start_of (part_count calls (get_or (from words at) 0 0))
        (leaf_type (over types calls inputs) (scope inputs stack depth) (get_or (from words at) 0 0))

    answer : (r : code.Option Start) → Begins r → r ≡ start_of (part_count calls w) (leaf_type (over types calls inputs) (scope inputs stack depth) w)
    answer r e =
        e ∙ ap (λ (x : ℕ). start_of (part_count calls x) (leaf_type (over types calls inputs) (scope inputs stack depth) x))
        (first_from words at)

    pub turn_fail : Begins None → Infers (over types calls inputs) inputs words None
    turn_fail e = untyped types calls inputs words λ t rest h. elim (untyped_told _ _ (answer None e)) [
      | inl p ↦ begin_fail types calls inputs words (g.stand t rest h) p.0 p.1
      | inr l ↦ begin_many types calls inputs words (g.stand t rest h) l
    ]

    pub turn_leaf : (A : ℕ) → Begins (Some (Typed A)) → Turn types calls inputs words stack nodes (at + 1) top depth (Some A)
    turn_leaf A e =
        let (z, n) = typed_told _ _ A (answer _ e) in
        has types calls inputs words (record {
          start = g.start;
          low = omega (arith, g.low);
          stand = λ t rest h. begin_has types calls inputs words (g.stand t rest h) z A n;
        })

    pub turn_open : (S : List ℕ) (d : ℕ) → Begins (Some Node) → Enters types w 0 0 stack S depth d → top < length nodes → depth < length stack
        → Turn types calls inputs words S (set nodes top (at * 4)) (at + 1) (top + 1) d None
    turn_open S d e enters noted stacked =
        let (l, m) = node_told _ _ (answer _ e) in
        waits types calls inputs words (record {
          start = g.start;
          low = omega (arith, g.low);
          stand = λ t rest h. begin_open types calls inputs words (g.stand t rest h) S d enters l m noted stacked;
        })

  module _ {stack nodes : List ℕ} {at top depth A : ℕ} (g : Having types calls inputs words stack nodes at top depth A) where
    pub turn_whole : top ≡ 0 → Infers (over types calls inputs) inputs words (Some A)
    turn_whole z t rest h =
        ap option_of (sym (give_whole types calls inputs words stack nodes at top depth A t rest (g.stand t rest h) z))

    -- the innermost open node: the last word of the nodes is its head, with its place and the part that has the type
    abbrev last : ℕ
    last = top - 1

    abbrev place : ℕ
    place = get_or nodes last 0 / 4

    abbrev j : ℕ
    j = get_or nodes last 0 % 4

    abbrev v : ℕ
    v = get_or words place 0

    module _ (open' : 1 ≤ top) (b : ℕ) (be : b ≡ binders_at (kind_of v) j) where
      abbrev outside : ℕ
      outside = depth - b

      oe : outside ≡ depth - binders_at (kind_of v) j
      oe = ap (λ (n : ℕ). depth - n) be

      pub turn_next : (S : List ℕ) (r : ℕ) → Enters types v (j + 1) (get_or (set nodes last A) (last - j) 0) stack S outside r
          → j + 1 < part_count calls v → top < length nodes → outside < length stack
          → Turn types calls inputs words S (set (set nodes last A) top (get_or nodes last 0 + 1)) at (top + 1) r None
      turn_next S r enters more noted stacked = waits types calls inputs words (record {
        start = g.start;
        low = g.low;
        stand = λ t rest h.
            let head = get_or nodes last 0 in
            give_next types calls inputs words stack nodes at top depth A t rest (g.stand t rest h) open' last place j refl
            (halves head) (quarter head) (last - j) outside refl oe S r enters more noted stacked;
      })

      -- no part is left, and what `type_from` answers
      module _ (no_more : part_count calls v ≤ j + 1) (noted : last < length nodes) where
        abbrev NodeType : code.Option ℕ → Type 0
        NodeType r = r ≡ option_of (node_type (over types calls inputs) (kind_of v) (number_of v) (type_of v) (types_to (set nodes last A) (last - j) j))

        pub turn_untyped : NodeType None → Infers (over types calls inputs) inputs words None
        turn_untyped e = untyped types calls inputs words λ t rest h.
            let head = get_or nodes last 0 in
            (give_last types calls inputs words stack nodes at top depth A t rest (g.stand t rest h) open' last place j refl
            (halves head) (quarter head) (last - j) outside refl oe no_more noted).1 (none_told _ e)

        pub turn_last : (B : ℕ) → NodeType (Some B) → Turn types calls inputs words stack (set nodes last A) at (last - j) outside (Some B)
        turn_last B e = has types calls inputs words (record {
          start = g.start;
          low = omega (arith, g.low);
          stand = λ t rest h.
              let head = get_or nodes last 0 in
              (give_last types calls inputs words stack nodes at top depth A t rest (g.stand t rest h) open' last place j refl
              (halves head) (quarter head) (last - j) outside refl oe no_more noted).0 B (some_told _ B e);
        })
