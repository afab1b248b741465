-- The next word begins a part: a node without parts has its type, any other node is opened.
use mathlib.Core.Path.{◌≡◌, refl, sym, ◌∙◌, ap, subst}
use mathlib.Core.List.{List, [], ◌∷◌}
use mathlib.Core.Option.{some, none}
use Prim.Native.Nat.{ℕ, ◌+◌, ◌*◌, ◌≤◌, ◌<◌}
use native.Mathlib.Omega.{arith}
use lib.ListN.{length, get_or, set}
use lib.Seq.{get_or-set_same}
use Rattle.syntax.specs.Maybe.{◌>>=◌}
use Rattle.syntax.specs.Words.{kind_of, number_of, type_of}
use Rattle.syntax.specs.Kinds.{binders_at}
use Rattle.syntax.specs.Tables.{Tables, over}
use Rattle.syntax.specs.Term.{Term, Terms, done, arg, node}
use Rattle.syntax.specs.Parts.{part_count}
use Rattle.syntax.specs.Shaped.{count, Shaped}
use Rattle.syntax.proofs.Sizes.{size_arg, size_positive}
use Rattle.words.specs.Joined.{joined}
use Rattle.words.proofs.Joined.{none_left}
use Rattle.words.proofs.Traversal.{front_of}
use Rattle.words.proofs.PartsAt.{PartsAt, part_here, parts_open, first_from}
use Rattle.typing.specs.Infer.{Context, infer}
use Rattle.checker.specs.Nodes.{binder_type, node_type, leaf_type, Enters}
use Rattle.checker.specs.Answers.{scope}
use Rattle.syntax.proofs.ByKind.{by_kind}
use Rattle.checker.proofs.Lookups.{scope_set}
use Rattle.checker.proofs.PartTypes.{infer_parts}
use Rattle.checker.proofs.InferNode.{infer_node, infer_leaf, infer_many}
use Rattle.checker.proofs.OpenNodes.{behind, with_part, climb, climb_none}
use Rattle.checker.proofs.KeptNodes.{AllKept, kept_node, kept_binder, kept_depth}
use Rattle.checker.proofs.TypeSoFar.{pushed, Waits, entered, Ended}

module _ (types calls inputs words : List ℕ) where
  abbrev tables : Tables
  tables = over types calls inputs

  module _ {stack nodes : List ℕ} {at top depth : ℕ} {t : Term} {rest : List ℕ}
      (g : Waits types calls inputs words stack nodes at top depth t rest) where
    abbrev w : ℕ
    w = get_or words at 0

    abbrev Γ : Context
    Γ = scope inputs stack depth

    -- its node
    record Here : Type 0 where
      kind : kind_of w ≡ (node g.part).kind
      number : number_of w ≡ (node g.part).number
      type : type_of w ≡ (node g.part).type
      parts : part_count calls w ≡ count (node g.part).parts
      shaped : Shaped calls g.part

    found : Here
    found =
        let h = part_here calls words g.here in
        let f = front_of h in
        let e = first_from words at in
        record {
          kind = ap kind_of (sym e) ∙ f.kind;
          number = ap number_of (sym e) ∙ f.number;
          type = ap type_of (sym e) ∙ f.type;
          parts = ap (part_count calls) (sym e) ∙ f.parts;
          shaped = h.shaped;
        }

    pub waits_inside : at < length words
    waits_inside = omega (arith, g.here.inside, size_arg g.part (behind g.around), size_positive g.part)

    pub waits_depth : depth ≤ top
    waits_depth = kept_depth calls inputs words stack nodes g.around top depth g.kept

    -- a part with more than three parts has no type
    pub begin_many : 3 < part_count calls w → infer tables t inputs ≡ none
    begin_many h = g.same ∙ ap (climb tables words g.around) (infer_many tables g.part Γ (omega (arith, h, found.parts)))
        ∙ climb_none tables words g.around

    -- the node of a part that is no variable
    as_node : (kind_of w ≡ 0 → ⊥) → part_count calls w ≤ 3
        → infer tables g.part Γ
        ≡ (infer_parts tables (kind_of w) (type_of w) Γ (node g.part).parts 0 (0 ∷ 0 ∷ 0 ∷ [])
        >>= node_type tables (kind_of w) (number_of w) (type_of w))
    as_node z l =
        let f = found in
        rw (← f.kind, ← f.number, ← f.type) at
        (infer_node tables g.part Γ f.shaped (λ y. z (f.kind ∙ y)) (omega (arith, l, f.parts)))

    -- a part with no parts
    begin_leaf : part_count calls w ≡ 0 → infer tables g.part Γ ≡ leaf_type tables Γ w
    unfolding leaf_type
    begin_leaf z =
        let f = found in
        rw (← f.kind, ← f.number, ← f.type) at (infer_leaf tables g.part Γ f.shaped (omega (arith, z, f.parts)))

    pub begin_fail : part_count calls w ≡ 0 → leaf_type tables Γ w ≡ none → infer tables t inputs ≡ none
    begin_fail z e = g.same ∙ ap (climb tables words g.around) (begin_leaf z ∙ e) ∙ climb_none tables words g.around

    pub begin_has : part_count calls w ≡ 0 → (A : ℕ) → leaf_type tables Γ w ≡ some A
        → Ended types calls inputs words stack nodes (at + 1) top depth A t rest
    unfolding joined
    begin_has z A e = record {
      around = g.around;
      kept = g.kept;
      here = subst (λ (ts : Terms). PartsAt calls words (at + 1) (joined ts (behind g.around)) rest) none_there
          (parts_open calls words g.here);
      same = g.same ∙ ap (climb tables words g.around) (begin_leaf z ∙ e);
    }
      where
        none_there : (node g.part).parts ≡ done
        none_there = none_left (λ (ts : Terms). ts ≡ done) (node g.part).parts (omega (arith, z, found.parts)) refl

    -- a part with parts: its first part is next
    pub begin_open : (S : List ℕ) (r : ℕ) → Enters types w 0 0 stack S depth r → 1 ≤ part_count calls w → part_count calls w ≤ 3
        → top < length nodes → depth < length stack → Waits types calls inputs words S (set nodes top (at * 4)) (at + 1) (top + 1) r t rest
    unfolding AllKept behind climb joined count infer_parts node
    begin_open S r enters low few room deep =
        entered types calls inputs words w 0 0 stack S depth r enters (go (node g.part).parts refl)
      where
        B : ℕ
        B = binder_type types (kind_of w) (type_of w) 0 0

        no_variable : kind_of w ≡ 0 → ⊥
        no_variable z = by_kind (λ (u : Term). 1 ≤ count (node u).parts → ⊥) 0 g.part (sym found.kind ∙ z)
            (λ n l. absurd (omega (arith, l))) (omega (arith, low, found.parts))

        go : (ts : Terms) → (node g.part).parts ≡ ts
            → Waits types calls inputs words (set stack depth B) (set nodes top (at * 4)) (at + 1) (top + 1)
            (depth + binders_at (kind_of w) 0) t rest
        go done e = absurd (omega (arith, low, found.parts, ap count e))
        go (arg v us) e = record {
          around = record {
            place = at;
            part = 0;
            found = 0 ∷ 0 ∷ 0 ∷ [];
            context = Γ;
            later = us;
            base = top;
            depth = depth;
          } ∷ g.around;
          kept = (
            record {
              ends = omega arith;
              deep = refl;
              head = ap (λ (n : ℕ). get_or (set nodes top (at * 4)) n 0) (last top)
                  ∙ get_or-set_same nodes top (at * 4) 0 room ∙ sym (last (at * 4));
              types = refl;
              in_scope = sym (scope_set inputs stack depth depth B (omega arith));
              many = omega (arith, found.parts, ap count e);
              few = few;
              inside = waits_inside;
            },
            kept_binder calls inputs words stack (set nodes top (at * 4)) g.around top depth depth B (omega arith)
                (kept_node calls inputs words stack nodes g.around top depth top (at * 4) (omega arith) g.kept),
          );
          part = v;
          here = subst (λ (ts : Terms). PartsAt calls words (at + 1) (joined ts (behind g.around)) rest) e
              (parts_open calls words g.here);
          same = g.same ∙ ap (climb tables words g.around) (as_node no_variable few
              ∙ ap (λ (ts : Terms). infer_parts tables (kind_of w) (type_of w) Γ ts 0 (0 ∷ 0 ∷ 0 ∷ [])
              >>= node_type tables (kind_of w) (number_of w) (type_of w)) e
              ∙ ap (λ (Δ : Context). with_part tables words w Γ us 0 (0 ∷ 0 ∷ 0 ∷ []) (infer tables v Δ))
              (sym (pushed types calls inputs words stack depth w 0 0 deep)));
        }
          where
            last : (n : ℕ) → n + 0 ≡ n
            last n = omega arith
