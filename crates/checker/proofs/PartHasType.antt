-- A part has a type: the innermost open node has its next part typed, or has its own type if there is none.
use mathlib.Core.Path.{◌≡◌, refl, sym, ◌∙◌, ap, ap₂, subst}
use mathlib.Core.List.{List, [], ◌∷◌}
use mathlib.Core.Option.{Option, some, none}
use Prim.Native.Nat.{ℕ, suc, ◌+◌, ◌-◌, ◌*◌, ◌≤◌, ◌<◌}
use native.Mathlib.Omega.{arith}
use native.Mathlib.Numerals.{add-one}
use lib.ListN.{length, get_or, set, length-set}
use lib.Seq.{get_or-set_same}
use Rattle.syntax.specs.Words.{kind_of, number_of, type_of}
use Rattle.syntax.specs.Kinds.{binders_at}
use Rattle.syntax.specs.Tables.{Tables, over}
use Rattle.syntax.specs.Term.{Term, Terms, done, arg}
use Rattle.syntax.specs.Parts.{part_count}
use Rattle.syntax.specs.Shaped.{count}
use Rattle.words.specs.Joined.{joined}
use Rattle.words.proofs.Joined.{none_left}
use Rattle.words.proofs.PartsAt.{PartsAt}
use Rattle.typing.specs.Infer.{Context, infer}
use Rattle.checker.specs.Nodes.{binder_type, node_type, types_to, Enters}
use Rattle.checker.specs.Answers.{scope}
use Rattle.checker.proofs.Lookups.{extend, scope_set}
use Rattle.checker.proofs.PartTypes.{inside, infer_parts}
use Rattle.checker.proofs.OpenNodes.{Open, behind, with_part, climb, climb_none}
use Rattle.checker.proofs.KeptNodes.{types_set, types_kept, Kept, AllKept, kept_node, kept_binder}
use Rattle.checker.proofs.TypeSoFar.{pushed, entered, Waits, Ended}

module _ (types calls inputs words : List ℕ) where
  abbrev tables : Tables
  tables = over types calls inputs

  module _ (stack nodes : List ℕ) (at top depth A : ℕ) (t : Term) (rest : List ℕ) where
    -- the next part is typed: p is the node's place, j the part that has type A
    abbrev Nexts : (last base p j outside : ℕ) → Type 0
    Nexts last base p j outside =
        (S : List ℕ) (r : ℕ) → Enters types (get_or words p 0) (j + 1) (get_or (set nodes last A) base 0) stack S outside r
        → j + 1 < part_count calls (get_or words p 0) → top < length nodes → outside < length stack
        → Waits types calls inputs words S (set (set nodes last A) top (get_or nodes last 0 + 1)) at (top + 1) r t rest

    -- there is none: the node's type
    abbrev type_with : (last base p j : ℕ) → Option ℕ
    type_with last base p j =
        node_type tables (kind_of (get_or words p 0)) (number_of (get_or words p 0)) (type_of (get_or words p 0)) (types_to (set nodes last A) base j)

    abbrev Ends : (last base p j outside : ℕ) → Type 0
    Ends last base p j outside =
        part_count calls (get_or words p 0) ≤ j + 1 → last < length nodes
        → ((B : ℕ) → type_with last base p j ≡ some B → Ended types calls inputs words stack (set nodes last A) at base outside B t rest)
        × (type_with last base p j ≡ none → infer tables t inputs ≡ none)

    module _ (f : Open) (fs : List Open) (k : Kept calls inputs words stack nodes f top depth)
        (ks : AllKept calls inputs words stack nodes fs f.base f.depth)
        (here : PartsAt calls words at (joined f.later (behind fs)) rest)
        (same : infer tables t inputs ≡ climb tables words (f ∷ fs) (some A)) where
      abbrev w : ℕ
      w = get_or words f.place 0

      abbrev last : ℕ
      last = f.base + f.part

      abbrev found : List ℕ
      found = set f.found f.part A

      found_is : last < length nodes → found ≡ types_to (set nodes last A) f.base f.part
      found_is l = ap (λ (F : List ℕ). set F f.part A) k.types
          ∙ sym (types_set nodes f.base f.part A (omega (arith, k.many, k.few)) l)

      nexts : Nexts last f.base f.place f.part f.depth
      unfolding count behind climb AllKept infer_parts joined
      nexts S r enters more room deep =
          entered types calls inputs words w (f.part + 1) first stack S f.depth r enters (go f.later refl)
        where
          first : ℕ
          first = get_or (set nodes last A) f.base 0

          B : ℕ
          B = binder_type types (kind_of w) (type_of w) (f.part + 1) first

          l : last < length nodes
          l = omega (arith, k.ends, room)

          go : (ts : Terms) → f.later ≡ ts
              → Waits types calls inputs words (set stack f.depth B) (set (set nodes last A) top (get_or nodes last 0 + 1)) at (top + 1)
              (f.depth + binders_at (kind_of w) (f.part + 1)) t rest
          go done e = absurd (omega (arith, more, k.many, ap count e))
          go (arg v us) e = record {
            around = record {
              place = f.place;
              part = suc f.part;
              found = found;
              context = f.context;
              later = us;
              base = f.base;
              depth = f.depth;
            } ∷ fs;
            kept = (
              record {
                ends = omega (arith, k.ends);
                deep = ap (λ (n : ℕ). f.depth + binders_at (kind_of w) n) (add-one f.part);
                head = ap (λ (n : ℕ). get_or (set (set nodes last A) top (get_or nodes last 0 + 1)) n 0) at_top
                    ∙ get_or-set_same (set nodes last A) top (get_or nodes last 0 + 1) 0 (omega (arith, room, length-set nodes last A))
                    ∙ omega (arith, k.head);
                types = found_is l
                    ∙ sym (types_kept (set nodes last A) f.base (suc f.part) top (get_or nodes last 0 + 1) (omega (arith, more, k.few))
                    (omega (arith, k.ends)));
                in_scope = k.in_scope ∙ sym (scope_set inputs stack f.depth f.depth B (omega arith));
                many = omega (arith, k.many, ap count e);
                few = k.few;
                inside = k.inside;
              },
              kept_binder calls inputs words stack _ fs f.base f.depth f.depth B (omega arith)
                  (kept_node calls inputs words stack (set nodes last A) fs f.base f.depth top _ (omega (arith, k.ends))
                  (kept_node calls inputs words stack nodes fs f.base f.depth last A (omega arith) ks)),
            );
            part = v;
            here = subst (λ (ts : Terms). PartsAt calls words at (joined ts (behind fs)) rest) e here;
            same = same
                ∙ ap (λ (ts : Terms). climb tables words fs (with_part tables words w f.context ts f.part f.found (some A))) e
                ∙ ap (λ (Δ : Context). climb tables words fs
                (with_part tables words w f.context us (suc f.part) found (infer tables v Δ))) context;
          }
            where
              at_top : f.base + suc f.part ≡ top
              at_top = omega (arith, k.ends)

              context : inside tables (kind_of w) (type_of w) f.context (suc f.part) found
                  ≡ scope inputs (set stack f.depth B) (f.depth + binders_at (kind_of w) (f.part + 1))
              context =
                  ap (λ (n : ℕ). extend (binders_at (kind_of w) n) (binder_type types (kind_of w) (type_of w) n (get_or found 0 0)) f.context)
                  (sym (add-one f.part))
                  ∙ ap₂ {C = Context} (λ (F : ℕ) (Δ : Context). extend (binders_at (kind_of w) (f.part + 1))
                  (binder_type types (kind_of w) (type_of w) (f.part + 1) F) Δ) (ap (λ (F : List ℕ). get_or F 0 0) (found_is l)) k.in_scope
                  ∙ sym (pushed types calls inputs words stack f.depth w (f.part + 1) first deep)

      ends : Ends last f.base f.place f.part f.depth
      unfolding infer_parts joined climb
      ends no_more l = (
        λ B e. record {
          around = fs;
          kept = kept_node calls inputs words stack nodes fs f.base f.depth last A (omega arith) ks;
          here = subst (λ (ts : Terms). PartsAt calls words at (joined ts (behind fs)) rest) all_typed here;
          same = of_node ∙ ap (climb tables words fs) e;
        },
        λ e. of_node ∙ ap (climb tables words fs) e ∙ climb_none tables words fs,
      )
        where
          all_typed : f.later ≡ done
          all_typed = none_left (λ (ts : Terms). ts ≡ done) f.later (omega (arith, no_more, k.many)) refl

          of_node : infer tables t inputs ≡ climb tables words fs (type_with last f.base f.place f.part)
          of_node = same
              ∙ ap (λ (ts : Terms). climb tables words fs (with_part tables words w f.context ts f.part f.found (some A))) all_typed
              ∙ ap (λ (F : List ℕ). climb tables words fs (node_type tables (kind_of w) (number_of w) (type_of w) F)) (found_is l)

    -- a node is open
    record Innermost : Type 0 where
      self : Open
      others : List Open
      kept : Kept calls inputs words stack nodes self top depth
      all_kept : AllKept calls inputs words stack nodes others self.base self.depth
      here : PartsAt calls words at (joined self.later (behind others)) rest
      same : infer tables t inputs ≡ climb tables words (self ∷ others) (some A)

    innermost : Ended types calls inputs words stack nodes at top depth A t rest → 1 ≤ top → Innermost
    unfolding AllKept behind climb
    innermost g l = go g.around g.kept g.here g.same
      where
        go : (fs : List Open) → AllKept calls inputs words stack nodes fs top depth → PartsAt calls words at (behind fs) rest
            → infer tables t inputs ≡ climb tables words fs (some A) → Innermost
        go [] k h e = absurd (omega (arith, l, k.0))
        go (f ∷ fs) (k, ks) h e = record { self = f; others = fs; kept = k; all_kept = ks; here = h; same = e }

    -- its head says where its word is and which part has the type
    module _ (g : Ended types calls inputs words stack nodes at top depth A t rest) (some-open : 1 ≤ top) (last p j : ℕ)
        (le : last ≡ top - 1) (he : get_or nodes last 0 ≡ p * 4 + j) (l : j ≤ 3) where
      abbrev i : Innermost
      i = innermost g some-open

      abbrev f : Open
      f = i.self

      last_is : f.base + f.part ≡ last
      last_is = omega (arith, i.kept.ends, le)

      heads : f.place * 4 + f.part ≡ p * 4 + j
      heads = sym i.kept.head ∙ ap (λ (n : ℕ). get_or nodes n 0) last_is ∙ he

      part_is : f.part ≡ j
      part_is = omega (arith, heads, i.kept.many, i.kept.few, l)

      place_is : f.place ≡ p
      place_is = omega (arith, heads, part_is)

      binders_are : binders_at (kind_of (get_or words f.place 0)) f.part ≡ binders_at (kind_of (get_or words p 0)) j
      binders_are = ap₂ {C = ℕ} (λ (n m : ℕ). binders_at (kind_of (get_or words n 0)) m) place_is part_is

      module _ (base outside : ℕ) (be : base ≡ last - j) (oe : outside ≡ depth - binders_at (kind_of (get_or words p 0)) j) where
        moved : (P : (last base p j outside : ℕ) → Type 0) → P (f.base + f.part) f.base f.place f.part f.depth
            → P last base p j outside
        moved P x =
            subst (λ (n : ℕ). P last base p j n) (omega (arith, oe, i.kept.deep, binders_are))
            (subst (λ (n : ℕ). P last base p n f.depth) part_is
            (subst (λ (n : ℕ). P last base n f.part f.depth) place_is
            (subst (λ (n : ℕ). P last n f.place f.part f.depth) (omega (arith, be, last_is, part_is))
            (subst (λ (n : ℕ). P n f.base f.place f.part f.depth) last_is x))))

        pub give_next : Nexts last base p j outside
        give_next = moved Nexts (nexts f i.others i.kept i.all_kept i.here i.same)

        pub give_last : Ends last base p j outside
        give_last = moved Ends (ends f i.others i.kept i.all_kept i.here i.same)

    -- none is: the type is the whole term's
    pub give_whole : Ended types calls inputs words stack nodes at top depth A t rest → top ≡ 0 → infer tables t inputs ≡ some A
    unfolding AllKept climb
    give_whole g z = go g.around g.kept g.same
      where
        go : (fs : List Open) → AllKept calls inputs words stack nodes fs top depth
            → infer tables t inputs ≡ climb tables words fs (some A) → infer tables t inputs ≡ some A
        go [] k e = e
        go (f ∷ fs) (k, ks) e = absurd (omega (arith, k.ends, z))
