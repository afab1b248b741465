-- Types, on words: while nodes are begun and their parts typed, the whole term's type is what the open nodes make of the next part's.
use mathlib.Core.Path.{◌≡◌, refl, sym, ◌∙◌, ap, subst}
use mathlib.Core.List.{List, [], ◌++◌, append-nil}
use mathlib.Core.Option.{some}
use Prim.Native.Nat.{ℕ, ◌+◌, ◌<◌}
use native.Mathlib.Omega.{arith}
use lib.ListN.{length, set}
use Rattle.syntax.specs.Words.{kind_of, type_of}
use Rattle.syntax.specs.Kinds.{binders_at}
use Rattle.syntax.specs.Tables.{Tables, over}
use Rattle.syntax.specs.Term.{Term, done, arg}
use Rattle.syntax.specs.Encoding.{encode}
use Rattle.syntax.specs.Shaped.{Shaped}
use Rattle.syntax.proofs.Sizes.{size_arg, size_done}
use Rattle.words.specs.Fronts.{Holds}
use Rattle.words.proofs.Traversal.{fits}
use Rattle.words.proofs.PartsAt.{PartsAt}
use Rattle.typing.specs.Infer.{infer}
use Rattle.checker.specs.Nodes.{binder_type, Enters}
use Rattle.checker.specs.Answers.{scope}
use Rattle.checker.proofs.Lookups.{extend, scope_push}
use Rattle.checker.proofs.OpenNodes.{Open, behind, climb}
use Rattle.checker.proofs.KeptNodes.{one_binder, AllKept}

module _ (types calls inputs words : List ℕ) where
  abbrev tables : Tables
  tables = over types calls inputs

  -- the context of a part, its binder's type on top of the stack
  pub pushed : (stack : List ℕ) (depth w j F : ℕ) → depth < length stack
      → (let B = binder_type types (kind_of w) (type_of w) j F in
      scope inputs (set stack depth B) (depth + binders_at (kind_of w) j) ≡ extend (binders_at (kind_of w) j) B (scope inputs stack depth))
  pushed stack depth w j F l =
      scope_push inputs stack depth (binders_at (kind_of w) j) (binder_type types (kind_of w) (type_of w) j F) l (one_binder (kind_of w) j)

  -- the next word begins a part that is to be typed
  pub record Waits (stack nodes : List ℕ) (at top depth : ℕ) (t : Term) (rest : List ℕ) : Type 0 where
    pub around : List Open
    pub kept : AllKept calls inputs words stack nodes around top depth
    pub part : Term
    pub here : PartsAt calls words at (arg part (behind around)) rest
    pub same : infer tables t inputs ≡ climb tables words around (infer tables part (scope inputs stack depth))

  pub entered : (w j F : ℕ) (stack S : List ℕ) (depth r : ℕ) {nodes : List ℕ} {at top : ℕ} {t : Term} {rest : List ℕ}
      → Enters types w j F stack S depth r
      → Waits (set stack depth (binder_type types (kind_of w) (type_of w) j F)) nodes at top (depth + binders_at (kind_of w) j) t rest
      → Waits S nodes at top r t rest
  entered w j F stack S depth r {nodes} {at} {top} {t} {rest} e g =
      subst (λ (l : List ℕ). Waits l nodes at top r t rest) (sym e.stacked)
      (subst (λ (n : ℕ). Waits (set stack depth (binder_type types (kind_of w) (type_of w) j F)) nodes at top n t rest) (sym e.deep) g)

  -- a part of type A ends before the next word
  pub record Ended (stack nodes : List ℕ) (at top depth A : ℕ) (t : Term) (rest : List ℕ) : Type 0 where
    pub around : List Open
    pub kept : AllKept calls inputs words stack nodes around top depth
    pub here : PartsAt calls words at (behind around) rest
    pub same : infer tables t inputs ≡ climb tables words around (some A)

  -- at the start
  pub begins : (stack nodes : List ℕ) (t : Term) (rest : List ℕ) → Holds calls words t rest → Waits stack nodes 0 0 0 t rest
  unfolding AllKept behind climb scope Shaped encode
  begins stack nodes t rest h = record {
    around = [];
    kept = (refl, refl);
    part = t;
    here = record {
      shaped = (h.shaped, tt);
      here = h.is ∙ ap (λ (l : List ℕ). l ++ rest) (sym (append-nil (encode t)));
      inside = omega (arith, fits h, size_arg t done, size_done);
    };
    same = refl;
  }
