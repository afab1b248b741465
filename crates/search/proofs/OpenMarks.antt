-- The mark of a node's binder before any use, by the kind of its word, whether what a let binds may be dropped, and its value test.
use Prim.Native.Nat.{ℕ, ◌≤◌}
use native.Mathlib.Omega.{arith}
use mathlib.Core.Path.{◌≡◌, refl, sym, ◌∙◌, ap, ap₂}
use mathlib.Core.Bool.{Bool, true, false, ◌&&◌, not, cond}
use mathlib.Core.List.{List}
use lib.ListN.{get_or}
use Rattle.syntax.specs.Words.{kind_of, number_of}
use Rattle.syntax.specs.Values.{is_value, is_computation}
use Rattle.syntax.specs.Term.{Term, var, call, lam, app, bind, pair, fst, snd, inl, inr, case, unit, node}
use Rattle.words.specs.Fronts.{Holds, Starts, from}
use Rattle.words.proofs.Traversal.{front_of}
use Rattle.words.proofs.PartsAt.{first_from, parts_of_lem, part_here}
use Rattle.reduction.specs.FitByKinds.{value_kind}
use Rattle.reduction.specs.MayDrop.{may_drop}
use Rattle.search.specs.ValueTest.{TestsValue}
use Rattle.std.proofs.Common.{Option, is_some}
use Rattle.search.specs.Unused.{open_mark, MarksBinder}
use Rattle.search.specs.NodeMayDrop.{node_may_drop}
use Rattle.search.proofs.NodeMayDrop.{by_word}
use Rattle.syntax.proofs.ByKind.{by_kind}
use Rattle.search.proofs.ValueByNode.{other_kind}

-- only a let has a mark below
pub other_mark : (calls : List ℕ) (p : ℕ) (t : Term) → ((node t).kind ≡ 4 → ⊥) → 65536 ≡ open_mark calls p t
unfolding node open_mark
other_mark calls p (var n) h = refl
other_mark calls p (call n ts) h = refl
other_mark calls p (lam A b) h = refl
other_mark calls p (app f a) h = refl
other_mark calls p (bind e b) h = absurd (h refl)
other_mark calls p (pair A a b) h = refl
other_mark calls p (fst a) h = refl
other_mark calls p (snd a) h = refl
other_mark calls p (inl A a) h = refl
other_mark calls p (inr A a) h = refl
other_mark calls p (case s l r) h = refl
other_mark calls p (unit A) h = refl

module _ (calls words : List ℕ) where
  -- what a let binds begins at the next word
  bound_at : (e b : Term) (rest : List ℕ) → Holds calls words (bind e b) rest → Starts calls (from words 1)
  unfolding node
  bound_at e b rest h = record { term = e; rest = _; holds = part_here calls words (parts_of_lem calls words h) }

  pub bound_starts : Starts calls words → kind_of (get_or words 0 0) ≡ 4 → Starts calls (from words 1)
  bound_starts s k = by_kind (λ t. Holds calls words t s.rest → Starts calls (from words 1)) 4 s.term
      (sym (front_of s.holds).kind ∙ k)
      (λ e b h. bound_at e b s.rest h) s.holds

  -- a mark that is right of whatever a let binds
  opens : (p r : ℕ) → r ≤ 65536 → kind_of (get_or words 0 0) ≡ 4
      → ((e : Term) (rest : List ℕ) → Holds calls (from words 1) e rest → r ≡ cond (is_computation e && may_drop calls e) p 65536)
      → MarksBinder calls words p r
  unfolding open_mark node
  opens p r le k mark = record {
    small = le;
    told = λ t rest h. by_kind (λ u. Holds calls words u rest → r ≡ open_mark calls p u) 4 t (sym (front_of h).kind ∙ k)
        (λ e b g. mark e _ (part_here calls words (parts_of_lem calls words g))) h;
  }

  module _ (p : ℕ) (le : p ≤ 65536) (k : kind_of (get_or words 0 0) ≡ 4) where
    -- whether what a let binds may be dropped, by the next word
    module _ (d : Bool) (de : d ≡ node_may_drop calls (kind_of (get_or words 1 0)) (number_of (get_or words 1 0))) where
      may_drop_lem : (e : Term) (rest : List ℕ) → Holds calls (from words 1) e rest → d ≡ may_drop calls e
      may_drop_lem e rest h =
          de ∙ ap (λ (w : ℕ). node_may_drop calls (kind_of w) (number_of w)) (sym (first_from words 1)) ∙ by_word calls (from words 1) e rest h

      -- it may not
      pub opens_kept : d ≡ false → MarksBinder calls words p 65536
      opens_kept f = opens p 65536 (omega arith) k λ e rest h. go (is_computation e) (may_drop calls e) (sym (may_drop_lem e rest h) ∙ f)
        where
          go : (c b : Bool) → b ≡ false → 65536 ≡ cond (c && b) p 65536
          go true b g = sym (ap (λ (x : Bool). cond x p 65536) g)
          go false b g = refl

      -- it may: then it is dropped if it is a computation
      module _ (f : d ≡ true) where
        droppable : (e : Term) (rest : List ℕ) → Holds calls (from words 1) e rest → (v : Bool) → is_value e ≡ v
            → cond v 65536 p ≡ cond (is_computation e && may_drop calls e) p 65536
        unfolding is_computation
        droppable e rest h v ev = go v ev (sym (may_drop_lem e rest h) ∙ f)
          where
            go : (v : Bool) → is_value e ≡ v → may_drop calls e ≡ true → cond v 65536 p ≡ cond (not (is_value e) && may_drop calls e) p 65536
            go true x y = sym (ap (λ (z : Bool). cond (not z && may_drop calls e) p 65536) x)
            go false x y = sym (ap₂ (λ (z d : Bool). cond (not z && d) p 65536) x y)

        -- a part whose first word is not of a value's kind is none
        pub opens_kind : value_kind (kind_of (get_or words 1 0)) ≡ false → MarksBinder calls words p p
        opens_kind n = opens p p le k λ e rest h. droppable e rest h false
            (other_kind e (ap value_kind (sym (ap kind_of (sym (first_from words 1)) ∙ (front_of h).kind)) ∙ n))

        module _ {r : Option ℕ} (a : TestsValue calls (from words 1) r) where
          pub opens_let : is_some r ≡ false → MarksBinder calls words p p
          opens_let e = opens p p le k λ x rest h. droppable x rest h false (sym (a.told x rest h).value_is ∙ e)

          pub opens_value : is_some r ≡ true → MarksBinder calls words p 65536
          opens_value e = opens p 65536 (omega arith) k λ x rest h. droppable x rest h true (sym (a.told x rest h).value_is ∙ e)

  pub opens_other : (p : ℕ) → (kind_of (get_or words 0 0) ≡ 4 → ⊥) → MarksBinder calls words p 65536
  opens_other p n = record { small = omega arith; told = λ t rest h. other_mark calls p t λ e. n ((front_of h).kind ∙ e) }
