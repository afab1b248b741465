-- The marks of the nodes passed tell the first redex of phase 3: a node is a let that can be dropped exactly if its mark is in the end its
-- place, and any other mark is at least 65536.
use Prim.Native.Nat.{ℕ, ◌+◌, ◌-◌, ◌≤◌, ◌<◌}
use native.Mathlib.Omega.{arith}
use native.Mathlib.Decide.{ℕ_discrete, dec_lt}
use mathlib.Core.Path.{◌≡◌, refl, sym, ◌∙◌, ap, ap₂, subst}
use mathlib.Core.Bool.{Bool, true, false, cond, ◌&&◌}
use mathlib.Core.List.{List, [], append-nil}
use mathlib.Core.Option.{Option, some, none}
use Rattle.std.proofs.Common.{Some, None}
use lib.Dec.{eqb, ltb}
use Rattle.std.specs.Bool.{then_some}
use lib.ListN.{length, get_or, drop, get_elem?}
use borrow.Author.Tests.{eqb-true, eqb-false, ltb-true, ltb-false}
use Rattle.syntax.specs.Maybe.{given}
use Rattle.syntax.specs.Words.{kind_of}
use Rattle.syntax.specs.Substitution.{rename}
use Rattle.syntax.specs.Term.{Term, var, call, lam, app, bind, pair, fst, snd, inl, inr, case, unit, node, as_bind, parts_of}
use Rattle.syntax.specs.Encoding.{encode, size}
use Rattle.syntax.specs.Shaped.{count, Shaped}
use Rattle.syntax.specs.Values.{is_computation, uses}
use Rattle.syntax.specs.Positions.{Position, positions}
use Rattle.syntax.proofs.Nodes.{tail_part}
use Rattle.syntax.proofs.Sites.{site, drop_site, PositionAt, position_at, index_below}
use Rattle.syntax.proofs.Inherited.{shaped_site}
use Rattle.reduction.specs.declared.Phase.TheVariants.{Dropping}
use Rattle.reduction.specs.declared.Rule.{Rule}
use Rattle.reduction.specs.declared.Rule.TheVariants.{Drop}
use Rattle.reduction.specs.MayDrop.{may_drop}
use Rattle.reduction.specs.Rules.{drop as drop_rule, fire, rules, lower}
use Rattle.reduction.specs.Redex.{Contraction, contract, found_of, first_redex}
use Rattle.reduction.specs.Clear.{Clear}
use Rattle.reduction.proofs.Clear.{clear_down, clear_all, first_at}
use Rattle.reduction.proofs.SearchAnswer.{redex, none_nothing}
use Rattle.words.specs.Fronts.{Holds, from}
use Rattle.words.specs.Reach.{inner}
use Rattle.words.proofs.Sized.{same_term}
use Rattle.words.proofs.PartsAt.{first_from}
use Rattle.words.proofs.Traversal.{front_of, from_from}
use Rattle.search.specs.Unused.{open_mark, final_mark, NoUnusedBefore, Scans, FindsUnused}
use Rattle.search.specs.declared.unused.PartScan.{PartScan}
use Rattle.search.proofs.OpenMarks.{other_mark}

placed : (base n i : ℕ) → base + n + i ≡ base + (n + i)
placed base n i = omega arith

module _ {calls words : List ℕ} {base x : ℕ} where
  pub passed_none : NoUnusedBefore calls words base x 0
  passed_none = record { marks = λ i t rest l h. absurd (omega (arith, l)) }

  pub passed_back : {m : ℕ} (n : ℕ) → n ≤ m → NoUnusedBefore calls words base x m → NoUnusedBefore calls words base x n
  passed_back n le p = record { marks = λ i t rest l h. p.marks i t rest (omega (arith, l, le)) h }

  -- one node more
  pub passed_next : {n : ℕ} → NoUnusedBefore calls words base x n
      → ((t : Term) (rest : List ℕ) → Holds calls (from words n) t rest → x ≤ final_mark calls (base + n) t)
      → NoUnusedBefore calls words base x (n + 1)
  passed_next {n} p q = record { marks = λ i t rest l h. go i t rest l h (ℕ_discrete i n) }
    where
      go : (i : ℕ) (t : Term) (rest : List ℕ) → i < n + 1 → Holds calls (from words i) t rest → Dec (i ≡ n)
          → x ≤ final_mark calls (base + i) t
      go i t rest l h (yes e) = subst (λ (j : ℕ). Holds calls (from words j) t rest → x ≤ final_mark calls (base + j) t) (sym e) (q t rest) h
      go i t rest l h (no e) = p.marks i t rest (omega (arith, l, e)) h

  -- the nodes of the words from n on
  module _ (n l : ℕ) where
    pub passed_behind : NoUnusedBefore calls words base x (n + l) → NoUnusedBefore calls (from words n) (base + n) x l
    passed_behind p = record {
      marks = λ i t rest lt h.
          subst (λ (j : ℕ). x ≤ final_mark calls j t) (sym (placed base n i))
          (p.marks (n + i) t rest (omega (arith, lt)) (subst (λ (ws : List ℕ). Holds calls ws t rest) (from_from words n i) h));
    }

    pub passed_row : NoUnusedBefore calls words base x n → NoUnusedBefore calls (from words n) (base + n) x l
        → NoUnusedBefore calls words base x (n + l)
    passed_row p q = record { marks = λ i t rest lt h. go i t rest lt h (dec_lt i n) }
      where
        behind : (i : ℕ) (t : Term) (rest : List ℕ) → i < l → Holds calls (from words (n + i)) t rest
            → x ≤ final_mark calls (base + (n + i)) t
        behind i t rest lt h = subst (λ (j : ℕ). x ≤ final_mark calls j t) (placed base n i)
            (q.marks i t rest lt (subst (λ (ws : List ℕ). Holds calls ws t rest) (sym (from_from words n i)) h))

        go : (i : ℕ) (t : Term) (rest : List ℕ) → i < n + l → Holds calls (from words i) t rest → Dec (i < n)
            → x ≤ final_mark calls (base + i) t
        go i t rest lt h (yes b) = p.marks i t rest b h
        go i t rest lt h (no b) =
            let e : n + (i - n) ≡ i = omega (arith, b) in
            subst (λ (j : ℕ). Holds calls (from words j) t rest → x ≤ final_mark calls (base + j) t) e
            (behind (i - n) t rest (omega (arith, lt, b))) h

-- a node without inner parts is no let
pub flat_mark : (calls : List ℕ) (p : ℕ) (t : Term) → count (inner t) ≡ 0 → 65536 ≤ final_mark calls p t
unfolding final_mark open_mark inner count
flat_mark calls p (var n) e = omega arith
flat_mark calls p (call k ts) e = omega arith
flat_mark calls p (lam A b) e = absurd (omega (arith, e))
flat_mark calls p (app f a) e = omega arith
flat_mark calls p (bind d b) e = absurd (omega (arith, e))
flat_mark calls p (pair A a b) e = omega arith
flat_mark calls p (fst a) e = omega arith
flat_mark calls p (snd a) e = omega arith
flat_mark calls p (inl A a) e = omega arith
flat_mark calls p (inr A a) e = omega arith
flat_mark calls p (case s l r) e = absurd (omega (arith, e))
flat_mark calls p (unit A) e = omega arith

-- whether a node is a let that can be dropped, and its mark
data Judged (calls : List ℕ) (p : ℕ) (t : Term) : Type 0 where
  stays : contract (may_drop calls) (rules Dropping) t ≡ none → 65536 ≤ final_mark calls p t → Judged calls p t
  drops : (c : Contraction) → contract (may_drop calls) (rules Dropping) t ≡ some c → c.rule ≡ Drop → final_mark calls p t ≡ p
      → Judged calls p t

judge : (calls : List ℕ) (p : ℕ) (t : Term) → Judged calls p t
unfolding contract fire rules drop_rule as_bind parts_of node final_mark open_mark inner uses
judge calls p (var n) = stays refl (omega arith)
judge calls p (call k ts) = stays refl (omega arith)
judge calls p (lam A b) = stays refl (omega arith)
judge calls p (app f a) = stays refl (omega arith)
judge calls p (bind e b) = go (is_computation e && may_drop calls e) refl (eqb (uses b 0) 0) refl
  where
    made : Bool → Bool → Option Contraction
    made d z = elim (given (d && z) (rename b lower)) [
      | some u ↦ some (record { rule = Drop; contractum = u })
      | none ↦ none
    ]

    go : (d : Bool) → (is_computation e && may_drop calls e) ≡ d → (z : Bool) → eqb (uses b 0) 0 ≡ z → Judged calls p (bind e b)
    go false ed z ez = stays (ap (λ (d : Bool). made d (eqb (uses b 0) 0)) ed) (omega (arith, ap (λ (d : Bool). cond d p 65536) ed))
    go true ed true ez = drops (record { rule = Drop; contractum = rename b lower }) (ap₂ made ed ez) refl
        (omega (arith, ap (λ (d : Bool). cond d p 65536) ed, eqb-true (uses b 0) 0 ez))
    go true ed false ez = stays (ap₂ made ed ez) (omega (arith, eqb-false (uses b 0) 0 ez))
judge calls p (pair A a b) = stays refl (omega arith)
judge calls p (fst a) = stays refl (omega arith)
judge calls p (snd a) = stays refl (omega arith)
judge calls p (inl A a) = stays refl (omega arith)
judge calls p (inr A a) = stays refl (omega arith)
judge calls p (case s l r) = stays refl (omega arith)
judge calls p (unit A) = stays refl (omega arith)

-- the subterm at an index begins at its word
subterm_at : {calls words : List ℕ} (t : Term) (s : Shaped calls t) (w : words ≡ encode t) (j : ℕ) (p : Position Term)
    (e : get_elem? (positions t) j ≡ some p) → Holds calls (from words j) p.subterm (site t j p e).after
subterm_at {calls} {words} t s w j p e = record {
  shaped = shaped_site calls t s j p e;
  is = tail_part words j ∙ ap (λ (ws : List ℕ). drop j ws) w ∙ drop_site (site t j p e);
}

-- without a let there is nothing to drop
pub finds_none : {calls words : List ℕ} → ((i : ℕ) → i < length words → kind_of (get_or words i 0) ≡ 4 → ⊥) → length words ≤ 8192
    → FindsUnused calls words None
unfolding size final_mark
finds_none {calls} {words} free small = record {
  told = λ t s w.
      sym (none_nothing (may_drop calls) Dropping t (clear_all (may_drop calls) Dropping t
      (record { misses = λ j p l e. go t s w j p e (judge calls j p.subterm) })));
}
  where
    go : (t : Term) → Shaped calls t → words ≡ encode t → (j : ℕ) (p : Position Term) → get_elem? (positions t) j ≡ some p
        → Judged calls j p.subterm → contract (may_drop calls) (rules Dropping) p.subterm ≡ none
    go t s w j p e (stays f m) = f
    go t s w j p e (drops c f q m) =
        let below : j < length words = omega (arith, index_below t j p e, ap (λ (l : List ℕ). length l) w) in
        let same : kind_of (get_or words j 0) ≡ (node p.subterm).kind =
        ap kind_of (sym (first_from words j)) ∙ (front_of (subterm_at t s w j p e)).kind in
        absurd (omega (arith, m, other_mark calls j p.subterm (λ z. free j below (same ∙ z)), below, small))

module _ {calls words old new : List ℕ} {r : PartScan} (a : Scans calls words 0 0 old new r) (t : Term) (s : Shaped calls t)
    (w : words ≡ encode t) (small : size t ≤ 8192) where
  ends : r.end ≡ size t
  ends = (a.told t [] (record { shaped = s; is = w ∙ sym (append-nil (encode t)) })).0

  clear_first : (n : ℕ) → n ≤ r.first → n ≤ 65536 → Clear (may_drop calls) Dropping t n
  clear_first n le lim = record { misses = λ j p l e. go j p l e (judge calls (0 + j) p.subterm) }
    where
      go : (j : ℕ) (p : Position Term) → j < n → get_elem? (positions t) j ≡ some p → Judged calls (0 + j) p.subterm
          → contract (may_drop calls) (rules Dropping) p.subterm ≡ none
      go j p l e (stays f m) = f
      go j p l e (drops c f q m) = absurd (omega (
        arith,
        m,
        l,
        (a.before n le lim).marks j p.subterm _ (omega (arith, ends, index_below t j p e)) (subterm_at t s w j p e),
      ))

  none_unused : 65536 ≤ r.first → None ≡ first_redex (may_drop calls) Dropping t
  none_unused h = sym (none_nothing (may_drop calls) Dropping t (clear_all (may_drop calls) Dropping t
      (clear_down (may_drop calls) Dropping (size t) (omega (arith, small)) (clear_first 65536 h (omega arith)))))

  module _ (lt : r.first < 65536) where
    -- the node at the place found cannot stay
    no_further : ((u : Term) (rest : List ℕ) → r.first < r.end → Holds calls (from words r.first) u rest
        → 65536 ≤ final_mark calls (0 + r.first) u) → ⊥
    no_further q = let le = a.greatest (r.first + 1) (omega (arith, lt)) passed in omega (arith, le)
      where
        go : (i : ℕ) (u : Term) (rest : List ℕ) → i < r.end → Holds calls (from words i) u rest → Dec (i < r.first) → Dec (i ≡ r.first)
            → final_mark calls (0 + i) u ≡ 0 + i → r.first + 1 ≤ final_mark calls (0 + i) u
        go i u rest l h (yes b) e m =
            absurd (omega (arith, b, m, (a.before r.first (omega arith) (omega (arith, lt))).marks i u rest l h))
        go i u rest l h (no b) (yes e) m = absurd (omega (
          arith,
          m,
          e,
          lt,
          subst (λ (j : ℕ). j < r.end → Holds calls (from words j) u rest → 65536 ≤ final_mark calls (0 + j) u) (sym e) (q u rest) l h,
        ))
        go i u rest l h (no b) (no e) m = omega (arith, b, e, m)

        judged : (i : ℕ) (u : Term) (rest : List ℕ) → i < r.end → Holds calls (from words i) u rest → Judged calls (0 + i) u
            → r.first + 1 ≤ final_mark calls (0 + i) u
        judged i u rest l h (stays f m) = omega (arith, m, lt)
        judged i u rest l h (drops c f e m) = go i u rest l h (dec_lt i r.first) (ℕ_discrete i r.first) m

        passed : NoUnusedBefore calls words 0 (r.first + 1) r.end
        passed = record { marks = λ i u rest l h. judged i u rest l h (judge calls (0 + i) u) }

    first_unused : Some (redex Drop r.first) ≡ first_redex (may_drop calls) Dropping t
    unfolding first_redex
    first_unused = sym (inside (dec_lt r.first (size t)))
      where
        here : (p : PositionAt t r.first) → Judged calls (0 + r.first) p.position.subterm
            → first_redex (may_drop calls) Dropping t ≡ Some (redex Drop r.first)
        here p (stays f m) = absurd (no_further λ u rest l h.
            subst (λ (z : Term). 65536 ≤ final_mark calls (0 + r.first) z)
            (sym (same_term h (subterm_at t s w r.first p.position p.is))) m)
        here p (drops c f q m) =
            ap found_of (first_at (may_drop calls) Dropping t r.first p.position c
            (clear_first r.first (omega arith) (omega (arith, lt))) p.is f)
            ∙ ap (λ (k : Rule). Some (redex k r.first)) q

        inside : Dec (r.first < size t) → first_redex (may_drop calls) Dropping t ≡ Some (redex Drop r.first)
        inside (yes l) = let p = position_at t r.first l in here p (judge calls (0 + r.first) p.position.subterm)
        inside (no l) = absurd (no_further λ u rest b h. absurd (omega (arith, l, b, ends)))

module _ {calls words old new : List ℕ} {r : PartScan} (a : Scans calls words 0 0 old new r) (small : length words ≤ 8192) where
  short : (t : Term) → words ≡ encode t → size t ≤ 8192
  unfolding size
  short t w = omega (arith, small, ap (λ (l : List ℕ). length l) w)

  pub finds_redex : r.first < 65536 → FindsUnused calls words (Some (redex Drop r.first))
  finds_redex lt = record { told = λ t s w. first_unused a t s w (short t w) lt }

  pub finds_nothing : 65536 ≤ r.first → FindsUnused calls words None
  finds_nothing le = record { told = λ t s w. none_unused a t s w (short t w) le }

  pub finds_least : FindsUnused calls words (then_some (ltb r.first 65536) (redex Drop r.first))
  finds_least = go (ltb r.first 65536) refl
    where
      go : (b : Bool) → ltb r.first 65536 ≡ b → FindsUnused calls words (then_some b (redex Drop r.first))
      go true e = finds_redex (ltb-true _ _ e)
      go false e = finds_nothing (ltb-false _ _ e)
