-- A forward scan finds the first redex: the nodes of a term are its words in index order, so word k of the words from index i on begins the
-- subterm at index i + k, and a node that no rule fits moves the place that no redex stands before by one.
use Prim.Native.Nat.{ℕ, ◌+◌, ◌-◌, ◌≤◌, ◌<◌}
use mathlib.Core.Path.{◌≡◌, refl, sym, ◌∙◌, ap}
use mathlib.Core.List.{List}
use mathlib.Core.Option.{Option, some, none, map}
use Rattle.std.specs.declared.option.Option as code
use Rattle.std.proofs.Common.{Some, None}
use Rattle.syntax.specs.Maybe.{option_of}
use native.Mathlib.Omega.{arith}
use lib.ListN.{length, drop, get_elem?, length-drop}
use lib.Seq.{drop-drop}
use Rattle.syntax.specs.Term.{Term}
use Rattle.syntax.specs.Encoding.{encode, size}
use Rattle.syntax.specs.Positions.{Position, positions}
use Rattle.syntax.proofs.Nodes.{tail_part}
use Rattle.syntax.proofs.Sites.{site, drop_site, position_at}
use Rattle.syntax.proofs.Inherited.{shaped_site}
use Rattle.reduction.specs.MayDrop.{may_drop}
use Rattle.reduction.specs.Rules.{rules}
use Rattle.reduction.specs.Clear.{Clear}
use Rattle.reduction.specs.declared.Phase.{Phase}
use Rattle.reduction.specs.declared.Phase.TheVariants.{Insertion, Reduction, Dropping}
use Rattle.reduction.specs.declared.Rule.{Rule}
use Rattle.reduction.specs.Redex.{Contraction, contract, found_of, first_redex}
use Rattle.reduction.proofs.Clear.{clear_down, clear_suc, clear_all, first_at}
use Rattle.reduction.proofs.SearchAnswer.{redex}
use Rattle.reduction.proofs.EachSite.{each_site}
use Rattle.theory.proofs.Operands.{Ops, inserted, not_inserted}
use Rattle.words.specs.Fronts.{Holds, Starts, from}
use Rattle.search.specs.Fits.{rule_of, Scannable, Fits}
use Rattle.search.specs.Searches.{Onward, Continues, FindsFirst}

-- what is known of a term is known of its subterms
scannable_site : (calls : List ℕ) (phase : Phase) (t : Term) (i : ℕ) (p : Position Term) → get_elem? (positions t) i ≡ some p
    → Scannable calls phase t
    → Scannable calls phase p.subterm
scannable_site calls Insertion t i p e h = tt
scannable_site calls Reduction t i p e h = not_inserted (may_drop calls) p.subterm (each_site Ops t (inserted (may_drop calls) t h) i p e)
scannable_site calls Dropping t i p e h = h

-- no rule fits, and one does
no_rule : (calls : List ℕ) (phase : Phase) (t : Term) → option_of (rule_of calls phase t) ≡ None
    → contract (may_drop calls) (rules phase) t ≡ none
unfolding rule_of
no_rule calls phase t e = go (contract (may_drop calls) (rules phase) t) e
  where
    go : (o : Option Contraction) → option_of (map (λ (c : Contraction). c.rule) o) ≡ None → o ≡ none
    go none d = refl
    go (some c) d = absurd cc

record Rules (calls : List ℕ) (phase : Phase) (t : Term) (r : Rule) : Type 0 where
  contraction : Contraction
  is : contract (may_drop calls) (rules phase) t ≡ some contraction
  rule_is : contraction.rule ≡ r

a_rule : (calls : List ℕ) (phase : Phase) (t : Term) (r : Rule) → option_of (rule_of calls phase t) ≡ Some r
    → Rules calls phase t r
unfolding rule_of
a_rule calls phase t r e = go (contract (may_drop calls) (rules phase) t) refl e
  where
    go : (o : Option Contraction) → contract (may_drop calls) (rules phase) t ≡ o
        → option_of (map (λ (c : Contraction). c.rule) o) ≡ Some r → Rules calls phase t r
    go none f d = absurd cc
    go (some c) f d = record { contraction = c; is = f; rule_is = cc }

-- a node that a rule fits, where no redex stands before it, is the first redex
redex_at : (calls : List ℕ) (phase : Phase) (t : Term) (i : ℕ) (p : Position Term) (r : Rule) → Clear (may_drop calls) phase t i
    → get_elem? (positions t) i ≡ some p
    → Rules calls phase p.subterm r → first_redex (may_drop calls) phase t ≡ Some (redex r i)
unfolding first_redex
redex_at calls phase t i p r h e c = ap found_of (first_at (may_drop calls) phase t i p c.contraction h e c.is)
    ∙ ap (λ (q : Rule). Some (redex q i)) c.rule_is

module _ (phase : Phase) (calls words : List ℕ) where
  -- no redex stands before word k
  pub record Scanned (k : ℕ) : Type 0 where
    pub within : k ≤ length words
    pub clear : (t : Term) (i : ℕ) → Onward phase calls words t i → Clear (may_drop calls) phase t (i + k)

  -- before the first word
  pub forward_enter : Scanned 0
  forward_enter = record {
    within = omega arith;
    clear = λ t i o. clear_down (may_drop calls) phase (i + 0) (omega arith) o.clear;
  }

  module _ (t : Term) (i : ℕ) (o : Onward phase calls words t i) where
    -- the words of the slice end where the term's do
    ends : length words ≡ size t - i
    unfolding size
    ends = ap (λ (ws : List ℕ). length ws) o.is ∙ length-drop i (encode t)

    module _ (k : ℕ) (p : Position Term) (e : get_elem? (positions t) (i + k) ≡ some p) where
      -- the subterm at index i + k begins at word k
      subterm_at : Holds calls (from words k) p.subterm (site t (i + k) p e).after
      subterm_at = record {
        shaped = shaped_site calls t o.shaped (i + k) p e;
        is = tail_part words k ∙ ap (λ (ws : List ℕ). drop k ws) o.is ∙ drop-drop k i (encode t) ∙ drop_site (site t (i + k) p e);
      }

      fit_at : {f : code.Option Rule} → Fits phase calls (from words k) f → f ≡ option_of (rule_of calls phase p.subterm)
      fit_at a = a.told p.subterm _ subterm_at (scannable_site calls phase t (i + k) p e o.ready)

  module _ (k : ℕ) (lt : k < length words) where
    -- a term starts at word k
    pub forward_starts : Continues phase calls words → Starts calls (from words k)
    forward_starts c =
        let o = c.onward in
        let p = position_at c.term (c.index + k) (omega (arith, ends c.term c.index o)) in
        record { term = p.position.subterm; rest = _; holds = subterm_at c.term c.index o k p.position p.is }

    module _ (s : Scanned k) {f : code.Option Rule} (a : Fits phase calls (from words k) f) where
      -- no rule fits there
      pub forward_next : f ≡ None → Scanned (k + 1)
      forward_next e = record {
        within = omega arith;
        clear = λ t i o. clear_down (may_drop calls) phase (i + (k + 1)) (omega arith)
            (clear_suc (may_drop calls) phase (s.clear t i o) λ p d. no_rule calls phase p.subterm (sym (fit_at t i o k p d a) ∙ e));
      }

      -- a rule fits there
      pub forward_found : (r : Rule) → f ≡ Some r → FindsFirst phase calls words (Some (redex r k))
      forward_found r e = record {
        told = λ t i o.
            let p = position_at t (i + k) (omega (arith, ends t i o)) in
            let q = p.position in
            sym (redex_at calls phase t (i + k) q r (s.clear t i o) p.is
            (a_rule calls phase q.subterm r (sym (fit_at t i o k q p.is a) ∙ e)));
      }

  -- after the last word
  pub forward_end : (k : ℕ) → Scanned k → length words ≤ k → FindsFirst phase calls words None
  unfolding first_redex
  forward_end k s ge = record {
    told = λ t i o. sym (ap found_of (clear_all (may_drop calls) phase t
        (clear_down (may_drop calls) phase (size t) (omega (arith, ends t i o)) (s.clear t i o))));
  }
