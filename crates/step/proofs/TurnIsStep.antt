-- A turn is the definition's step: what the search found is the first redex, and rewriting it gives the next term.
use Prim.Native.Nat.{ℕ, ◌+◌, ◌≤◌, ◌<◌}
use native.Mathlib.Omega.{arith}
use mathlib.Core.Path.{◌≡◌, refl, sym, ◌∙◌, ap, subst}
use mathlib.Core.Bool.{Bool, true, false}
use mathlib.Core.List.{List, [], ◌∷◌}
use mathlib.Core.Option.{Option, some, none, some-injective, none-ne-some}
use lib.ListN.{length, get_elem?}
use Rattle.std.specs.Prelude.{Some, None, Result, Ok, Err}
use Rattle.syntax.specs.Term.{Term}
use Rattle.syntax.specs.Encoding.{size}
use Rattle.syntax.specs.Positions.{positions}
use Rattle.syntax.proofs.Nodes.{tail_part}
use Rattle.syntax.proofs.Sites.{site, size_plugged, index_below}
use Rattle.reduction.specs.MayDrop.{may_drop}
use Rattle.reduction.specs.Rules.{fire, rules}
use Rattle.reduction.specs.Redex.{Contraction, contract, Step, step}
use Rattle.reduction.specs.Reduction.{ceiling_met}
use Rattle.reduction.specs.declared.Rule.{Rule}
use Rattle.reduction.specs.declared.Phase.{Phase}
use Rattle.reduction.specs.declared.Phase.TheVariants.{Insertion, Reduction, Dropping}
use Rattle.reduction.specs.declared.Redex.{Redex}
use Rattle.reduction.proofs.Clear.{step_at}
use Rattle.reduction.proofs.SearchAnswer.{StepAt, redex_step, nothing_none}
use Rattle.words.specs.Fronts.{from}
use Rattle.words.proofs.Traversal.{from_length}
use Rattle.outcomes.specs.declared.Refusal.{Refusal}
use Rattle.outcomes.specs.declared.Refusal.TheVariants.{Budget, Ceiling}
use Rattle.step.specs.Currents.{Gapped}
use Rattle.step.specs.declared.gap.Gap.{Gap}
use Rattle.step.specs.Gaps.{Seekable, Seeks}
use Rattle.search.specs.Finds.{SearchAt, Searchable, Finds}
use Rattle.step.specs.Rewrites.{RedexAt, Rewritable, RewrittenTo, too_long, there, RewritesRedex}
use Rattle.step.specs.Turns.{CurrentClear, Ready, Turned, stops, spent, met, full, goes, Turns}
use Rattle.search.specs.NextFrom.{next_from}
use Rattle.step.proofs.GapMoved.{gapped_size, gapped_behind, gapped_seekable, gapped_sought}

-- what a phase makes of a node is what the rule it names makes of it
contract_fires : (pure : Term → Bool) (rs : List Rule) (t : Term) (c : Contraction) → contract pure rs t ≡ some c
    → fire pure c.rule t ≡ some c.contractum
unfolding contract
contract_fires pure [] t c e = absurd (none-ne-some c e)
contract_fires pure (r ∷ rs) t c e = go (fire pure r t) refl e (contract_fires pure rs t c)
  where
    go : (o : Option Term) → fire pure r t ≡ o
        → (elim o as (λ _. Option Contraction) [ some u ↦ some (record { rule = r; contractum = u }) | none ↦ contract pure rs t ]) ≡
        some c
        → (contract pure rs t ≡ some c → fire pure c.rule t ≡ some c.contractum)
        → fire pure c.rule t ≡ some c.contractum
    go none d h k = k h
    go (some u) d h k =
        let q = some-injective (record { rule = r; contractum = u }) c h in
        subst (λ (x : Contraction). fire pure x.rule t ≡ some x.contractum) q d

-- where the search goes on is within the next term
inside_next : (pure : Term → Bool) (phase : Phase) (t : Term) (s : Step) → step pure phase t ≡ some s
    → next_from phase s.place ≤ size s.next
unfolding next_from
inside_next pure phase t s e = below phase (place_inside t s e)
  where
    place_inside : (t : Term) (s : Step) → step pure phase t ≡ some s → s.place ≤ size s.next
    place_inside t s e =
        let f = step_at pure phase t s e in
        omega (arith, ap size f.next, size_plugged (site t s.place f.position f.at) f.contraction.contractum)

    below : (phase : Phase) → s.place ≤ size s.next → next_from phase s.place ≤ size s.next
    below Insertion h = h
    below Reduction h = omega (arith, h)
    below Dropping h = omega arith

-- what the search finds: whatever term is current takes a step by the rule, at the place
pub record FirstRedex (phase : Phase) (calls before : List ℕ) (start end : ℕ) (rule : Rule) (place : ℕ) : Type 0 where
  pub step_of : (t : Term) → CurrentClear phase calls before start end t → StepAt (may_drop calls) phase t rule place

-- and the gap is there
pub record GapAtRedex (phase : Phase) (calls before : List ℕ) (start end : ℕ) (rule : Rule) (place : ℕ) (sought : List ℕ) (behind : ℕ)
    : Type 0 where
  pub redex : FirstRedex phase calls before start end rule place
  pub seeks : Seeks before start end place sought behind
  pub same : length sought ≡ length before

module _ {phase : Phase} {calls before : List ℕ} {start end : ℕ} where
  -- the search in the words behind the gap
  search_at : {t : Term} → CurrentClear phase calls before start end t → SearchAt phase calls (from before end) start t
  search_at a = record {
    shaped = a.current.shaped;
    is = tail_part before end ∙ gapped_behind a.current.gapped;
    clear = a.clear;
    premise = a.premise;
  }

  pub turn_searchable : {second : List ℕ} → Ready phase calls before start end second → Searchable phase calls (from before end) second
  turn_searchable r = let l = from_length before end in record {
    term = r.term;
    from = start;
    at = search_at r.at;
    small = omega (arith, l, r.limit);
    deep = omega (arith, l, r.scratch);
    marks_small = omega (arith, r.limit, r.scratch);
  }

  -- nothing is found
  pub turned_stops : {left : ℕ} {counts ceilings : List ℕ} → Finds phase calls (from before end) None
      → Turns phase calls before start end left counts ceilings before (Ok None)
  turned_stops f = record {
    told = λ t a. stops (nothing_none (may_drop calls) phase t (sym (f.told t start (search_at a)))) a.current;
  }

  -- a redex is found
  pub first_redex_lem : {r : Redex} → Finds phase calls (from before end) (Some r) → FirstRedex phase calls before start end r.rule (start + r.place)
  first_redex_lem {r} f = record {
    step_of = λ t a. redex_step (may_drop calls) phase t r.rule (start + r.place) (sym (f.told t start (search_at a)));
  }

  module _ {rule : Rule} {place : ℕ} (r : FirstRedex phase calls before start end rule place) where
    -- the budget is used up
    pub turned_spent : {left : ℕ} {counts ceilings after : List ℕ} → left ≡ 0
        → Turns phase calls before start end left counts ceilings after (Err Budget)
    turned_spent z = record { told = λ t a. let s = r.step_of t a in spent s.taken s.is z }

    -- it is not, and the ceiling of the rule is met
    pub turned_met : {left : ℕ} {counts ceilings after : List ℕ} → 0 < left → ceiling_met ceilings rule counts ≡ true
        → Turns phase calls before start end left counts ceilings after (Err Ceiling)
    turned_met {counts = counts} {ceilings = ceilings} h u = record {
      told = λ t a.
          let s = r.step_of t a in
          met s.taken s.is h (ap (λ (i : Rule). ceiling_met ceilings i counts) s.by ∙ u);
    }

    -- the place is one of the term's
    module _ {second : List ℕ} (d : Ready phase calls before start end second) where
      place_below : place < size d.term
      place_below =
          let s = r.step_of d.term d.at in
          let x = step_at (may_drop calls) phase d.term s.taken s.is in
          omega (arith, index_below d.term s.taken.place x.position x.at, s.at)

      pub place_small : place ≤ 8192
      place_small = let g = d.at.current.gapped in omega (arith, place_below, gapped_size g, g.ordered, g.inside, d.limit)

      pub redex_seekable : Seekable before start end place
      redex_seekable = gapped_seekable d.at.current.gapped place (omega (arith, place_below))

  module _ {rule : Rule} {place : ℕ} {sought : List ℕ} {behind : ℕ}
      (g : GapAtRedex phase calls before start end rule place sought behind) where
    step_of : (t : Term) → CurrentClear phase calls before start end t → StepAt (may_drop calls) phase t rule place
    step_of = g.redex.step_of

    redex_behind : (t : Term) (a : CurrentClear phase calls before start end t)
        → let x = step_at (may_drop calls) phase t (step_of t a).taken (step_of t a).is in
        RedexAt rule calls sought place behind t x.position x.contraction.contractum
    redex_behind t a =
        let s = step_of t a in
        let x = step_at (may_drop calls) phase t s.taken s.is in
        record {
          current = record { shaped = a.current.shaped; gapped = gapped_sought a.current.gapped g.seeks };
          at = subst (λ (i : ℕ). get_elem? (positions t) i ≡ some x.position) s.at x.at;
          fires = subst (λ (r : Rule). fire (may_drop calls) r x.position.subterm ≡ some x.contraction.contractum)
              (sym x.rule ∙ s.by)
              (contract_fires (may_drop calls) (rules phase) x.position.subterm x.contraction x.fits);
        }

    pub turn_rewritable : {second : List ℕ} → Ready phase calls before start end second → (second' : List ℕ)
        → length second' ≡ length second → Rewritable rule calls sought place behind second'
    turn_rewritable d second' m = record {
      term = d.term;
      position = _;
      contractum = _;
      redex = redex_behind d.term d.at;
      limit = omega (arith, g.same, d.limit);
      scratch = omega (arith, m, g.same, d.scratch);
    }

    -- the redex is rewritten, or the next term is too long
    rewritten_at : {after : List ℕ} (w : Result Gap Refusal) → RewritesRedex rule calls sought place behind after w → (t : Term)
        → (a : CurrentClear phase calls before start end t)
        → RewrittenTo (length sought) after place (step_of t a).taken.next w
    rewritten_at {after} w x t a =
        let s = step_of t a in
        let y = step_at (may_drop calls) phase t s.taken s.is in
        subst (λ (u : Term). RewrittenTo (length sought) after place u w) (sym y.next) (x.told t _ _ (redex_behind t a))

    pub turned_full : {left : ℕ} {counts ceilings after : List ℕ} {e : Refusal} → 0 < left → ceiling_met ceilings rule counts ≡ false
        → RewritesRedex rule calls sought place behind after (Err e)
        → Turns phase calls before start end left counts ceilings after (Err e)
    turned_full {left} {counts} {ceilings} {after} h u x = record { told = λ t a. go t a (rewritten_at (Err _) x t a) }
      where
        go : {e : Refusal} (t : Term) (a : CurrentClear phase calls before start end t)
            → RewrittenTo (length sought) after place (step_of t a).taken.next (Err e)
            → Turned phase calls after start end left counts ceilings (length before) t (Err e)
        go t a (too_long m) =
            let s = step_of t a in
            full s.taken s.is h (ap (λ (i : Rule). ceiling_met ceilings i counts) s.by ∙ u) (omega (arith, m, g.same))

    module _ {rewritten : List ℕ} {n : Gap} (x : RewritesRedex rule calls sought place behind rewritten (Ok n)) where
      -- the next term is there
      next_there : (t : Term) (a : CurrentClear phase calls before start end t)
          → Gapped rewritten n.start n.end (step_of t a).taken.next
      next_there t a = go (rewritten_at (Ok n) x t a)
        where
          go : {u : Term} {n : Gap} → RewrittenTo (length sought) rewritten place u (Ok n) → Gapped rewritten n.start n.end u
          go (there n g) = g

      -- and the gap goes to where the search goes on
      pub next_seekable : {second : List ℕ} → Ready phase calls before start end second → {to : ℕ} → to ≡ next_from phase place
          → Seekable rewritten n.start n.end to
      next_seekable d {to} e =
          let s = step_of d.term d.at in
          let i = inside_next (may_drop calls) phase d.term s.taken s.is in
          gapped_seekable (next_there d.term d.at) to (omega (arith, e, i, ap (next_from phase) s.at))

      pub turned_goes : {left to : ℕ} {rest : Gap} {counts ceilings after : List ℕ} → 0 < left → ceiling_met ceilings rule counts ≡ false
          → to ≡ next_from phase place → (rest.start ≡ to) × Seeks rewritten n.start n.end to after rest.end
          → Turns phase calls before start end left counts ceilings after (Ok (Some (record { rule = rule; gap = rest })))
      turned_goes {left} {to} {rest} {counts} {ceilings} {after} h u e k = record {
        told = λ t a.
            let s = step_of t a in
            let q : next_from phase s.taken.place ≡ rest.start = ap (next_from phase) s.at ∙ sym e ∙ sym k.0 in
            let there = gapped_sought (next_there t a) k.1 in
            let below = ap (λ (i : Rule). ceiling_met ceilings i counts) s.by ∙ u in
            let turned : Rule → ℕ → Type 0 =
            λ i j. Turned phase calls after start end left counts ceilings (length before) t
            (Ok (Some (record { rule = i; gap = record { start = j; end = rest.end } }))) in
            subst (λ (i : Rule). turned i rest.start) s.by (subst (λ (i : ℕ). turned s.taken.rule i) q
            (goes s.taken rest.end s.is h below
            (subst (λ (i : ℕ). Gapped after i rest.end s.taken.next) (e ∙ sym (ap (next_from phase) s.at)) there)));
      }

-- the same of what the code has at hand there: the search's answer, the budget and the answer of `ceiling_met`
pub found_met : {phase : Phase} {calls before : List ℕ} {start end : ℕ} {r : Redex} {left : ℕ} {counts ceilings after : List ℕ} {b : Bool}
    {t : Term} → CurrentClear phase calls before start end t → Finds phase calls (from before end) (Some r) → (left ≡ 0 → ⊥)
    → b ≡ ceiling_met ceilings r.rule counts → b ≡ true
    → Turned phase calls after start end left counts ceilings (length before) t (Err Ceiling)
found_met a f n c u = (turned_met (first_redex_lem f) (omega (arith, n)) (sym c ∙ u)).told _ a

-- what rewriting says of an answer holds of one that is the same
pub rewrites_as : {rule : Rule} {calls before : List ℕ} {start end : ℕ} {after : List ℕ} {r w : Result Gap Refusal} → r ≡ w
    → RewritesRedex rule calls before start end after r → RewritesRedex rule calls before start end after w
rewrites_as {rule} {calls} {before} {start} {end} {after} e x =
    subst (λ (y : Result Gap Refusal). RewritesRedex rule calls before start end after y) e x
