-- The search of phase 3 at a node that is no variable: one without inner parts leaves its parts in the row, and the last one is gone into.
use Prim.Native.Nat.{ℕ, suc, ◌+◌, ◌-◌, ◌*◌, ◌≤◌}
use native.Mathlib.Omega.{arith}
use mathlib.Core.Path.{◌≡◌, refl, sym, ◌∙◌, ap, subst}
use mathlib.Core.List.{List}
use lib.ListN.{get_or}
use Rattle.syntax.specs.Words.{kind_of}
use Rattle.syntax.specs.Term.{Term, Terms, node}
use Rattle.syntax.specs.Parts.{part_count}
use Rattle.syntax.specs.Shaped.{count}
use Rattle.syntax.specs.Values.{uses, uses_all}
use Rattle.words.specs.Fronts.{Holds, from}
use Rattle.words.specs.Joined.{joined}
use Rattle.words.specs.Reach.{outer, inner, outer_count}
use Rattle.words.proofs.Joined.{uses_joined, count_joined, joined_assoc, none_left}
use Rattle.words.proofs.Reach.{uses_binding}
use Rattle.words.proofs.Sized.{same_term}
use Rattle.words.proofs.Rows.{Cut, Visit, march_on, visit}
use Rattle.search.specs.Unused.{open_mark, final_mark, MarksBinder}
use Rattle.search.proofs.FirstByMarks.{passed_back, passed_next}
use Rattle.search.proofs.RowInTwo.{uses-none, First, cut_first}
use Rattle.search.proofs.UnusedRows.{Facts, Scanning, scan_ahead}
use Rattle.search.proofs.UnusedSteps.{passes_on, bounds_on}

-- what is known of a node that is no variable by its word w: its kind k, and that of its m parts the first o are outer ones
pub record NodeParts (calls : List ℕ) (w k m o : ℕ) : Type 0 where
  pub kind_is : k ≡ kind_of w
  pub compound : k ≡ 0 → ⊥
  pub parts_are : m ≡ part_count calls w
  pub outers_are : o ≡ outer_count k m

module _ {calls words : List ℕ} {base depth : ℕ} {old cur : List ℕ} {owed later under at fresh first : ℕ}
    (g : Scanning calls words base depth old cur owed later under at fresh first) (lt : 1 ≤ owed)
    {k m o : ℕ} (n : NodeParts calls (get_or words at 0) k m o) where
  abbrev State : (cur : List ℕ) (owed later under at fresh first : ℕ) → Type 0
  State = Scanning calls words base depth old

  abbrev Known : (cur : List ℕ) (under later at fresh first : ℕ) (ts front back : Terms) → Type 0
  Known = Facts calls words base depth old

  ahead : 1 ≤ owed + later
  ahead = scan_ahead calls words base depth old g lt

  outers_by_word : outer_count (kind_of (get_or words at 0)) (part_count calls (get_or words at 0)) ≡ o
  outers_by_word = ap (λ (i : ℕ). outer_count i (part_count calls (get_or words at 0))) (sym n.kind_is)
      ∙ ap (outer_count k) (sym n.parts_are) ∙ sym n.outers_are

  outers : {ts : Terms} {rest : List ℕ} {Q : Terms → Terms → Type 0} (v : Visit calls words Q at (owed + later) ts rest)
      → count (outer v.term) ≡ o
  outers v = sym v.outers ∙ outers_by_word

  -- the outer parts are no more than all
  pub outer_few : o ≤ m
  outer_few =
      let v = visit calls words g.going ahead _ _ g.going.start.holds in
      omega (arith, n.parts_are, v.parts, outers v)

  -- a node without inner parts
  pub scan_flat : o ≡ m → State cur (owed - 1 + m) later under (at + 1) fresh first
  unfolding joined uses
  scan_flat e = record {
    len = g.len;
    short = g.short;
    known = g.known;
    further = λ y. omega arith;
    near = omega (arith, g.near);
    near_open = λ l. omega (arith, g.near_open l);
    small = g.small;
    low = λ d l. omega (arith, g.low d l);
    going = march_on calls words g.going ahead _ (owed - 1 + m + later) (omega (arith, n.parts_are, lt)) λ ts rest v.
        step v.term (outers v) (omega (arith, n.parts_are, v.parts, outers v, e)) (λ y. n.compound (n.kind_is ∙ v.kind ∙ y))
        (cut_first v.to_do lt);
  }
    where
      flat : outer_count (kind_of (get_or words at 0)) (part_count calls (get_or words at 0)) ≡ part_count calls (get_or words at 0)
      flat = outers_by_word ∙ e ∙ n.parts_are

      step : {ts us : Terms} (t : Term) → count (outer t) ≡ o → count (inner t) ≡ 0 → ((node t).kind ≡ 0 → ⊥)
          → First (owed - 1) (Known cur under later at fresh first ts) t us
          → Cut (owed - 1 + m) (Known cur under later (at + 1) fresh first ts) (joined (outer t) (joined (inner t) us))
      step {ts} {us} t os is y c = record {
        front = joined (outer t) c.others;
        later = c.back;
        is = none_left (λ x. joined (outer t) (joined x us) ≡ joined (joined (outer t) c.others) c.back) (inner t) is
            (ap (joined (outer t)) c.is ∙ sym (joined_assoc (outer t) c.others c.back));
        many = omega (arith, count_joined (outer t) c.others, os, c.many, e);
        facts = record {
          final = c.facts.final;
          now = λ d l. omega (
            arith,
            c.facts.now d l,
            uses_binding t (under - 1 - d) y,
            uses-none (inner t) (suc (under - 1 - d)) is,
            uses_joined (outer t) c.others (under - 1 - d),
          );
          around = c.facts.around;
          passes = passes_on g lt c.facts flat;
          bounds = bounds_on g lt c.facts flat;
        };
      }

  -- the last node, with inner parts
  pub scan_enter : (r : ℕ) → (o ≡ m → ⊥) → owed + later ≡ 1 → MarksBinder calls (from words at) (base + at) r
      → State cur o (m - o) under (at + 1) r first
  unfolding joined uses final_mark
  scan_enter r ne e op = record {
    len = g.len;
    short = g.short;
    known = g.known;
    further = λ y. omega arith;
    near = omega (arith, g.near);
    near_open = λ l. omega (arith, g.near);
    small = op.small;
    low = λ d l. omega (arith, g.low d l);
    going = march_on calls words g.going ahead _ (o + (m - o)) (omega (arith, n.parts_are, e, outer_few)) λ ts rest v.
        step v.term v.holds (outers v) (λ y. n.compound (n.kind_is ∙ v.kind ∙ y)) (omega (arith, v.many, e))
        (cut_first v.to_do lt);
  }
    where
      step : {ts us : Terms} (t : Term) {rest : List ℕ} → Holds calls (from words at) t rest → count (outer t) ≡ o
          → ((node t).kind ≡ 0 → ⊥) → count us ≡ 0 → First (owed - 1) (Known cur under later at fresh first ts) t us
          → Cut o (Known cur under (m - o) (at + 1) r first ts) (joined (outer t) (joined (inner t) us))
      step {ts} {us} t {rest} h os y none c = record {
        front = outer t;
        later = joined (inner t) us;
        is = refl;
        many = os;
        facts = record {
          final = c.facts.final;
          now = λ d l.
              let i : suc (under - 1 - d) ≡ under - d = omega (arith, l) in
              omega (
                arith,
                c.facts.now d l,
                uses_binding t (under - 1 - d) y,
                uses-none c.others (under - 1 - d) others,
                uses-none c.back (under - d) backs,
                uses_joined (inner t) us (under - d),
                uses-none us (under - d) none,
                ap (uses_all (inner t)) i,
              );
          around = c.facts.around;
          passes = λ x lim b. passed_next
              (c.facts.passes x lim (record { found = b.found; spine = b.spine; opened = λ l. absurd (omega (arith, l, e, lt)) }))
              λ u more hu. subst (λ (s : Term). x ≤ final_mark calls (base + at) s) (same_term h hu)
              (omega (arith, b.opened (omega (arith, ne, outer_few)), own));
          bounds = λ x lim p.
              let b = c.facts.bounds x lim (passed_back at (omega arith) p) in
              record {
                found = b.found;
                spine = b.spine;
                opened = λ l. omega (arith, p.marks at t rest (omega arith) h, own);
              };
        };
      }
        where
          others : count c.others ≡ 0
          others = omega (arith, c.many, e, lt)

          backs : count c.back ≡ 0
          backs = omega (arith, ap count c.is, count_joined c.others c.back, none)

          own : r + 65536 * uses_all (joined (inner t) us) 0 ≡ open_mark calls (base + at) t + 65536 * uses_all (inner t) 0
          own = omega (arith, op.told t rest h, uses_joined (inner t) us 0, uses-none us 0 none)
