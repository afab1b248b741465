-- The search of phase 3 node by node. Ahead are the terms of a front and, under one binder more, those of a back. Every binder in scope
-- has a final mark: its mark now and what the terms ahead add to it.
use Prim.Native.Nat.{ℕ, ◌+◌, ◌-◌, ◌*◌, ◌^◌, ◌≤◌, ◌<◌}
use native.Mathlib.Omega.{arith}
use native.Mathlib.Decide.{ℕ_discrete}
use mathlib.Core.Path.{◌≡◌, refl, sym, ◌∙◌, ap, subst}
use mathlib.Core.Bool.{Bool, cond}
use mathlib.Core.List.{List}
use lib.Dec.{eqb}
use lib.ListN.{length, get_or, set, length-set}
use lib.Seq.{get_or-set_same, get_or-set_other}
use borrow.Author.Tests.{eq-eqb, ne_eqb}
use Rattle.syntax.specs.Term.{Terms, done, arg}
use Rattle.syntax.specs.Shaped.{count}
use Rattle.syntax.specs.Values.{uses, uses_all}
use Rattle.syntax.proofs.Sizes.{size_arg, size_done}
use Rattle.words.specs.Fronts.{Starts, from}
use Rattle.words.specs.Joined.{joined}
use Rattle.words.proofs.Joined.{count_joined, joined_done, none_left}
use Rattle.words.proofs.Traversal.{from_length}
use Rattle.words.proofs.Rows.{Cut, Marching, march, march_inside, march_end, march_said, march_first, one_holds}
use Rattle.words.proofs.Rows.{one_starts}
use Rattle.search.specs.Marks.{Raisable}
use Rattle.search.specs.Unused.{NoUnusedBefore, MarkSpace, LeastMark, Scans}
use Rattle.search.specs.declared.unused.PartScan.{PartScan}
use Rattle.search.proofs.MarkedUses.{space_raisable}
use Rattle.search.proofs.FirstByMarks.{passed_none}
use Rattle.search.proofs.RowInTwo.{uses-none, no_terms}

-- a function with another value at one place
abbrev extend : ℕ → ℕ → (ℕ → ℕ) → ℕ → ℕ
extend u v f d = cond (eqb d u) v (f d)

extend_own : (u v : ℕ) (f : ℕ → ℕ) → extend u v f u ≡ v
extend_own u v f = ap (λ (b : Bool). cond b v (f u)) (eq-eqb u u refl)

extend_other : (u v : ℕ) (f : ℕ → ℕ) (d : ℕ) → (d ≡ u → ⊥) → extend u v f d ≡ f d
extend_other u v f d n = ap (λ (b : Bool). cond b v (f d)) (ne_eqb d u n)

module _ (calls words : List ℕ) (base depth : ℕ) (old : List ℕ) where
  -- x is at most the least found in the parts gone through, the final marks of the binders gone into, and that of the one to be gone into
  pub record DropBound (final : ℕ → ℕ) (under later fresh first : ℕ) (back : Terms) (x : ℕ) : Type 0 where
    pub found : x ≤ first
    pub spine : (d : ℕ) → depth ≤ d → d < under → x ≤ final d
    pub opened : 1 ≤ later → x ≤ fresh + 65536 * uses_all back 0

  pub record Facts (cur : List ℕ) (under later at fresh first : ℕ) (ts front back : Terms) : Type 0 where
    pub final : ℕ → ℕ
    pub now : (d : ℕ) → d < under → final d ≡ get_or cur d 0 + 65536 * (uses_all front (under - 1 - d) + uses_all back (under - d))
    pub around : (d : ℕ) → d < depth → final d ≡ get_or old d 0 + 65536 * uses_all ts (depth - 1 - d)
    pub passes : (x : ℕ) → x ≤ 65536 → DropBound final under later fresh first back x → NoUnusedBefore calls words base x at
    pub bounds : (x : ℕ) → x ≤ 65536 → NoUnusedBefore calls words base x at → DropBound final under later fresh first back x

  -- the loop's invariant
  pub record Scanning (cur : List ℕ) (owed later under at fresh first : ℕ) : Type 0 where
    pub len : length cur ≡ length old
    pub short : length words ≤ 65536
    pub known : depth ≤ under
    pub further : (owed + later ≡ 1 → ⊥) → 1 ≤ at
    pub near : under ≤ depth + at
    pub near_open : 1 ≤ later → under + 1 ≤ depth + at
    pub small : fresh ≤ 65536
    pub low : (d : ℕ) → d < under → get_or cur d 0 + 65536 * (length words - at) ≤ 2 ^ 40
    pub going : Marching calls words (λ ts us. Cut owed (Facts cur under later at fresh first ts) us) 1 at (owed + later)

  pub scan_begin : Starts calls words → MarkSpace old depth (length words) → Scanning old 1 0 depth 0 0 65536
  unfolding uses
  scan_begin s o = record {
    len = refl;
    short = omega (arith, o.deep, o.small);
    known = omega arith;
    further = λ z. absurd (z refl);
    near = omega arith;
    near_open = λ l. absurd (omega (arith, l));
    small = omega arith;
    low = λ d l. omega (arith, o.low d l);
    going = march_said calls words (march calls words (λ ts us. ts ≡ us) 1 (one_starts s) λ ts. refl) _ first;
  }
    where
      first : (ts us : Terms) → count us ≡ 1 → ts ≡ us → Cut 1 (Facts old depth 0 0 0 65536 ts) us
      first ts us m e = record {
        front = us;
        later = done;
        is = sym (joined_done us);
        many = m;
        facts = record {
          final = λ d. get_or old d 0 + 65536 * uses_all ts (depth - 1 - d);
          now = λ d l. omega (arith, ap (λ (x : Terms). uses_all x (depth - 1 - d)) e);
          around = λ d l. refl;
          passes = λ x l b. passed_none;
          bounds = λ x l p. record { found = l; spine = λ d a b. absurd (omega (arith, a, b)); opened = λ b. absurd (omega (arith, b)) };
        };
      }

  module _ {cur : List ℕ} {owed later under at fresh first : ℕ} (g : Scanning cur owed later under at fresh first) where
    -- nothing is ahead
    pub scan_end : (r : PartScan) → owed + later ≡ 0 → r.end ≡ at → LeastMark cur depth under first r.first
        → Scans calls words base depth old cur r
    unfolding uses
    scan_end r z re m = record {
      within = omega (arith, march_inside calls words g.going, re);
      before = λ x l lim. subst (λ (i : ℕ). NoUnusedBefore calls words base x i) (sym re) (f.passes x lim (record {
        found = omega (arith, l, m.first_least);
        spine = λ d a b. omega (arith, l, m.least d a b, f.now d b);
        opened = λ b. absurd (omega (arith, b, z));
      }));
      greatest = λ x lim p.
          let b = f.bounds x lim (subst (λ (i : ℕ). NoUnusedBefore calls words base x i) re p) in
          m.greatest x b.found λ d a l. omega (arith, b.spine d a l, settled start l);
      told = λ t rest h.
          let e = march_end calls words g.going z (arg t done) rest (one_holds h) in (
            omega (arith, re, e.0, size_arg t done, size_done),
            record { marks = λ d l. omega (arith, settled e.1 {d = d} (omega (arith, l, g.known)), e.1.facts.around d l) },
          );
    }
      where
        start : Cut owed (Facts cur under later at fresh first g.going.start.terms) done
        start = (march_end calls words g.going z _ _ g.going.start.holds).1

        f : Facts cur under later at fresh first g.going.start.terms start.front start.later
        f = start.facts

        settled : {ts : Terms} (c : Cut owed (Facts cur under later at fresh first ts) done) {d : ℕ} → d < under
            → c.facts.final d ≡ get_or cur d 0
        settled c {d} l = omega (
          arith,
          c.facts.now d l,
          uses-none c.front (under - 1 - d) (omega (arith, c.many, z)),
          uses-none c.later (under - d) (omega (arith, ap count c.is, count_joined c.front c.later, no_terms)),
        )

    -- the front is gone through: the back is gone through under its binder
    pub scan_open : owed ≡ 0 → 1 ≤ later → under < length cur → Scanning (set cur under fresh) later 0 (under + 1) at fresh first
    unfolding joined uses
    scan_open z le lt = record {
      len = length-set cur under fresh ∙ g.len;
      short = g.short;
      known = omega (arith, g.known);
      further = λ y. g.further λ e. y (omega (arith, e, z));
      near = omega (arith, g.near_open le);
      near_open = λ l. absurd (omega (arith, l));
      small = g.small;
      low = λ d l. low_at d l (ℕ_discrete d under);
      going = subst (Marching calls words (λ ts us. Cut later (Facts (set cur under fresh) (under + 1) 0 at fresh first ts) us) 1 at)
          (swapped later)
          (march_said calls words g.going _ said);
    }
      where
        swapped : (l : ℕ) → owed + l ≡ l + 0
        swapped l = omega (arith, z)

        low_at : (d : ℕ) → d < under + 1 → Dec (d ≡ under) → get_or (set cur under fresh) d 0 + 65536 * (length words - at) ≤ 2 ^ 40
        low_at d l (yes e) = subst (λ (i : ℕ). get_or (set cur under fresh) i 0 + 65536 * (length words - at) ≤ 2 ^ 40) (sym e)
            (omega (arith, get_or-set_same cur under fresh 0 lt, g.small, g.short))
        low_at d l (no e) = omega (arith, get_or-set_other cur under d fresh 0 e, g.low d (omega (arith, l, e)))

        said : (ts us : Terms) → count us ≡ owed + later → Cut owed (Facts cur under later at fresh first ts) us
            → Cut later (Facts (set cur under fresh) (under + 1) 0 at fresh first ts) us
        said ts us m c = record {
          front = c.later;
          later = done;
          is = none_left (λ x. us ≡ joined x c.later → us ≡ joined c.later done) c.front (c.many ∙ z)
              (λ e. e ∙ sym (joined_done c.later)) c.is;
          many = omega (arith, m, ap count c.is, count_joined c.front c.later, c.many);
          facts = record {
            final = extend under own c.facts.final;
            now = λ d l. now_at d l (ℕ_discrete d under);
            around = λ d l. extend_other under own c.facts.final d (λ e. omega (arith, e, l, g.known)) ∙ c.facts.around d l;
            passes = λ x lim b. c.facts.passes x lim (record {
              found = b.found;
              spine = λ d a l. subst (λ (i : ℕ). x ≤ i) (extend_other under own c.facts.final d λ e. omega (arith, e, l))
                  (b.spine d a (omega (arith, l)));
              opened = λ p. subst (λ (i : ℕ). x ≤ i) (extend_own under own c.facts.final) (b.spine under g.known (omega arith));
            });
            bounds = λ x lim p.
                let b = c.facts.bounds x lim p in
                record {
                  found = b.found;
                  spine = λ d a l. spine_at x b d a l (ℕ_discrete d under);
                  opened = λ l. absurd (omega (arith, l));
                };
          };
        }
          where
            own : ℕ
            own = fresh + 65536 * uses_all c.later 0

            last : (i : ℕ) → i + 1 - 1 - i ≡ 0
            last i = omega arith

            now_at : (d : ℕ) → d < under + 1 → Dec (d ≡ under)
                → extend under own c.facts.final d
                ≡ get_or (set cur under fresh) d 0 + 65536 * (uses_all c.later (under + 1 - 1 - d) + uses_all done (under + 1 - d))
            now_at d l (yes e) = subst
                (λ (i : ℕ). extend under own c.facts.final i
                ≡ get_or (set cur under fresh) i 0 + 65536 * (uses_all c.later (under + 1 - 1 - i) + uses_all done (under + 1 - i))) (sym e)
                (extend_own under own c.facts.final
                ∙ omega (arith, get_or-set_same cur under fresh 0 lt, ap (uses_all c.later) (last under)))
            now_at d l (no e) =
                let i : under + 1 - 1 - d ≡ under - d = omega arith in
                extend_other under own c.facts.final d e
                ∙ omega (
                  arith,
                  get_or-set_other cur under d fresh 0 e,
                  c.facts.now d (omega (arith, l, e)),
                  uses-none c.front (under - 1 - d) (c.many ∙ z),
                  ap (uses_all c.later) i,
                )

            spine_at : (x : ℕ) → DropBound c.facts.final under later fresh first c.later x → (d : ℕ) → depth ≤ d → d < under + 1
                → Dec (d ≡ under) → x ≤ extend under own c.facts.final d
            spine_at x b d a l (yes e) = subst (λ (i : ℕ). x ≤ extend under own c.facts.final i) (sym e)
                (subst (λ (i : ℕ). x ≤ i) (sym (extend_own under own c.facts.final)) (b.opened le))
            spine_at x b d a l (no e) = subst (λ (i : ℕ). x ≤ i) (sym (extend_other under own c.facts.final d e))
                (b.spine d a (omega (arith, l, e)))

    module _ (o : MarkSpace old depth (length words)) where
      -- there is a mark for the binder to be gone into
      pub scan_deep : 1 ≤ later → under < length cur
      scan_deep le = omega (arith, g.near_open le, o.deep, g.len, march_inside calls words g.going)

    module _ (lt : 1 ≤ owed) where
      pub scan_ahead : 1 ≤ owed + later
      scan_ahead = omega (arith, lt)

      pub scan_inside : at + 1 ≤ length words
      scan_inside = omega (arith, march_inside calls words g.going, lt)

      -- the next term can be gone through by a call
      pub scan_starts : Starts calls (from words at)
      scan_starts = march_first calls words g.going scan_ahead

      pub scan_room : MarkSpace old depth (length words) → MarkSpace cur under (length (from words at))
      scan_room o = record {
        deep = omega (arith, from_length words at, g.near, o.deep, g.len, scan_inside);
        small = omega (arith, o.small, g.len);
        low = λ d l. omega (arith, from_length words at, g.low d l);
      }

      -- a use can be marked
      pub scan_raisable : MarkSpace old depth (length words) → (n : ℕ) → n ≤ 65536 → Raisable n cur under
      scan_raisable o = space_raisable (scan_room o) (omega (arith, from_length words at, scan_inside))
