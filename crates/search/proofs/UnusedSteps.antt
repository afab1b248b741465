-- The search of phase 3, one term further by a call or one variable.
use Prim.Native.Nat.{ℕ, ◌+◌, ◌-◌, ◌*◌, ◌^◌, ◌≤◌, ◌<◌, min}
use native.Mathlib.Omega.{arith}
use mathlib.Core.Path.{◌≡◌, refl, sym, ◌∙◌, ap, subst}
use mathlib.Core.List.{List}
use lib.ListN.{length, get_or}
use Rattle.syntax.specs.Words.{kind_of, number_of}
use Rattle.syntax.specs.Tables.{arity}
use Rattle.syntax.specs.Kinds.{parts_of_kind}
use Rattle.syntax.specs.Term.{Term, Terms, var, arg, node}
use Rattle.syntax.specs.Parts.{part_count}
use Rattle.syntax.specs.Values.{uses}
use Rattle.syntax.proofs.Sizes.{size_var, size_positive}
use Rattle.words.specs.Fronts.{Holds, from}
use Rattle.words.specs.Joined.{joined}
use Rattle.words.specs.Ends.{Sized}
use Rattle.words.specs.Reach.{outer, inner, outer_count}
use Rattle.words.proofs.Traversal.{from_length}
use Rattle.syntax.proofs.ByKind.{by_kind}
use Rattle.words.proofs.Rows.{Cut, Marching, march_term, march_on, visit}
use Rattle.search.specs.Marks.{Marked}
use Rattle.search.specs.Unused.{NoUnusedBefore, Scans}
use Rattle.search.specs.declared.unused.PartScan.{PartScan}
use Rattle.search.proofs.MarkedUses.{uses-size}
use Rattle.search.proofs.FirstByMarks.{passed_back, passed_next, passed_behind, passed_row, flat_mark}
use Rattle.search.proofs.RowInTwo.{flat_at, First, cut_first}
use Rattle.search.proofs.UnusedRows.{DropBound, Facts, Scanning, scan_ahead, scan_inside, scan_starts}

module _ {calls words : List ℕ} {base depth : ℕ} {old cur : List ℕ} {owed later under at fresh first : ℕ}
    (g : Scanning calls words base depth old cur owed later under at fresh first) (lt : 1 ≤ owed) where
  abbrev State : (cur : List ℕ) (owed later under at fresh first : ℕ) → Type 0
  State = Scanning calls words base depth old

  abbrev Known : (cur : List ℕ) (under later at fresh first : ℕ) (ts front back : Terms) → Type 0
  Known = Facts calls words base depth old

  abbrev Limits : (final : ℕ → ℕ) (under later fresh first : ℕ) (back : Terms) (x : ℕ) → Type 0
  Limits = DropBound calls words base depth old

  ahead : 1 ≤ owed + later
  ahead = scan_ahead calls words base depth old g lt

  inside : at + 1 ≤ length words
  inside = scan_inside calls words base depth old g lt

  -- past a node without inner parts
  module _ {ts front back : Terms} (f : Known cur under later at fresh first ts front back)
      (e : outer_count (kind_of (get_or words at 0)) (part_count calls (get_or words at 0)) ≡ part_count calls (get_or words at 0)) where
    pub passes_on : (x : ℕ) → x ≤ 65536 → Limits f.final under later fresh first back x → NoUnusedBefore calls words base x (at + 1)
    passes_on x l b = passed_next (f.passes x l b) λ t rest h. omega (arith, l, flat_mark calls (base + at) t (flat_at words at h e))

    pub bounds_on : (x : ℕ) → x ≤ 65536 → NoUnusedBefore calls words base x (at + 1) → Limits f.final under later fresh first back x
    bounds_on x l p = f.bounds x l (passed_back at (omega arith) p)

  -- a term has a word at least
  pub part_moves : {new : List ℕ} {part : PartScan} → Scans calls (from words at) (base + at) under cur new part → 1 ≤ part.end
  part_moves a =
      let s = scan_starts calls words base depth old g lt in
      omega (arith, (a.told s.term s.rest s.holds).0, size_positive s.term)

  -- a whole term, by a call
  pub scan_part : (part : PartScan) (new : List ℕ) (least : ℕ) → Scans calls (from words at) (base + at) under cur new part
      → least ≡ min first part.first → length new ≡ length cur → State new (owed - 1) later under (at + part.end) fresh least
  unfolding uses
  scan_part part new least a m le = record {
    len = le ∙ g.len;
    short = g.short;
    known = g.known;
    further = λ y. omega (arith, moved);
    near = omega (arith, g.near);
    near_open = λ l. omega (arith, g.near_open l);
    small = g.small;
    low = λ d l. low_at d l (visit calls words g.going ahead _ _ g.going.start.holds).term _
        (visit calls words g.going ahead _ _ g.going.start.holds).holds;
    going = subst (Marching calls words (λ ts us. Cut (owed - 1) (Known new under later (at + part.end) fresh least ts) us) 1
        (at + part.end))
        (one_less later) (march_term calls words g.going ahead _ part.end sized step);
  }
    where
      moved : 1 ≤ part.end
      moved = part_moves a

      one_less : (l : ℕ) → owed + l - 1 ≡ owed - 1 + l
      one_less l = omega (arith, lt)

      sized : Sized calls (from words at) part.end
      sized = record { within = a.within; told = λ t rest h. (a.told t rest h).0 }

      low_at : (d : ℕ) → d < under → (t : Term) (rest : List ℕ) → Holds calls (from words at) t rest
          → get_or new d 0 + 65536 * (length words - (at + part.end)) ≤ 2 ^ 40
      low_at d l t rest h = omega (
        arith,
        (a.told t rest h).1.marks d l,
        (a.told t rest h).0,
        uses-size t (under - 1 - d),
        g.low d l,
        a.within,
        from_length words at,
      )

      step : (ts us : Terms) (t : Term) (rest : List ℕ) → Holds calls (from words at) t rest
          → Cut owed (Known cur under later at fresh first ts) (arg t us)
          → Cut (owed - 1) (Known new under later (at + part.end) fresh least ts) us
      step ts us t rest h q =
          let c = cut_first q lt in
          let f = c.facts in
          record {
            front = c.others;
            later = c.back;
            is = c.is;
            many = c.many;
            facts = record {
              final = f.final;
              now = λ d l. omega (arith, f.now d l, (a.told t rest h).1.marks d l);
              around = f.around;
              passes = λ x lim b. passed_row at part.end
                  (f.passes x lim (record { found = omega (arith, b.found, m); spine = b.spine; opened = b.opened }))
                  (a.before x (omega (arith, b.found, m)) lim);
              bounds = λ x lim p.
                  let b = f.bounds x lim (passed_back at (omega arith) p) in
                  record {
                    found = omega (arith, m, b.found, a.greatest x lim (passed_behind at part.end p));
                    spine = b.spine;
                    opened = b.opened;
                  };
            };
          }

  module _ (k : ℕ) (ke : k ≡ kind_of (get_or words at 0)) where
    -- a variable
    pub scan_variable : (number : ℕ) (new : List ℕ) → k ≡ 0 → number ≡ number_of (get_or words at 0)
        → Marked 65536 (var number) under cur new → length new ≡ length cur → State new (owed - 1) later under (at + 1) fresh first
    unfolding node part_count outer_count uses outer inner joined
    scan_variable number new z ne m le = record {
      len = le ∙ g.len;
      short = g.short;
      known = g.known;
      further = λ y. omega arith;
      near = omega (arith, g.near);
      near_open = λ l. omega (arith, g.near_open l);
      small = g.small;
      low = λ d l. omega (arith, g.low d l, m.marks d l, uses-size (var number) (under - 1 - d), size_var number, inside);
      going = march_on calls words g.going ahead _ (owed - 1 + later) (omega (arith, none, lt)) λ ts rest v.
          by_kind (λ t. (node t).number ≡ (node v.term).number → Cut owed (Known cur under later at fresh first ts) (arg t v.later)
          → Cut (owed - 1) (Known new under later (at + 1) fresh first ts) (joined (outer t) (joined (inner t) v.later))) 0 v.term
          (sym v.kind ∙ sym ke ∙ z)
          (λ i f q. step i (ne ∙ v.number ∙ sym f) (cut_first q lt)) refl v.to_do;
    }
      where
        none : part_count calls (get_or words at 0) ≡ 0
        none = ap (parts_of_kind (arity calls (number_of (get_or words at 0)))) (sym ke ∙ z)

        flat : outer_count (kind_of (get_or words at 0)) (part_count calls (get_or words at 0)) ≡ part_count calls (get_or words at 0)
        flat = ap (λ (i : ℕ). outer_count i (part_count calls (get_or words at 0))) (sym ke ∙ z)

        step : {ts us : Terms} (i : ℕ) → number ≡ i → First (owed - 1) (Known cur under later at fresh first ts) (var i) us
            → Cut (owed - 1) (Known new under later (at + 1) fresh first ts) us
        step i e c = record {
          front = c.others;
          later = c.back;
          is = c.is;
          many = c.many;
          facts = record {
            final = c.facts.final;
            now = λ d l. omega (arith, c.facts.now d l, m.marks d l, ap (λ (j : ℕ). uses (var j) (under - 1 - d)) e);
            around = c.facts.around;
            passes = passes_on c.facts flat;
            bounds = bounds_on c.facts flat;
          };
        }
