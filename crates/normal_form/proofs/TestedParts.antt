-- Testing part by part: the whole passes exactly if the parts still to come do, and as long as each part passes its uses are marked.
use Prim.Native.Nat.{ℕ, suc, ◌+◌, ◌≤◌, ◌<◌}
use native.Mathlib.Omega.{arith}
use native.Mathlib.Numerals.{add-one}
use mathlib.Core.Path.{◌≡◌, sym, ◌∙◌, ap, subst}
use mathlib.Core.Bool.{Bool, true, false, ◌&&◌}
use mathlib.Core.List.{List}
use lib.ListN.{length, get_or}
use Rattle.std.specs.Prelude.{Some, None}
use Rattle.syntax.specs.Words.{kind_of}
use Rattle.syntax.specs.Kinds.{binders_at}
use Rattle.syntax.specs.Term.{Term, Terms, node}
use Rattle.syntax.specs.Parts.{part_count}
use Rattle.words.specs.Fronts.{Holds, Starts, from}
use Rattle.words.proofs.Traversal.{front_of, fits, not_empty, from_length, Going, enter, Does, upcoming, part_starts, next, onward, leave}
use Rattle.search.specs.Marks.{Space}
use Rattle.normal_form.specs.NormalTest.{PassedPart, TestsNormal}
use Rattle.search.proofs.MarkedUses.{OpenedMark, Marking, mark_enter, mark_next, mark_leave, Grown, grown_none, grown_next, space_next}
use Rattle.normal_form.proofs.GrammarByParts.{all_pass}

-- the parts so far passed, and the parts ts from j on are still to come
pub record PassingParts (test : Term → Bool) (each : ℕ → Term → Bool) (old new : List ℕ) (depth k j : ℕ) (t : Term)
    (ts : Terms) : Type 0 where
  pub whole : test t ≡ all_pass each j ts
  pub marking : Marking old new depth k j t ts

module _ (test : List ℕ → Term → Bool) (each : ℕ → Term → Bool) (calls words : List ℕ) (old : List ℕ) (depth k : ℕ) where
  -- the loop's invariant
  pub record Testing (new : List ℕ) (n at j : ℕ) : Type 0 where
    pub going : Going calls words (PassingParts (test calls) each old new depth k j) n at j
    pub grown : Grown old new depth at

  -- before the first part
  pub test_enter : (n : ℕ) → Starts calls words → k ≡ kind_of (get_or words 0 0) → (k ≡ 0 → ⊥) → n ≡ part_count calls (get_or words 0 0)
      → ((t : Term) (rest : List ℕ) → Holds calls words t rest → (node t).kind ≡ k → test calls t ≡ all_pass each 0 (node t).parts)
      → Testing old n 1 0
  test_enter n s ke z e law = record {
    going = enter calls words (PassingParts (test calls) each old old depth k 0) n s e λ t rest h.
        let f : (node t).kind ≡ k = sym (front_of h).kind ∙ sym ke in
        record { whole = law t rest h f; marking = mark_enter old depth k t z f };
    grown = grown_none old depth 1;
  }

module _ {test : List ℕ → Term → Bool} {each : ℕ → Term → Bool} {calls words old : List ℕ} {depth k : ℕ} {mid : List ℕ} {n at j : ℕ}
    (g : Testing test each calls words old depth k mid n at j) where
  -- after the last part
  pub test_leave : n ≤ j → TestsNormal test calls words depth old mid (Some at)
  unfolding all_pass
  test_leave ge = record {
    told = λ t rest h.
        let q = leave calls words g.going ge t rest h in
        record { passes = q.1.whole; end_is = q.0; marked = mark_leave q.1.marking };
  }

  module _ (lt : j < n) where
    -- the next part is that of a term at the front, whatever that is
    abbrev pub PartIs : (Term → Type 0) → Type 0
    PartIs P = (part : Term) (rest : List ℕ) → Holds calls (from words at) part rest → P part

    pub part_inside : at < length words
    part_inside = omega (arith, not_empty (part_starts calls words g.going lt), from_length words at)

    -- a part that passes ends where there are words still
    pub part_reached : {inner : List ℕ → Term → Bool} {under : ℕ} {opened new : List ℕ} {end : ℕ}
        → TestsNormal inner calls (from words at) under opened new (Some end) → at + end ≤ length words
    part_reached a =
        let u = upcoming calls words g.going lt in
        omega (arith, (a.told u.part _ u.holds).end_is, u.inside, fits g.going.start.holds)

    -- a part that does not pass
    pub test_fails : {new : List ℕ} → PartIs (λ part. each j part ≡ false) → TestsNormal test calls words depth old new None
    unfolding all_pass
    test_fails f = record {
      told = λ t rest h.
          let x = next calls words g.going lt t rest h in
          x.to_do.whole ∙ ap (λ (b : Bool). b && all_pass each (suc j) x.later) (f x.part _ x.holds);
    }

    module _ {opened : List ℕ} {b under : ℕ} (o : OpenedMark mid opened depth b) (bl : b ≤ 1) (de : depth + b ≡ under) where
      -- its words can be gone through
      pub test_space : Space 1 old depth (length words) → Space 1 opened under (length (from words at))
      test_space s = subst (λ (d : ℕ). Space 1 opened d (length (from words at))) de
          (space_next (length words) (length (from words at)) o bl g.grown s g.going.low g.going.high (from_length words at))

      module _ (be : b ≡ binders_at k j) {new : List ℕ} {inner : List ℕ → Term → Bool} {end : ℕ}
          (a : TestsNormal inner calls (from words at) under opened new (Some end)) (ok : PartIs (λ part. each j part ≡ true)) where
        passed : PartIs (λ part. PassedPart (inner calls) part (depth + b) opened new end)
        passed part rest h = subst (λ (d : ℕ). PassedPart (inner calls) part d opened new end) (sym de) (a.told part rest h)

        passed_part : Does calls words (PassingParts (test calls) each old mid depth k j)
            (PassingParts (test calls) each old new depth k (j + 1)) at end
        unfolding all_pass
        passed_part t rest h part later holds q =
            let p = passed part _ holds in
            let here : test calls t ≡ all_pass each (suc j) later =
            q.whole ∙ ap (λ (b : Bool). b && all_pass each (suc j) later) (ok part _ holds) in (
              p.end_is,
              record {
                whole = here ∙ ap (λ (i : ℕ). all_pass each i later) (sym (add-one j));
                marking = mark_next o p.marked be q.marking;
              },
            )

        -- a turn of the loop
        pub test_next : length new ≡ length opened → Testing test each calls words old depth k new n (at + end) (j + 1)
        test_next l =
            let u = upcoming calls words g.going lt in
            let p = passed u.part _ u.holds in
            record {
              going = onward calls words (PassingParts (test calls) each old new depth k (j + 1)) end g.going lt passed_part;
              grown = grown_next o p.marked l g.grown end p.end_is;
            }
