-- Counting the uses of a variable node by node: what is counted so far and what the row ahead uses make up the whole.
use Prim.Native.Nat.{ℕ, suc, ◌+◌, ◌-◌, ◌^◌, ◌≤◌, ◌<◌}
use native.Mathlib.Omega.{arith}
use native.Mathlib.Decide.{ℕ_discrete}
use mathlib.Core.Path.{◌≡◌, refl, sym, ◌∙◌, ap}
use mathlib.Core.List.{List}
use lib.Dec.{eqb}
use lib.ListN.{length, get_or, set, length-set}
use lib.Seq.{get_or-set_same}
use borrow.Author.Tests.{eq-eqb, ne_eqb}
use Rattle.syntax.specs.Words.{pack}
use Rattle.syntax.specs.Term.{Term, Terms, done, arg, node}
use Rattle.syntax.specs.Encoding.{word_of}
use Rattle.syntax.specs.Parts.{part_count}
use Rattle.syntax.specs.Shaped.{count}
use Rattle.syntax.specs.Values.{counts, uses, uses_all}
use Rattle.syntax.proofs.Sizes.{size_arg, size_done}
use Rattle.words.specs.Fronts.{Starts}
use Rattle.words.specs.Ends.{Sized}
use Rattle.words.specs.Joined.{joined}
use Rattle.words.specs.Reach.{outer, inner}
use Rattle.binding.specs.UseCounts.{CountsUses}
use Rattle.words.specs.Depths.{OpensParts}
use Rattle.binding.specs.declared.uses.Uses.{Uses}
use Rattle.words.proofs.Reach.{uses_binding}
use Rattle.syntax.proofs.ByKind.{by_kind}
use Rattle.words.proofs.RowAtDepths.{Gathering, ahead, ahead_one, ahead_opened, Near, near_begin, near_next, opens_room}
use Rattle.words.proofs.Rows.{Marching, march_from, march_inside, march_fits, march_end, march_on, one_starts, one_holds}

-- the uses of terms at their depths
abbrev pub used : Gathering ℕ
unfolding uses
used = record {
  one = uses;
  all = uses_all;
  none = 0;
  join = ◌+◌;
  all_done = λ d. refl;
  all_arg = λ t ts d. refl;
  none-join = λ x. omega arith;
  join-none = λ x. omega arith;
  join-join = λ x y z. omega arith;
}

same_variable : (m d : ℕ) → eqb m d ≡ eqb (pack 0 m 0) (pack 0 d 0)
same_variable m d = by (ℕ_discrete m d)
  where
    by : Dec (m ≡ d) → eqb m d ≡ eqb (pack 0 m 0) (pack 0 d 0)
    by (yes e) = eq-eqb m d e ∙ sym (eq-eqb (pack 0 m 0) (pack 0 d 0) (ap (λ (i : ℕ). pack 0 i 0) e))
    by (no e) = ne_eqb m d e ∙ sym (ne_eqb (pack 0 m 0) (pack 0 d 0) (λ f. e (omega (arith, f))))

-- a node's uses are its own, if its word is the variable's, and its parts'
uses_node : (t : Term) (d : ℕ) → d < 2 ^ 30
    → uses t d ≡ counts (eqb (word_of t) (pack 0 d 0)) + (uses_all (outer t) d + uses_all (inner t) (suc d))
unfolding node uses outer inner
uses_node t d lt = by (ℕ_discrete (node t).kind 0)
  where
    Goal : Term → Type 0
    Goal x = uses x d ≡ counts (eqb (word_of x) (pack 0 d 0)) + (uses_all (outer x) d + uses_all (inner x) (suc d))

    by : Dec ((node t).kind ≡ 0) → Goal t
    by (yes z) = by_kind Goal 0 t z λ m. omega (arith, ap counts (same_variable m d))
    by (no z) = omega (arith, uses_binding t d z, ap counts (ne_eqb (word_of t) (pack 0 d 0) (λ e. z (omega (arith, e, lt)))))

-- u uses are counted before the row ahead
abbrev pub Counting : (p : List ℕ) (d u : ℕ) → Terms → Terms → Type 0
Counting p d u ts us = uses_all ts d ≡ u + ahead used p us

-- the loop's invariant
pub record Tally (calls words p : List ℕ) (d owed at u : ℕ) : Type 0 where
  pub few : u ≤ at
  pub space : length words + 2 ≤ length p
  pub far : d + length words ≤ 65536
  pub near : Near p owed (d + at)
  pub going : Marching calls words (Counting p d u) 1 at owed
  pub inside : at + owed ≤ length words
  pub opens : 1 ≤ owed
      → (owed - 1 + 3 ≤ length p) × (owed - 1 + part_count calls (get_or words at 0) ≤ length p) × (get_or p (owed - 1) 0 ≤ 65536)

-- while a term is owed there is a word to read, and room for the depths of its parts
tally : {calls words p : List ℕ} {d owed at u : ℕ} → u ≤ at → length words + 2 ≤ length p → d + length words ≤ 65536
    → Near p owed (d + at) → Marching calls words (Counting p d u) 1 at owed → Tally calls words p d owed at u
tally {calls} {words} {p} {d} few space far near going = record {
  few = few;
  space = space;
  far = far;
  near = near;
  going = going;
  inside = march_inside calls words going;
  opens = λ lt. opens_room p d 2 going near (omega (arith, march_fits calls words going, space)) (omega arith) lt far;
}

pub count_begin : (calls words p : List ℕ) (d : ℕ) → Starts calls words → length words + 2 ≤ length p → d + length words ≤ 65536
    → Tally calls words (set p 0 d) d 1 0 0
unfolding uses used
count_begin calls words p d s sp far =
    let l = length-set p 0 d in
    tally (omega arith) (omega (arith, sp, l)) far (near_begin p d (omega (arith, sp)))
    (march_from calls words (Counting (set p 0 d) d 0) 1 (one_starts s) λ ts e.
    let a : ahead used (set p 0 d) ts ≡ uses_all ts d =
    ahead_one used (set p 0 d) d ts e (get_or-set_same p 0 d 0 (omega (arith, sp))) in
    omega (arith, a))

module _ {calls words p : List ℕ} {d owed at u : ℕ} (g : Tally calls words p d owed at u) where
  -- no term is owed
  pub count_end : owed ≤ 0 → CountsUses calls words d (record { end = at; uses = u })
  unfolding uses ahead
  count_end z = record {
    few = g.few;
    within = omega (arith, g.inside);
    told = λ t rest h.
        let e = march_end calls words g.going (omega arith) (arg t done) rest (one_holds h) in
        record { end_is = omega (arith, e.0, size_arg t done, size_done); uses_is = omega (arith, e.1) };
  }

  -- a node
  pub count_node : (q : List ℕ) (s r : ℕ) → 1 ≤ owed → length q ≡ length p
      → (s ≡ counts (eqb (get_or words at 0) (pack 0 (get_or p (owed - 1) 0) 0))) × (s ≤ 1)
      → OpensParts calls (get_or words at 0) (get_or p (owed - 1) 0) p q (owed - 1) r → Tally calls words q d r (at + 1) (u + s)
  unfolding ahead uses used
  count_node q s r lt l (se, sl) w =
      let under = get_or p (owed - 1) 0 in
      tally (omega (arith, g.few, sl)) (omega (arith, g.space, l)) g.far (near_next p q d at owed r g.near lt w)
      (march_on calls words g.going lt (Counting q d (u + s)) r w.many λ ts rest v.
      let c : owed - 1 ≡ count v.later = omega (arith, v.many) in
      let o = outer v.term in
      let i = inner v.term in
      let a : ahead used q (joined o (joined i v.later)) ≡ uses_all o under + (uses_all i (suc under) + ahead used p v.later) =
      ahead_opened used w.opened o i v.later c v.outers v.parts in
      omega (
        arith,
        v.to_do,
        se,
        ap (λ (i : ℕ). uses v.term (get_or p i 0)) c,
        ap (λ (x : ℕ). counts (eqb x (pack 0 under 0))) v.word,
        uses_node v.term under (omega (arith, (g.opens lt).2)),
        a,
      ))

-- a use count tells the size too
pub counts_sized : {calls words : List ℕ} {n : ℕ} {r : Uses} → CountsUses calls words n r → Sized calls words r.end
counts_sized c = record { within = c.within; told = λ t rest h. (c.told t rest h).end_is }
