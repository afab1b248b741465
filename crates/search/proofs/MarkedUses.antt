-- Marking part by part: what is marked so far and what the parts still to come use make up the uses of the whole.
use Prim.Native.Nat.{ℕ, suc, ◌+◌, ◌-◌, ◌*◌, ◌^◌, ◌≤◌, ◌<◌}
use native.Mathlib.Omega.{arith}
use native.Mathlib.Nat.{le-mul_of_pos_right}
use native.Mathlib.Numerals.{add-one}
use mathlib.Core.Path.{◌≡◌, refl, sym, ◌∙◌, ap}
use mathlib.Core.Bool.{Bool, true, false, cond}
use mathlib.Core.List.{List}
use lib.Dec.{eqb}
use lib.ListN.{length, get_or, set, length-set}
use lib.Seq.{get_or-set_same, get_or-set_other}
use borrow.Author.Tests.{ne_eqb, le-ltb, eqb-true, eqb-false}
use Rattle.syntax.specs.Kinds.{binders_at}
use Rattle.syntax.specs.Term.{Term, Terms, var, call, lam, app, bind, pair, fst, snd, inl, inr, case, unit, done, arg, node}
use Rattle.syntax.specs.Encoding.{size}
use Rattle.syntax.specs.PartsUnder.{uses_parts}
use Rattle.syntax.specs.Values.{counts, uses, uses_all}
use Rattle.syntax.proofs.Options.{counts_one}
use Rattle.syntax.proofs.PartsUnder.{uses_node}
use Rattle.syntax.proofs.Sizes.{size_all, size_var, size_call, size_lam, size_app, size_bind, size_pair, size_fst, size_snd, size_inl}
use Rattle.syntax.proofs.Sizes.{size_inr}
use Rattle.syntax.proofs.Sizes.{size_case, size_done, size_arg}
use Rattle.search.specs.Marks.{Marked, Raisable, Space}

-- a term uses a variable at most once a word
mutual
  unfolding uses

  pub uses-size : (t : Term) (n : ℕ) → uses t n ≤ size t
  uses-size (var m) n = omega (arith, counts_one (eqb m n), size_var m)
  uses-size (call k ts) n = omega (arith, uses-sizes ts n, size_call k ts)
  uses-size (lam A b) n = omega (arith, uses-size b (suc n), size_lam A b)
  uses-size (app f a) n = omega (arith, uses-size f n, uses-size a n, size_app f a)
  uses-size (bind e b) n = omega (arith, uses-size e n, uses-size b (suc n), size_bind e b)
  uses-size (pair A a b) n = omega (arith, uses-size a n, uses-size b n, size_pair A a b)
  uses-size (fst a) n = omega (arith, uses-size a n, size_fst a)
  uses-size (snd a) n = omega (arith, uses-size a n, size_snd a)
  uses-size (inl A a) n = omega (arith, uses-size a n, size_inl A a)
  uses-size (inr A a) n = omega (arith, uses-size a n, size_inr A a)
  uses-size (case s l r) n = omega (arith, uses-size s n, uses-size l (suc n), uses-size r (suc n), size_case s l r)
  uses-size (unit A) n = omega arith

  uses-sizes : (ts : Terms) (n : ℕ) → uses_all ts n ≤ size_all ts
  uses-sizes done n = omega (arith, size_done)
  uses-sizes (arg t ts) n = omega (arith, uses-size t n, uses-sizes ts n, size_arg t ts)

-- a variable that a binder in scope binds, and one that names an input
pub mark_binder : (by : ℕ) (used : List ℕ) (depth number : ℕ) → number < depth → depth ≤ length used
    → Marked by (var number) depth used (set used (depth - 1 - number) (get_or used (depth - 1 - number) 0 + by))
unfolding uses
mark_binder by used depth number lt le = record { marks = λ d h. go d h (eqb number (depth - 1 - d)) refl }
  where
    m : ℕ
    m = depth - 1 - number

    go : (d : ℕ) → d < depth → (b : Bool) → eqb number (depth - 1 - d) ≡ b
        → get_or (set used m (get_or used m 0 + by)) d 0 ≡ get_or used d 0 + by * counts (eqb number (depth - 1 - d))
    go d h true e =
        let q : number ≡ depth - 1 - d = eqb-true number (depth - 1 - d) e in
        let i : d ≡ m = omega arith in
        rw (e, i) (get_or-set_same used m _ 0 (omega arith) ∙ omega arith)
    go d h false e =
        let q = eqb-false number (depth - 1 - d) e in
        rw e (get_or-set_other used m d _ 0 (λ z. q (omega arith)) ∙ omega arith)

pub mark_input : (by : ℕ) (used : List ℕ) (depth number : ℕ) → depth ≤ number → Marked by (var number) depth used used
unfolding uses
mark_input by used depth number le =
    record { marks = λ d h. rw (ne_eqb number (depth - 1 - d) (λ e. omega arith)) (omega arith) }

-- where a word can be gone through, a use can be marked, by no more than a word may
pub space_raisable : {by : ℕ} {used : List ℕ} {depth l : ℕ} → Space by used depth l → 1 ≤ l → (n : ℕ) → n ≤ by → Raisable n used depth
space_raisable {by} s le n h =
    record { deep = omega (arith, s.deep); low = λ d b. omega (arith, s.low d b, le-mul_of_pos_right by le, h) }

-- the marks as a part under b binders finds them: those of the binders in scope as they were, its own at zero
pub record OpenedMark (used opened : List ℕ) (depth b : ℕ) : Type 0 where
  pub len : length opened ≡ length used
  pub below : (d : ℕ) → d < depth → get_or opened d 0 ≡ get_or used d 0
  pub own : b ≡ 1 → get_or opened depth 0 ≡ 0

pub open_set : (used : List ℕ) (depth b : ℕ) → depth < length used → OpenedMark used (set used depth 0) depth b
open_set used depth b lt = record {
  len = length-set used depth 0;
  below = λ d h. get_or-set_other used depth d 0 0 (λ e. omega arith);
  own = λ e. get_or-set_same used depth 0 0 lt;
}

pub open_none : (used : List ℕ) (depth : ℕ) → OpenedMark used used depth 0
open_none used depth = record { len = refl; below = λ d h. refl; own = λ e. absurd (omega arith) }

-- after its parts up to j are gone through, a term's parts ts are still to be marked
pub record Marking (old new : List ℕ) (depth k j : ℕ) (t : Term) (ts : Terms) : Type 0 where
  pub so_far : (d : ℕ) → d < depth → get_or new d 0 + uses_parts k j ts (depth - 1 - d) ≡ get_or old d 0 + uses t (depth - 1 - d)

pub mark_enter : (old : List ℕ) (depth k : ℕ) (t : Term) → (k ≡ 0 → ⊥) → (node t).kind ≡ k → Marking old old depth k 0 t (node t).parts
mark_enter old depth k t z e = record {
  so_far = λ d h.
      let n = depth - 1 - d in
      ap (λ (u : ℕ). get_or old d 0 + u) (sym (uses_node t n (λ y. z (sym e ∙ y)) ∙ ap (λ (i : ℕ). uses_parts i 0 (node t).parts n) e));
}

pub mark_leave : {old new : List ℕ} {depth k j : ℕ} {t : Term} → Marking old new depth k j t done → Marked 1 t depth old new
unfolding uses_parts
mark_leave m = record { marks = λ d h. omega (arith, m.so_far d h) }

module _ {mid opened new : List ℕ} {depth b : ℕ} {part : Term} (o : OpenedMark mid opened depth b)
    (a : Marked 1 part (depth + b) opened new) where
  -- a part adds its uses to the marks of the binders in scope
  pub part_marks : (d : ℕ) → d < depth → get_or new d 0 ≡ get_or mid d 0 + uses part (depth - 1 - d + b)
  part_marks d h =
      let i : depth + b - 1 - d ≡ depth - 1 - d + b = omega arith in
      a.marks d (omega arith) ∙ rw (i, o.below d h) (omega arith)

  -- and the mark of its own binder is its uses of that
  pub own_mark : b ≡ 1 → get_or new depth 0 ≡ uses part 0
  own_mark e =
      let i : depth + b - 1 - depth ≡ 0 = omega arith in
      a.marks depth (omega arith) ∙ rw (i, o.own e) (omega arith)

  pub mark_next : {old : List ℕ} {k j : ℕ} {t : Term} {later : Terms} → b ≡ binders_at k j → Marking old mid depth k j t (arg part later)
      → Marking old new depth k (j + 1) t later
  unfolding uses_parts
  mark_next {old} {k} {j} {t} {later} be m = record {
    so_far = λ d h.
        let n = depth - 1 - d in
        let same : uses part (n + b) ≡ uses part (n + binders_at k j) = ap (λ (i : ℕ). uses part (n + i)) be in
        let next : uses_parts k (suc j) later n ≡ uses_parts k (j + 1) later n = ap (λ (i : ℕ). uses_parts k i later n) (sym (add-one j)) in
        omega (arith, m.so_far d h, part_marks d h, same, next);
  }

-- a let's body stands under its binder
pub body_binds : (k j : ℕ) → k ≡ 4 → (j ≡ 0 → ⊥) → binders_at k j ≡ 1
unfolding binders_at
body_binds k j e z = rw e (ap (λ (b : Bool). cond b 0 1) (le-ltb j 1 (omega (arith, z))))

-- going on through the words: marks have grown by at most a use a word
pub record Grown (old new : List ℕ) (depth at : ℕ) : Type 0 where
  pub len : length new ≡ length old
  pub by : (d : ℕ) → d < depth → get_or new d 0 ≤ get_or old d 0 + at

pub grown_none : (old : List ℕ) (depth at : ℕ) → Grown old old depth at
grown_none old depth at = record { len = refl; by = λ d h. omega arith }

pub grown_next : {old mid opened new : List ℕ} {depth b at : ℕ} {part : Term} → OpenedMark mid opened depth b
    → Marked 1 part (depth + b) opened new
    → length new ≡ length opened → Grown old mid depth at → (l : ℕ) → l ≡ size part → Grown old new depth (at + l)
grown_next {depth = depth} {b = b} {part = part} o a le g l e = record {
  len = le ∙ o.len ∙ g.len;
  by = λ d h. omega (arith, g.by d h, part_marks o a d h, uses-size part (depth - 1 - d + b), e);
}

-- the words from `at` on can be gone through under b binders more
pub space_next : {old mid opened : List ℕ} {depth b at : ℕ} (l more : ℕ) → OpenedMark mid opened depth b → b ≤ 1 → Grown old mid depth at
    → Space 1 old depth l → 1 ≤ at → at ≤ l → more ≡ l - at → Space 1 opened (depth + b) more
space_next {old} {mid} {opened} {depth} {b} {at} l more o bl g s low high e = record {
  deep = omega (arith, s.deep, o.len, g.len);
  small = omega (arith, s.small, o.len, g.len);
  low = λ d h. go d h (eqb d depth) refl;
}
  where
    go : (d : ℕ) → d < depth + b → (c : Bool) → eqb d depth ≡ c → get_or opened d 0 + 1 * more ≤ 2 ^ 40
    go d h true q =
        let i : d ≡ depth = eqb-true d depth q in
        let z : get_or opened d 0 ≡ 0 = rw i (o.own (omega arith)) in
        omega (arith, z, s.small, s.deep)
    go d h false q =
        let i = eqb-false d depth q in
        let lt : d < depth = omega (arith, i) in
        omega (arith, o.below d lt, g.by d lt, s.low d lt)
