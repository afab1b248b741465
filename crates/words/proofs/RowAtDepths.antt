-- What is gathered from a row of terms, each at the depth that a buffer holds for it: a node's parts at their depths are the node's.
use Prim.Native.Nat.{ℕ, suc, ◌+◌, ◌-◌, ◌≤◌, ◌<◌}
use native.Mathlib.Omega.{arith}
use mathlib.Core.Path.{◌≡◌, refl, sym, ◌∙◌, ap}
use mathlib.Core.Bool.{Bool, true, false}
use mathlib.Core.List.{List}
use lib.Dec.{ltb}
use lib.ListN.{length, get_or, set}
use lib.Seq.{get_or-set_same}
use borrow.Author.Tests.{ltb-true, ltb-false}
use Rattle.syntax.specs.Term.{Term, Terms, done, arg}
use Rattle.syntax.specs.Parts.{part_count}
use Rattle.syntax.specs.Shaped.{count}
use Rattle.syntax.proofs.Sizes.{size_all}
use Rattle.words.specs.Joined.{joined}
use Rattle.words.specs.Depths.{Opened, OpensParts}
use Rattle.words.proofs.Joined.{count_joined, joined_done}
use Rattle.words.proofs.Rows.{Marching, march_inside, march_within, march_parts}

-- something of a term at a depth, and of a row at one depth
pub record Gathering (M : Type 0) : Type 0 where
  pub one : Term → ℕ → M
  pub all : Terms → ℕ → M
  pub none : M
  pub join : M → M → M
  pub all_done : (d : ℕ) → all done d ≡ none
  pub all_arg : (t : Term) (ts : Terms) (d : ℕ) → all (arg t ts) d ≡ join (one t d) (all ts d)
  pub none-join : (x : M) → join none x ≡ x
  pub join-none : (x : M) → join x none ≡ x
  pub join-join : (x y z : M) → join (join x y) z ≡ join x (join y z)

module _ {M : Type 0} (g : Gathering M) where
  -- the row ahead: a term's depth stands at the index that counts the terms after it
  unfoldable pub ahead : List ℕ → Terms → M
  ahead p done = g.none
  ahead p (arg t ts) = g.join (g.one t (get_or p (count ts) 0)) (ahead p ts)

  -- only the depths of the row's terms matter
  pub ahead_same : (p q : List ℕ) (ts : Terms) → ((j : ℕ) → j < count ts → get_or q j 0 ≡ get_or p j 0) → ahead q ts ≡ ahead p ts
  unfolding ahead count
  ahead_same p q done e = refl
  ahead_same p q (arg t ts) e = ap (λ (d : ℕ). g.join (g.one t d) (ahead q ts)) (e (count ts) (omega arith))
      ∙ ap (g.join (g.one t (get_or p (count ts) 0))) (ahead_same p q ts (λ j l. e j (omega (arith, l))))

  -- terms at one depth, before others
  pub ahead_joined : (p : List ℕ) (d : ℕ) (ts us : Terms) → ((j : ℕ) → j < count ts → get_or p (count us + j) 0 ≡ d)
      → ahead p (joined ts us) ≡ g.join (g.all ts d) (ahead p us)
  unfolding ahead count joined
  ahead_joined p d done us e = sym (g.none-join (ahead p us)) ∙ ap (λ (x : M). g.join x (ahead p us)) (sym (g.all_done d))
  ahead_joined p d (arg t ts) us e =
      let n : count (joined ts us) ≡ count us + count ts = omega (arith, count_joined ts us) in
      ap (λ (i : ℕ). g.join (g.one t (get_or p i 0)) (ahead p (joined ts us))) n
      ∙ ap (λ (i : ℕ). g.join (g.one t i) (ahead p (joined ts us))) (e (count ts) (omega arith))
      ∙ ap (g.join (g.one t d)) (ahead_joined p d ts us (λ j l. e j (omega (arith, l))))
      ∙ sym (g.join-join (g.one t d) (g.all ts d) (ahead p us))
      ∙ ap (λ (x : M). g.join x (ahead p us)) (sym (g.all_arg t ts d))

  -- one term
  pub ahead_one : (p : List ℕ) (d : ℕ) (ts : Terms) → count ts ≡ 1 → get_or p 0 0 ≡ d → ahead p ts ≡ g.all ts d
  unfolding ahead count
  ahead_one p d ts e h = ap (ahead p) (sym (joined_done ts)) ∙ ahead_joined p d ts done (λ j l. at j l) ∙ g.join-none (g.all ts d)
    where
      at : (j : ℕ) → j < count ts → get_or p (count done + j) 0 ≡ d
      at j l = let z : count done + j ≡ 0 = omega (arith, l, e) in ap (λ (i : ℕ). get_or p i 0) z ∙ h

  -- a node's outer and inner parts, before the terms after it
  pub ahead_opened : {p q : List ℕ} {last n o d : ℕ} → Opened p q last n o d → (os is later : Terms) → last ≡ count later → o ≡ count os
      → n ≡ count os + count is
      → ahead q (joined os (joined is later)) ≡ g.join (g.all os d) (g.join (g.all is (suc d)) (ahead p later))
  ahead_opened {p} {q} {last} {n} {o} {d} w os is later le oe ne =
      ahead_joined q d os (joined is later) outer ∙ ap (g.join (g.all os d))
      (ahead_joined q (suc d) is later inner ∙ ap (g.join (g.all is (suc d)))
      (ahead_same p q later (λ j l. w.kept j (omega (arith, l, le)))))
    where
      inner : (j : ℕ) → j < count is → get_or q (count later + j) 0 ≡ suc d
      inner j l = ap (λ (i : ℕ). get_or q (i + j) 0) (sym le) ∙ w.inner j (omega (arith, l, oe, ne))

      outer : (j : ℕ) → j < count os → get_or q (count (joined is later) + j) 0 ≡ d
      outer j l =
          let e : count (joined is later) + j ≡ last + (count is + j) = omega (arith, count_joined is later, le) in
          ap (λ (i : ℕ). get_or q i 0) e ∙ w.outer (count is + j) (omega (arith, oe, ne)) (omega (arith, l, ne))

-- the depths of the parts owed are not beyond a bound
abbrev pub Near : (p : List ℕ) (owed most : ℕ) → Type 0
Near p owed most = (j : ℕ) → j < owed → get_or p j 0 ≤ most

pub near_begin : (p : List ℕ) (d : ℕ) → 1 ≤ length p → Near (set p 0 d) 1 (d + 0)
near_begin p d le j l =
    let z : j ≡ 0 = omega (arith, l) in
    omega (arith, ap (λ (i : ℕ). get_or (set p 0 d) i 0) z, get_or-set_same p 0 d 0 le)

near_opened : {p q : List ℕ} {last n o d most : ℕ} → Opened p q last n o d → Near p last most → d ≤ most → Near q (last + n) (suc most)
near_opened {p} {q} {last} {n} {o} {d} {most} w h le j l = by (ltb j last) refl
  where
    at : last ≤ j → get_or q j 0 ≡ get_or q (last + (j - last)) 0
    at g = let e : j ≡ last + (j - last) = omega (arith, g) in ap (λ (x : ℕ). get_or q x 0) e

    behind : last ≤ j → (b : Bool) → ltb (j - last) (n - o) ≡ b → get_or q j 0 ≤ suc most
    behind g true e = omega (arith, at g, w.inner (j - last) (ltb-true _ _ e), le)
    behind g false e = omega (arith, at g, w.outer (j - last) (ltb-false _ _ e) (omega (arith, g, l)), le)

    by : (b : Bool) → ltb j last ≡ b → get_or q j 0 ≤ suc most
    by true e = omega (arith, w.kept j (ltb-true j last e), h j (ltb-true j last e))
    by false e = behind (ltb-false j last e) (ltb (j - last) (n - o)) refl

-- a node is passed: the row ahead is one of its parts and the others, not deeper than one word further
pub near_next : {calls : List ℕ} (p q : List ℕ) {w : ℕ} (d at owed r : ℕ) → Near p owed (d + at) → 1 ≤ owed
    → OpensParts calls w (get_or p (owed - 1) 0) p q (owed - 1) r → Near q r (d + (at + 1))
near_next p q d at owed r near lt o j l =
    let n = near_opened o.opened (λ i k. near i (omega (arith, k))) (near _ (omega (arith, lt))) j (omega (arith, l, o.many)) in
    omega (arith, n)

-- the depths of the parts of the node at the front have room
pub opens_room : {calls words : List ℕ} (p : List ℕ) {Q : Terms → Terms → Type 0} (d m : ℕ) {at owed : ℕ}
    (g : Marching calls words Q 1 at owed)
    → Near p owed (d + at) → size_all g.start.terms + m ≤ length p → 2 ≤ m → 1 ≤ owed → d + length words ≤ 65536
    → (owed - 1 + 3 ≤ length p) × (owed - 1 + part_count calls (get_or words at 0) ≤ length p) × (get_or p (owed - 1) 0 ≤ 65536)
opens_room {calls} {words} p d m {owed = owed} g near spare two lt far = (
  omega (arith, march_within calls words g, spare, lt, two),
  omega (arith, march_parts calls words g lt, spare),
  omega (arith, near (owed - 1) (omega (arith, lt)), march_inside calls words g, far),
)
