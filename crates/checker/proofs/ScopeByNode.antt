-- Variables in scope, node by node: while the nodes passed are in scope, the term is if the row ahead is.
use mathlib.Core.Path.{◌≡◌, refl, sym, ◌∙◌, ap, ap₂}
use mathlib.Core.Bool.{Bool, true, false, ◌&&◌, and-true, and_assoc}
use mathlib.Core.List.{List}
use Prim.Native.Nat.{ℕ, suc, ◌+◌, ◌-◌, ◌≤◌}
use native.Mathlib.Omega.{arith}
use native.Mathlib.Nat.{add-zero}
use native.Mathlib.Numerals.{add-one}
use lib.ListN.{length, get_or, set, length-set}
use lib.Seq.{get_or-set_same}
use lib.Dec.{eqb}
use Rattle.syntax.specs.Maybe.{given}
use Rattle.syntax.specs.Kinds.{binders_at}
use Rattle.syntax.specs.Term.{Term, Terms, var, call, lam, app, bind, pair, fst, snd, inl, inr, case, unit, done, arg, node, as_var}
use Rattle.syntax.specs.Parts.{part_count}
use Rattle.syntax.specs.Shaped.{count}
use Rattle.words.specs.Fronts.{Starts}
use Rattle.words.specs.Reach.{outer, inner}
use Rattle.words.specs.Depths.{OpensParts}
use Rattle.words.proofs.RowAtDepths.{Gathering, ahead, ahead_one, ahead_opened, Near, near_begin, near_next, opens_room}
use Rattle.words.proofs.Rows.{Marching, Visit, visit, march_from, march_inside, march_fits, march_on, march_end}
use Rattle.words.proofs.Rows.{one_starts, one_holds}
use Rattle.typing.specs.TermChecks.{below, scoped_at}
use Rattle.typing.proofs.ScopedNode.{scoped_parts, scoped_node}
use Rattle.checker.specs.Answers.{variable_of, Scopes}

-- the terms of a row under one number of binders and inputs
unfoldable pub scoped_all : Terms → ℕ → Bool
scoped_all done m = true
scoped_all (arg t ts) m = scoped_at m t && scoped_all ts m

abbrev pub inside : Gathering Bool
unfolding scoped_all
inside = record {
  one = λ t m. scoped_at m t;
  all = scoped_all;
  none = true;
  join = ◌&&◌;
  all_done = λ m. refl;
  all_arg = λ t ts m. refl;
  none-join = λ b. refl;
  join-none = and-true;
  join-join = and_assoc;
}

-- a node is in scope if its own variable is, and its outer parts as they stand, and its inner ones under one binder
module _ (m : ℕ) where
  at_0 : (t : Term) → scoped_at (m + 0) t ≡ scoped_at m t
  at_0 t = ap (λ (n : ℕ). scoped_at n t) (add-zero m)

  at_1 : (t : Term) → scoped_at (m + 1) t ≡ scoped_at (suc m) t
  at_1 t = ap (λ (n : ℕ). scoped_at n t) (add-one m)

  arguments : (j : ℕ) (ts : Terms) → scoped_parts m 1 j ts ≡ scoped_all ts m
  unfolding scoped_parts scoped_all binders_at
  arguments j done = refl
  arguments j (arg t ts) = ap₂ {C = Bool} (λ a b. a && b) (at_0 t) (arguments (suc j) ts)

  scoped_binding : (t : Term) → scoped_at m t ≡ (below m (as_var t) && (scoped_all (outer t) m && scoped_all (inner t) (suc m)))
  unfolding scoped_parts scoped_all binders_at node as_var outer inner
  scoped_binding (var n) = scoped_node m (var n)
  scoped_binding (call k ts) = scoped_node m (call k ts) ∙ arguments 0 ts ∙ sym (and-true (scoped_all ts m))
  scoped_binding (lam A b) = scoped_node m (lam A b) ∙ simp (at_1 b)
  scoped_binding (app f a) = scoped_node m (app f a) ∙ simp (at_0 f, at_0 a, and-true)
  scoped_binding (bind e b) = scoped_node m (bind e b) ∙ simp (at_0 e, at_1 b, and-true)
  scoped_binding (pair A a b) = scoped_node m (pair A a b) ∙ simp (at_0 a, at_0 b, and-true)
  scoped_binding (fst a) = scoped_node m (fst a) ∙ simp (at_0 a, and-true)
  scoped_binding (snd a) = scoped_node m (snd a) ∙ simp (at_0 a, and-true)
  scoped_binding (inl A a) = scoped_node m (inl A a) ∙ simp (at_0 a, and-true)
  scoped_binding (inr A a) = scoped_node m (inr A a) ∙ simp (at_0 a, and-true)
  scoped_binding (case s l r) = scoped_node m (case s l r) ∙ simp (at_0 s, at_1 l, at_1 r, and-true)
  scoped_binding (unit A) = scoped_node m (unit A)

-- the row is in scope if the row ahead is
abbrev pub Scoping : (p : List ℕ) (m : ℕ) → Terms → Terms → Type 0
Scoping p m ts us = scoped_all ts m ≡ ahead inside p us

-- the loop's invariant
pub record Scan (calls words p : List ℕ) (m owed at : ℕ) : Type 0 where
  pub within : at + owed ≤ length words
  pub space : length words + 2 ≤ length p
  pub near : Near p owed (m + at)
  pub going : Marching calls words (Scoping p m) 1 at owed

pub scan_begin : {calls words : List ℕ} (p : List ℕ) (m : ℕ) → Starts calls words → length words + 2 ≤ length p
    → Scan calls words (set p 0 m) m 1 0
unfolding scoped_all inside
scan_begin {calls} {words} p m s sp =
    let going = march_from calls words (Scoping (set p 0 m) m) 1 (one_starts s) λ ts e.
    sym (ahead_one inside (set p 0 m) m ts e (get_or-set_same p 0 m 0 (omega (arith, sp)))) in
    record {
      within = march_inside calls words going;
      space = omega (arith, sp, length-set p 0 m);
      near = near_begin p m (omega (arith, sp));
      going = going;
    }

module _ {calls words p : List ℕ} {m owed at : ℕ} (g : Scan calls words p m owed at) where
  -- no term is owed
  pub scan_end : owed ≡ 0 → Scopes calls m words true
  unfolding scoped_all ahead
  scan_end z t rest h =
      let e = march_end calls words g.going z (arg t done) rest (one_holds h) in
      sym (sym (and-true (scoped_at m t)) ∙ e.1)

  module _ (lt : 1 ≤ owed) where
    abbrev under : ℕ
    under = get_or p (owed - 1) 0

    -- the node at the front is in scope if its variable is, and its parts are
    at_node : {ts : Terms} {rest : List ℕ} (v : Visit calls words (Scoping p m) at owed ts rest) (b : Bool)
        → b ≡ below under (variable_of (get_or words at 0))
        → scoped_all ts m
        ≡ ((b && (scoped_all (outer v.term) under && scoped_all (inner v.term) (suc under))) && ahead inside p v.later)
    unfolding ahead inside as_var
    at_node v b e =
        let c : count v.later ≡ owed - 1 = omega (arith, v.many) in
        let own : below under (as_var v.term) ≡ b =
        ap₂ (λ (k n : ℕ). below under (given (eqb k 0) n)) (sym v.kind) (sym v.number) ∙ sym e in
        let parts = scoped_all (outer v.term) under && scoped_all (inner v.term) (suc under) in
        v.to_do
        ∙ ap (λ (i : ℕ). scoped_at (get_or p i 0) v.term && ahead inside p v.later) c
        ∙ ap (λ (x : Bool). x && ahead inside p v.later) (scoped_binding under v.term ∙ ap (λ (x : Bool). x && parts) own)

    -- a variable is out of scope
    pub scan_out : false ≡ below under (variable_of (get_or words at 0)) → Scopes calls m words false
    unfolding scoped_all
    scan_out e t rest h =
        let v = visit calls words g.going lt (arg t done) rest (one_holds h) in
        sym (sym (and-true (scoped_at m t)) ∙ at_node v false e)

    module _ (far : m + length words ≤ 65536) where
      -- the depths of the node's parts have room
      pub scan_opens : (owed - 1 + 3 ≤ length p) × (owed - 1 + part_count calls (get_or words at 0) ≤ length p) × (under ≤ 65536)
      scan_opens = opens_room p m 2 g.going g.near (omega (arith, march_fits calls words g.going, g.space)) (omega arith) lt far

      -- a node in scope
      pub scan_node : (q : List ℕ) (r : ℕ) → length q ≡ length p → true ≡ below under (variable_of (get_or words at 0))
          → OpensParts calls (get_or words at 0) under p q (owed - 1) r → Scan calls words q m r (at + 1)
      unfolding inside
      scan_node q r l e w =
          let going = march_on calls words g.going lt (Scoping q m) r w.many λ ts rest v.
          let c : owed - 1 ≡ count v.later = omega (arith, v.many) in
          let o = outer v.term in
          let i = inner v.term in
          at_node v true e ∙ and_assoc (scoped_all o under) (scoped_all i (suc under)) (ahead inside p v.later)
          ∙ sym (ahead_opened inside w.opened o i v.later c v.outers v.parts) in
          record {
            within = march_inside calls words going;
            space = omega (arith, g.space, l);
            near = near_next p q m at owed r g.near lt w;
            going = going;
          }
