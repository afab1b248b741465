-- Let insertion binds the first computation among a node's parts, and the node moves under the new binder with the variable for that part:
-- each form of the rule says so of its own kind of node.
use Prim.Native.Nat.{ℕ, suc, ◌+◌, ◌<◌}
use native.Mathlib.Omega.{arith}
use mathlib.Core.Path.{◌≡◌, refl, sym, ◌∙◌, ap, ap₂}
use mathlib.Core.Bool.{Bool, true, false}
use lib.Dec.{T, eqb}
use borrow.Author.Tests.{eq-eqb, ne_eqb}
use Rattle.syntax.specs.Kinds.{binders_at}
use Rattle.syntax.specs.Term.{Term, Terms, var, call, app, bind, pair, fst, snd, inl, inr, case, done, arg, node}
use Rattle.syntax.specs.Shaped.{count}
use Rattle.syntax.specs.Substitution.{traverse, traverse_all, renaming, rename, weaken, weaken_body}
use Rattle.syntax.specs.Under.{raise_at}
use Rattle.syntax.specs.Values.{is_value, is_computation}
use Rattle.syntax.proofs.Options.{is_true, is_false}
use Rattle.syntax.proofs.Under.{weaken-raise_at, weaken_body-raise_at}
use Rattle.reduction.proofs.Roots.{Names, this, next, Insert, i_call, i_app₁, i_app₂, i_pair₁, i_pair₂, i_fst, i_snd, i_inl, i_inr, i_case}
use Rattle.words.specs.Joined.{joined}
use Rattle.search.specs.Operands.{all_values}
use Rattle.contraction.specs.Plans.{insert_part, insert_parts, Inserted}

one_value : (t : Term) → T (is_value t) → all_values (arg t done) ≡ true
unfolding all_values
one_value t h = rw (is_true (is_value t) h)

computes : (t : Term) → T (is_computation t) → is_value t ≡ false
unfolding is_computation
computes t h = is_false (is_value t) h

-- the part the variable stands for, and the others
variable_for_part : (i j b : ℕ) (t : Term) → j ≡ i → var 0 ≡ insert_part (eqb j i) b t
variable_for_part i j b t e = ap (λ (c : Bool). insert_part c b t) (sym (eq-eqb j i e))

other_part_moves : (i j b : ℕ) (t : Term) → (j ≡ i → ⊥) → rename t (raise_at b 1) ≡ insert_part (eqb j i) b t
other_part_moves i j b t h = ap (λ (c : Bool). insert_part c b t) (sym (ne_eqb j i h))

-- the arguments of a call behind the one that is named
arguments_after : (i j : ℕ) (ts : Terms) → i < j → traverse_all renaming ts suc ≡ insert_parts 1 i j ts
unfolding traverse insert_parts binders_at
arguments_after i j done lt = refl
arguments_after i j (arg t ts) lt =
    ap₂ arg (weaken-raise_at t ∙ other_part_moves i j 0 t (λ e. omega (arith, e, lt))) (arguments_after i (suc j) ts (omega (arith, lt)))

record NamedArgument (ts : Terms) (p : Term) (us : Terms) : Type 0 where
  front : Terms
  later : Terms
  parts : ts ≡ joined front (arg p later)
  values : all_values front ≡ true
  computation : is_value p ≡ false
  inserted : (j : ℕ) → us ≡ insert_parts 1 (j + count front) j ts

named_argument : {ts us : Terms} {p : Term} → Names ts p us → NamedArgument ts p us
unfolding joined all_values count insert_parts binders_at
named_argument (this {t = t} {ts = ts} h) = record {
  front = done;
  later = ts;
  parts = refl;
  values = refl;
  computation = computes t h;
  inserted = λ j. ap₂ arg (variable_for_part (j + 0) j 0 t (omega arith)) (arguments_after (j + 0) (suc j) ts (omega arith));
}
named_argument (next {t = t} {p = p} {ts = ts} {us = us} h n) =
    let s = named_argument n in
    record {
      front = arg t s.front;
      later = s.later;
      parts = ap (arg t) s.parts;
      values = rw (is_true (is_value t) h) s.values;
      computation = s.computation;
      inserted = λ j. ap₂ arg (weaken-raise_at t ∙ other_part_moves (j + suc (count s.front)) j 0 t (λ e. omega (arith, e)))
          (s.inserted (suc j) ∙ ap (λ (i : ℕ). insert_parts 1 i (suc j) ts) (moved j (count s.front)));
    }
  where
    moved : (j c : ℕ) → suc j + c ≡ j + suc c
    moved j c = omega arith

-- the part that is bound, and the node with the new variable for it
pub record NamedPart (x y : Term) : Type 0 where
  pub part : Term
  pub node_under : Term
  pub is : y ≡ bind part node_under
  pub front : Terms
  pub later : Terms
  pub parts : (node x).parts ≡ joined front (arg part later)
  pub values : all_values front ≡ true
  pub computation : is_value part ≡ false
  pub inserted : Inserted (count front) x node_under

-- of the first part, and of the second behind a value
first_part : (x p z : Term) (later : Terms) → (node x).parts ≡ arg p later → T (is_computation p) → Inserted 0 x z → NamedPart x (bind p z)
unfolding joined all_values count
first_part x p z later e h i = record {
  part = p;
  node_under = z;
  is = refl;
  front = done;
  later = later;
  parts = e;
  values = refl;
  computation = computes p h;
  inserted = i;
}

second_part : (x v p z : Term) → (node x).parts ≡ arg v (arg p done) → T (is_value v) → T (is_computation p) → Inserted 1 x z
    → NamedPart x (bind p z)
unfolding joined count
second_part x v p z e h k i = record {
  part = p;
  node_under = z;
  is = refl;
  front = arg v done;
  later = done;
  parts = e;
  values = one_value v h;
  computation = computes p k;
  inserted = i;
}

pub named_part : {x y : Term} → Insert x y → NamedPart x y
unfolding node insert_parts binders_at
named_part (i_call {k = k} {p = p} {ts = ts} {us = us} n) =
    let s = named_argument n in
    record {
      part = p;
      node_under = call k us;
      is = refl;
      front = s.front;
      later = s.later;
      parts = s.parts;
      values = s.values;
      computation = s.computation;
      inserted = record { word = refl; parts = s.inserted 0 ∙ ap (λ (i : ℕ). insert_parts 1 i 0 ts) (from_zero (count s.front)) };
    }
  where
    from_zero : (c : ℕ) → 0 + c ≡ c
    from_zero c = omega arith
named_part (i_app₁ {f = f} {a = a} h) = first_part (app f a) f (app (var 0) (weaken a)) (arg a done) refl h
    (record { word = refl; parts = ap (λ (t : Term). arg (var 0) (arg t done)) (weaken-raise_at a) })
named_part (i_app₂ {f = f} {a = a} h k) = second_part (app f a) f a (app (weaken f) (var 0)) refl h k
    (record { word = refl; parts = ap (λ (t : Term). arg t (arg (var 0) done)) (weaken-raise_at f) })
named_part (i_pair₁ {A = A} {a = a} {b = b} h) = first_part (pair A a b) a (pair A (var 0) (weaken b)) (arg b done) refl h
    (record { word = refl; parts = ap (λ (t : Term). arg (var 0) (arg t done)) (weaken-raise_at b) })
named_part (i_pair₂ {A = A} {a = a} {b = b} h k) = second_part (pair A a b) a b (pair A (weaken a) (var 0)) refl h k
    (record { word = refl; parts = ap (λ (t : Term). arg t (arg (var 0) done)) (weaken-raise_at a) })
named_part (i_fst {a = a} h) = first_part (fst a) a (fst (var 0)) done refl h (record { word = refl; parts = refl })
named_part (i_snd {a = a} h) = first_part (snd a) a (snd (var 0)) done refl h (record { word = refl; parts = refl })
named_part (i_inl {A = A} {a = a} h) = first_part (inl A a) a (inl A (var 0)) done refl h (record { word = refl; parts = refl })
named_part (i_inr {A = A} {a = a} h) = first_part (inr A a) a (inr A (var 0)) done refl h (record { word = refl; parts = refl })
named_part (i_case {s = s} {l = l} {r = r} h) = first_part (case s l r) s (case (var 0) (weaken_body l) (weaken_body r)) (arg l (arg r done))
    refl h
    (record {
      word = refl;
      parts = ap₂ (λ (t u : Term). arg (var 0) (arg t (arg u done))) (weaken_body-raise_at l) (weaken_body-raise_at r);
    })
