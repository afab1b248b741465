-- Answers that may be missing: "P of the answer, if there is one" goes through sequences and tests. Facts on Booleans and uses.
use mathlib.Core.Path.{◌≡◌, refl, sym, ◌∙◌, subst}
use mathlib.Core.Bool.{Bool, true, false, ◌&&◌, ◌||◌, not, and-true}
use mathlib.Core.Option.{Option, some, none, map, some-injective, none-ne-some, some-ne-none}
use lib.Dec.{T, eqb, eqb_refl}
use Prim.Native.Nat.{ℕ, ◌+◌, ◌≤◌}
use native.Mathlib.Omega.{arith}
use Rattle.syntax.specs.Maybe.{◌>>=◌, given}
use Rattle.syntax.specs.Values.{counts}

-- if there is an answer, P holds of it
pub data Every {X : Type 0} (P : X → Type 0) : Option X → Type 0 where
  every_none : Every P none
  every_some : {x : X} → P x → Every P (some x)

pub every_self : {X : Type 0} (o : Option X) → Every (λ x. o ≡ some x) o
every_self none = every_none
every_self (some x) = every_some refl

pub every_bind : {X Y : Type 0} {P : X → Type 0} {Q : Y → Type 0} {o : Option X} (f : X → Option Y) → Every P o
    → ((x : X) → P x → Every Q (f x)) → Every Q (o >>= f)
every_bind f every_none h = every_none
every_bind f (every_some {x = x} p) h = h x p

pub every_given : {X : Type 0} {Q : X → Type 0} (b : Bool) (x : X) → (T b → Q x) → Every Q (given b x)
every_given true x h = every_some (h tt)
every_given false x h = every_none

pub every_map : {X Y : Type 0} {P : X → Type 0} {Q : Y → Type 0} (f : X → Y) {o : Option X} → ((x : X) → P x → Q (f x)) → Every P o
    → Every Q (map f o)
every_map f h every_none = every_none
every_map f h (every_some {x = x} p) = every_some (h x p)

pub every_to : {X : Type 0} {P Q : X → Type 0} {o : Option X} → ((x : X) → P x → Q x) → Every P o → Every Q o
every_to h every_none = every_none
every_to h (every_some {x = x} p) = every_some (h x p)

pub every_at : {X : Type 0} {P : X → Type 0} {o : Option X} (x : X) → Every P o → o ≡ some x → P x
every_at x every_none e = absurd (none-ne-some x e)
every_at {P = P} x (every_some {x = y} p) e = subst P (some-injective y x e) p

pub map-none : {X Y : Type 0} (f : X → Y) (o : Option X) → map f o ≡ none → o ≡ none
map-none f none e = refl
map-none f (some x) e = absurd (some-ne-none (f x) e)

pub given_none : {X : Type 0} (b : Bool) (x : X) → given b x ≡ none → T (not b)
given_none true x e = absurd (some-ne-none x e)
given_none false x e = tt

pub is_true : (b : Bool) → T b → b ≡ true
is_true true h = refl
is_true false h = absurd h

pub is_false : (b : Bool) → T (not b) → b ≡ false
is_false true h = absurd h
is_false false h = refl

pub and_left : (a b : Bool) → T (a && b) → T a
and_left true b h = tt
and_left false b h = h

pub and_right : (a b : Bool) → T (a && b) → T b
and_right true b h = h
and_right false b h = absurd h

pub both_true : (a b : Bool) → T a → T b → T (a && b)
both_true true b x y = y
both_true false b x y = absurd x

-- a conjunction's last
pub and_last : {a b : Bool} → a ≡ b → a ≡ (b && true)
and_last {b = b} e = e ∙ sym (and-true b)

pub or_true : (b : Bool) → T (b || true)
or_true true = tt
or_true false = tt

pub not_not : (b : Bool) → T (not (not b)) → T b
not_not true h = tt
not_not false h = h

pub not_both : (b : Bool) → T b → T (not b) → ⊥
not_both true h k = k
not_both false h k = h

pub counts_one : (b : Bool) → counts b ≤ 1
counts_one true = omega arith
counts_one false = omega arith

pub counts_is_1 : (b : Bool) → counts b ≡ 1 → b ≡ true
counts_is_1 true e = refl
counts_is_1 false e = absurd (omega (arith, e))

pub counts_is_0 : (b : Bool) → counts b ≡ 0 → b ≡ false
counts_is_0 true e = absurd (omega (arith, e))
counts_is_0 false e = refl

-- a variable uses itself
pub counts_true : (b : Bool) → T b → 1 ≤ counts b
counts_true true h = omega arith
counts_true false h = absurd h

pub uses_itself : (n : ℕ) → 1 ≤ counts (eqb n n)
uses_itself n = counts_true (eqb n n) (eqb_refl n)

pub add_left : (a b : ℕ) → 1 ≤ a → 1 ≤ a + b
add_left a b h = omega (arith, h)

pub add_right : (a b : ℕ) → 1 ≤ b → 1 ≤ a + b
add_right a b h = omega (arith, h)
