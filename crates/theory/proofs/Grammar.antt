-- A typed term is in the grammar exactly if no rule of any phase fits it anywhere: where phases 1 and 2 fit nowhere it is in the weaker
-- grammar, and where drop fits nowhere each let is needed.
use mathlib.Core.Path.{◌≡◌, refl, sym, subst}
use mathlib.Core.Bool.{Bool, ◌||◌, true, false, ◌&&◌, not}
use mathlib.Core.Option.{Option, some, none, some-ne-none}
use lib.Dec.{T, leb, eqb, eqb→eq, le→leb, leb→le}
use Prim.Native.Nat.{ℕ, zero, suc, ◌≤◌}
use native.Mathlib.Omega.{arith}
use Rattle.syntax.specs.Maybe.{given, is_some}
use Rattle.syntax.specs.Tables.{Tables}
use Rattle.syntax.specs.Term.{Term, Terms, bind, node, parts_of, as_bind}
use Rattle.syntax.specs.Substitution.{rename}
use Rattle.syntax.specs.Values.{is_computation, uses}
use Rattle.typing.specs.Infer.{Context, infer}
use Rattle.reduction.specs.Rules.{lower, drop, fire, rules}
use Rattle.reduction.specs.declared.Phase.TheVariants.{Insertion, Reduction, Dropping}
use Rattle.reduction.specs.Redex.{Contraction, contract, Step as Stepped, step}
use Rattle.reduction.specs.declared.Rule.TheVariants.{Drop}
use Rattle.reduction.specs.NormalForm.{is_normal, needed, NormalValue, NormalValues, Operation, Normal, variable, function, product as both}
use Rattle.reduction.specs.NormalForm.{left, right, the_unit, no_more, more, application, calling, first as taking₁, second as taking₂}
use Rattle.reduction.specs.NormalForm.{value}
use Rattle.reduction.specs.NormalForm.{operation, letting, branching}
use Rattle.syntax.proofs.Options.{and_left, and_right, or_true}
use Rattle.typing.proofs.InferTyped.{typing_of}
use Rattle.reduction.proofs.Search.{Each, EachAll, Misses, no_step, nowhere}
use Rattle.theory.proofs.Operands.{inserted}
use Rattle.theory.proofs.Forms.{never, stays, operation_computes, reduced}
use Rattle.theory.proofs.FormsKept.{no_insertion, no_reduction}

module _ (pure : Term → Bool) where
  -- the grammar is in the weaker grammar
  mutual
    weak : {t : Term} → Normal pure t → Normal never t
    weak (value v) = value (weak_value v)
    weak (operation o) = operation (weak_operation o)
    weak (letting {e = e} {b = b} o u n) = letting (weak_operation o) (stays e b) (weak n)
    weak (branching l r) = branching (weak l) (weak r)

    weak_value : {t : Term} → NormalValue pure t → NormalValue never t
    weak_value variable = variable
    weak_value (function b) = function (weak b)
    weak_value (both a b) = both (weak_value a) (weak_value b)
    weak_value (left a) = left (weak_value a)
    weak_value (right a) = right (weak_value a)
    weak_value the_unit = the_unit

    weak_values : {ts : Terms} → NormalValues pure ts → NormalValues never ts
    weak_values no_more = no_more
    weak_values (more v vs) = more (weak_value v) (weak_values vs)

    weak_operation : {t : Term} → Operation pure t → Operation never t
    weak_operation (application v) = application (weak_value v)
    weak_operation (calling vs) = calling (weak_values vs)
    weak_operation taking₁ = taking₁
    weak_operation taking₂ = taking₂

  -- drop misses a let of a computation exactly if the let is needed
  abbrev dropped : Term → Term → Bool → Bool → Bool → Option Contraction
  dropped e b x y z = elim (given (x && y && z) (rename b lower)) [ some u ↦ some (record { rule = Drop; contractum = u }) | none ↦ none ]

  not_zero : (n : ℕ) → T (not (eqb n 0)) → 1 ≤ n
  not_zero zero h = absurd h
  not_zero (suc n) h = omega arith

  is_needed : (e b : Term) → T (is_computation e) → Misses pure Dropping (bind e b) → T (needed pure e b)
  unfolding contract rules fire drop as_bind parts_of node needed
  is_needed e b h m = go (is_computation e) (pure e) (eqb (uses b 0) 0) (not_zero (uses b 0)) h m
    where
      or_left : (a c : Bool) → T a → T (a || c)
      or_left true c h = tt
      or_left false c h = absurd h

      go : (x y z : Bool) → (T (not z) → 1 ≤ uses b 0) → T x → dropped e b x y z ≡ none → T (leb 1 (uses b 0) || not y)
      go true true true k h m = absurd (some-ne-none _ m)
      go true true false k h m = or_left (leb 1 (uses b 0)) false (le→leb 1 (uses b 0) (k tt))
      go true false z k h m = or_true (leb 1 (uses b 0))
      go false y z k h m = absurd h

  let_missed : (e b : Term) → T (needed pure e b) → Misses pure Dropping (bind e b)
  unfolding contract rules fire drop as_bind parts_of node needed
  let_missed e b h = go (is_computation e) (pure e) (eqb (uses b 0) 0) (eqb→eq (uses b 0) 0) h
    where
      or_first : (a : Bool) → T (a || false) → T a
      or_first true h = tt
      or_first false h = h

      go : (x y z : Bool) → (T z → uses b 0 ≡ 0) → T (leb 1 (uses b 0) || not y) → dropped e b x y z ≡ none
      go true true true k h = let u = leb→le 1 (uses b 0) (or_first (leb 1 (uses b 0)) h) in let v = k tt in absurd (omega (arith, u, v))
      go true true false k h = refl
      go true false z k h = refl
      go false y z k h = refl

  mutual
    unfolding Each

    full : {t : Term} → Normal never t → Each t (Misses pure Dropping) → Normal pure t
    full (value v) e = value (full_value v e)
    full (operation o) e = operation (full_operation o e)
    full (letting {e = d} {b = b} o u n) e = letting (full_operation o e.1) (is_needed d b (operation_computes o) e.0) (full n e.2)
    full (branching l r) e = branching (full l e.2) (full r e.3)

    full_value : {t : Term} → NormalValue never t → Each t (Misses pure Dropping) → NormalValue pure t
    full_value variable e = variable
    full_value (function b) e = function (full b e.1)
    full_value (both a b) e = both (full_value a e.1) (full_value b e.2)
    full_value (left a) e = left (full_value a e.1)
    full_value (right a) e = right (full_value a e.1)
    full_value the_unit e = the_unit

    full_values : {ts : Terms} → NormalValues never ts → EachAll ts (Misses pure Dropping) → NormalValues pure ts
    full_values no_more e = no_more
    full_values (more v vs) e = more (full_value v e.0) (full_values vs e.1)

    full_operation : {t : Term} → Operation never t → Each t (Misses pure Dropping) → Operation pure t
    full_operation (application v) e = application (full_value v e.2)
    full_operation (calling vs) e = calling (full_values vs e.1)
    full_operation taking₁ e = taking₁
    full_operation taking₂ e = taking₂

  mutual
    unfolding Each contract rules fire drop as_bind parts_of node

    missed : {t : Term} → Normal pure t → Each t (Misses pure Dropping)
    missed (value v) = missed_value v
    missed (operation o) = missed_operation o
    missed (letting {e = e} {b = b} o u n) = (let_missed e b u, missed_operation o, missed n)
    missed (branching l r) = (refl, refl, missed l, missed r)

    missed_value : {t : Term} → NormalValue pure t → Each t (Misses pure Dropping)
    missed_value variable = refl
    missed_value (function b) = (refl, missed b)
    missed_value (both a b) = (refl, missed_value a, missed_value b)
    missed_value (left a) = (refl, missed_value a)
    missed_value (right a) = (refl, missed_value a)
    missed_value the_unit = refl

    missed_values : {ts : Terms} → NormalValues pure ts → EachAll ts (Misses pure Dropping)
    missed_values no_more = tt
    missed_values (more v vs) = (missed_value v, missed_values vs)

    missed_operation : {t : Term} → Operation pure t → Each t (Misses pure Dropping)
    missed_operation (application v) = (refl, refl, missed_value v)
    missed_operation (calling vs) = (refl, missed_values vs)
    missed_operation taking₁ = (refl, refl)
    missed_operation taking₂ = (refl, refl)

  is_none : (o : Option Stepped) → T (not (is_some o)) → o ≡ none
  is_none none h = refl
  is_none (some s) h = absurd h

  -- a term of the grammar is normal
  pub grammar_normal : (t : Term) → Normal pure t → is_normal pure t ≡ true
  unfolding is_normal
  grammar_normal t f = rw (no_insertion pure (weak f), no_reduction pure (weak f), nowhere pure Dropping t (missed f))

  -- a typed term that is normal is in the grammar
  pub normal_grammar : (tables : Tables) (Γ : Context) (A : ℕ) (t : Term) → infer tables t Γ ≡ some A → is_normal pure t ≡ true
      → Normal pure t
  unfolding is_normal
  normal_grammar tables Γ A t e n =
      let a = not (is_some (step pure Insertion t)) in
      let b = not (is_some (step pure Reduction t)) in
      let c = not (is_some (step pure Dropping t)) in
      let h = subst T (sym n) tt in
      let i = and_left (a && b) c h in
      full (reduced tables (λ k. Unit) pure (typing_of tables (λ k. Unit) t Γ A e (λ k i. tt))
      (inserted pure t (is_none (step pure Insertion t) (and_left a b i))) (is_none (step pure Reduction t) (and_right a b i)))
      (no_step pure Dropping t (is_none (step pure Dropping t) (and_right (a && b) c h)))
