-- One operation that may be dropped makes no acting call. Its operands are values, which make no call at all. So a call makes that one
-- call, which does not act; first and second make none. An application may be dropped only where no call of the table acts, and there no
-- trace has an acting call: nothing has to be known of what the function does, nor of its type.
use mathlib.Core.Path.{◌≡◌, refl, ◌∙◌, ap₂, subst}
use mathlib.Core.Bool.{false}
use mathlib.Core.List.{List, [], ◌∷◌, ◌++◌}
use lib.Dec.{T}
use Prim.Native.Nat.{ℕ, zero, suc}
use native.Mathlib.Omega.{arith}
use Rattle.syntax.specs.Tables.{acts, some_acts}
use Rattle.syntax.specs.Term.{Term, Terms}
use Rattle.syntax.specs.Lists.{filter}
use Rattle.syntax.proofs.CallWords.{none_acts}
use Rattle.syntax.proofs.Options.{is_false}
use Rattle.syntax.proofs.Filters.{filter-append, filter_none}
use Rattle.reduction.specs.MayDrop.{may_drop}
use Rattle.reduction.specs.NormalForm.{NormalValue, NormalValues, Operation, variable, function, product as both, left, right, no_more}
use Rattle.reduction.specs.NormalForm.{the_unit, more, application, calling, first as taking₁, second as taking₂}
use Rattle.semantics.specs.Value.{Value, Values, num, closure, tuple, left as in_left, right as in_right, trivial, empty, also, Call, Trace}
use Rattle.semantics.specs.Run.{RunOutcome, ended, stuck, spent, after, ◌>>=◌, lookup, first_half, second_half, run_all, evaluate, run, Ends}
use Rattle.semantics.specs.Claim.{acting_calls}
use Rattle.theory.proofs.Forms.{never}

module _ (calls : List ℕ) where
  -- if the run ends, it made no acting call
  data Quiet {X : Type 0} : RunOutcome X → Type 0 where
    quiet : {x : X} {c : Trace} → acting_calls calls c ≡ [] → Quiet (ended x c)
    no_end : Quiet stuck
    no_fuel : Quiet spent

  quiet_after : {X : Type 0} (c : Trace) {o : RunOutcome X} → acting_calls calls c ≡ [] → Quiet o → Quiet (after c o)
  quiet_after c e (quiet {c = d} f) = quiet (filter-append (λ (m : Call). acts calls m.number) c d ∙ ap₂ ◌++◌ e f)
  quiet_after c e no_end = no_end
  quiet_after c e no_fuel = no_fuel

  quiet_then : {X Y : Type 0} {o : RunOutcome X} (f : X → RunOutcome Y) → Quiet o → ((x : X) → Quiet (f x)) → Quiet (o >>= f)
  quiet_then f (quiet {x = x} {c = c} e) h = quiet_after c e (h x)
  quiet_then f no_end h = no_end
  quiet_then f no_fuel h = no_fuel

  -- with no acting call in the table every run is quiet
  all_quiet : some_acts calls ≡ false → {X : Type 0} (o : RunOutcome X) → Quiet o
  all_quiet e (ended x c) = quiet (filter_none (λ (m : Call). acts calls m.number) (λ m. none_acts calls e m.number) c)
  all_quiet e stuck = no_end
  all_quiet e spent = no_fuel

  answered_quiet : {X : Type 0} (x : X) → Quiet (ended x [])
  unfolding filter
  answered_quiet x = quiet refl

  lookup_quiet : (ρ : Values) (n : ℕ) → Quiet (lookup ρ n)
  unfolding lookup
  lookup_quiet empty n = no_end
  lookup_quiet (also v ρ) zero = answered_quiet v
  lookup_quiet (also v ρ) (suc n) = lookup_quiet ρ n

  first_quiet : (v : Value) → Quiet (first_half v)
  unfolding first_half
  first_quiet (num n) = no_end
  first_quiet (closure ρ b) = no_end
  first_quiet (tuple a b) = answered_quiet a
  first_quiet (in_left a) = no_end
  first_quiet (in_right a) = no_end
  first_quiet trivial = no_end

  second_quiet : (v : Value) → Quiet (second_half v)
  unfolding second_half
  second_quiet (num n) = no_end
  second_quiet (closure ρ b) = no_end
  second_quiet (tuple a b) = answered_quiet b
  second_quiet (in_left a) = no_end
  second_quiet (in_right a) = no_end
  second_quiet trivial = no_end

  -- a call that does not act
  call_quiet : (k : ℕ) (vs : Values) {X : Type 0} (x : X) → acts calls k ≡ false
      → Quiet (ended x (record { number = k; arguments = vs } ∷ []))
  unfolding filter
  call_quiet k vs x e = quiet {c = record { number = k; arguments = vs } ∷ []} (rw e)

  module _ (answer : ℕ → Values → Value) where
    value_quiet : (g : ℕ) {t : Term} → NormalValue never t → (ρ : Values) → Quiet (run answer g ρ t)
    unfolding run evaluate
    value_quiet zero v ρ = no_fuel
    value_quiet (suc g) (variable {n = n}) ρ = lookup_quiet ρ n
    value_quiet (suc g) (function {b = b} _) ρ = answered_quiet (closure ρ b)
    value_quiet (suc g) (both a b) ρ = quiet_then _ (value_quiet g a ρ) λ v.
        quiet_then _ (value_quiet g b ρ) λ w. answered_quiet (tuple v w)
    value_quiet (suc g) (left a) ρ = quiet_then _ (value_quiet g a ρ) λ v. answered_quiet (in_left v)
    value_quiet (suc g) (right a) ρ = quiet_then _ (value_quiet g a ρ) λ v. answered_quiet (in_right v)
    value_quiet (suc g) the_unit ρ = answered_quiet trivial

    values_quiet : (g : ℕ) {ts : Terms} → NormalValues never ts → (ρ : Values) → Quiet (run_all (run answer g) ρ ts)
    unfolding run_all
    values_quiet g no_more ρ = answered_quiet empty
    values_quiet g (more v vs) ρ = quiet_then _ (value_quiet g v ρ) λ x. quiet_then _ (values_quiet g vs ρ) λ xs. answered_quiet (also x xs)

    operation_quiet : (g : ℕ) {e : Term} → Operation never e → T (may_drop calls e) → (ρ : Values) → Quiet (run answer g ρ e)
    unfolding run evaluate may_drop
    operation_quiet zero o h ρ = no_fuel
    operation_quiet (suc g) (application v) h ρ = all_quiet (is_false (some_acts calls) h) _
    operation_quiet (suc g) (calling {k = k} vs) h ρ = quiet_then _ (values_quiet g vs ρ) λ xs.
        call_quiet k xs (answer k xs) (is_false (acts calls k) h)
    operation_quiet (suc g) taking₁ h ρ = quiet_then first_half (value_quiet g variable ρ) first_quiet
    operation_quiet (suc g) taking₂ h ρ = quiet_then second_half (value_quiet g variable ρ) second_quiet

    quiet_end : {X : Type 0} {x : X} {c : Trace} → Quiet (ended x c) → acting_calls calls c ≡ []
    quiet_end (quiet e) = e

    -- where the run of an operation that may be dropped ends, its trace has no acting call
    pub dropped_quiet : {e : Term} {ρ : Values} {v : Value} {c : Trace} → Operation never e → T (may_drop calls e) → Ends answer ρ e v c
        → acting_calls calls c ≡ []
    dropped_quiet {ρ = ρ} o h r = quiet_end (subst Quiet (r.ends r.fuel (omega arith)) (operation_quiet r.fuel o h ρ))
