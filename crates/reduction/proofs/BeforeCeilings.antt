-- The bounded reduction as it was before there were ceilings. Where no ceiling is below the budget, the reduction is that one.
use mathlib.Core.Path.{◌≡◌, refl, ap, subst, subst⁻¹}
use mathlib.Core.Bool.{Bool, true, false}
use mathlib.Core.Option.{Option, some, none}
use Prim.Native.Nat.{ℕ, zero, suc, ◌+◌, ◌≤◌}
use native.Mathlib.Omega.{arith}
use lib.Dec.{leb}
use lib.ListN.{get_or-replicate}
use Rattle.syntax.specs.Term.{Term}
use Rattle.syntax.specs.Encoding.{size}
use Rattle.reduction.specs.declared.Phase.{Phase}
use Rattle.reduction.specs.declared.Phase.TheVariants.{Insertion, Reduction, Dropping}
use Rattle.reduction.specs.declared.Rule.{Rule}
use Rattle.reduction.specs.declared.Settings.{Settings}
use Rattle.reduction.specs.Redex.{Step, step}
use Rattle.reduction.specs.Reduction.{Counts, index, of_rule, raise, zero_counts, no_ceilings, Progress, stopped, reached}
use Rattle.reduction.specs.Reduction.{run_phase, then_phase, reduce}
use Rattle.reduction.proofs.Remaining.{with_none, fitting, meeting, with_some}
use Rattle.reduction.proofs.CountOfRule.{index_below}
use Rattle.reduction.proofs.CountsBounded.{raised, zeros}
use Rattle.reduction.proofs.Ceilings.{below_unmet}
use Rattle.reduction.proofs.RaisedSettings.{never_met}

-- where there are no ceilings, none is below a 32-bit budget
none_below : (budget : ℕ) → budget ≤ 4294967295 → (r : Rule) → budget ≤ of_rule r (no_ceilings budget).ceilings
none_below budget h r = omega (arith, h, get_or-replicate {A = ℕ} 10 (index r) 4294967295 0 (index_below r))

module _ (pure : Term → Bool) (capacity : ℕ) where
  unfoldable pub former_phase : Phase → ℕ → Term → Counts → Progress
  former_phase phase zero t counts = elim (step pure phase t) [
    | none ↦ reached zero t counts
    | some s ↦ stopped 10 counts
  ]
  former_phase phase (suc budget) t counts = elim (step pure phase t) [
    | none ↦ reached (suc budget) t counts
    | some s ↦ elim (leb (size s.next) capacity) [
      | false ↦ stopped 11 counts
      | true ↦ former_phase phase budget s.next (raise s.rule counts)
    ]
  ]

  unfoldable pub former_then : Phase → Progress → Progress
  former_then phase (stopped n counts) = stopped n counts
  former_then phase (reached budget t counts) = former_phase phase budget t counts

  unfoldable pub former_reduce : ℕ → Term → Progress
  former_reduce budget t = elim (leb (size t) capacity) [
    | false ↦ stopped 11 zero_counts
    | true ↦ former_then Dropping (former_then Reduction (former_phase Insertion budget t zero_counts))
  ]

  module _ (settings : Settings) where
    -- no ceiling is met within so many steps more
    abbrev Room : ℕ → Counts → Type 0
    Room left counts = (r : Rule) → of_rule r counts + left ≤ of_rule r settings.ceilings

    abbrev RoomAt : Progress → Type 0
    RoomAt (stopped n counts) = Unit
    RoomAt (reached left t counts) = Room left counts

    -- the same as before, and still no ceiling is met
    record Same (x y : Progress) : Type 0 where
      same : x ≡ y
      room : RoomAt x

    abbrev former_fitting : Phase → ℕ → Counts → Step → Bool → Progress
    former_fitting phase left counts s b = elim b [
      | false ↦ stopped 11 counts
      | true ↦ former_phase phase left s.next (raise s.rule counts)
    ]

    abbrev former_some : Phase → ℕ → Term → Counts → Option Step → Progress
    former_some phase left t counts o = elim o [
      | none ↦ reached (suc left) t counts
      | some s ↦ former_fitting phase left counts s (leb (size s.next) capacity)
    ]

    none_same : (t : Term) (counts : Counts) → Room 0 counts → (o : Option Step)
        → Same (with_none pure capacity settings t counts o) (with_none pure capacity settings t counts o)
    none_same t counts h none = record { same = refl; room = h }
    none_same t counts h (some s) = record { same = refl; room = tt }

    module _ (phase : Phase) (left : ℕ)
        (before : (t : Term) (counts : Counts) → Room left counts
        → Same (run_phase pure capacity settings phase left t counts) (former_phase phase left t counts)) where
      fitting_same : (counts : Counts) → Room (suc left) counts → (s : Step) (b : Bool)
          → Same (fitting pure capacity settings phase left counts s b) (former_fitting phase left counts s b)
      fitting_same counts h s false = record { same = refl; room = tt }
      fitting_same counts h s true = before s.next (raise s.rule counts)
          (λ r. omega (arith, raised counts (index s.rule) (index r), h r))

      some_same : (t : Term) (counts : Counts) → Room (suc left) counts → (o : Option Step)
          → Same (with_some pure capacity settings phase left t counts o) (former_some phase left t counts o)
      some_same t counts h none = record { same = refl; room = h }
      some_same t counts h (some s) =
          subst⁻¹ (λ (b : Bool). Same (meeting pure capacity settings phase left counts s b)
          (former_fitting phase left counts s (leb (size s.next) capacity)))
          (below_unmet settings.ceilings s.rule counts (omega (arith, h s.rule)))
          (fitting_same counts h s (leb (size s.next) capacity))

    phase_same : (phase : Phase) (left : ℕ) (t : Term) (counts : Counts) → Room left counts
        → Same (run_phase pure capacity settings phase left t counts) (former_phase phase left t counts)
    unfolding run_phase former_phase
    phase_same phase zero t counts h = none_same t counts h (step pure phase t)
    phase_same phase (suc left) t counts h = some_same phase left (phase_same phase left) t counts h (step pure phase t)

    after_same : (phase : Phase) (x : Progress) → RoomAt x → Same (then_phase pure capacity settings phase x) (former_then phase x)
    unfolding then_phase former_then
    after_same phase (stopped n counts) h = record { same = refl; room = tt }
    after_same phase (reached left t counts) h = phase_same phase left t counts h

    then_same : (phase : Phase) {x y : Progress} → Same x y → Same (then_phase pure capacity settings phase x) (former_then phase y)
    then_same phase {x = x} h = subst (λ (y : Progress). Same (then_phase pure capacity settings phase x) (former_then phase y)) h.same
        (after_same phase x h.room)

  -- where no ceiling is below the budget, the reduction is the former one
  pub reduce_as_before : (settings : Settings) → ((r : Rule) → settings.budget ≤ of_rule r settings.ceilings) → (t : Term)
      → reduce pure capacity settings t ≡ former_reduce settings.budget t
  unfolding reduce former_reduce
  reduce_as_before settings h t =
      let first = phase_same settings Insertion settings.budget t zero_counts (λ r. omega (arith, h r, zeros 10 (index r))) in
      ap {B = Progress} (λ x. elim (leb (size t) capacity) [ false ↦ stopped 11 zero_counts | true ↦ x ])
      (then_same settings Dropping (then_same settings Reduction first)).same

  -- with no ceilings and a 32-bit budget
  pub no_ceilings_as_before : (budget : ℕ) → budget ≤ 4294967295 → (t : Term)
      → reduce pure capacity (no_ceilings budget) t ≡ former_reduce budget t
  no_ceilings_as_before budget h t = reduce_as_before (no_ceilings budget) (none_below budget h) t

  pub no_ceilings_no_13 : (budget : ℕ) → budget ≤ 4294967295 → (t : Term) (counts : Counts)
      → reduce pure capacity (no_ceilings budget) t ≡ stopped 13 counts → ⊥
  no_ceilings_no_13 budget h t counts e = never_met pure capacity (no_ceilings budget) (none_below budget h) t counts e
