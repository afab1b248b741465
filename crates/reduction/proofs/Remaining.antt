-- The bounded reduction one turn at a time: what is left to do, in this phase and the phases after it, makes up the whole.
use Prim.Native.Nat.{ℕ, zero, suc, ◌-◌, ◌≤◌, ◌<◌}
use native.Mathlib.Omega.{arith}
use mathlib.Core.Path.{◌≡◌, refl, ◌∙◌, ap}
use mathlib.Core.Bool.{Bool, true, false}
use mathlib.Core.Option.{Option, some, none}
use lib.Dec.{leb}
use borrow.Author.Tests.{le-leb, lt-leb}
use Rattle.syntax.specs.Term.{Term}
use Rattle.syntax.specs.Encoding.{size}
use Rattle.reduction.specs.declared.Phase.{Phase}
use Rattle.reduction.specs.declared.Phase.TheVariants.{Insertion, Reduction, Dropping}
use Rattle.reduction.specs.Redex.{Step, step}
use Rattle.reduction.specs.declared.Settings.{Settings}
use Rattle.reduction.specs.Reduction.{Counts, raise, ceiling_met, zero_counts, Progress, stopped, reached, run_phase, then_phase}
use Rattle.reduction.specs.Reduction.{reduce}

module _ (pure : Term → Bool) (capacity : ℕ) (settings : Settings) where
  -- the phases after a phase
  abbrev pub onwards : Phase → Progress → Progress
  onwards Insertion p = then_phase pure capacity settings Dropping (then_phase pure capacity settings Reduction p)
  onwards Reduction p = then_phase pure capacity settings Dropping p
  onwards Dropping p = p

  pub onwards_stopped : (phase : Phase) (n : ℕ) (counts : Counts) → onwards phase (stopped n counts) ≡ stopped n counts
  unfolding then_phase
  onwards_stopped Insertion n counts = refl
  onwards_stopped Reduction n counts = refl
  onwards_stopped Dropping n counts = refl

  -- what a turn makes of the step that is found: with no budget left; else by whether the ceiling of its rule is met, and whether the next
  -- term fits
  abbrev pub with_none : Term → Counts → Option Step → Progress
  with_none t counts o = elim o [ none ↦ reached zero t counts | some s ↦ stopped 10 counts ]

  abbrev pub fitting : Phase → ℕ → Counts → Step → Bool → Progress
  fitting phase left counts s b = elim b [
    | false ↦ stopped 11 counts
    | true ↦ run_phase pure capacity settings phase left s.next (raise s.rule counts)
  ]

  abbrev pub meeting : Phase → ℕ → Counts → Step → Bool → Progress
  meeting phase left counts s b = elim b [
    | true ↦ stopped 13 counts
    | false ↦ fitting phase left counts s (leb (size s.next) capacity)
  ]

  abbrev pub with_some : Phase → ℕ → Term → Counts → Option Step → Progress
  with_some phase left t counts o = elim o [
    | none ↦ reached (suc left) t counts
    | some s ↦ meeting phase left counts s (ceiling_met settings.ceilings s.rule counts)
  ]

  -- one turn of a phase: it ends, it is refused, or it takes a step
  pub turn_stops : (phase : Phase) (left : ℕ) (t : Term) (counts : Counts) → step pure phase t ≡ none
      → run_phase pure capacity settings phase left t counts ≡ reached left t counts
  unfolding run_phase
  turn_stops phase zero t counts e = ap (with_none t counts) e
  turn_stops phase (suc left) t counts e = ap (with_some phase left t counts) e

  pub turn_spent : (phase : Phase) (left : ℕ) (t : Term) (counts : Counts) (s : Step) → step pure phase t ≡ some s → left ≡ 0
      → run_phase pure capacity settings phase left t counts ≡ stopped 10 counts
  unfolding run_phase
  turn_spent phase zero t counts s e z = ap (with_none t counts) e
  turn_spent phase (suc left) t counts s e z = absurd (omega (arith, z))

  pub turn_met : (phase : Phase) (left : ℕ) (t : Term) (counts : Counts) (s : Step) → step pure phase t ≡ some s → 0 < left
      → ceiling_met settings.ceilings s.rule counts ≡ true → run_phase pure capacity settings phase left t counts ≡ stopped 13 counts
  unfolding run_phase
  turn_met phase zero t counts s e h u = absurd (omega (arith, h))
  turn_met phase (suc left) t counts s e h u = ap (with_some phase left t counts) e
      ∙ ap (meeting phase left counts s) u

  -- a step that the budget and its ceiling allow
  allowed_turn : (phase : Phase) (left : ℕ) (t : Term) (counts : Counts) (s : Step) → step pure phase t ≡ some s
      → ceiling_met settings.ceilings s.rule counts ≡ false
      → run_phase pure capacity settings phase (suc left) t counts ≡ fitting phase left counts s (leb (size s.next) capacity)
  unfolding run_phase
  allowed_turn phase left t counts s e u = ap (with_some phase left t counts) e
      ∙ ap (meeting phase left counts s) u

  pub turn_full : (phase : Phase) (left : ℕ) (t : Term) (counts : Counts) (s : Step) → step pure phase t ≡ some s → 0 < left
      → ceiling_met settings.ceilings s.rule counts ≡ false → capacity < size s.next
      → run_phase pure capacity settings phase left t counts ≡ stopped 11 counts
  turn_full phase zero t counts s e h u l = absurd (omega (arith, h))
  turn_full phase (suc left) t counts s e h u l = allowed_turn phase left t counts s e u
      ∙ ap (fitting phase left counts s) (lt-leb (size s.next) capacity l)

  pub turn_goes : (phase : Phase) (left : ℕ) (t : Term) (counts : Counts) (s : Step) → step pure phase t ≡ some s → 0 < left
      → ceiling_met settings.ceilings s.rule counts ≡ false → size s.next ≤ capacity
      → run_phase pure capacity settings phase left t counts
      ≡ run_phase pure capacity settings phase (left - 1) s.next (raise s.rule counts)
  turn_goes phase zero t counts s e h u l = absurd (omega (arith, h))
  turn_goes phase (suc left) t counts s e h u l =
      let less : left ≡ suc left - 1 = omega arith in
      allowed_turn phase left t counts s e u ∙ ap (fitting phase left counts s) (le-leb (size s.next) capacity l)
      ∙ ap (λ (n : ℕ). run_phase pure capacity settings phase n s.next (raise s.rule counts)) less

  -- a phase that has ended is followed by the next
  pub insertion_ends : (left : ℕ) (t : Term) (counts : Counts)
      → onwards Insertion (reached left t counts) ≡ onwards Reduction (run_phase pure capacity settings Reduction left t counts)
  unfolding then_phase
  insertion_ends left t counts = refl

  pub reduction_ends : (left : ℕ) (t : Term) (counts : Counts)
      → onwards Reduction (reached left t counts) ≡ onwards Dropping (run_phase pure capacity settings Dropping left t counts)
  unfolding then_phase
  reduction_ends left t counts = refl

  -- the whole, before the first turn
  abbrev started : Term → Bool → Progress
  started t b = elim b [
    | false ↦ stopped 11 zero_counts
    | true ↦ onwards Insertion (run_phase pure capacity settings Insertion settings.budget t zero_counts)
  ]

  pub reduce_begins : (t : Term) → size t ≤ capacity
      → reduce pure capacity settings t ≡ onwards Insertion (run_phase pure capacity settings Insertion settings.budget t zero_counts)
  unfolding reduce
  reduce_begins t h = ap (started t) (le-leb (size t) capacity h)

  pub reduce_too_long : (t : Term) → capacity < size t → reduce pure capacity settings t ≡ stopped 11 zero_counts
  unfolding reduce
  reduce_too_long t h = ap (started t) (lt-leb (size t) capacity h)
