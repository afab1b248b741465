-- Along a run of steps what is left to do stays the same, and where the run halts nothing is left. By the same laws every bounded
-- reduction is a run of steps to where it halts.
use mathlib.Core.Path.{◌≡◌, refl, ◌∙◌, ap, subst⁻¹}
use mathlib.Core.Bool.{Bool, true, false, not}
use mathlib.Core.List.{List, [], ◌∷◌}
use mathlib.Core.Option.{Option, some, none}
use Prim.Native.Nat.{ℕ, zero, suc, ◌+◌, ◌-◌, ◌≤◌, ◌<◌}
use native.Mathlib.Omega.{arith}
use lib.Dec.{T, leb, leb→le, nleb→lt}
use lib.ListN.{length}
use Rattle.syntax.specs.Term.{Term}
use Rattle.syntax.specs.Encoding.{size}
use Rattle.reduction.specs.declared.Phase.{Phase}
use Rattle.reduction.specs.declared.Phase.TheVariants.{Insertion, Reduction, Dropping}
use Rattle.reduction.specs.declared.Settings.{Settings}
use Rattle.reduction.specs.Redex.{Step, step}
use Rattle.reduction.specs.Reduction.{Counts, raise, ceiling_met, Progress, stopped, reached, run_phase, then_phase}
use Rattle.reduction.specs.Sequence.{tally}
use Rattle.reduction.proofs.Remaining.{onwards, onwards_stopped, turn_stops, turn_spent, turn_met, turn_full, turn_goes}
use Rattle.reduction.proofs.Remaining.{insertion_ends, reduction_ends}
use Rattle.reduction.proofs.Path.{Follows, first_second, second_third, Within, all_fit, fits, Allowed, all_allowed, allows, nexts}
use Rattle.reduction.proofs.Path.{Path, here, taken, onward}

module _ (pure : Term → Bool) (capacity : ℕ) (settings : Settings) where
  -- what is left to do from t on, in a phase and the phases after it
  abbrev pub from : Phase → ℕ → Term → Counts → Progress
  from phase budget t counts = onwards pure capacity settings phase (run_phase pure capacity settings phase budget t counts)

  phase_ends : {phase next : Phase} → Follows phase next → (budget : ℕ) (t : Term) (counts : Counts)
      → onwards pure capacity settings phase (reached budget t counts) ≡ from next budget t counts
  phase_ends first_second budget t counts = insertion_ends pure capacity settings budget t counts
  phase_ends second_third budget t counts = reduction_ends pure capacity settings budget t counts

  pub path_from : {phase last : Phase} {t w : Term} {ss : List Step} → Path pure phase t ss last w → Within capacity (nexts ss)
      → (budget left : ℕ) (counts : Counts) → Allowed settings.ceilings counts ss → left + length ss ≡ budget
      → from phase budget t counts ≡ from last left w (tally ss counts)
  unfolding tally
  path_from {phase = phase} {t = t} here h budget left counts u l = ap (λ (n : ℕ). from phase n t counts) (none_taken budget left l)
    where
      none_taken : (b a : ℕ) → a + 0 ≡ b → b ≡ a
      none_taken b a h = omega (arith, h)
  path_from {phase = phase} {t = t} (taken {s = s} {ss = ss} e p) (fits h k) budget left counts (allows u v) l =
      ap (onwards pure capacity settings phase) (turn_goes pure capacity settings phase budget t counts s e (some_left (length ss) l) u h)
      ∙ path_from p k (budget - 1) left (raise s.rule counts) v (one_less (length ss) l)
    where
      some_left : (n : ℕ) → left + suc n ≡ budget → 0 < budget
      some_left n e = omega (arith, e)

      one_less : (n : ℕ) → left + suc n ≡ budget → left + n ≡ budget - 1
      one_less n e = omega (arith, e)
  path_from {phase = phase} {t = t} (onward e f p) h budget left counts u l =
      ap (onwards pure capacity settings phase) (turn_stops pure capacity settings phase budget t counts e) ∙ phase_ends f budget t counts
      ∙ path_from p h budget left counts u l

  -- where a reduction halts, at w in a phase with so much of the budget left: at a step that fits and is refused, or at the end
  pub data Halt : Phase → ℕ → Term → Counts → Progress → Type 0 where
    spent : {phase : Phase} {w : Term} {counts : Counts} {s : Step} → step pure phase w ≡ some s
        → Halt phase 0 w counts (stopped 10 counts)
    met : {phase : Phase} {left : ℕ} {w : Term} {counts : Counts} {s : Step} → step pure phase w ≡ some s
        → ceiling_met settings.ceilings s.rule counts ≡ true → Halt phase (suc left) w counts (stopped 13 counts)
    full : {phase : Phase} {left : ℕ} {w : Term} {counts : Counts} {s : Step} → step pure phase w ≡ some s
        → ceiling_met settings.ceilings s.rule counts ≡ false → capacity < size s.next
        → Halt phase (suc left) w counts (stopped 11 counts)
    over : {left : ℕ} {w : Term} {counts : Counts} → step pure Dropping w ≡ none → Halt Dropping left w counts (reached left w counts)

  pub halt_from : {phase : Phase} {left : ℕ} {w : Term} {counts : Counts} {x : Progress} → Halt phase left w counts x
      → from phase left w counts ≡ x
  halt_from {phase = phase} {w = w} {counts = counts} (spent {s = s} e) =
      ap (onwards pure capacity settings phase) (turn_spent pure capacity settings phase 0 w counts s e refl)
      ∙ onwards_stopped pure capacity settings phase 10 counts
  halt_from {phase = phase} {w = w} {counts = counts} (met {left = left} {s = s} e u) =
      ap (onwards pure capacity settings phase) (turn_met pure capacity settings phase (suc left) w counts s e (omega arith) u)
      ∙ onwards_stopped pure capacity settings phase 13 counts
  halt_from {phase = phase} {w = w} {counts = counts} (full {left = left} {s = s} e u l) =
      ap (onwards pure capacity settings phase) (turn_full pure capacity settings phase (suc left) w counts s e (omega arith) u l)
      ∙ onwards_stopped pure capacity settings phase 11 counts
  halt_from {left = left} {w = w} {counts = counts} (over e) = turn_stops pure capacity settings Dropping left w counts e

  -- what is left to do comes to: a run of steps that fit, and where it halts
  pub record Comes (phase : Phase) (budget : ℕ) (t : Term) (counts : Counts) (x : Progress) : Type 0 where
    pub last : Phase
    pub term : Term
    pub taking : List Step
    pub left : ℕ
    pub path : Path pure phase t taking last term
    pub within : Within capacity (nexts taking)
    pub allowed : Allowed settings.ceilings counts taking
    pub spending : left + length taking ≡ budget
    pub halt : Halt last left term (tally taking counts) x

  at_once : {phase : Phase} {budget : ℕ} {t : Term} {counts : Counts} {x : Progress} → Halt phase budget t counts x
      → Comes phase budget t counts x
  unfolding tally
  at_once {phase = phase} {budget = budget} {t = t} h =
      record {
        last = phase;
        term = t;
        taking = [];
        left = budget;
        path = here;
        within = all_fit;
        allowed = all_allowed;
        spending = omega arith;
        halt = h;
      }

  step_first : {phase : Phase} {budget : ℕ} {t : Term} {counts : Counts} {x : Progress} (s : Step) → step pure phase t ≡ some s
      → ceiling_met settings.ceilings s.rule counts ≡ false → size s.next ≤ capacity
      → Comes phase budget s.next (raise s.rule counts) x → Comes phase (suc budget) t counts x
  unfolding tally
  step_first {budget = budget} s e u h c = record {
    last = c.last;
    term = c.term;
    taking = s ∷ c.taking;
    left = c.left;
    path = taken e c.path;
    within = fits h c.within;
    allowed = allows u c.allowed;
    spending = more c.left (length c.taking) c.spending;
    halt = c.halt;
  }
    where
      more : (a b : ℕ) → a + b ≡ budget → a + suc b ≡ suc budget
      more a b h = omega (arith, h)

  phase_first : {phase next : Phase} {budget : ℕ} {t : Term} {counts : Counts} {x : Progress} → step pure phase t ≡ none
      → Follows phase next → Comes next budget t counts x → Comes phase budget t counts x
  phase_first e f c = record {
    last = c.last;
    term = c.term;
    taking = c.taking;
    left = c.left;
    path = onward e f c.path;
    within = c.within;
    allowed = c.allowed;
    spending = c.spending;
    halt = c.halt;
  }

  -- one phase, given what follows where no rule of it fits
  module _ (phase : Phase) (ends : (budget : ℕ) (t : Term) (counts : Counts) → step pure phase t ≡ none
      → Comes phase budget t counts (onwards pure capacity settings phase (reached budget t counts))) where
    halts : {budget : ℕ} {t : Term} {counts : Counts} {x : Progress} → Halt phase budget t counts x
        → Comes phase budget t counts (from phase budget t counts)
    halts {budget = budget} {t = t} {counts = counts} h =
        subst⁻¹ (λ (y : Progress). Comes phase budget t counts y) (halt_from h) (at_once h)

    stops : (budget : ℕ) (t : Term) (counts : Counts) → step pure phase t ≡ none → Comes phase budget t counts (from phase budget t counts)
    stops budget t counts e = subst⁻¹ (λ (y : Progress). Comes phase budget t counts y)
        (ap (onwards pure capacity settings phase) (turn_stops pure capacity settings phase budget t counts e)) (ends budget t counts e)

    phase_comes : (budget : ℕ) (t : Term) (counts : Counts) → Comes phase budget t counts (from phase budget t counts)
    unfolding tally
    phase_comes zero t counts = go (step pure phase t) refl
      where
        go : (o : Option Step) → step pure phase t ≡ o → Comes phase zero t counts (from phase zero t counts)
        go none e = stops zero t counts e
        go (some s) e = halts (spent e)
    phase_comes (suc budget) t counts = go (step pure phase t) refl (λ u c. phase_comes budget u c)
      where
        goes : (s : Step) → step pure phase t ≡ some s → ceiling_met settings.ceilings s.rule counts ≡ false
            → size s.next ≤ capacity
            → Comes phase budget s.next (raise s.rule counts) (from phase budget s.next (raise s.rule counts))
            → Comes phase (suc budget) t counts (from phase (suc budget) t counts)
        goes s e u h c = subst⁻¹ (λ (y : Progress). Comes phase (suc budget) t counts y)
            (path_from (taken e here) (fits h all_fit) (suc budget) budget counts (allows u all_allowed) (omega arith))
            (step_first s e u h c)

        go : (o : Option Step) → step pure phase t ≡ o → ((u : Term) (c : Counts) → Comes phase budget u c (from phase budget u c))
            → Comes phase (suc budget) t counts (from phase (suc budget) t counts)
        go none e r = stops (suc budget) t counts e
        go (some s) e r = meeting (ceiling_met settings.ceilings s.rule counts) refl
          where
            fitting : (b : Bool) → ceiling_met settings.ceilings s.rule counts ≡ false → (T b → size s.next ≤ capacity)
                → (T (not b) → capacity < size s.next) → Comes phase (suc budget) t counts (from phase (suc budget) t counts)
            fitting true u h k = goes s e u (h tt) (r s.next (raise s.rule counts))
            fitting false u h k = halts (full e u (k tt))

            meeting : (b : Bool) → ceiling_met settings.ceilings s.rule counts ≡ b
                → Comes phase (suc budget) t counts (from phase (suc budget) t counts)
            meeting true u = halts (met e u)
            meeting false u = fitting (leb (size s.next) capacity) u (leb→le (size s.next) capacity)
                (nleb→lt (size s.next) capacity)

  dropping_comes : (budget : ℕ) (t : Term) (counts : Counts) → Comes Dropping budget t counts (from Dropping budget t counts)
  dropping_comes = phase_comes Dropping (λ budget t counts e. at_once (over e))

  reduction_comes : (budget : ℕ) (t : Term) (counts : Counts) → Comes Reduction budget t counts (from Reduction budget t counts)
  unfolding then_phase
  reduction_comes = phase_comes Reduction (λ budget t counts e. phase_first e second_third (dropping_comes budget t counts))

  pub insertion_comes : (budget : ℕ) (t : Term) (counts : Counts) → Comes Insertion budget t counts (from Insertion budget t counts)
  unfolding then_phase
  insertion_comes = phase_comes Insertion (λ budget t counts e. phase_first e first_second (reduction_comes budget t counts))
