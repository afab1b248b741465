-- The bounded reduction is exact: what it comes to is determined by the steps alone. It comes through exactly if the whole sequence stays
-- within the budget, the ceilings and the capacity, and it is refused with 10, 13 or 11 exactly where a run of steps meets one of them.
use mathlib.Core.Path.{◌≡◌, refl, ◌∙◌, ap, subst, subst⁻¹}
use mathlib.Core.Bool.{Bool, true, false, not}
use mathlib.Core.List.{List, ◌∷◌}
use mathlib.Core.Option.{some}
use Prim.Native.Nat.{ℕ, suc, ◌+◌, ◌-◌, ◌≤◌, ◌<◌}
use native.Mathlib.Omega.{arith}
use lib.Dec.{T, leb, leb→le, nleb→lt}
use lib.ListN.{length}
use Rattle.syntax.specs.Term.{Term}
use Rattle.syntax.specs.Encoding.{size}
use Rattle.reduction.specs.declared.Phase.{Phase}
use Rattle.reduction.specs.declared.Phase.TheVariants.{Insertion}
use Rattle.reduction.specs.Redex.{Step, step}
use Rattle.reduction.specs.declared.Settings.{Settings}
use Rattle.reduction.specs.Reduction.{Counts, ceiling_met, zero_counts, Progress, stopped, reached, reduce}
use Rattle.reduction.specs.Sequence.{tally, Sequence, terms}
use Rattle.reduction.proofs.Remaining.{reduce_begins, reduce_too_long}
use Rattle.reduction.proofs.Path.{Within, fits, Allowed, nexts, Path, steps, sequence_path, sequence_end, Finished}
use Rattle.reduction.proofs.Path.{inserted, path_finished, path_fits}
use Rattle.reduction.proofs.RunsHalt.{from, path_from, Halt, spent, met, full, over, halt_from, insertion_comes}

module _ (pure : Term → Bool) (capacity : ℕ) where
  -- where a reduction is refused: a step fits and the budget is used up; it is not, and the step's rule has been used as often as its
  -- ceiling says; it has not, and the next term is too long; or the first term is too long. The counts are those of the steps taken.
  pub data Refused (settings : Settings) (t : Term) : ℕ → Counts → Type 0 where
    budget_spent : {phase : Phase} {w : Term} {ss : List Step} {s : Step} {counts : Counts} → Path pure Insertion t ss phase w
        → Within capacity (t ∷ nexts ss) → Allowed settings.ceilings zero_counts ss → step pure phase w ≡ some s
        → length ss ≡ settings.budget → tally ss zero_counts ≡ counts → Refused settings t 10 counts
    ceiling_met_lem : {phase : Phase} {w : Term} {ss : List Step} {s : Step} {counts : Counts} → Path pure Insertion t ss phase w
        → Within capacity (t ∷ nexts ss) → Allowed settings.ceilings zero_counts ss → step pure phase w ≡ some s
        → length ss < settings.budget → ceiling_met settings.ceilings s.rule counts ≡ true
        → tally ss zero_counts ≡ counts → Refused settings t 13 counts
    next_too_long : {phase : Phase} {w : Term} {ss : List Step} {s : Step} {counts : Counts} → Path pure Insertion t ss phase w
        → Within capacity (t ∷ nexts ss) → Allowed settings.ceilings zero_counts ss → step pure phase w ≡ some s
        → length ss < settings.budget → ceiling_met settings.ceilings s.rule counts ≡ false → capacity < size s.next
        → tally ss zero_counts ≡ counts → Refused settings t 11 counts
    first_too_long : capacity < size t → Refused settings t 11 zero_counts

  -- what a reduction comes to
  pub data Exact (settings : Settings) (t : Term) : Progress → Type 0 where
    refused : {n : ℕ} {counts : Counts} → Refused settings t n counts → Exact settings t (stopped n counts)
    normal : {u : Term} {left : ℕ} {counts : Counts} (q : Sequence pure t u) → Within capacity (terms pure q)
        → Allowed settings.ceilings zero_counts (steps pure q) → left + length (steps pure q) ≡ settings.budget
        → tally (steps pure q) zero_counts ≡ counts → Exact settings t (reached left u counts)

  module _ (settings : Settings) where
    abbrev rest : Phase → ℕ → Term → Counts → Progress
    rest = from pure capacity settings

    -- the whole, along a run of steps from the first term
    reduce_from : {phase : Phase} {t w : Term} {ss : List Step} {counts : Counts} → Path pure Insertion t ss phase w
        → Within capacity (t ∷ nexts ss) → Allowed settings.ceilings zero_counts ss → tally ss zero_counts ≡ counts
        → (left : ℕ) → left + length ss ≡ settings.budget → reduce pure capacity settings t ≡ rest phase left w counts
    reduce_from {phase = phase} {t = t} {w = w} p (fits h k) a d left l = reduce_begins pure capacity settings t h
        ∙ path_from pure capacity settings p k settings.budget left zero_counts a l ∙ ap (rest phase left w) d

    -- what the steps determine is what the reduction comes to
    pub exact_reduce : (t : Term) {x : Progress} → Exact settings t x → reduce pure capacity settings t ≡ x
    exact_reduce t (refused (budget_spent p h a e l d)) =
        reduce_from p h a d 0 (omega (arith, l)) ∙ halt_from pure capacity settings (spent e)
    exact_reduce t (refused (ceiling_met_lem {ss = ss} p h a e l u d)) =
        reduce_from p h a d (suc (settings.budget - suc (length ss))) (omega (arith, l))
        ∙ halt_from pure capacity settings (met e u)
    exact_reduce t (refused (next_too_long {ss = ss} p h a e l u k d)) =
        reduce_from p h a d (suc (settings.budget - suc (length ss))) (omega (arith, l))
        ∙ halt_from pure capacity settings (full e u k)
    exact_reduce t (refused (first_too_long l)) = reduce_too_long pure capacity settings t l
    exact_reduce t (normal {left = left} q h a l d) =
        reduce_from (sequence_path pure q) h a d left l ∙ halt_from pure capacity settings (over (sequence_end pure q))

    finish : {t u : Term} {ss : List Step} {left : ℕ} {counts : Counts} → Finished pure Insertion t ss u
        → Within capacity (t ∷ nexts ss) → Allowed settings.ceilings zero_counts ss → left + length ss ≡ settings.budget
        → tally ss zero_counts ≡ counts → Exact settings t (reached left u counts)
    finish {t = t} {left = left} (inserted q e) h a l d = normal q (subst⁻¹ (λ (rs : List Step). Within capacity (t ∷ nexts rs)) e h)
        (subst⁻¹ (λ (rs : List Step). Allowed settings.ceilings zero_counts rs) e a)
        (ap (λ (rs : List Step). left + length rs) e ∙ l) (ap (λ (rs : List Step). tally rs zero_counts) e ∙ d)

    halt_exact : {last : Phase} {t w : Term} {ss : List Step} {left : ℕ} {counts : Counts} {x : Progress}
        → Path pure Insertion t ss last w → Within capacity (t ∷ nexts ss) → Allowed settings.ceilings zero_counts ss
        → left + length ss ≡ settings.budget → tally ss zero_counts ≡ counts
        → Halt pure capacity settings last left w counts x → Exact settings t x
    halt_exact p h a l d (spent e) = refused (budget_spent p h a e (omega (arith, l)) d)
    halt_exact p h a l d (met e u) = refused (ceiling_met_lem p h a e (omega (arith, l)) u d)
    halt_exact p h a l d (full e u k) = refused (next_too_long p h a e (omega (arith, l)) u k d)
    halt_exact p h a l d (over e) = finish (path_finished pure p e) h a l d

    -- and what the reduction comes to is what the steps determine
    pub reduce_exact : (t : Term) → Exact settings t (reduce pure capacity settings t)
    reduce_exact t = go (leb (size t) capacity) (leb→le (size t) capacity) (nleb→lt (size t) capacity)
      where
        begun : size t ≤ capacity → Exact settings t (rest Insertion settings.budget t zero_counts)
        begun h =
            let c = insertion_comes pure capacity settings settings.budget t zero_counts in
            halt_exact c.path (fits h c.within) c.allowed c.spending refl c.halt

        go : (b : Bool) → (T b → size t ≤ capacity) → (T (not b) → capacity < size t) → Exact settings t (reduce pure capacity settings t)
        go true h k = subst⁻¹ (λ (x : Progress). Exact settings t x) (reduce_begins pure capacity settings t (h tt)) (begun (h tt))
        go false h k = subst⁻¹ (λ (x : Progress). Exact settings t x) (reduce_too_long pure capacity settings t (k tt))
            (refused (first_too_long (k tt)))

  -- what is reached fits the capacity
  pub reached_fits : {settings : Settings} {t u : Term} {left : ℕ} {counts : Counts} → Exact settings t (reached left u counts)
      → size u ≤ capacity
  reached_fits (normal q h a l d) = path_fits pure (sequence_path pure q) h

  -- a refusal is by 10, 11 or 13
  pub refusal_number_lem : {settings : Settings} {t : Term} {n : ℕ} {counts : Counts} → Exact settings t (stopped n counts)
      → (10 ≤ n) × (n ≤ 13)
  refusal_number_lem (refused (budget_spent p h a e l d)) = (omega arith, omega arith)
  refusal_number_lem (refused (ceiling_met_lem p h a e l u d)) = (omega arith, omega arith)
  refusal_number_lem (refused (next_too_long p h a e l u k d)) = (omega arith, omega arith)
  refusal_number_lem (refused (first_too_long l)) = (omega arith, omega arith)

  -- "Budget spent", "ceiling met" and "no room" fall exactly where the steps meet them (demand 2).
  pub reduce_refused : (settings : Settings) (t : Term) (n : ℕ) (counts : Counts) → reduce pure capacity settings t ≡ stopped n counts
      → Refused settings t n counts
  reduce_refused settings t n counts e = refusal (subst (λ (x : Progress). Exact settings t x) e (reduce_exact settings t))
    where
      refusal : Exact settings t (stopped n counts) → Refused settings t n counts
      refusal (refused r) = r

  pub refused_reduce : (settings : Settings) (t : Term) (n : ℕ) (counts : Counts) → Refused settings t n counts
      → reduce pure capacity settings t ≡ stopped n counts
  refused_reduce settings t n counts r = exact_reduce settings t (refused r)
