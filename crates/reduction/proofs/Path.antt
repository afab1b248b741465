-- Runs of steps through the phases in their order, not always to the end: where a bounded reduction can stand when it is refused.
-- A reduction sequence is such a run that ends in the third phase at a term that no rule of it fits.
use mathlib.Core.Path.{◌≡◌, refl, ap}
use mathlib.Core.Bool.{Bool, false}
use mathlib.Core.List.{List, [], ◌∷◌, ◌++◌, map}
use mathlib.Core.Option.{some, none}
use Prim.Native.Nat.{ℕ, ◌≤◌}
use Rattle.syntax.specs.Term.{Term}
use Rattle.syntax.specs.Encoding.{size}
use Rattle.reduction.specs.declared.Phase.{Phase}
use Rattle.reduction.specs.declared.Phase.TheVariants.{Insertion, Reduction, Dropping}
use Rattle.reduction.specs.Redex.{Step, step}
use Rattle.reduction.specs.Reduction.{Counts, raise, ceiling_met}
use Rattle.reduction.specs.Sequence.{Steps, ended, stepped, Sequence}

-- the order of the phases
pub data Follows : Phase → Phase → Type 0 where
  first_second : Follows Insertion Reduction
  second_third : Follows Reduction Dropping

-- terms that fit the capacity
pub data Within (capacity : ℕ) : List Term → Type 0 where
  all_fit : Within capacity []
  fits : {t : Term} {ts : List Term} → size t ≤ capacity → Within capacity ts → Within capacity (t ∷ ts)

-- steps that the ceilings allow, from counts on: before each, the ceiling of its rule is not met
pub data Allowed (ceilings : List ℕ) : Counts → List Step → Type 0 where
  all_allowed : {counts : Counts} → Allowed ceilings counts []
  allows : {counts : Counts} {s : Step} {ss : List Step} → ceiling_met ceilings s.rule counts ≡ false
      → Allowed ceilings (raise s.rule counts) ss → Allowed ceilings counts (s ∷ ss)

-- the terms that steps lead to
abbrev pub nexts : List Step → List Term
nexts ss = map (λ s. s.next) ss

module _ (pure : Term → Bool) where
  -- steps from t in a phase to w in a phase, that one or a later one; a phase is left where no rule of it fits
  pub data Path : Phase → Term → List Step → Phase → Term → Type 0 where
    here : {phase : Phase} {t : Term} → Path phase t [] phase t
    taken : {phase last : Phase} {t w : Term} {s : Step} {ss : List Step} → step pure phase t ≡ some s → Path phase s.next ss last w
        → Path phase t (s ∷ ss) last w
    onward : {phase next last : Phase} {t w : Term} {ss : List Step} → step pure phase t ≡ none → Follows phase next
        → Path next t ss last w → Path phase t ss last w

  -- all steps of a reduction sequence
  abbrev pub steps : {t u : Term} → Sequence pure t u → List Step
  steps q = q.insertion ++ (q.reduction ++ q.dropping)

  steps_onward : {phase next last : Phase} {t u w : Term} {ss rs : List Step} → Follows phase next → Steps pure phase t ss u
      → Path next u rs last w → Path phase t (ss ++ rs) last w
  steps_onward f (ended e) p = onward e f p
  steps_onward f (stepped e q) p = taken e (steps_onward f q p)

  steps_path : {phase : Phase} {t u : Term} {ss : List Step} → Steps pure phase t ss u → Path phase t ss phase u
  steps_path (ended e) = here
  steps_path (stepped e q) = taken e (steps_path q)

  steps_end : {phase : Phase} {t u : Term} {ss : List Step} → Steps pure phase t ss u → step pure phase u ≡ none
  steps_end (ended e) = e
  steps_end (stepped e q) = steps_end q

  pub sequence_path : {t u : Term} (q : Sequence pure t u) → Path Insertion t (steps q) Dropping u
  sequence_path q = steps_onward first_second q.phase₁ (steps_onward second_third q.phase₂ (steps_path q.phase₃))

  pub sequence_end : {t u : Term} → Sequence pure t u → step pure Dropping u ≡ none
  sequence_end q = steps_end q.phase₃

  -- what a run that ends so has gone through, by the phase that it starts in
  pub data Finished : Phase → Term → List Step → Term → Type 0 where
    dropped : {t u : Term} {ss : List Step} → Steps pure Dropping t ss u → Finished Dropping t ss u
    reduced : {t v u : Term} {rs ds ss : List Step} → Steps pure Reduction t rs v → Steps pure Dropping v ds u → rs ++ ds ≡ ss
        → Finished Reduction t ss u
    inserted : {t u : Term} {ss : List Step} (q : Sequence pure t u) → steps q ≡ ss → Finished Insertion t ss u

  one_more : {phase : Phase} {t u : Term} {s : Step} {ss : List Step} → step pure phase t ≡ some s → Finished phase s.next ss u
      → Finished phase t (s ∷ ss) u
  one_more e (dropped q) = dropped (stepped e q)
  one_more {s = s} e (reduced p q a) = reduced (stepped e p) q (ap (λ (rs : List Step). s ∷ rs) a)
  one_more {s = s} e (inserted q a) = inserted
      (record {
        inserted = q.inserted;
        reduced = q.reduced;
        insertion = s ∷ q.insertion;
        reduction = q.reduction;
        dropping = q.dropping;
        phase₁ = stepped e q.phase₁;
        phase₂ = q.phase₂;
        phase₃ = q.phase₃;
      })
      (ap (λ (rs : List Step). s ∷ rs) a)

  next_phase : {phase next : Phase} {t u : Term} {ss : List Step} → step pure phase t ≡ none → Follows phase next → Finished next t ss u
      → Finished phase t ss u
  next_phase e second_third (dropped q) = reduced (ended e) q refl
  next_phase {t = t} e first_second (reduced {v = v} {rs = rs} {ds = ds} p q a) = inserted
      (record {
        inserted = t;
        reduced = v;
        insertion = [];
        reduction = rs;
        dropping = ds;
        phase₁ = ended e;
        phase₂ = p;
        phase₃ = q;
      })
      a

  pub path_finished : {phase : Phase} {t u : Term} {ss : List Step} → Path phase t ss Dropping u → step pure Dropping u ≡ none
      → Finished phase t ss u
  path_finished here e = dropped (ended e)
  path_finished (taken d p) e = one_more d (path_finished p e)
  path_finished (onward d f p) e = next_phase d f (path_finished p e)

  -- where a run through terms that fit has come, the term fits
  pub path_fits : {capacity : ℕ} {phase last : Phase} {t w : Term} {ss : List Step} → Path phase t ss last w
      → Within capacity (t ∷ nexts ss) → size w ≤ capacity
  path_fits here (fits h k) = h
  path_fits (taken e p) (fits h k) = path_fits p k
  path_fits (onward e f p) k = path_fits p k
