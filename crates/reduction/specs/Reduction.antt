-- Reduction under settings and a capacity: a step budget and a ceiling for each rule, with refusals 10, 13 and 11 and the ten counts.
use Rattle.std.specs.Prelude.{ℕ, zero, suc, ◌+◌, Bool, true, false, List, leb, get_or, set, replicate}
use Rattle.std.proofs.Math.Option.{some, none}
use Rattle.syntax.specs.Term.{Term}
use Rattle.syntax.specs.Encoding.{size}
use Rattle.reduction.specs.declared.Phase.{Phase}
use Rattle.reduction.specs.declared.Phase.TheVariants.{Insertion, Reduction, Dropping}
use Rattle.reduction.specs.declared.Settings.{Settings}
use Rattle.reduction.specs.Redex.{step}
use Rattle.reduction.specs.declared.Rule.{Rule}
use Rattle.reduction.specs.declared.Rule.TheVariants.{LetInsertion, LetOfLet, LetOfCase, Apply, First, Second, LeftCase, RightCase}
use Rattle.reduction.specs.declared.Rule.TheVariants.{LetValue, Drop}

-- the place of a rule's count, and of its ceiling
abbrev pub index : Rule → ℕ
index LetInsertion = 0
index LetOfLet = 1
index LetOfCase = 2
index Apply = 3
index First = 4
index Second = 5
index LeftCase = 6
index RightCase = 7
index LetValue = 8
index Drop = 9

-- ten counts, one for each rule
abbrev pub Counts : Type 0
Counts = List ℕ

abbrev pub zero_counts : Counts
zero_counts = replicate 10 0

-- a rule's own number, of ten counts or of ten ceilings
abbrev pub of_rule : Rule → List ℕ → ℕ
of_rule r ns = get_or ns (index r) 0

abbrev pub raise : Rule → Counts → Counts
raise r counts = set counts (index r) (of_rule r counts + 1)

-- whether a rule has been used as often as its ceiling says
abbrev pub ceiling_met : List ℕ → Rule → Counts → Bool
ceiling_met ceilings r counts = leb (of_rule r ceilings) (of_rule r counts)

-- settings without ceilings: the largest number of 32 bits for each rule, which no 32-bit budget lets a rule go beyond
abbrev pub no_ceilings : ℕ → Settings
no_ceilings budget = record { budget = budget; ceilings = replicate 10 4294967295 }

-- how far a reduction has come: stopped by a refusal, or at a term with so much of the budget left
pub data Progress : Type 0 where
  stopped : ℕ → Counts → Progress
  reached : ℕ → Term → Counts → Progress

module _ (pure : Term → Bool) (capacity : ℕ) (settings : Settings) where
  -- one phase: steps until no rule of it fits. A step that fits is refused with 10 if nothing is left of the budget, else with 13 if the
  -- ceiling of its rule is met, else with 11 if the next term is longer than the capacity.
  unfoldable pub run_phase : Phase → ℕ → Term → Counts → Progress
  run_phase phase zero t counts = elim (step pure phase t) [
    | none ↦ reached zero t counts
    | some s ↦ stopped 10 counts
  ]
  run_phase phase (suc left) t counts = elim (step pure phase t) [
    | none ↦ reached (suc left) t counts
    | some s ↦ elim (ceiling_met settings.ceilings s.rule counts) [
      | true ↦ stopped 13 counts
      | false ↦ elim (leb (size s.next) capacity) [
        | false ↦ stopped 11 counts
        | true ↦ run_phase phase left s.next (raise s.rule counts)
      ]
    ]
  ]

  -- the next phase, where the one before has ended
  unfoldable pub then_phase : Phase → Progress → Progress
  then_phase phase (stopped n counts) = stopped n counts
  then_phase phase (reached left t counts) = run_phase phase left t counts

  -- the reduction of a term (paper 01: the walk): refused with 11 at once if the term itself is too long, else the three phases in turn
  unfoldable pub reduce : Term → Progress
  reduce t = elim (leb (size t) capacity) [
    | false ↦ stopped 11 zero_counts
    | true ↦ then_phase Dropping (then_phase Reduction (run_phase Insertion settings.budget t zero_counts))
  ]
