-- What a phase's rules make of a node is related to it by the phase's family: each rule's own family is part of its phase's.
use mathlib.Core.Bool.{Bool}
use mathlib.Core.List.{List, [], ◌∷◌}
use mathlib.Core.Option.{Option, some, none}
use Rattle.syntax.specs.Term.{Term}
use Rattle.reduction.specs.Rules.{fire, rules}
use Rattle.reduction.specs.declared.Phase.{Phase}
use Rattle.reduction.specs.declared.Phase.TheVariants.{Insertion, Reduction, Dropping}
use Rattle.reduction.specs.Redex.{Contraction, contract}
use Rattle.reduction.specs.declared.Rule.{Rule}
use Rattle.reduction.specs.declared.Rule.TheVariants.{LetInsertion, LetOfLet, LetOfCase, Apply, First, Second, LeftCase, RightCase}
use Rattle.reduction.specs.declared.Rule.TheVariants.{LetValue, Drop}
use Rattle.syntax.proofs.Options.{Every, every_none, every_some, every_to}
use Rattle.reduction.proofs.Roots.{Insert, Reduce, r_let, r_case, r_apply, r_fst, r_snd, r_left, r_right, r_value, Drops, r_drop}
use Rattle.reduction.proofs.Fires.{Fires, f_insertion, f_let, f_case, f_apply, f_first, f_second, f_left, f_right, f_value, f_drop}
use Rattle.reduction.proofs.Fires.{fires}

-- the phase of a rule
abbrev pub phase_of : Rule → Phase
phase_of LetInsertion = Insertion
phase_of LetOfLet = Reduction
phase_of LetOfCase = Reduction
phase_of Apply = Reduction
phase_of First = Reduction
phase_of Second = Reduction
phase_of LeftCase = Reduction
phase_of RightCase = Reduction
phase_of LetValue = Reduction
phase_of Drop = Dropping

module _ (pure : Term → Bool) where
  -- the family of each phase
  abbrev pub Root : Phase → Term → Term → Type 0
  Root Insertion = Insert
  Root Reduction = Reduce
  Root Dropping = Drops pure

  pub to_root : {r : Rule} {t u : Term} → Fires pure r t u → Root (phase_of r) t u
  to_root (f_insertion i) = i
  to_root (f_let h) = r_let h
  to_root f_case = r_case
  to_root (f_apply h) = r_apply h
  to_root (f_first h k) = r_fst h k
  to_root (f_second h k) = r_snd h k
  to_root (f_left h) = r_left h
  to_root (f_right h) = r_right h
  to_root (f_value h) = r_value h
  to_root (f_drop h k z) = r_drop h k z

  abbrev Contracts : Phase → Term → Contraction → Type 0
  Contracts phase t c = Root phase t c.contractum

  -- each of these rules makes what the family relates
  data Sound (phase : Phase) (t : Term) : List Rule → Type 0 where
    no_rule : Sound phase t []
    rule : {r : Rule} {rs : List Rule} → Every (Root phase t) (fire pure r t) → Sound phase t rs → Sound phase t (r ∷ rs)

  sound_contracts : (phase : Phase) (t : Term) {rs : List Rule} → Sound phase t rs → Every (Contracts phase t) (contract pure rs t)
  unfolding contract
  sound_contracts phase t no_rule = every_none
  sound_contracts phase t (rule {r = r} {rs = rs} a s) = go a (sound_contracts phase t s)
    where
      go : {o : Option Term} → Every (Root phase t) o → Every (Contracts phase t) (contract pure rs t)
          → Every (Contracts phase t)
          (elim o as (λ _. Option Contraction) [ some u ↦ some (record { rule = r; contractum = u }) | none ↦ contract pure rs t ])
      go every_none b = b
      go (every_some p) b = every_some p

  rooted : (r : Rule) (t : Term) → Every (Root (phase_of r) t) (fire pure r t)
  rooted r t = every_to (λ u f. to_root f) (fires pure r t)

  sound_rules : (phase : Phase) (t : Term) → Sound phase t (rules phase)
  unfolding rules
  sound_rules Insertion t = rule (rooted LetInsertion t) no_rule
  sound_rules Reduction t = rule (rooted LetOfLet t)
      (rule (rooted LetOfCase t) (rule (rooted Apply t)
      (rule (rooted First t) (rule (rooted Second t) (rule (rooted LeftCase t) (rule (rooted RightCase t)
      (rule (rooted LetValue t) no_rule)))))))
  sound_rules Dropping t = rule (rooted Drop t) no_rule

  -- what a phase makes of a node
  pub contract_is : (phase : Phase) (t : Term) → Every (Contracts phase t) (contract pure (rules phase) t)
  contract_is phase t = sound_contracts phase t (sound_rules phase t)
