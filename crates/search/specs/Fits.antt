-- The rule of a phase that fits the node at the front.
use Rattle.std.specs.Prelude.{ℕ, ◌≡◌, cond, List, eqb}
use Rattle.std.specs.declared.option.Option as code
use Rattle.std.proofs.Math.Option.{Option, some, none, map}
use Rattle.syntax.specs.Maybe.{given, option_of}
use Rattle.syntax.specs.Term.{Term}
use Rattle.reduction.specs.MayDrop.{may_drop}
use Rattle.reduction.specs.Rules.{rules}
use Rattle.reduction.specs.declared.Phase.{Phase}
use Rattle.reduction.specs.declared.Phase.TheVariants.{Insertion, Reduction, Dropping}
use Rattle.reduction.specs.declared.Rule.{Rule}
use Rattle.reduction.specs.declared.Rule.TheVariants.{LeftCase, RightCase}
use Rattle.reduction.specs.Redex.{contract, step}
use Rattle.words.specs.Fronts.{Holds}

-- the rule of phase 2 that fits a case, by the kind of its subject
unfoldable pub case_by_kind : ℕ → Option Rule
case_by_kind k = cond (eqb k 8) (some LeftCase) (given (eqb k 9) RightCase)

-- the rule of a phase that fits a node, over a call table
unfoldable pub rule_of : List ℕ → Phase → Term → Option Rule
rule_of calls phase t = map (λ c. c.rule) (contract (may_drop calls) (rules phase) t)

-- what a scan for the redexes of a phase takes as known of a term: in phase 2, that phase 1 is over. Phase 3 is not searched by a scan.
abbrev pub Scannable : List ℕ → Phase → Term → Type 0
Scannable calls Insertion t = Unit
Scannable calls Reduction t = step (may_drop calls) Insertion t ≡ none
Scannable calls Dropping t = ⊥

-- for whatever term is at the front
pub record Fits (phase : Phase) (calls words : List ℕ) (r : code.Option Rule) : Type 0 where
  pub told : (t : Term) (rest : List ℕ) → Holds calls words t rest → Scannable calls phase t → r ≡ option_of (rule_of calls phase t)
