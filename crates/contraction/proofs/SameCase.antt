-- What holds of a rule or a plan holds of the one that a match names, which is the same.
use Prim.Native.Nat.{ℕ}
use mathlib.Core.Path.{◌≡◌, sym, subst}
use mathlib.Core.List.{List}
use Rattle.reduction.specs.declared.Rule.{Rule}
use Rattle.contraction.specs.declared.plan.Action.{Action}
use Rattle.contraction.specs.declared.plan.Plan.{Plan}
use Rattle.contraction.specs.Plans.{StartsRedex, Acts}
use Rattle.contraction.specs.Writers.{SizedPlanRoom, WritesPlan}

module _ {calls words : List ℕ} where
  pub redex_as : {r r' : Rule} → r ≡ r' → StartsRedex r calls words → StartsRedex r' calls words
  redex_as e s = subst (λ (q : Rule). StartsRedex q calls words) e s

  pub acts_as : {r r' : Rule} {c : Action} → r ≡ r' → Acts r' calls words c → Acts r calls words c
  acts_as {c = c} e f = subst (λ (q : Rule). Acts q calls words c) (sym e) f

  pub plan_room_as : {p p' : Plan} {len wrote : ℕ} → p ≡ p' → SizedPlanRoom calls words p len wrote → SizedPlanRoom calls words p' len wrote
  plan_room_as {len = len} {wrote = wrote} e r = subst (λ (q : Plan). SizedPlanRoom calls words q len wrote) e r

  pub writes_as : {p p' : Plan} {old new : List ℕ} → p ≡ p' → WritesPlan calls words p' old new → WritesPlan calls words p old new
  writes_as {old = old} {new = new} e w = subst (λ (q : Plan). WritesPlan calls words q old new) (sym e) w
