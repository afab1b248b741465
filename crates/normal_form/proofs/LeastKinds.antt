-- To the roles the kinds past the last are all one: what they say of the least of a kind and 12 they say of the kind.
use Rattle.std.specs.Prelude.{ℕ, Bool, ◌≡◌, min}
use Rattle.std.proofs.Common.{rules, refl, sym, ◌∙◌, ap}
use Rattle.reduction.specs.FitByKinds.{value_kind}
use Rattle.words.proofs.KindTests.{eqb-min}
use Rattle.normal_form.specs.declared.normal.Role.{Role}
use Rattle.normal_form.specs.declared.normal.Role.TheVariants.{Variable, Value, Operation, Normal}
use Rattle.normal_form.specs.Roles.{role_of, operation_kind, suits, keeps_variable}

value_min : (k : ℕ) → value_kind (min k 12) ≡ value_kind k
unfolding value_kind
value_min k = search (rules, eqb-min)

suits_min : (role : Role) (k : ℕ) → suits role (min k 12) ≡ suits role k
unfolding suits operation_kind
suits_min Variable k = search (rules, eqb-min)
suits_min Value k = value_min k
suits_min Operation k = search (rules, eqb-min)
suits_min Normal k = refl

role_min : (k j : ℕ) → role_of (min k 12) j ≡ role_of k j
unfolding role_of
role_min k j = search (rules, eqb-min)

keeps_min : (k j : ℕ) (d : Bool) (u : ℕ) → keeps_variable (min k 12) j d u ≡ keeps_variable k j d u
unfolding keeps_variable
keeps_min k j d u = search (rules, eqb-min)

module _ {c : ℕ} (k : ℕ) (e : c ≡ min k 12) {b : Bool} where
  pub value_least : value_kind c ≡ b → value_kind k ≡ b
  value_least v = sym (ap value_kind e ∙ value_min k) ∙ v

  pub suits_least : {h : ℕ} (j p : ℕ) → h ≡ min p 12 → suits (role_of c j) h ≡ b → suits (role_of k j) p ≡ b
  suits_least {h} j p f s =
      sym (ap (λ (i : ℕ). suits (role_of i j) h) e ∙ ap (λ (r : Role). suits r h) (role_min k j) ∙ ap (suits (role_of k j)) f
      ∙ suits_min (role_of k j) p) ∙ s

  pub keeps_least : (j : ℕ) (d : Bool) (u : ℕ) → keeps_variable c j d u ≡ b → keeps_variable k j d u ≡ b
  keeps_least j d u s = sym (ap (λ (i : ℕ). keeps_variable i j d u) e ∙ keeps_min k j d u) ∙ s
