-- The clause on acting calls rules out normal forms that lose one or change their order. `v0` for `let stamp, v1` is one that the clause on
-- struck calls lets pass; so is `v1` for `let (case v0, stamp, stamp), v2`, which is what drop by itself makes of it. Drop is not sound on
-- such a let, and phase 3 has to start from a term whose lets bind one operation each.
use mathlib.Core.Path.{◌≡◌, refl, sym, ◌∙◌, ap}
use mathlib.Core.List.{List, [], ◌∷◌}
use mathlib.Core.Option.{some}
use Prim.Native.Nat.{ℕ}
use native.Mathlib.Omega.{arith}
use Rattle.syntax.specs.Lists.{filter}
use Rattle.syntax.specs.Substitution.{traverse}
use Rattle.syntax.specs.Term.{Term, var, call, bind, case, done, node, parts_of, as_bind}
use Rattle.syntax.specs.Values.{is_value, is_computation, uses}
use Rattle.syntax.specs.Words.{pack}
use Rattle.reduction.specs.MayDrop.{may_drop}
use Rattle.reduction.specs.Rules.{drop}
use Rattle.semantics.specs.Value.{Value, Values, left, empty, also, Call, Trace}
use Rattle.semantics.specs.Run.{lookup, Ends}
use Rattle.semantics.specs.Claim.{acting_calls, SameRuns}
use Rattle.theory.proofs.Ends.{ends_var, ends_bind, ends_case_left, ends_done, ends_call, ends_one}

-- a table of two calls that act and take no argument
abbrev pub calls : List ℕ
calls = pack 8 0 0 ∷ pack 8 0 0 ∷ []

abbrev stamp : Term
stamp = call 0 done

abbrev clear : Term
clear = call 1 done

abbrev stamped : Call
stamped = record { number = 0; arguments = empty }

abbrev cleared : Call
cleared = record { number = 1; arguments = empty }

module _ {answer : ℕ → Values → Value} where
  -- the acting calls of both runs, whatever those are
  acting : {ρ : Values} {t u : Term} {v w : Value} {c d : Trace} {ts : List Term} → Ends answer ρ t v c → Ends answer ρ u w d
      → SameRuns calls answer ρ t u ts → acting_calls calls d ≡ acting_calls calls c
  acting p q s = ap (acting_calls calls) (ends_one answer q s.normal_ends).1 ∙ s.acting_kept
      ∙ sym (ap (acting_calls calls) (ends_one answer p s.source_ends).1)

  stamps : {ρ : Values} → Ends answer ρ stamp (answer 0 empty) (stamped ∷ [])
  stamps = ends_call answer (ends_done answer)

  clears : {ρ : Values} → Ends answer ρ clear (answer 1 empty) (cleared ∷ [])
  clears = ends_call answer (ends_done answer)

  -- a run that stamps and one that does not
  lost : {ρ : Values} {t u : Term} {v w : Value} {ts : List Term} → Ends answer ρ t v (stamped ∷ []) → Ends answer ρ u w []
      → SameRuns calls answer ρ t u ts → ⊥
  unfolding filter
  lost p q s =
      let e : ◌≡◌ {A = Trace} [] (stamped ∷ []) = acting p q s in
      let z : ◌≡◌ {A = ℕ} 0 1 = cc in
      omega (arith, z)

  -- an acting call dropped
  pub dropped_ruled_out : {v : Value} {ts : List Term} → SameRuns calls answer (also v empty) (bind stamp (var 1)) (var 0) ts → ⊥
  unfolding lookup
  dropped_ruled_out s = lost (ends_bind answer stamps (ends_var answer refl)) (ends_var answer refl) s

  -- two acting calls kept, in the other order
  pub reordered_ruled_out : {v : Value} {ts : List Term}
      → SameRuns calls answer (also v empty) (bind stamp (bind clear (var 2))) (bind clear (bind stamp (var 2))) ts → ⊥
  unfolding lookup filter
  reordered_ruled_out s =
      let p = ends_bind answer stamps (ends_bind answer clears (ends_var answer refl)) in
      let q = ends_bind answer clears (ends_bind answer stamps (ends_var answer refl)) in
      let e : ◌≡◌ {A = Trace} (cleared ∷ stamped ∷ []) (stamped ∷ cleared ∷ []) = acting p q s in
      let z : ◌≡◌ {A = ℕ} 1 0 = ap first e in
      omega (arith, z)
    where
      -- the number of the first call
      first : Trace → ℕ
      first [] = 0
      first (c ∷ cs) = c.number

-- drop by itself, of a let that binds no operation
abbrev stamped_either : Term
stamped_either = bind (case (var 0) stamp stamp) (var 2)

pub drop_fits : drop (may_drop calls) stamped_either ≡ some (var 1)
unfolding drop may_drop as_bind parts_of node is_computation is_value uses traverse
drop_fits = refl

pub drop_alone_ruled_out : {answer : ℕ → Values → Value} {v w : Value} {ts : List Term}
    → SameRuns calls answer (also (left v) (also w empty)) stamped_either (var 1) ts → ⊥
unfolding lookup
drop_alone_ruled_out {answer} s =
    lost (ends_bind answer (ends_case_left answer (ends_var answer refl) stamps) (ends_var answer refl)) (ends_var answer refl) s
