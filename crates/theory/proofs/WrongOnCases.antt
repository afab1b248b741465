-- Wrong programs on cases A and B of paper 01's table: what a contract on them rules out, with the reductions computed from the rules.
use mathlib.Core.Path.{◌≡◌, refl, sym, ◌∙◌, ap, subst}
use mathlib.Core.List.{List, [], ◌∷◌}
use mathlib.Core.Option.{some, some-injective}
use lib.ListN.{length, take}
use Prim.Native.Nat.{ℕ, ◌≤◌}
use native.Mathlib.Omega.{arith}
use Rattle.syntax.specs.Tables.{Tables, over}
use Rattle.syntax.specs.Term.{Term, var, call, bind, done, arg, node, parts_of, as_var, as_lam, as_app, as_bind, as_pair, as_fst, as_snd, as_inl}
use Rattle.syntax.specs.Term.{as_inr, as_case}
use Rattle.syntax.specs.Encoding.{encode, size}
use Rattle.syntax.specs.Decoding.{leaf, unary, binary, split_forest, call_builder, builders, graft, decode_forest, decode}
use Rattle.syntax.specs.Positions.{positions}
use Rattle.syntax.specs.Substitution.{traverse}
use Rattle.syntax.specs.Values.{is_value, is_computation, operands, uses}
use Rattle.typing.specs.Infer.{infer}
use Rattle.typing.specs.Refusals.{accepted, elaborate, normalize_limit}
use Rattle.typing.specs.TableChecks.{lengths_fit, well_formed_types, distinct, well_formed_calls, well_formed_inputs}
use Rattle.typing.specs.TermChecks.{well_formed_words, scoped_at, scoped}
use Rattle.reduction.specs.MayDrop.{may_drop}
use Rattle.reduction.specs.declared.Phase.TheVariants.{Reduction, Dropping}
use Rattle.reduction.specs.declared.Rule.{Rule}
use Rattle.reduction.specs.declared.Rule.TheVariants.{LetInsertion, LetOfLet, LetOfCase, Apply, First, Second, LeftCase, RightCase}
use Rattle.reduction.specs.declared.Rule.TheVariants.{LetValue, Drop}
use Rattle.reduction.specs.Redex.{contract, first_step, step}
use Rattle.reduction.specs.declared.Settings.{Settings}
use Rattle.reduction.specs.Reduction.{of_rule}
use Rattle.reduction.specs.Rules.{name_first, let_insertion, let_of_let, let_of_case, apply, first, second, left_case, right_case, let_value, drop}
use Rattle.reduction.specs.Rules.{fire, rules}
use Rattle.reduction.specs.Sequence.{tally, Steps, ended, stepped, Sequence, terms}
use Rattle.reduction.proofs.CountOfRule.{steps_by}
use Rattle.reduction.proofs.Path.{Within, all_fit, fits, steps}
use Rattle.reduction.proofs.Unique.{sequence_unique}
use Rattle.reduction.proofs.WithinSettings.{Stays}
use Rattle.semantics.specs.Claim.{Claim}
use Rattle.outcomes.specs.Normalize.{Buffers, capacity_of}
use Rattle.outcomes.specs.Contract.{Normalizes}
use Rattle.outcomes.specs.declared.Answer.{Answer}
use Rattle.theory.proofs.RuledOut.{tables, source, named, phase₁}
use Rattle.theory.proofs.WrongPrograms.{refusing_ruled_out, counts_ruled_out}

-- the normal form of case A: let c, d v0
abbrev flat : Term
flat = bind (call 0 done) (call 1 (arg (var 0) done))

phase₂ : Steps (may_drop tables.calls) Reduction named (record { rule = Apply; place = 2; next = flat } ∷ []) flat
unfolding node parts_of as_var as_lam as_app as_bind as_pair as_fst as_snd as_inl as_inr as_case is_value is_computation positions traverse operands
    let_of_let let_of_case apply first second left_case right_case let_value fire rules contract first_step step
phase₂ = stepped refl (ended refl)

phase₃ : Steps (may_drop tables.calls) Dropping flat [] flat
unfolding node parts_of as_var as_bind is_value is_computation positions may_drop uses drop fire rules contract first_step step
phase₃ = ended refl

sequence_A : Sequence (may_drop tables.calls) source flat
sequence_A = record {
  inserted = named;
  reduced = flat;
  insertion = _;
  reduction = _;
  dropping = [];
  phase₁ = phase₁;
  phase₂ = phase₂;
  phase₃ = phase₃;
}

accepted_A : elaborate normalize_limit tables (encode source) ≡ accepted (record { term = source; type = 0 })
unfolding leaf unary binary split_forest call_builder builders graft decode_forest decode encode node positions as_var infer elaborate lengths_fit
    well_formed_types distinct well_formed_calls well_formed_inputs well_formed_words scoped_at scoped
accepted_A = refl

-- With a budget of 2, ceilings of 1 for let and apply and a capacity of 7, or more, case A is neither refused nor answered with other
-- counts than one let and one apply.
module _ {settings : Settings} {before after : Buffers} {answer : Answer} (budget : 2 ≤ settings.budget)
    (lets : 1 ≤ of_rule LetInsertion settings.ceilings) (applies : 1 ≤ of_rule Apply settings.ceilings)
    (capacity : 7 ≤ capacity_of before)
    (promise : Normalizes settings tables (encode source) before answer after) where
  terms_fit : Within (capacity_of before) (terms (may_drop tables.calls) sequence_A)
  unfolding encode node size sequence_A
  terms_fit = fits {t = source} (omega (arith, capacity))
      (fits {t = named} (omega (arith, capacity)) (fits {t = flat} (omega (arith, capacity)) all_fit))

  uses_fit : (r : Rule) → steps_by r (steps (may_drop tables.calls) sequence_A) ≤ of_rule r settings.ceilings
  unfolding sequence_A steps_by
  uses_fit LetInsertion = lets
  uses_fit LetOfLet = omega arith
  uses_fit LetOfCase = omega arith
  uses_fit Apply = applies
  uses_fit First = omega arith
  uses_fit Second = omega arith
  uses_fit LeftCase = omega arith
  uses_fit RightCase = omega arith
  uses_fit LetValue = omega arith
  uses_fit Drop = omega arith

  stays : Stays (may_drop tables.calls) (capacity_of before) settings sequence_A
  unfolding sequence_A
  stays = record { in_budget = omega (arith, budget); in_ceilings = uses_fit; in_capacity = terms_fit }

  pub refusing_A_ruled_out : (answer.refusal ≡ 0 → ⊥) → ⊥
  refusing_A_ruled_out = refusing_ruled_out accepted_A promise sequence_A stays

  pub counts_A_ruled_out : (answer.counts ≡ (1 ∷ 0 ∷ 0 ∷ 1 ∷ 0 ∷ 0 ∷ 0 ∷ 0 ∷ 0 ∷ 0 ∷ []) → ⊥) → ⊥
  unfolding sequence_A tally
  counts_A_ruled_out = counts_ruled_out accepted_A promise sequence_A stays

-- what a claim hands back, by the one reduction of its source
claimed : (tables : Tables) (words : List ℕ) (A : ℕ) (result : List ℕ) (t u : Term) → decode tables.calls words ≡ some t
    → Sequence (may_drop tables.calls) t u → Claim tables words A result → result ≡ encode u
claimed tables words A result t u d q c =
    let pure = may_drop tables.calls in
    let e = some-injective c.source t (sym c.source_decoded ∙ d) in
    let s = subst (λ (x : Term). Sequence pure x c.normal) e c.sequence in
    c.normal_words ∙ ap encode (sequence_unique pure t c.normal u s q).1

-- case B: v0, over an input of type 0; no step
abbrev tables_B : Tables
tables_B = over tables.types tables.calls (0 ∷ [])

sequence_B : Sequence (may_drop tables_B.calls) (var 0) (var 0)
unfolding node parts_of as_var as_lam as_app as_bind as_pair as_fst as_snd as_inl as_inr as_case positions operands name_first let_insertion let_of_let
    let_of_case apply first second left_case right_case let_value drop fire rules contract first_step step
sequence_B = record {
  inserted = var 0;
  reduced = var 0;
  insertion = [];
  reduction = [];
  dropping = [];
  phase₁ = ended refl;
  phase₂ = ended refl;
  phase₃ = ended refl;
}

-- The program that hands back a fixed normal form: no list of words serves both case A and case B, whatever the settings and buffers.
pub fixed_form_ruled_out : (form : List ℕ) {settings settings' : Settings} {before after before' after' : Buffers} {answer answer' : Answer}
    → Normalizes settings tables (encode source) before answer after → answer.refusal ≡ 0
    → take answer.length after.output ≡ form
    → Normalizes settings' tables_B (encode (var 0)) before' answer' after' → answer'.refusal ≡ 0
    → take answer'.length after'.output ≡ form → ⊥
unfolding leaf unary binary split_forest call_builder builders graft decode_forest decode encode node
fixed_form_ruled_out form {answer = a} {answer' = b} p z e q y d =
    let x = claimed tables (encode source) a.ty _ source flat refl sequence_A (p.claim z) in
    let w = claimed tables_B (encode (var 0)) b.ty _ (var 0) (var 0) refl sequence_B (q.claim y) in
    omega (arith, ap length (sym x ∙ e ∙ sym d ∙ w))
