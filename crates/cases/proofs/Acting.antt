-- The cases with calls that act, each table by one computation.
use mathlib.Core.Path.{◌≡◌, refl}
use mathlib.Core.List.{map}
use Rattle.syntax.specs.Decoding.{leaf, unary, binary, ternary, split_forest, call_builder, builders, graft, decode_forest, decode}
use Rattle.syntax.specs.Encoding.{encode, size}
use Rattle.syntax.specs.Lists.{filter, any}
use Rattle.syntax.specs.Positions.{positions}
use Rattle.syntax.specs.Substitution.{traverse}
use Rattle.syntax.specs.Term.{node, parts_of, as_var, as_lam, as_app, as_bind, as_pair, as_fst, as_snd, as_inl, as_inr, as_case}
use Rattle.syntax.specs.Values.{is_value, is_computation, arguments_in, operands, uses}
use Rattle.typing.specs.Infer.{infer}
use Rattle.typing.specs.Refusals.{elaborate}
use Rattle.typing.specs.TableChecks.{lengths_fit, well_formed_types, distinct, well_formed_calls, well_formed_inputs}
use Rattle.typing.specs.TermChecks.{well_formed_words, scoped_at, scoped}
use Rattle.reduction.specs.NormalForm.{is_normal}
use Rattle.reduction.specs.Redex.{contract, first_step, step}
use Rattle.reduction.specs.Reduction.{run_phase, then_phase, reduce}
use Rattle.reduction.specs.Rules.{name_first, let_insertion, let_of_let, let_of_case, apply, first, second, left_case, right_case, let_value}
use Rattle.reduction.specs.MayDrop.{may_drop}
use Rattle.reduction.specs.Rules.{drop, fire, rules}
use Rattle.semantics.specs.Run.{lookup, enter, first_half, second_half, choose, run_all, evaluate, run}
use Rattle.outcomes.specs.Buffers.{overwrite, cleared}
use Rattle.outcomes.specs.Check.{check_outcome}
use Rattle.outcomes.specs.IsNormal.{is_normal_outcome}
use Rattle.outcomes.specs.Normalize.{reduced_to, checked_to, normalize_within, capacity_of, normalize_outcome}
use Rattle.outcomes.specs.Marks.{mask, masks, how_many}
use Rattle.outcomes.specs.FreeInputs.{reads, free_inputs_outcome}
use Rattle.cases.specs.Table.{computed, expected}
use Rattle.cases.specs.Further.{replied, awaited}
use Rattle.cases.specs.Reading.{asked, told}
use Rattle.cases.specs.Acting.{acting_cases, acting_questions, acting_readings, acting_ran, acting_foreseen, acting_runs}

pub record Computed : Type 0 where
  pub cases : map computed acting_cases ≡ map expected acting_cases
  pub replies : map replied acting_questions ≡ map awaited acting_questions
  pub inputs : map asked acting_readings ≡ map told acting_readings
  pub runs : map acting_ran acting_runs ≡ map acting_foreseen acting_runs

-- every definition on the way is opened
pub computes : Computed
unfolding leaf unary binary ternary split_forest call_builder builders graft decode_forest decode encode size positions traverse node
    parts_of as_var as_lam as_app as_bind as_pair as_fst as_snd as_inl as_inr as_case is_value is_computation arguments_in operands uses infer
    elaborate lengths_fit well_formed_types distinct well_formed_calls well_formed_inputs well_formed_words scoped_at scoped contract
    first_step step run_phase then_phase reduce name_first let_insertion let_of_let let_of_case apply first second left_case right_case
    let_value may_drop drop fire rules is_normal lookup enter first_half second_half choose run_all evaluate run overwrite cleared
    reduced_to checked_to normalize_within capacity_of normalize_outcome check_outcome is_normal_outcome mask masks how_many reads
    free_inputs_outcome computed expected replied awaited asked told filter any acting_cases acting_questions acting_readings
    acting_ran acting_foreseen acting_runs
computes = record { cases = refl; replies = refl; inputs = refl; runs = refl }
