-- Cases A to L by one computation over their table: the outcome that the contract of `normalize` cites, answer and buffers. Further the
-- sample bundle byte for byte, the sixteen digits, the limits of check 1, and the capacity.
use mathlib.Core.Path.{◌≡◌, refl}
use mathlib.Core.Bool.{true, false}
use mathlib.Core.List.{[], ◌∷◌, map}
use Rattle.syntax.specs.Decoding.{leaf, unary, binary, ternary, split_forest, call_builder, builders, graft, decode_forest, decode}
use Rattle.syntax.specs.Encoding.{encode, size}
use Rattle.syntax.specs.Positions.{positions}
use Rattle.syntax.specs.Substitution.{traverse}
use Rattle.syntax.specs.Term.{node, parts_of, as_var, as_lam, as_app, as_bind, as_pair, as_fst, as_snd, as_inl, as_inr, as_case}
use Rattle.syntax.specs.Values.{is_value, is_computation, arguments_in, operands, uses}
use Rattle.typing.specs.Infer.{infer}
use Rattle.typing.specs.Refusals.{elaborate}
use Rattle.typing.specs.TableChecks.{lengths_fit, well_formed_types, distinct, well_formed_calls, well_formed_inputs}
use Rattle.typing.specs.TermChecks.{well_formed_words, scoped_at, scoped}
use Rattle.reduction.specs.Redex.{contract, first_step, step}
use Rattle.reduction.specs.Reduction.{run_phase, then_phase, reduce}
use Rattle.reduction.specs.Rules.{name_first, let_insertion, let_of_let, let_of_case, apply, first, second, left_case, right_case, let_value}
use Rattle.reduction.specs.MayDrop.{may_drop}
use Rattle.reduction.specs.Rules.{drop, fire, rules}
use Rattle.outcomes.specs.Buffers.{overwrite, cleared}
use Rattle.outcomes.specs.Listing.{decimal_then, decimal, hexadecimal, fields, lines, listing_of}
use Rattle.outcomes.specs.Normalize.{reduced_to, checked_to, normalize_within, capacity_of, normalize_outcome}
use Rattle.outcomes.specs.ReadBundle.{from_bytes, words_of, lengths_of, readable, words_after, read_bundle_outcome}
use Rattle.outcomes.specs.Respond.{tables_of, term_of, respond_to, response}
use Rattle.outcomes.specs.Text.{ascii}
use Rattle.cases.specs.Table.{table, computed, expected}
use Rattle.cases.specs.Sample.{bytes_of, bundle_of, bundle, written}
use Rattle.cases.specs.Limits.{sizes, fit, rooms, capacity}

pub record Computed : Type 0 where
  pub cases : map computed table ≡ map expected table
  pub sample : response bundle ≡ written
  -- hexadecimal digits are in lower case
  pub digits : hexadecimal 16 0x0123456789abcdef ≡ ascii "0123456789abcdef"
  -- the limits on the lengths, and one more of each
  pub limits : map fit sizes ≡ (true ∷ false ∷ false ∷ false ∷ false ∷ false ∷ [])
  -- the capacity is the shortest buffer, and 8,192 at most
  pub capacities : map capacity rooms ≡ (8192 ∷ 8192 ∷ 8191 ∷ [])

-- every definition on the way is opened
pub computes : Computed
unfolding leaf unary binary ternary split_forest call_builder builders graft decode_forest decode encode size positions traverse node
    parts_of as_var as_lam as_app as_bind as_pair as_fst as_snd as_inl as_inr as_case is_value is_computation arguments_in operands uses infer
    elaborate lengths_fit well_formed_types distinct well_formed_calls well_formed_inputs well_formed_words scoped_at scoped contract
    first_step step run_phase then_phase reduce name_first let_insertion let_of_let let_of_case apply first second left_case right_case
    let_value may_drop drop fire rules overwrite cleared decimal_then decimal hexadecimal fields lines listing_of reduced_to checked_to
    normalize_within capacity_of normalize_outcome from_bytes words_of lengths_of readable words_after read_bundle_outcome tables_of term_of
    respond_to response ascii table computed expected bytes_of bundle_of bundle written sizes fit rooms capacity
computes = record { cases = refl; sample = refl; digits = refl; limits = refl; capacities = refl }
