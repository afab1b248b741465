-- The claim alone rules out the normalizer that copies its input and the one that stops after phase 1: on case A of
-- paper 01's table the words they hand back decode to a term that a rule fits, and a claim says that no rule fits there. What it says of
-- part types rules the copy out once more: the function in it has a type that is part of no type the claim allows.
use mathlib.Core.Path.{◌≡◌, refl, sym, ◌∙◌, ap, subst}
use mathlib.Core.Bool.{false}
use mathlib.Core.List.{List, [], ◌∷◌}
use mathlib.Core.Option.{some, some-injective, none-ne-some}
use lib.Dec.{T}
use Prim.Native.Nat.{ℕ, zero, suc}
use native.Mathlib.Omega.{arith}
use Rattle.syntax.specs.Words.{pack}
use Rattle.syntax.specs.Tables.{Tables, Signature, signature_of, signature}
use Rattle.syntax.specs.Lists.{◌∈◌, here, there}
use Rattle.syntax.specs.Term.{Term, var, call, lam, app, bind, done, arg, node, parts_of, as_var, as_lam, as_app, as_bind, as_pair, as_fst, as_snd}
use Rattle.syntax.specs.Term.{as_inl, as_inr, as_case}
use Rattle.syntax.specs.Encoding.{encode}
use Rattle.syntax.specs.Decoding.{leaf, unary, binary, split_forest, call_builder, builders, graft, decode_forest, decode}
use Rattle.syntax.specs.Positions.{positions}
use Rattle.syntax.specs.Substitution.{traverse}
use Rattle.syntax.specs.Values.{is_value, is_computation, arguments_in, operands}
use Rattle.reduction.specs.declared.Phase.TheVariants.{Insertion}
use Rattle.reduction.specs.declared.Rule.TheVariants.{LetInsertion}
use Rattle.reduction.specs.Rules.{name_first, let_insertion, let_of_let, let_of_case, apply, first, second, left_case, right_case, let_value}
use Rattle.reduction.specs.MayDrop.{may_drop}
use Rattle.reduction.specs.Rules.{fire, rules}
use Rattle.reduction.specs.Redex.{Step, contract, first_step, step}
use Rattle.reduction.specs.Sequence.{Steps, ended, stepped}
use Rattle.reduction.specs.NormalForm.{is_normal}
use Rattle.reduction.proofs.Unique.{steps_unique}
use Rattle.typing.specs.Infer.{infer}
use Rattle.typing.specs.NodeTypes.{node_types}
use Rattle.typing.specs.TableChecks.{well_formed_types}
use Rattle.semantics.specs.TypeParts.{types_of}
use Rattle.semantics.specs.Claim.{Subformula, of_result, of_input, of_call, Claim}
use Rattle.semantics.proofs.PartsEarlier.{part_at_most}

-- no claim holds of words that decode to a term with a redex
no_claim : (tables : Tables) (words : List ℕ) (A : ℕ) (result : List ℕ) (u : Term) → decode tables.calls result ≡ some u
    → is_normal (may_drop tables.calls) u ≡ false → Claim tables words A result → ⊥
no_claim tables words A result u d n c =
    let e = some-injective u c.normal (sym d ∙ c.normal_decoded) in
    subst T (sym c.no_redex ∙ ap (is_normal (may_drop tables.calls)) (sym e) ∙ n) tt

-- case A: a base type, and over it a function, a product and a sum type; c takes nothing, d one argument, all of the base type
abbrev pub tables : Tables
tables = record { types = pack 0 0 0 ∷ pack 1 0 0 ∷ pack 2 0 0 ∷ pack 3 0 0 ∷ []; calls = 0 ∷ pack 1 0 0 ∷ []; inputs = [] }

-- function(d v0)
abbrev function : Term
function = lam 1 (call 1 (arg (var 0) done))

-- function(d v0) applied to c
abbrev pub source : Term
source = app function (call 0 done)

-- and after phase 1: let c, function(d v0) applied to v0
abbrev pub named : Term
named = bind (call 0 done) (app function (var 0))

-- the one that copies its input
pub copies_ruled_out : Claim tables (encode source) 0 (encode source) → ⊥
unfolding leaf unary binary split_forest call_builder builders graft decode_forest decode encode node
    positions traverse is_value operands name_first let_insertion fire rules contract first_step step is_normal
copies_ruled_out = no_claim tables (encode source) 0 (encode source) source refl refl

-- each type of a call is type 0
one_zero : {A : ℕ} → A ∈ (0 ∷ []) → A ≡ 0
one_zero here = refl
one_zero (there i) = elim i [ ]

two_zeros : {A : ℕ} → A ∈ (0 ∷ 0 ∷ []) → A ≡ 0
two_zeros here = refl
two_zeros (there i) = one_zero i

pub call_types : (k : ℕ) (s : Signature) {A : ℕ} → signature tables k ≡ some s → A ∈ types_of s → A ≡ 0
call_types zero s {A} e i =
    one_zero (subst (λ (x : Signature). A ∈ types_of x) (sym (some-injective (signature_of 0) s e)) i)
call_types (suc zero) s {A} e i =
    two_zeros (subst (λ (x : Signature). A ∈ types_of x) (sym (some-injective (signature_of (pack 1 0 0)) s e)) i)
call_types (suc (suc k)) s e i = absurd (none-ne-some s e)

-- the function type 1 is part of no type that a claim allows in a term of type 0
pub function_no_subformula : (t : Term) → Subformula tables 0 t 1 → ⊥
unfolding well_formed_types
function_no_subformula t (of_result p) = omega (arith, part_at_most tables tt p)
function_no_subformula t (of_input i _) = elim i [ ]
function_no_subformula t (of_call c p) =
    omega (arith, part_at_most tables tt p, call_types c.number c.sign c.listed c.among)

-- so the part types of the source break the claim: its function has type 1
pub part_types_ruled_out : (Ds : List ℕ) → node_types tables source tables.inputs ≡ some Ds
    → ((D : ℕ) → D ∈ Ds → Subformula tables 0 source D) → ⊥
unfolding node_types infer
part_types_ruled_out Ds e h = function_no_subformula source
    (h 1 (subst (λ (x : List ℕ). 1 ∈ x) (some-injective (0 ∷ 1 ∷ 0 ∷ 0 ∷ 0 ∷ []) Ds e) (there here)))

-- phase 1 of case A, by computation
pub phase₁ : Steps (may_drop tables.calls) Insertion source (record { rule = LetInsertion; place = 0; next = named } ∷ []) named
unfolding positions traverse is_value arguments_in operands name_first let_insertion fire rules contract first_step step
phase₁ = stepped refl (ended refl)

named_has_redex : is_normal (may_drop tables.calls) named ≡ false
unfolding node parts_of as_var as_lam as_app as_bind as_pair as_fst as_snd as_inl as_inr as_case is_value is_computation
    positions traverse arguments_in operands name_first let_insertion let_of_let let_of_case apply first second left_case right_case let_value
    fire rules contract first_step step is_normal
named_has_redex = refl

-- the one that stops after phase 1: it hands back the last term of phase 1
pub insertion_ruled_out : {u : Term} {ss : List Step} → Steps (may_drop tables.calls) Insertion source ss u
    → Claim tables (encode source) 0 (encode u) → ⊥
unfolding leaf unary binary split_forest call_builder builders graft decode_forest decode encode node
insertion_ruled_out {u} q c =
    let e : u ≡ named = (steps_unique (may_drop tables.calls) Insertion refl q phase₁).1 in
    no_claim tables (encode source) 0 (encode named) named refl named_has_redex
    (subst (λ (x : Term). Claim tables (encode source) 0 (encode x)) e c)
