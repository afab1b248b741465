-- Over tables without a unit type word no unit arises: a unit needs a type of kind 4, and steps keep types. So no term of the reduction
-- sequence of what the former checks accepted has a unit node.
use mathlib.Core.Path.{◌≡◌, refl, sym, ◌∙◌}
use mathlib.Core.Bool.{Bool, true, false, not}
use mathlib.Core.List.{List, [], ◌∷◌}
use mathlib.Core.Logic.{◌≢◌}
use mathlib.Core.Option.{some, none, some-ne-none}
use lib.Dec.{T, eqb}
use lib.ListN.{get_elem?}
use Prim.Native.Nat.{ℕ, zero, suc}
use Rattle.syntax.specs.Maybe.{◌>>=◌, given}
use Rattle.syntax.specs.Words.{kind_of, left_of, right_of}
use Rattle.syntax.specs.Tables.{Tables, unit_type}
use Rattle.syntax.specs.Term.{Term, Terms, done, arg, unit, node}
use Rattle.syntax.specs.Positions.{Position, positions}
use Rattle.syntax.specs.Lists.{◌∈◌}
use Rattle.syntax.proofs.ByKind.{by_kind}
use Rattle.syntax.proofs.Inherited.{Inherited, inherited_in}
use Rattle.syntax.proofs.Options.{and_left, and_right}
use Rattle.typing.specs.Infer.{Context, infer}
use Rattle.typing.specs.Refusals.{accepted, TypedTerm}
use Rattle.typing.proofs.Accepted.{accepted_passed}
use Rattle.typing.proofs.Typing.{Typed, TypedAll, t_var, t_call, t_lam, t_app, t_bind, t_pair, t_fst, t_snd, t_inl, t_inr, t_case, t_unit}
use Rattle.typing.proofs.Typing.{t_done, t_arg}
use Rattle.typing.proofs.InferTyped.{typing_of}
use Rattle.typing.proofs.BeforeUnits.{NoUnitType, former_elaborate, former_without, former_accepted}
use Rattle.reduction.specs.MayDrop.{may_drop}
use Rattle.reduction.specs.Sequence.{Sequence, terms}
use Rattle.reduction.proofs.AlongSequence.{every_term}
use Rattle.theory.proofs.TypesKept.{step_typed}

-- no node of the term is a unit
abbrev pub NoUnitIn : Term → Type 0
NoUnitIn t = (p : Position Term) → p ∈ positions t → (node p.subterm).kind ≢ 11

-- no type of the table is of the unit's kind
no_unit_type : (ws : List ℕ) → NoUnitType ws → (U : ℕ)
    → (get_elem? ws U >>= λ w. given {X = ℕ × ℕ} (eqb (kind_of w) unit_type) (left_of w, right_of w)) ≡ none
no_unit_type [] h U = refl
no_unit_type (w ∷ ws) h zero = go (eqb (kind_of w) unit_type) (and_left (not (eqb (kind_of w) unit_type)) _ h)
  where
    go : (b : Bool) → T (not b) → given {X = ℕ × ℕ} b (left_of w, right_of w) ≡ none
    go true h = absurd h
    go false h = refl
no_unit_type (w ∷ ws) h (suc U) = no_unit_type ws (and_right (not (eqb (kind_of w) unit_type)) _ h) U

module _ (tables : Tables) (free : NoUnitType tables.types) where
  abbrev Has : Context → Term → ℕ → Type 0
  Has = Typed tables (λ k. Unit)

  -- typed in some context, and so each of some terms
  record Somehow (t : Term) : Type 0 where
    context : Context
    type : ℕ
    typed : Has context t type

  EachSomehow : Terms → Type 0
  EachSomehow done = Unit
  EachSomehow (arg t ts) = Somehow t × EachSomehow ts

  somehow : {Γ : Context} {t : Term} {A : ℕ} → Has Γ t A → Somehow t
  somehow x = record { context = _; type = _; typed = x }

  each_somehow : {Γ : Context} {ts : Terms} {As : List ℕ} → TypedAll tables (λ k. Unit) Γ ts As → EachSomehow ts
  unfolding EachSomehow
  each_somehow t_done = tt
  each_somehow (t_arg x xs) = (somehow x, each_somehow xs)

  parts_typed : {Γ : Context} {t : Term} {A : ℕ} → Has Γ t A → EachSomehow (node t).parts
  unfolding node EachSomehow
  parts_typed (t_var x) = tt
  parts_typed (t_call z s d xs) = each_somehow xs
  parts_typed (t_lam o x) = (somehow x, tt)
  parts_typed (t_app o x y) = (somehow x, (somehow y, tt))
  parts_typed (t_bind x y) = (somehow x, (somehow y, tt))
  parts_typed (t_pair o x y) = (somehow x, (somehow y, tt))
  parts_typed (t_fst o x) = (somehow x, tt)
  parts_typed (t_snd o x) = (somehow x, tt)
  parts_typed (t_inl o x) = (somehow x, tt)
  parts_typed (t_inr o x) = (somehow x, tt)
  parts_typed (t_case o x y z) = (somehow x, (somehow y, (somehow z, tt)))
  parts_typed (t_unit o) = tt

  somehow_inherited : Inherited Somehow EachSomehow
  unfolding EachSomehow
  somehow_inherited = record { parts = λ t x. parts_typed x.typed; first = λ t ts x. x.0; rest = λ t ts x. x.1 }

  -- a unit is not typed at all
  untyped : (U : ℕ) → Somehow (unit U) → ⊥
  untyped U x = go x.typed
    where
      go : {Γ : Context} {A : ℕ} → Has Γ (unit U) A → ⊥
      go (t_unit {A = A} {B = B} o) = some-ne-none {A = ℕ × ℕ} (A, B) (sym o.is ∙ no_unit_type tables.types free U)

  typed_no_unit : {Γ : Context} {t : Term} {A : ℕ} → Has Γ t A → NoUnitIn t
  typed_no_unit {t = t} x p i e =
      by_kind (λ s. Somehow s → ⊥) 11 p.subterm e untyped (inherited_in somehow_inherited t (somehow x) p i)

  -- no term of the sequence has a unit node, nor has its last
  pub no_unit_between : (pure : Term → Bool) (Γ : Context) (A : ℕ) {t u : Term} → infer tables t Γ ≡ some A → (q : Sequence pure t u)
      → ((w : Term) → w ∈ terms pure q → NoUnitIn w) × NoUnitIn u
  no_unit_between pure Γ A {t} e q =
      let typed = typing_of tables (λ k. Unit) t Γ A e (λ k i. tt) in
      let k = every_term pure (λ w. Has Γ w A) (λ phase t s d x. step_typed tables (λ k. Unit) pure phase t s d x) q typed in
      (λ w i. typed_no_unit (k.0 w i), typed_no_unit k.1)

-- What the former checks accepted is accepted as the same term, and no unit arises from it.
pub former_no_unit : (limit : ℕ) (tables : Tables) (words : List ℕ) (x : TypedTerm) → former_elaborate limit tables words ≡ accepted x
    → {u : Term} (q : Sequence (may_drop tables.calls) x.term u)
    → ((w : Term) → w ∈ terms (may_drop tables.calls) q → NoUnitIn w) × NoUnitIn u
former_no_unit limit tables words x e q =
    let p = accepted_passed limit tables words x (former_accepted limit tables words x e) in
    no_unit_between tables (former_without limit tables words x e).types (may_drop tables.calls) tables.inputs x.type p.type q
