-- The type of a term that passes the checks is an entry of the table of types: the inputs' and the calls' are, a node's own type is
-- looked up there, and a type's parts are earlier entries.
use mathlib.Core.Path.{◌≡◌, ap}
use mathlib.Core.List.{List, [], ◌∷◌}
use mathlib.Core.Option.{some, some-injective}
use lib.Dec.{T, ltb, ltb→lt}
use lib.ListN.{length, get_elem?}
use Prim.Native.Nat.{ℕ, ◌<◌}
use native.Mathlib.Omega.{arith}
use Rattle.syntax.specs.Tables.{Tables, arrow, product, sum, is_composite, Signature, signature_of}
use Rattle.syntax.specs.Term.{Term}
use Rattle.syntax.proofs.Options.{and_left, and_right}
use Rattle.typing.specs.Infer.{Context}
use Rattle.typing.specs.TableChecks.{every, well_formed_inputs}
use Rattle.typing.specs.Refusals.{TypedTerm}
use Rattle.typing.proofs.Accepted.{Passed}
use Rattle.typing.proofs.InferTyped.{typing_of}
use Rattle.typing.proofs.Trees.{Earlier, earlier, parts_below}
use Rattle.typing.proofs.Typing.{At, here, there, Of, Signed, Typed, t_var, t_call, t_lam, t_app, t_bind, t_pair, t_fst, t_snd, t_inl}
use Rattle.typing.proofs.Typing.{t_inr, t_case, t_unit}
use Rattle.theory.proofs.Fields.{bind_some, known_type, Fitting, fitting}

module _ (tables : Tables) (wf : Earlier tables) (fit : Fitting tables) (ok : ℕ → Type 0) where
  abbrev InTable : ℕ → Type 0
  InTable A = A < length tables.types

  -- each type of a context is in the table
  data Known : Context → Type 0 where
    none : Known []
    one_more : {A : ℕ} {Γ : Context} → InTable A → Known Γ → Known (A ∷ Γ)

  -- check 5 asks it of the inputs
  inputs_known : (Γ : Context) → T (every (λ A. ltb A (length tables.types)) Γ) → Known Γ
  inputs_known [] h = none
  inputs_known (A ∷ Γ) h =
      let first = ltb A (length tables.types) in
      let rest = every (λ B. ltb B (length tables.types)) Γ in
      one_more (ltb→lt A (length tables.types) (and_left first rest h)) (inputs_known Γ (and_right first rest h))

  variable_known : {Γ : Context} {n A : ℕ} → Known Γ → At Γ n A → InTable A
  variable_known none x = elim x [ ]
  variable_known (one_more a h) here = a
  variable_known (one_more a h) (there x) = variable_known h x

  -- a type with parts, its parts, and a call's result
  parts_known : (k : ℕ) {F A B : ℕ} → T (is_composite k) → Of tables k F A B → InTable A × InTable B
  parts_known k {F} {A} {B} c o =
      let p = parts_below tables wf k F A B c o.is in
      let f = known_type tables o in
      (omega (arith, p.0), omega (arith, p.1))

  pub result_known : {k A : ℕ} {s : Signature} → Signed tables k s → s.result ≡ A → InTable A
  result_known {k} {A} {s} e d =
      let w = bind_some (get_elem? tables.calls k) (λ w. some (signature_of w)) e.is in
      let q = some-injective (signature_of w.0) s w.2 in
      omega (arith, fit.results k w.0 w.1, ap (λ (x : Signature). x.result) q)

  typed_known : {Γ : Context} {t : Term} {A : ℕ} → Known Γ → Typed tables ok Γ t A → InTable A
  typed_known h (t_var x) = variable_known h x
  typed_known h (t_call z e d xs) = result_known e d
  typed_known h (t_lam o x) = known_type tables o
  typed_known h (t_app o x y) = (parts_known arrow tt o).1
  typed_known h (t_bind x y) = typed_known (one_more (typed_known h x) h) y
  typed_known h (t_pair o x y) = known_type tables o
  typed_known h (t_fst o x) = (parts_known product tt o).0
  typed_known h (t_snd o x) = (parts_known product tt o).1
  typed_known h (t_inl o x) = known_type tables o
  typed_known h (t_inr o x) = known_type tables o
  typed_known h (t_case o x y z) = typed_known (one_more (parts_known sum tt o).0 h) y
  typed_known h (t_unit o) = known_type tables o

-- the type that the checks answer is one of at most 1,024
pub type_below : (limit : ℕ) (tables : Tables) (words : List ℕ) (x : TypedTerm) → Passed limit tables words x → x.type < 1024
unfolding well_formed_inputs
type_below limit tables words x p =
    let fit = fitting limit tables words p.lengths p.calls in
    let wf = earlier tables p.types in
    let known = typed_known tables wf fit (λ k. Unit) (inputs_known tables wf fit (λ k. Unit) tables.inputs p.inputs)
    (typing_of tables (λ k. Unit) x.term tables.inputs x.type p.type (λ k i. tt)) in
    omega (arith, fit.types, known)
