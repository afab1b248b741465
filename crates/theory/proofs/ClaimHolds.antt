-- Demand 3: the claim holds of every accepted outcome whose capacity is at most 8,192. What is accepted is typed and came through its
-- reduction, and along a reduction types and runs are kept, operands become values, and the last term is in the grammar.
use mathlib.Core.Path.{◌≡◌, refl, sym, subst}
use mathlib.Core.Bool.{Bool, true}
use mathlib.Core.List.{List}
use mathlib.Core.Option.{Option, some, none}
use lib.Dec.{T}
use Prim.Native.Nat.{ℕ, ◌≤◌}
use native.Mathlib.Omega.{arith}
use Rattle.syntax.specs.Tables.{Tables}
use Rattle.syntax.specs.Term.{Term}
use Rattle.syntax.specs.Encoding.{encode, size}
use Rattle.syntax.specs.Decoding.{decode}
use Rattle.syntax.proofs.Decoding.{decode-words}
use Rattle.typing.specs.Infer.{infer}
use Rattle.typing.specs.NodeTypes.{node_types}
use Rattle.typing.specs.TermChecks.{well_formed_words}
use Rattle.typing.proofs.Encoding.{encode-decode}
use Rattle.typing.specs.Refusals.{accepted, TypedTerm, elaborate, normalize_limit}
use Rattle.reduction.specs.MayDrop.{may_drop}
use Rattle.reduction.specs.declared.Phase.{Phase}
use Rattle.reduction.specs.declared.Phase.TheVariants.{Insertion, Reduction, Dropping}
use Rattle.reduction.specs.Redex.{Step as Stepped, step}
use Rattle.reduction.specs.declared.Settings.{Settings}
use Rattle.reduction.specs.Reduction.{Counts, reached, reduce}
use Rattle.reduction.specs.Sequence.{Steps, ended, stepped, Sequence}
use Rattle.reduction.specs.NormalForm.{is_normal, Normal}
use Rattle.reduction.proofs.Exact.{Exact, normal, reduce_exact, reached_fits}
use Rattle.syntax.specs.Lists.{◌∈◌}
use Rattle.syntax.specs.Calls.{calls_in}
use Rattle.semantics.specs.Claim.{Subformula, Claim}
use Rattle.outcomes.specs.Normalize.{max_capacity}
use Rattle.typing.proofs.InferTyped.{typing_of, typed_infer}
use Rattle.typing.proofs.Typing.{Typed}
use Rattle.typing.proofs.Trees.{Earlier, earlier}
use Rattle.reduction.proofs.Search.{Each, one_step}
use Rattle.theory.proofs.Operands.{Ops, inserted}
use Rattle.theory.proofs.OperandsKept.{step_ops}
use Rattle.theory.proofs.Forms.{never, reduced as in_form}
use Rattle.theory.proofs.FormsKept.{form_step, no_insertion, no_reduction}
use Rattle.theory.proofs.Subformulas.{Listed, listed, all_at, subformulas}
use Rattle.theory.proofs.Fields.{Fitting, fitting, shaped}
use Rattle.theory.proofs.SameRuns.{same_runs}
use Rattle.theory.proofs.TypesKept.{steps_typed}
use Rattle.typing.proofs.Accepted.{accepted_passed}

-- the last step of a phase
last_step : (pure : Term → Bool) (phase : Phase) {t u : Term} {ss : List Stepped} → Steps pure phase t ss u → step pure phase u ≡ none
last_step pure phase (ended e) = e
last_step pure phase (stepped e q) = last_step pure phase q

-- what phases 2 and 3 keep
module _ (pure : Term → Bool) where
  kept_ops : {t u : Term} {ss : List Stepped} → Steps pure Reduction t ss u → Each t Ops → Each u Ops
  kept_ops (ended e) h = h
  kept_ops (stepped {t = t} {s = s} e q) h = kept_ops q (step_ops (one_step pure Reduction t s e) h)

  kept_form : {t u : Term} {ss : List Stepped} → Steps pure Dropping t ss u → Normal never t → Normal never u
  kept_form (ended e) f = f
  kept_form (stepped {t = t} {s = s} e q) f = kept_form q (form_step pure f (one_step pure Dropping t s e))

-- the last term of a typed term's reduction sequence
pub record Last (tables : Tables) (pure : Term → Bool) (A : ℕ) (u : Term) : Type 0 where
  pub type : infer tables u tables.inputs ≡ some A
  pub form : Normal never u
  pub normal : is_normal pure u ≡ true

no_rule : (pure : Term → Bool) (u : Term) → step pure Insertion u ≡ none → step pure Reduction u ≡ none → step pure Dropping u ≡ none
    → is_normal pure u ≡ true
unfolding is_normal
no_rule pure u a b c = rw (a, b, c)

-- the term that phase 3 starts from: typed, and each let in it binds one operation
record Reduced (tables : Tables) (A : ℕ) (u : Term) : Type 0 where
  typed : Typed tables (λ k. Unit) tables.inputs u A
  form : Normal never u

after_reduction : (tables : Tables) (pure : Term → Bool) (A : ℕ) (t u : Term) → infer tables t tables.inputs ≡ some A
    → (q : Sequence pure t u) → Reduced tables A q.reduced
after_reduction tables pure A t u e q =
    let x = typing_of tables (λ k. Unit) t tables.inputs A e (λ k i. tt) in
    let x₁ = steps_typed tables (λ k. Unit) pure Insertion q.phase₁ x in
    let x₂ = steps_typed tables (λ k. Unit) pure Reduction q.phase₂ x₁ in
    let o = kept_ops pure q.phase₂ (inserted pure q.inserted (last_step pure Insertion q.phase₁)) in
    record { typed = x₂; form = in_form tables (λ k. Unit) pure x₂ o (last_step pure Reduction q.phase₂) }

pub last : (tables : Tables) (pure : Term → Bool) (A : ℕ) (t u : Term) → infer tables t tables.inputs ≡ some A → Sequence pure t u
    → Last tables pure A u
last tables pure A t u e q =
    let b = after_reduction tables pure A t u e q in
    let f = kept_form pure q.phase₃ b.form in
    record {
      type = typed_infer tables (λ k. Unit) (steps_typed tables (λ k. Unit) pure Dropping q.phase₃ b.typed);
      form = f;
      normal = no_rule pure u (no_insertion pure f) (no_reduction pure f)
          (last_step pure Dropping q.phase₃);
    }

-- the claim, of a reduction sequence
record Parts (tables : Tables) (A : ℕ) (u : Term) : Type 0 where
  types : List ℕ
  are : node_types tables u tables.inputs ≡ some types
  each : (D : ℕ) → D ∈ types → Subformula tables A u D

parts : (tables : Tables) (A : ℕ) (u : Term) {o : Option (List ℕ)} → node_types tables u tables.inputs ≡ o
    → Listed (Subformula tables A u) o → Parts tables A u
parts tables A u e (listed {As = As} h) = record { types = As; are = e; each = λ D i. all_at h i }

pub claim_of_sequence : (tables : Tables) (words : List ℕ) (A : ℕ) (t u : Term) → Earlier tables → Fitting tables
    → T (well_formed_words tables words) → decode tables.calls words ≡ some t
    → infer tables t tables.inputs ≡ some A → size u ≤ max_capacity → Sequence (may_drop tables.calls) t u
    → Claim tables words A (encode u)
claim_of_sequence tables words A t u wf fit w d e l q =
    let pure = may_drop tables.calls in
    let z = last tables pure A t u e q in
    let x = typing_of tables (λ k. k ∈ calls_in u) u tables.inputs A z.type (λ k i. i) in
    let p = parts tables A u refl (subformulas tables never u A x z.form) in
    let n = fit.inputs in
    record {
      source = t;
      normal = u;
      source_words = sym (encode-decode tables words w t d);
      normal_words = refl;
      source_decoded = d;
      normal_decoded = decode-words tables.calls u (shaped tables fit (λ k. k ∈ calls_in u) x (omega (arith, n, l)));
      sequence = q;
      source_type = e;
      normal_type = z.type;
      no_redex = z.normal;
      part_types = p.types;
      every_part = p.are;
      subformulas = p.each;
      same_runs = λ free ρ answer feed. same_runs tables wf A t free ρ answer feed q (after_reduction tables pure A t u e q).form
          (typing_of tables (λ k. k ∈ calls_in t) t tables.inputs A e (λ k i. i));
    }

-- what a reduction that came through says of the term it reached
pub record Came (pure : Term → Bool) (capacity : ℕ) (t u : Term) : Type 0 where
  pub sequence : Sequence pure t u
  pub fits : size u ≤ capacity

pub came : {pure : Term → Bool} {capacity : ℕ} {settings : Settings} {t : Term} {left : ℕ} {u : Term} {c : Counts}
    → Exact pure capacity settings t (reached left u c) → Came pure capacity t u
came {pure} {capacity} (normal q h a l d) = record { sequence = q; fits = reached_fits pure capacity (normal q h a l d) }

-- the claim holds of every accepted outcome
pub claim : (tables : Tables) (words : List ℕ) (capacity : ℕ) (settings : Settings) (x : TypedTerm) (left : ℕ) (u : Term) (counts : Counts)
    → capacity ≤ max_capacity
    → elaborate normalize_limit tables words ≡ accepted x
    → reduce (may_drop tables.calls) capacity settings x.term ≡ reached left u counts
    → Claim tables words x.type (encode u)
claim tables words capacity settings x left u counts h e r =
    let p = accepted_passed normalize_limit tables words x e in
    let pure = may_drop tables.calls in
    let g = came (subst (Exact pure capacity settings x.term) r (reduce_exact pure capacity settings x.term)) in
    claim_of_sequence tables words x.type x.term u (earlier tables p.types)
    (fitting normalize_limit tables words p.lengths p.calls) p.words' p.term p.type (omega (arith, h, g.fits))
    g.sequence
