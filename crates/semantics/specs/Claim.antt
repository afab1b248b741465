-- Demand 3 as one claim, about the words handed in, their type, and the words handed back.
use Rattle.std.specs.Prelude.{ℕ, ◌≡◌, true, List}
use Rattle.std.proofs.Math.Option.{some}
use Rattle.syntax.specs.Tables.{Tables, Signature, signature, acts}
use Rattle.syntax.specs.Term.{Term}
use Rattle.syntax.specs.Encoding.{encode}
use Rattle.syntax.specs.Decoding.{decode}
use Rattle.typing.specs.Infer.{infer}
use Rattle.typing.specs.NodeTypes.{node_types}
use Rattle.reduction.specs.MayDrop.{may_drop}
use Rattle.reduction.specs.Sequence.{Sequence, before_dropping}
use Rattle.reduction.specs.NormalForm.{is_normal}
use Rattle.syntax.specs.Lists.{◌∈◌, Sublist, filter}
use Rattle.semantics.specs.Value.{Value, Values, Trace}
use Rattle.semantics.specs.Run.{Ends}
use Rattle.semantics.specs.ValueTypes.{HasType, HaveTypes}
use Rattle.syntax.specs.Calls.{calls_in}
use Rattle.semantics.specs.TypeParts.{PartOf, FunctionFree, CallType}

module _ (tables : Tables) where
  -- D is part of the type of the result, of an input, or of an argument or the result of a call that the term names
  pub data Subformula (result : ℕ) (u : Term) (D : ℕ) : Type 0 where
    of_result : PartOf tables D result → Subformula result u D
    of_input : {A : ℕ} → A ∈ tables.inputs → PartOf tables D A → Subformula result u D
    of_call : {A : ℕ} → CallType tables u A → PartOf tables D A → Subformula result u D

  -- the types of the inputs, of the result and of every call that the term names are free of functions
  pub record FirstOrder (result : ℕ) (t : Term) : Type 0 where
    pub inputs : (A : ℕ) → A ∈ tables.inputs → FunctionFree tables A
    pub result' : FunctionFree tables result
    pub calls : (A : ℕ) → CallType tables t A → FunctionFree tables A

  -- a run's feed: for each input a value of its type; for each call that the term names, on arguments of their types, an answer of its
  -- result type
  pub record Feed (t : Term) (ρ : Values) (answer : ℕ → Values → Value) : Type 0 where
    pub inputs : HaveTypes tables tables.inputs ρ
    pub answers : (k : ℕ) (s : Signature) → k ∈ calls_in t → signature tables k ≡ some s
        → (vs : Values) → HaveTypes tables s.arguments vs → HasType tables s.result (answer k vs)

-- the acting calls of a trace, each of them, in order
abbrev pub acting_calls : List ℕ → Trace → Trace
acting_calls calls trace = filter (λ c. acts calls c.number) trace

-- the runs of the source t, of the normal form u and of the terms ts between, over the same call table and feed
pub record SameRuns (calls : List ℕ) (answer : ℕ → Values → Value) (ρ : Values) (t u : Term) (ts : List Term) : Type 0 where
  pub value : Value
  pub trace : Trace
  pub trace' : Trace
  -- a run of the source and a run of the normal form both end, with the same answer
  pub source_ends : Ends answer ρ t value trace
  pub normal_ends : Ends answer ρ u value trace'
  -- the normal form's list of calls is a sublist of the source's
  pub calls_struck : Sublist trace' trace
  -- the acting calls among them are the source's, each of them, in order
  pub acting_kept : acting_calls calls trace' ≡ acting_calls calls trace
  -- a run of each term between ends with that same answer and exactly the source's list of calls
  pub between_ends : (w : Term) → w ∈ ts → Ends answer ρ w value trace

-- Demand 3 of the source words `words` of type A, normalized to the words `result`.
pub record Claim (tables : Tables) (words : List ℕ) (A : ℕ) (result : List ℕ) : Type 0 where
  -- the terms that the words stand for, and no others: the words decode to them and are their encodings
  pub source : Term
  pub normal : Term
  pub source_words : words ≡ encode source
  pub normal_words : result ≡ encode normal
  pub source_decoded : decode tables.calls words ≡ some source
  pub normal_decoded : decode tables.calls result ≡ some normal
  -- the normal form is the last term of the reduction sequence of the source
  pub sequence : Sequence (may_drop tables.calls) source normal
  -- it has the source's type
  pub source_type : infer tables source tables.inputs ≡ some A
  pub normal_type : infer tables normal tables.inputs ≡ some A
  -- no rule fits anywhere in it
  pub no_redex : is_normal (may_drop tables.calls) normal ≡ true
  -- every node has a type, and it is a subformula: part of the type of the result, of an input, or of a call that the normal form names
  pub part_types : List ℕ
  pub every_part : node_types tables normal tables.inputs ≡ some part_types
  pub subformulas : (D : ℕ) → D ∈ part_types → Subformula tables A normal D
  -- where those types are free of functions the runs agree, for all inputs and all answers: those of the source, of the normal form, and of
  -- each term that phases 1 and 2 go through, the last one included
  pub same_runs : FirstOrder tables A source → (ρ : Values) (answer : ℕ → Values → Value) → Feed tables source ρ answer
      → SameRuns tables.calls answer ρ source normal (before_dropping (may_drop tables.calls) sequence)
