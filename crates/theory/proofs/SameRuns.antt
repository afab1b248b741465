-- The runs agree along the reduction: steps of phases 1 and 2 keep answer and trace, drops strike out calls that do not act.
-- At the result's type related means equal, and a run ends in one way, so steps chain with no transitivity of the relation.
use mathlib.Core.Path.{◌≡◌, refl, sym, ◌∙◌, ap₂, subst}
use mathlib.Core.Bool.{Bool}
use mathlib.Core.List.{List, [], ◌∷◌, ◌++◌, map}
use mathlib.Core.Option.{some}
use Prim.Native.Nat.{ℕ}
use Rattle.syntax.specs.Tables.{Tables, Signature}
use Rattle.syntax.specs.Term.{Term}
use Rattle.typing.specs.Infer.{Context}
use Rattle.reduction.specs.declared.Phase.{Phase}
use Rattle.reduction.specs.declared.Phase.TheVariants.{Insertion, Reduction, Dropping}
use Rattle.reduction.specs.Redex.{Step as Stepped, step}
use Rattle.reduction.specs.MayDrop.{may_drop}
use Rattle.reduction.specs.NormalForm.{Normal}
use Rattle.reduction.specs.Sequence.{Steps, ended, stepped, Sequence, before_dropping}
use Rattle.syntax.specs.Lists.{◌∈◌, here, there}
use Rattle.semantics.specs.Value.{Value, Values, Trace}
use Rattle.semantics.specs.Run.{answered, lookup, Ends}
use Rattle.semantics.specs.ValueTypes.{HaveTypes, one_more}
use Rattle.syntax.specs.Calls.{calls_in}
use Rattle.semantics.specs.TypeParts.{FunctionFree}
use Rattle.semantics.specs.Claim.{FirstOrder, Feed, SameRuns}
use Rattle.typing.proofs.Typing.{Signed, At, here as now, there as later, Typed}
use Rattle.typing.proofs.Trees.{Earlier}
use Rattle.theory.proofs.Ends.{ends_one}
use Rattle.theory.proofs.Relation.{Rel, All, Model, E}
use Rattle.theory.proofs.Fundamental.{Same, same}
use Rattle.theory.proofs.SoundReduce.{sound₂}
use Rattle.theory.proofs.SoundInsert.{sound₁}
use Rattle.theory.proofs.Forms.{never}
use Rattle.theory.proofs.FormsKept.{form_step}
use Rattle.theory.proofs.DropsOfOperations.{DropsOperation, form_drops}
use Rattle.theory.proofs.QuietOperations.{dropped_quiet}
use Rattle.theory.proofs.StruckTraces.{Struck, struck_refl, struck_join, struck_trans, struck_skip}
use Rattle.theory.proofs.SoundStep.{Strikes, sound₃, sounds}
use Rattle.reduction.proofs.Fits.{Root}
use Rattle.reduction.proofs.Search.{one_step}
use Rattle.reduction.proofs.AlongSequence.{in_either}
use Rattle.theory.proofs.TypesKept.{step_typed, steps_typed}
use Rattle.theory.proofs.FunctionFree.{free_equal, has_rel, all_equal, all_have}

abbrev Equal : Trace → Trace → Type 0
Equal c d = c ≡ d

module _ (tables : Tables) (wf : Earlier tables) (A : ℕ) (t₀ : Term) (free : FirstOrder tables A t₀) (ρ : Values)
    (answer : ℕ → Values → Value) (feed : Feed tables t₀ ρ answer) where
  -- what may be dropped, and how a drop changes the trace
  abbrev pure : Term → Bool
  pure = may_drop tables.calls

  abbrev StrikesOut : Trace → Trace → Type 0
  StrikesOut = Struck tables.calls

  abbrev Ok : ℕ → Type 0
  Ok k = k ∈ calls_in t₀

  answers : (C : Trace → Trace → Type 0) (k : ℕ) → Ok k → (s : Signature) → Signed tables k s → (vs ws : Values)
      → All (Rel tables answer C) s.arguments vs ws → (vs ≡ ws) × Rel tables answer C s.result (answer k vs) (answer k ws)
  answers C k i s e vs ws r =
      let f : (B : ℕ) → B ∈ s.arguments
      → FunctionFree tables B = λ B m. free.calls B (record { number = k; sign = s; occurs = i; listed = e.is; among = there m }) in
      let q = all_equal tables wf answer C f r in (
        q,
        subst (λ (x : Values). Rel tables answer C s.result (answer k vs) (answer k x)) q
            (has_rel tables wf answer C (feed.answers k s i e.is vs (all_have tables wf answer C f r))),
      )

  abbrev equal : Model
  equal = record {
    tables = tables;
    wf = wf;
    ok = Ok;
    answer = answer;
    C = Equal;
    none = refl;
    one = λ m. refl;
    join = λ p q. ap₂ ◌++◌ p q;
    answers = answers Equal;
  }

  abbrev striking : Model
  striking = record {
    tables = tables;
    wf = wf;
    ok = Ok;
    answer = answer;
    C = StrikesOut;
    none = struck_refl tables.calls [];
    one = λ m. struck_refl tables.calls (m ∷ []);
    join = struck_join tables.calls;
    answers = answers StrikesOut;
  }

  -- the inputs' values are related to themselves
  held : (C : Trace → Trace → Type 0) {Γ : Context} {n B : ℕ} {σ : Values} → At Γ n B → HaveTypes tables Γ σ → (v : Value)
      × (lookup σ n ≡ answered v) × Rel tables answer C B v v
  unfolding lookup
  held C now (one_more {v = v} h hs) = (v, refl, has_rel tables wf answer C h)
  held C (later x) (one_more h hs) = held C x hs

  same_equal : Same equal tables.inputs ρ ρ
  same_equal = record {
    at = λ n B x. let b = held Equal x feed.inputs
        in record { v = b.0; w = b.0; p = b.1; q = b.1; vals = b.2 };
  }

  same_striking : Same striking tables.inputs ρ ρ
  same_striking = record {
    at = λ n B x. let b = held StrikesOut x feed.inputs
        in record { v = b.0; w = b.0; p = b.1; q = b.1; vals = b.2 };
  }

  abbrev Has : Term → Type 0
  Has t = Typed tables Ok tables.inputs t A

  -- every typed term ends
  record Result (t : Term) : Type 0 where
    v : Value
    c : Trace
    ends : Ends answer ρ t v c

  ending : {t : Term} → Has t → Result t
  ending x = let e = same equal x same_equal in record { v = e.v; c = e.c; ends = e.p }

  -- phases 1 and 2
  data Keeps : Phase → Type 0 where
    in₁ : Keeps Insertion
    in₂ : Keeps Reduction

  sound_root : {phase : Phase} → Keeps phase → (t t' : Term) → Root pure phase t t' → (Γ : Context) (B : ℕ) (σ σ' : Values)
      → Typed tables Ok Γ t B → Same equal Γ σ σ' → E equal B σ t σ' t'
  sound_root in₁ t t' r Γ B σ σ' x o = sound₁ equal r x o
  sound_root in₂ t t' r Γ B σ σ' x o = sound₂ equal r x o

  along_one : {phase : Phase} → Keeps phase → (t : Term) (s : Stepped) {v : Value} {c : Trace} → step pure phase t ≡ some s → Has t
      → Ends answer ρ t v c → Ends answer ρ s.next v c
  along_one {phase} k t s {v} {c} e x r =
      let b = sounds equal (Root pure phase) (sound_root k) (one_step pure phase t s e) x same_equal in
      let i = ends_one answer b.p r in
      subst (λ (z : Trace). Ends answer ρ s.next v z) (sym b.calls ∙ i.1)
      (subst (λ (z : Value). Ends answer ρ s.next z b.d) (sym (free_equal tables wf answer Equal free.result' b.vals) ∙ i.0)
      b.q)

  record Along (u : Term) (ss : List Stepped) (v : Value) (c : Trace) : Type 0 where
    last : Ends answer ρ u v c
    each : (w : Term) → w ∈ map (λ s. s.next) ss → Ends answer ρ w v c

  none_in : {w : Term} → w ∈ [] → ⊥
  none_in = elim [ ]

  along : {phase : Phase} → Keeps phase → {t u : Term} {ss : List Stepped} {v : Value} {c : Trace} → Steps pure phase t ss u → Has t
      → Ends answer ρ t v c → Along u ss v c
  along k (ended e) x r = record { last = r; each = λ w i. absurd (none_in i) }
  along {phase} k {v = v} {c = c} (stepped {t = t} {s = s} {ss = ss} e q) x r =
      let n = along_one k t s e x r in
      let a = along k q (step_typed tables Ok pure phase t s e x) n in
      record { last = a.last; each = λ w i. go n a i }
    where
      go : {w : Term} {u : Term} → Ends answer ρ s.next v c → Along u ss v c → w ∈ map (λ s. s.next) (s ∷ ss) → Ends answer ρ w v c
      go n a here = n
      go {w = w} n a (there i) = a.each w i

  -- phase 3
  record Fewer (u : Term) (v : Value) (c : Trace) : Type 0 where
    d : Trace
    ends : Ends answer ρ u v d
    struck : StrikesOut c d

  strikes : Strikes striking pure
  strikes = record { strike = λ a c d o h r s. struck_skip tables.calls a (dropped_quiet tables.calls answer o h r) s }

  drop_one : (t : Term) (s : Stepped) {v : Value} {c : Trace} → step pure Dropping t ≡ some s → Normal never t → Has t
      → Ends answer ρ t v c → Fewer s.next v c
  drop_one t s {v} {c} e f x r =
      let b = sounds striking (DropsOperation pure) (λ t t' r Γ B σ σ' y o. sound₃ striking strikes r y o)
      (form_drops pure f (one_step pure Dropping t s e)) x same_striking in
      let i = ends_one answer b.p r in
      record {
        d = b.d;
        ends = subst (λ (z : Value). Ends answer ρ s.next z b.d)
            (sym (free_equal tables wf answer StrikesOut free.result' b.vals) ∙ i.0) b.q;
        struck = subst (λ (z : Trace). StrikesOut z b.d) i.1 b.calls;
      }

  drops : {t u : Term} {ss : List Stepped} {v : Value} {c : Trace} → Steps pure Dropping t ss u → Normal never t → Has t
      → Ends answer ρ t v c → Fewer u v c
  drops (ended e) f x r = record { d = _; ends = r; struck = struck_refl tables.calls _ }
  drops (stepped {t = t} {s = s} e q) f x r =
      let a = drop_one t s e f x r in
      let b = drops q (form_step pure f (one_step pure Dropping t s e)) (step_typed tables Ok pure Dropping t s e x) a.ends in
      record { d = b.d; ends = b.ends; struck = struck_trans tables.calls a.struck b.struck }

  -- phase 3 starts from a term whose lets bind one operation each
  pub same_runs : {u : Term} (q : Sequence pure t₀ u) → Normal never q.reduced → Has t₀
      → SameRuns tables.calls answer ρ t₀ u (before_dropping pure q)
  same_runs {u} q f x =
      let e = ending x in
      let a = along in₁ q.phase₁ x e.ends in
      let x₁ = steps_typed tables Ok pure Insertion q.phase₁ x in
      let b = along in₂ q.phase₂ x₁ a.last in
      let x₂ = steps_typed tables Ok pure Reduction q.phase₂ x₁ in
      let d = drops q.phase₃ f x₂ b.last in
      record {
        value = e.v;
        trace = e.c;
        trace' = d.d;
        source_ends = e.ends;
        normal_ends = d.ends;
        calls_struck = d.struck.sublist;
        acting_kept = d.struck.acting;
        between_ends = λ w i. go e a b i;
      }
    where
      go : (e : Result t₀) → Along q.inserted q.insertion e.v e.c → Along q.reduced q.reduction e.v e.c → {w : Term}
          → w ∈ (t₀ ∷ map (λ s. s.next) (q.insertion ++ q.reduction)) → Ends answer ρ w e.v e.c
      go e a b here = e.ends
      go e a b {w = w} (there i) = in_either w q.insertion q.reduction a.each b.each i
