-- When the values of two runs count as the same, by type: numbers are equal, units are units, pairs and injections are related part by
-- part, and functions take related values to runs that end with related values and traces.
use mathlib.Core.Path.{◌≡◌, sym, subst}
use mathlib.Core.List.{List, [], ◌∷◌, ◌++◌}
use mathlib.Core.Option.{some}
use Prim.Native.Nat.{ℕ, suc}
use Rattle.syntax.specs.Tables.{Tables, arrow, product, sum, unit_type, components, Signature}
use Rattle.syntax.specs.Term.{Term, Terms}
use Rattle.semantics.specs.Value.{Value, Values, num, tuple, left, right, trivial, empty, also, Call, Trace}
use Rattle.semantics.specs.Run.{Ends}
use Rattle.typing.proofs.Typing.{Of, Signed}
use Rattle.typing.proofs.Trees.{Ty, void, number, function, both, either, unit_tree, shape, ty, Earlier, ty_is}
use Rattle.theory.proofs.Ends.{EndsAll, Enters}

pub data Nums : Value → Value → Type 0 where
  nums : (n : ℕ) → Nums (num n) (num n)

pub data Pairs (R S : Value → Value → Type 0) : Value → Value → Type 0 where
  pairs : {a b c d : Value} → R a c → S b d → Pairs R S (tuple a b) (tuple c d)

pub data Sums (R S : Value → Value → Type 0) : Value → Value → Type 0 where
  lefts : {a b : Value} → R a b → Sums R S (left a) (left b)
  rights : {a b : Value} → S a b → Sums R S (right a) (right b)

pub data Units : Value → Value → Type 0 where
  units : Units trivial trivial

-- two runs end with values that R relates and traces that C relates
pub record Both (C : Trace → Trace → Type 0) (R : Value → Value → Type 0) (P Q : Value → Trace → Type 0) : Type 0 where
  pub v : Value
  pub w : Value
  pub c : Trace
  pub d : Trace
  pub p : P v c
  pub q : Q w d
  pub calls : C c d
  pub vals : R v w

module _ (answer : ℕ → Values → Value) (C : Trace → Trace → Type 0) where
  unfoldable pub Related : Ty → Value → Value → Type 0
  Related void v w = ⊥
  Related (number n) v w = Nums v w
  Related (function A B) v w = (a b : Value) → Related A a b → Both C (Related B) (Enters answer v a) (Enters answer w b)
  Related (both A B) v w = Pairs (Related A) (Related B) v w
  Related (either A B) v w = Sums (Related A) (Related B) v w
  Related unit_tree v w = Units v w

-- v and w are related at the type A
pub record Rel (tables : Tables) (answer : ℕ → Values → Value) (C : Trace → Trace → Type 0) (A : ℕ) (v w : Value) : Type 0 where
  pub rel : Related answer C (ty tables A) v w

-- two lists of values, related one by one
pub data All (R : ℕ → Value → Value → Type 0) : List ℕ → Values → Values → Type 0 where
  all_none : All R [] empty empty
  all_more : {A : ℕ} {As : List ℕ} {v w : Value} {vs ws : Values} → R A v w → All R As vs ws → All R (A ∷ As) (also v vs) (also w ws)

-- All that the relation is over: tables whose types are trees, which calls may be made, what answers them, a relation on traces with its
-- laws, and that related arguments of a call are equal and answered by related values.
pub record Model : Type 1 where
  pub tables : Tables
  pub wf : Earlier tables
  pub ok : ℕ → Type 0
  pub answer : ℕ → Values → Value
  pub C : Trace → Trace → Type 0
  pub none : C [] []
  pub one : (m : Call) → C (m ∷ []) (m ∷ [])
  pub join : {a b c d : Trace} → C a b → C c d → C (a ++ c) (b ++ d)
  pub answers : (k : ℕ) → ok k → (s : Signature) → Signed tables k s → (vs ws : Values)
      → All (Rel tables answer C) s.arguments vs ws → (vs ≡ ws) × Rel tables answer C s.result (answer k vs) (answer k ws)

module _ (M : Model) where
  abbrev pub Rv : ℕ → Value → Value → Type 0
  Rv = Rel M.tables M.answer M.C

  abbrev pub Runs : Values → Term → Value → Trace → Type 0
  Runs = Ends M.answer

  -- t over ρ and t' over ρ' end with related values and traces
  pub record E (A : ℕ) (ρ : Values) (t : Term) (ρ' : Values) (t' : Term) : Type 0 where
    pub v : Value
    pub w : Value
    pub c : Trace
    pub d : Trace
    pub p : Ends M.answer ρ t v c
    pub q : Ends M.answer ρ' t' w d
    pub calls : M.C c d
    pub vals : Rv A v w

  pub record EAll (As : List ℕ) (ρ : Values) (ts : Terms) (ρ' : Values) (ts' : Terms) : Type 0 where
    pub v : Values
    pub w : Values
    pub c : Trace
    pub d : Trace
    pub p : EndsAll M.answer ρ ts v c
    pub q : EndsAll M.answer ρ' ts' w d
    pub calls : M.C c d
    pub vals : All Rv As v w

  -- the values v and w, applied to a and b, end with related values and traces
  pub record Applied (B : ℕ) (v a w b : Value) : Type 0 where
    pub x : Value
    pub y : Value
    pub c : Trace
    pub d : Trace
    pub p : Enters M.answer v a x c
    pub q : Enters M.answer w b y d
    pub calls : M.C c d
    pub vals : Rv B x y

  -- each of the three, from its runs; their values and traces are those that the runs end with
  module _ {c d : Trace} where
    pub ends_related : {A : ℕ} {ρ ρ' : Values} {t t' : Term} {v w : Value} → Runs ρ t v c → Runs ρ' t' w d → M.C c d → Rv A v w
        → E A ρ t ρ' t'
    ends_related {v = v} {w = w} p q k r = record { v = v; w = w; c = c; d = d; p = p; q = q; calls = k; vals = r }

    pub ends_related_all : {As : List ℕ} {ρ ρ' : Values} {ts ts' : Terms} {vs ws : Values} → EndsAll M.answer ρ ts vs c
        → EndsAll M.answer ρ' ts' ws d → M.C c d → All Rv As vs ws → EAll As ρ ts ρ' ts'
    ends_related_all {vs = vs} {ws = ws} p q k r = record { v = vs; w = ws; c = c; d = d; p = p; q = q; calls = k; vals = r }

    pub enters_related : {B : ℕ} {v a w b x y : Value} → Enters M.answer v a x c → Enters M.answer w b y d → M.C c d → Rv B x y
        → Applied B v a w b
    enters_related {x = x} {y = y} p q k r = record { x = x; y = y; c = c; d = d; p = p; q = q; calls = k; vals = r }

  -- a call with the same arguments on both sides
  pub one_call : (k : ℕ) {vs ws : Values} → vs ≡ ws
      → M.C (record { number = k; arguments = vs } ∷ []) (record { number = k; arguments = ws } ∷ [])
  one_call k {vs} e = subst (λ (x : Values). M.C (record { number = k; arguments = vs } ∷ []) (record { number = k; arguments = x } ∷ []))
      e (M.one (record { number = k; arguments = vs }))

  -- the relation at a type, by the type's parts
  module _ {F A B : ℕ} {v w : Value} where
    at : (k : ℕ) → components M.tables (suc k) F ≡ some (A, B) → Rv F v w
        → Related M.answer M.C (shape (suc k) A (ty M.tables A) (ty M.tables B)) v w
    at k e r = subst (λ (X : Ty). Related M.answer M.C X v w) (ty_is M.tables M.wf k F A B e) r.rel

    to : (k : ℕ) → components M.tables (suc k) F ≡ some (A, B)
        → Related M.answer M.C (shape (suc k) A (ty M.tables A) (ty M.tables B)) v w → Rv F v w
    to k e r = record { rel = subst (λ (X : Ty). Related M.answer M.C X v w) (sym (ty_is M.tables M.wf k F A B e)) r }

    pub from_arrow : Of M.tables arrow F A B → Rv F v w → (a b : Value) → Rv A a b → Applied B v a w b
    unfolding Related shape
    from_arrow e r a b x = let y = at 0 e.is r a b x.rel
        in record { x = y.v; y = y.w; c = y.c; d = y.d; p = y.p; q = y.q; calls = y.calls; vals = record { rel = y.vals } }

    pub to_arrow : Of M.tables arrow F A B → ((a b : Value) → Rv A a b → Applied B v a w b) → Rv F v w
    unfolding Related shape
    to_arrow e h = to 0 e.is λ a b x. let y = h a b (record { rel = x })
        in record { v = y.x; w = y.y; c = y.c; d = y.d; p = y.p; q = y.q; calls = y.calls; vals = y.vals.rel }

    pub from_product : Of M.tables product F A B → Rv F v w → Pairs (Rv A) (Rv B) v w
    unfolding Related shape
    from_product e r = go (at 1 e.is r)
      where
        go : {x y : Value} → Pairs (Related M.answer M.C (ty M.tables A)) (Related M.answer M.C (ty M.tables B)) x y
            → Pairs (Rv A) (Rv B) x y
        go (pairs r s) = pairs (record { rel = r }) (record { rel = s })

    pub to_product : Of M.tables product F A B → Pairs (Rv A) (Rv B) v w → Rv F v w
    unfolding Related shape
    to_product e h = to 1 e.is (go h)
      where
        go : {x y : Value} → Pairs (Rv A) (Rv B) x y
            → Pairs (Related M.answer M.C (ty M.tables A)) (Related M.answer M.C (ty M.tables B)) x y
        go (pairs r s) = pairs r.rel s.rel

    pub from_sum : Of M.tables sum F A B → Rv F v w → Sums (Rv A) (Rv B) v w
    unfolding Related shape
    from_sum e r = go (at 2 e.is r)
      where
        go : {x y : Value} → Sums (Related M.answer M.C (ty M.tables A)) (Related M.answer M.C (ty M.tables B)) x y
            → Sums (Rv A) (Rv B) x y
        go (lefts r) = lefts (record { rel = r })
        go (rights r) = rights (record { rel = r })

    pub to_sum : Of M.tables sum F A B → Sums (Rv A) (Rv B) v w → Rv F v w
    unfolding Related shape
    to_sum e h = to 2 e.is (go h)
      where
        go : {x y : Value} → Sums (Rv A) (Rv B) x y
            → Sums (Related M.answer M.C (ty M.tables A)) (Related M.answer M.C (ty M.tables B)) x y
        go (lefts r) = lefts r.rel
        go (rights r) = rights r.rel

    pub to_unit : Of M.tables unit_type F A B → Units v w → Rv F v w
    unfolding Related shape
    to_unit e h = to 3 e.is h
