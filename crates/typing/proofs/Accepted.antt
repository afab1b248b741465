-- What the checks accept has passed each of them; and a refusal is never 0.
use mathlib.Core.Path.{◌≡◌, refl, subst}
use mathlib.Core.Bool.{Bool, true, false}
use mathlib.Core.List.{List}
use mathlib.Core.Option.{Option, some, none}
use lib.Dec.{T}
use Prim.Native.Nat.{ℕ, suc}
use Rattle.syntax.specs.Tables.{Tables}
use Rattle.syntax.specs.Decoding.{decode}
use Rattle.syntax.proofs.Options.{is_true}
use Rattle.typing.specs.Infer.{infer}
use Rattle.typing.specs.TableChecks.{lengths_fit, well_formed_types, distinct, well_formed_calls, well_formed_inputs}
use Rattle.typing.specs.TermChecks.{well_formed_words, scoped}
use Rattle.typing.specs.Refusals.{Verdict, refused, accepted, ◌>>=◌, require, provide, TypedTerm, tables_place, elaborate}

-- an accepted verdict is of what passed
pub data Verdicts {X : Type 0} (P : X → Type 0) : Verdict X → Type 0 where
  refusal : (n : ℕ) → Verdicts P (refused (suc n))
  passed : {x : X} → P x → Verdicts P (accepted x)

-- what follows is asked of what passed
pub after : {X Y : Type 0} {P : X → Type 0} {Q : Y → Type 0} {v : Verdict X} (f : X → Verdict Y) → Verdicts P v
    → ((x : X) → P x → Verdicts Q (f x)) → Verdicts Q (v >>= f)
after f (refusal n) h = refusal n
after f (passed p) h = h _ p

pub required : (n : ℕ) (b : Bool) → Verdicts (λ _. T b) (require (suc n) b)
required n true = passed tt
required n false = refusal n

pub provided : {X : Type 0} (n : ℕ) (o : Option X) → Verdicts (λ x. o ≡ some x) (provide (suc n) o)
provided n none = refusal n
provided n (some x) = passed refl

-- what passed the places 2 to 5
pub record Formed (tables : Tables) : Type 0 where
  pub types : T (well_formed_types 0 tables.types)
  pub no_twice : T (distinct tables.types)
  pub calls : T (well_formed_calls tables)
  pub inputs : T (well_formed_inputs tables)

pub tables_formed : (tables : Tables) → Verdicts (λ _. Formed tables) (tables_place tables)
tables_formed tables =
    after _ (required 1 (well_formed_types 0 tables.types)) λ _ a.
    after _ (required 2 (distinct tables.types)) λ _ b.
    after _ (required 3 (well_formed_calls tables)) λ _ c.
    formed_by a b c (required 4 (well_formed_inputs tables))
  where
    formed_by : T (well_formed_types 0 tables.types) → T (distinct tables.types) → T (well_formed_calls tables)
        → {v : Verdict Bool} → Verdicts (λ _. T (well_formed_inputs tables)) v → Verdicts (λ _. Formed tables) v
    formed_by a b c (refusal n) = refusal n
    formed_by a b c (passed d) = passed (record { types = a; no_twice = b; calls = c; inputs = d })

-- what passed: each check
pub record Passed (limit : ℕ) (tables : Tables) (words : List ℕ) (x : TypedTerm) : Type 0 where
  pub lengths : T (lengths_fit limit tables words)
  pub types : T (well_formed_types 0 tables.types)
  pub no_twice : T (distinct tables.types)
  pub calls : T (well_formed_calls tables)
  pub inputs : T (well_formed_inputs tables)
  pub words' : T (well_formed_words tables words)
  pub term : decode tables.calls words ≡ some x.term
  pub in_scope : T (scoped tables x.term)
  pub type : infer tables x.term tables.inputs ≡ some x.type

pub elaborated : (limit : ℕ) (tables : Tables) (words : List ℕ) → Verdicts (Passed limit tables words) (elaborate limit tables words)
unfolding elaborate well_formed_words
elaborated limit tables words =
    after _ (required 0 (lengths_fit limit tables words)) λ _ a.
    after _ (tables_formed tables) λ _ f.
    after _ (required 5 (well_formed_words tables words)) λ _ w.
    after _ (provided 6 (decode tables.calls words)) λ t g.
    after _ (required 7 (scoped tables t)) λ _ h.
    after _ (provided 8 (infer tables t tables.inputs)) λ A i.
    passed (record {
      lengths = a;
      types = f.types;
      no_twice = f.no_twice;
      calls = f.calls;
      inputs = f.inputs;
      words' = w;
      term = g;
      in_scope = h;
      type = i;
    })

pub accepted_passed : (limit : ℕ) (tables : Tables) (words : List ℕ) (x : TypedTerm) → elaborate limit tables words ≡ accepted x
    → Passed limit tables words x
accepted_passed limit tables words x e = at (subst (Verdicts (Passed limit tables words)) e (elaborated limit tables words))
  where
    at : Verdicts (Passed limit tables words) (accepted x) → Passed limit tables words x
    at (passed p) = p

-- and what has passed each of them is accepted
pub passed_accepted : (limit : ℕ) (tables : Tables) (words : List ℕ) (x : TypedTerm) → Passed limit tables words x
    → elaborate limit tables words ≡ accepted x
unfolding elaborate well_formed_words
passed_accepted limit tables words x p =
    rw (
      is_true (lengths_fit limit tables words) p.lengths,
      is_true (well_formed_types 0 tables.types) p.types,
      is_true (distinct tables.types) p.no_twice,
      is_true (well_formed_calls tables) p.calls,
      is_true (well_formed_inputs tables) p.inputs,
      is_true (well_formed_words tables words) p.words',
      p.term,
      is_true (scoped tables x.term) p.in_scope,
      p.type,
    )
