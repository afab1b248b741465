-- The refusals come in paper 01's order: the number of a refusal is that of the first place, in the list of places, that fails.
use mathlib.Core.Path.{◌≡◌, refl, subst⁻¹}
use mathlib.Core.Bool.{Bool, true, false}
use mathlib.Core.List.{List, [], ◌∷◌}
use mathlib.Core.Option.{Option, some, none}
use Prim.Native.Nat.{ℕ, suc, ◌+◌, ◌≤◌, ◌<◌}
use native.Mathlib.Omega.{arith}
use lib.ListN.{length}
use Rattle.syntax.specs.Maybe.{is_some}
use Rattle.syntax.specs.Tables.{Tables}
use Rattle.syntax.specs.Decoding.{decode}
use Rattle.syntax.proofs.Options.{Every, every_none, every_some, every_to}
use Rattle.typing.specs.Infer.{infer}
use Rattle.typing.specs.TableChecks.{lengths_fit, well_formed_types, distinct, well_formed_calls, well_formed_inputs}
use Rattle.typing.specs.TermChecks.{well_formed_words, scoped}
use Rattle.typing.specs.Refusals.{Verdict, refused, accepted, ◌>>=◌, require, provide, elaborate}

-- whether there is an answer that passes a test
abbrev pub holds : {X : Type 0} → (X → Bool) → Option X → Bool
holds test none = false
holds test (some x) = test x

-- the nine places in paper 01's order, each asked of its whole table; 8 and 9 are asked of the term that the words decode to
abbrev pub places : ℕ → Tables → List ℕ → List Bool
places limit tables words =
    lengths_fit limit tables words
    ∷ well_formed_types 0 tables.types
    ∷ distinct tables.types
    ∷ well_formed_calls tables
    ∷ well_formed_inputs tables
    ∷ well_formed_words tables words
    ∷ is_some (decode tables.calls words)
    ∷ holds (scoped tables) (decode tables.calls words)
    ∷ holds (λ t. is_some (infer tables t tables.inputs)) (decode tables.calls words)
    ∷ []

-- the number of the first place that fails, counted from n
abbrev pub first_failure : ℕ → List Bool → Option ℕ
first_failure n [] = none
first_failure n (true ∷ bs) = first_failure (suc n) bs
first_failure n (false ∷ bs) = some n

-- the number of a refusal
abbrev pub refusal_of : {X : Type 0} → Verdict X → Option ℕ
refusal_of (refused n) = some n
refusal_of (accepted x) = none

-- a verdict refuses with the number of the first of these places that fails, and accepts if none does
pub record Ordered {X : Type 0} (n : ℕ) (bs : List Bool) (v : Verdict X) : Type 0 where
  pub told : refusal_of v ≡ first_failure n bs

required : {X : Type 0} (n : ℕ) (b : Bool) (f : Bool → Verdict X) {bs : List Bool}
    → Ordered (suc n) bs (f true) → Ordered n (b ∷ bs) (require n b >>= f)
required n true f h = record { told = h.told }
required n false f h = record { told = refl }

-- the same of the first test of a longer place
begun : {X Y : Type 0} (n : ℕ) (b : Bool) (g : Bool → Verdict X) (f : X → Verdict Y) {bs : List Bool}
    → Ordered (suc n) bs (g true >>= f) → Ordered n (b ∷ bs) (require n b >>= g >>= f)
begun n true g f h = record { told = h.told }
begun n false g f h = record { told = refl }

provided : {X Y : Type 0} (n : ℕ) (o : Option X) (f : X → Verdict Y) (bs : Option X → List Bool)
    → ((x : X) → Ordered (suc n) (bs (some x)) (f x)) → Ordered n (is_some o ∷ bs o) (provide n o >>= f)
provided n none f bs h = record { told = refl }
provided n (some x) f bs h = record { told = (h x).told }

pub refusal_order : (limit : ℕ) (tables : Tables) (words : List ℕ) → Ordered 1 (places limit tables words) (elaborate limit tables words)
unfolding elaborate well_formed_words
refusal_order limit tables words =
    required 1 (lengths_fit limit tables words) _
    (begun 2 (well_formed_types 0 tables.types) _ _
    (begun 3 (distinct tables.types) _ _
    (begun 4 (well_formed_calls tables) _ _
    (required 5 (well_formed_inputs tables) _
    (required 6 (well_formed_words tables words) _
    (provided 7 (decode tables.calls words) _
    (λ o. holds (scoped tables) o ∷ holds (λ t. is_some (infer tables t tables.inputs)) o ∷ [])
    (λ t. required 8 (scoped tables t) _
    (provided 9 (infer tables t tables.inputs) _ (λ o. []) (λ A. record { told = refl })))))))))

-- there are nine places, so the number is at most 9
failure_below : (n : ℕ) (bs : List Bool) → Every (λ m. m < n + length bs) (first_failure n bs)
failure_below n [] = every_none
failure_below n (true ∷ bs) = every_to (λ m h. omega (arith, h)) (failure_below (suc n) bs)
failure_below n (false ∷ bs) = every_some {x = n} (omega arith)

pub refusal_below : (limit : ℕ) (tables : Tables) (words : List ℕ) → Every (λ n. n ≤ 9) (refusal_of (elaborate limit tables words))
refusal_below limit tables words = subst⁻¹ (Every (λ n. n ≤ 9)) (refusal_order limit tables words).told
    (every_to (λ n h. omega (arith, h)) (failure_below 1 (places limit tables words)))
