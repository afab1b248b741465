-- A typed term that is not too long can be held in words: its types and calls are in the tables, and its variables count binders or inputs.
use mathlib.Core.Path.{◌≡◌, refl, sym, ◌∙◌, ap, subst}
use mathlib.Core.Bool.{Bool}
use mathlib.Core.List.{List, [], ◌∷◌, ◌++◌}
use mathlib.Core.Option.{Option, some, none, some-injective, none-ne-some}
use lib.Dec.{T, leb, eqb, leb→le, ltb→lt}
use lib.ListN.{length, length-append, length-take, get_elem?}
use borrow.Author.Tests.{le-leb}
use Prim.Native.Nat.{ℕ, zero, suc, ◌+◌, ◌^◌, ◌≤◌, ◌<◌, min}
use native.Mathlib.Omega.{arith}
use Rattle.syntax.specs.Maybe.{◌>>=◌, given}
use Rattle.syntax.specs.Words.{arity_of, result_of, argument_fields, kind_of, left_of, right_of}
use Rattle.syntax.specs.Tables.{Tables, known_arity, Signature, signature_of}
use Rattle.syntax.specs.Term.{Term, Terms}
use Rattle.syntax.specs.Encoding.{encode, encode_all, size}
use Rattle.syntax.specs.Shaped.{count, Shaped, ShapedAll}
use Rattle.typing.specs.Infer.{Context}
use Rattle.typing.specs.TableChecks.{every, well_formed_call, well_formed_calls, lengths_fit}
use Rattle.typing.proofs.LengthsFit.{lengths_of_lem}
use Rattle.typing.proofs.CallCounts.{call_passes}
use Rattle.syntax.proofs.Options.{and_left, and_right}
use Rattle.typing.proofs.Typing.{Of, Signed, at_below, Typed, TypedAll, t_var, t_call, t_lam, t_app, t_bind, t_pair, t_fst, t_snd}
use Rattle.typing.proofs.Typing.{t_inl, t_inr, t_case, t_unit, t_done, t_arg}

pub below : {X : Type 0} (xs : List X) (n : ℕ) {x : X} → get_elem? xs n ≡ some x → n < length xs
below [] n {x} e = absurd (none-ne-some x e)
below (y ∷ ys) zero e = omega arith
below (y ∷ ys) (suc n) e = let h = below ys n e in omega (arith, h)

pub bind_some : {X Y : Type 0} (o : Option X) (f : X → Option Y) {y : Y} → (o >>= f) ≡ some y → (x : X) × (o ≡ some x) × (f x ≡ some y)
bind_some none f {y} e = absurd (none-ne-some y e)
bind_some (some x) f e = (x, refl, e)

-- what the tables are known to fit
pub record Fitting (tables : Tables) : Type 0 where
  pub types : length tables.types ≤ 1024
  pub calls : length tables.calls ≤ 1024
  pub inputs : length tables.inputs ≤ 256
  pub arities : (k w : ℕ) → get_elem? tables.calls k ≡ some w → arity_of w ≤ 3
  pub results : (k w : ℕ) → get_elem? tables.calls k ≡ some w → result_of w < length tables.types

-- a type with parts, and a call, are in their tables
module _ (tables : Tables) where
  pub known_type : {k F A B : ℕ} → Of tables k F A B → F < length tables.types
  known_type {k} {F} o =
      let w = bind_some (get_elem? tables.types F) (λ w. given {X = ℕ × ℕ} (eqb (kind_of w) k) (left_of w, right_of w)) o.is in
      below tables.types F w.1

  pub known_call : {k : ℕ} {s : Signature} → Signed tables k s → k < length tables.calls
  known_call {k} e = below tables.calls k (bind_some (get_elem? tables.calls k) (λ w. some (signature_of w)) e.is).1

module _ (tables : Tables) (fit : Fitting tables) (ok : ℕ → Type 0) where
  type_below : {k F A B : ℕ} → Of tables k F A B → F < 2 ^ 30
  type_below o = omega (arith, known_type tables o, fit.types)

  counts_typed : {Γ : Context} {ts : Terms} {As : List ℕ} → TypedAll tables ok Γ ts As → count ts ≡ length As
  unfolding count
  counts_typed t_done = refl
  counts_typed (t_arg x xs) = ap (λ (n : ℕ). suc n) (counts_typed xs)

  call_fits : {Γ : Context} {k : ℕ} {ts : Terms} {s : Signature} → Signed tables k s → TypedAll tables ok Γ ts s.arguments → (k < 2 ^ 30)
      × (known_arity tables.calls k ≡ some (count ts))
  call_fits {Γ} {k} {ts} {s} e xs =
      let w = bind_some (get_elem? tables.calls k) (λ w. some (signature_of w)) e.is in
      let j = fit.arities k w.0 w.1 in
      let d = some-injective (signature_of w.0) s w.2 in (
        omega (arith, known_call tables e, fit.calls),
        ap (λ (o : Option ℕ). o >>= λ w. given (leb (arity_of w) 3) (arity_of w)) w.1
            ∙ ap (λ (b : Bool). given b (arity_of w.0)) (le-leb (arity_of w.0) 3 j)
            ∙ ap (λ (n : ℕ). some n)
            (min_is (arity_of w.0) j ∙ sym (length-take (arity_of w.0) (argument_fields w.0))
            ∙ ap (λ (s : Signature). length s.arguments) d ∙ sym (counts_typed xs)),
      )
    where
      min_is : (n : ℕ) → n ≤ 3 → n ≡ min n 3
      min_is n h = omega (arith, h)

  mutual
    unfolding Shaped encode size

    pub shaped : {Γ : Context} {t : Term} {A : ℕ} → Typed tables ok Γ t A → length Γ + size t ≤ 2 ^ 30 → Shaped tables.calls t
    shaped (t_var x) h = let i = at_below x in omega (arith, h, i)
    shaped (t_call z e d xs) h = let q = call_fits e xs in (q.0, q.1, shaped_all xs (omega (arith, h)))
    shaped (t_lam o x) h = (type_below o, shaped x (omega (arith, h)))
    shaped (t_app {f = f} {a = a} o x y) h = let i = length-append (encode f) (encode a)
        in (shaped x (omega (arith, h, i)), shaped y (omega (arith, h, i)))
    shaped (t_bind {e = e} {b = b} x y) h = let i = length-append (encode e) (encode b)
        in (shaped x (omega (arith, h, i)), shaped y (omega (arith, h, i)))
    shaped (t_pair {a = a} {b = b} o x y) h = let i = length-append (encode a) (encode b)
        in (type_below o, shaped x (omega (arith, h, i)), shaped y (omega (arith, h, i)))
    shaped (t_fst o x) h = shaped x (omega (arith, h))
    shaped (t_snd o x) h = shaped x (omega (arith, h))
    shaped (t_inl o x) h = (type_below o, shaped x (omega (arith, h)))
    shaped (t_inr o x) h = (type_below o, shaped x (omega (arith, h)))
    shaped (t_case {s = s} {l = l} {r = r} o x y z) h =
        let i = length-append (encode s) (encode l ++ encode r) in let j = length-append (encode l) (encode r) in
        (shaped x (omega (arith, h, i, j)), shaped y (omega (arith, h, i, j)), shaped z (omega (arith, h, i, j)))
    shaped (t_unit o) h = type_below o

    shaped_all : {Γ : Context} {ts : Terms} {As : List ℕ} → TypedAll tables ok Γ ts As → length Γ + length (encode_all ts) ≤ 2 ^ 30
        → ShapedAll tables.calls ts
    shaped_all t_done h = tt
    shaped_all (t_arg {t = t} {ts = ts} x xs) h = let i = length-append (encode t) (encode_all ts)
        in (shaped x (omega (arith, h, i)), shaped_all xs (omega (arith, h, i)))

-- an entry of a list passes a test that all of them pass
entry_passes : (test : ℕ → Bool) (ws : List ℕ) → T (every test ws) → (k w : ℕ) → get_elem? ws k ≡ some w → T (test w)
entry_passes test [] h k w e = absurd (none-ne-some w e)
entry_passes test (x ∷ ws) h zero w e = subst (λ (y : ℕ). T (test y)) (some-injective x w e) (and_left (test x) (every test ws) h)
entry_passes test (x ∷ ws) h (suc k) w e = entry_passes test ws (and_right (test x) (every test ws) h) k w e

-- checks 1 and 4 say that the tables fit
pub fitting : (limit : ℕ) (tables : Tables) (words : List ℕ) → T (lengths_fit limit tables words) → T (well_formed_calls tables)
    → Fitting tables
unfolding well_formed_calls
fitting limit tables words h k =
    let l = lengths_of_lem limit tables words h in
    let passes : (j w : ℕ) → get_elem? tables.calls j ≡ some w → (arity_of w ≤ 3) × (result_of w < length tables.types) =
    λ j w e.
    let c = call_passes (length tables.types) w (entry_passes (well_formed_call (length tables.types)) tables.calls k j w e) in
    (leb→le (arity_of w) 3 c.0, ltb→lt (result_of w) (length tables.types) c.1) in
    record {
      types = l.types;
      calls = l.calls;
      inputs = l.inputs;
      arities = λ j w e. (passes j w e).0;
      results = λ j w e. (passes j w e).1;
    }
