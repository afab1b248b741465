-- Decoding as it was before it asked whether a call's number of arguments is known: a call took as many as its word said, and none past the
-- table. Words whose calls are known decode as they did.
use mathlib.Core.Path.{◌≡◌, refl, sym, ◌∙◌, ap}
use mathlib.Core.Bool.{Bool, true, false, cond}
use mathlib.Core.List.{List, [], ◌∷◌}
use mathlib.Core.Option.{Option, some, none}
use lib.Dec.{eqb}
use lib.ListN.{get_elem?}
use borrow.Author.Tests.{eqb-true}
use Prim.Native.Nat.{ℕ}
use Rattle.syntax.specs.Maybe.{◌>>=◌}
use Rattle.syntax.specs.Words.{kind_of, number_of, type_of}
use Rattle.syntax.specs.Tables.{arity, known_arity}
use Rattle.syntax.specs.Term.{Term, Terms, call, done, arg}
use Rattle.syntax.specs.Decoding.{Builder, split_forest, call_builder, builders, graft, decode_forest, single, decode}

module _ (calls : List ℕ) where
  abbrev former_call : Builder
  former_call k A ts = do
    (front, rest) ← split_forest (arity calls k) ts
    some (arg (call k front) rest)

  -- any other node is made as it was
  abbrev former_graft : ℕ → Terms → Option Terms
  former_graft w ts = cond (eqb (kind_of w) 1) (former_call (number_of w) (type_of w) ts) (graft calls w ts)

  unfoldable pub former_forest : List ℕ → Option Terms
  former_forest [] = some done
  former_forest (w ∷ ws) = former_forest ws >>= former_graft w

  abbrev pub former_decode : List ℕ → Option Term
  former_decode ws = former_forest ws >>= single

  -- the number of arguments of each call is known
  unfoldable pub CallsKnown : List ℕ → Type 0
  CallsKnown [] = Unit
  CallsKnown (w ∷ ws) = (kind_of w ≡ 1 → known_arity calls (number_of w) ≡ some (arity calls (number_of w))) × CallsKnown ws

  graft_same : (w : ℕ) (ts : Terms) → (kind_of w ≡ 1 → known_arity calls (number_of w) ≡ some (arity calls (number_of w)))
      → former_graft w ts ≡ graft calls w ts
  unfolding graft builders call_builder
  graft_same w ts h = go (eqb (kind_of w) 1) refl
    where
      go : (b : Bool) → eqb (kind_of w) 1 ≡ b → cond b (former_call (number_of w) (type_of w) ts) (graft calls w ts) ≡ graft calls w ts
      go false e = refl
      go true e =
          let z = eqb-true (kind_of w) 1 e in
          sym
          (ap (λ (k : ℕ). get_elem? (builders calls) k >>= λ build. build (number_of w) (type_of w) ts) z
          ∙ ap (λ (o : Option ℕ). o >>= λ n. split_forest n ts >>= λ (front, rest). some (arg (call (number_of w) front) rest)) (h z))

  forest_same : (ws : List ℕ) → CallsKnown ws → former_forest ws ≡ decode_forest calls ws
  unfolding former_forest decode_forest CallsKnown
  forest_same [] h = refl
  forest_same (w ∷ ws) h = ap (λ (o : Option Terms). o >>= former_graft w) (forest_same ws h.1) ∙ go (decode_forest calls ws)
    where
      go : (o : Option Terms) → (o >>= former_graft w) ≡ (o >>= graft calls w)
      go none = refl
      go (some ts) = graft_same w ts h.0

  pub decode_same : (ws : List ℕ) → CallsKnown ws → former_decode ws ≡ decode calls ws
  unfolding decode
  decode_same ws h = ap (λ (o : Option Terms). o >>= single) (forest_same ws h)
