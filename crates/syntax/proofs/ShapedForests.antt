-- A forest that words stand for is shaped: words can hold it.
use mathlib.Core.Path.{◌≡◌, refl, ◌∙◌, ap, subst}
use mathlib.Core.List.{List, [], ◌∷◌}
use mathlib.Core.Option.{Option, some, none, some-injective, none-ne-some}
use Prim.Native.Nat.{ℕ, zero, suc, ◌^◌, ◌<◌}
use native.Mathlib.Omega.{arith}
use lib.ListN.{get_elem?}
use Rattle.syntax.specs.Maybe.{◌>>=◌}
use Rattle.syntax.specs.Words.{kind_of, number_of, type_of}
use Rattle.syntax.specs.Tables.{known_arity}
use Rattle.syntax.specs.Term.{Term, Terms, call, done, arg}
use Rattle.syntax.specs.Decoding.{leaf, unary, binary, ternary, split_forest, call_builder, builders, graft, decode_forest, single}
use Rattle.syntax.specs.Decoding.{decode}
use Rattle.syntax.specs.Shaped.{count, Shaped, ShapedAll}

-- a split takes the trees apart: as many as asked for, shaped if all were
record Taken (calls : List ℕ) (n : ℕ) (front rest : Terms) : Type 0 where
  many : n ≡ count front
  front_shaped : ShapedAll calls front
  rest_shaped : ShapedAll calls rest

module _ (calls : List ℕ) where
  -- a node over shaped trees is shaped
  abbrev Keeps : Option Terms → Type 0
  Keeps o = (us : Terms) → o ≡ some us → ShapedAll calls us

  told : (t : Terms) → ShapedAll calls t → Keeps (some t)
  told t s us e = subst (ShapedAll calls) (some-injective t us e) s

  untold : Keeps none
  untold us e = absurd (none-ne-some us e)

  leaf_keeps : (make : ℕ → ℕ → Term) (n A : ℕ) → Shaped calls (make n A) → (ts : Terms) → ShapedAll calls ts → Keeps (leaf make n A ts)
  unfolding leaf Shaped
  leaf_keeps make n A h ts s = told _ (h, s)

  unary_keeps : (make : ℕ → ℕ → Term → Term) (n A : ℕ) → ((a : Term) → Shaped calls a → Shaped calls (make n A a)) → (ts : Terms)
      → ShapedAll calls ts → Keeps (unary make n A ts)
  unfolding unary Shaped
  unary_keeps make n A h done s = untold
  unary_keeps make n A h (arg a ts) s = told _ (h a s.0, s.1)

  binary_keeps : (make : ℕ → ℕ → Term → Term → Term) (n A : ℕ)
      → ((a b : Term) → Shaped calls a → Shaped calls b → Shaped calls (make n A a b)) → (ts : Terms) → ShapedAll calls ts
      → Keeps (binary make n A ts)
  unfolding binary Shaped
  binary_keeps make n A h done s = untold
  binary_keeps make n A h (arg a done) s = untold
  binary_keeps make n A h (arg a (arg b ts)) s = told _ (h a b s.0 s.1.0, s.1.1)

  ternary_keeps : (make : ℕ → ℕ → Term → Term → Term → Term) (n A : ℕ)
      → ((a b c : Term) → Shaped calls a → Shaped calls b → Shaped calls c → Shaped calls (make n A a b c)) → (ts : Terms)
      → ShapedAll calls ts → Keeps (ternary make n A ts)
  unfolding ternary Shaped
  ternary_keeps make n A h done s = untold
  ternary_keeps make n A h (arg a done) s = untold
  ternary_keeps make n A h (arg a (arg b done)) s = untold
  ternary_keeps make n A h (arg a (arg b (arg c ts))) s = told _ (h a b c s.0 s.1.0 s.1.1.0, s.1.1.1)

  split_takes : (n : ℕ) (ts : Terms) → ShapedAll calls ts → (f r : Terms) → split_forest n ts ≡ some (f, r) → Taken calls n f r
  unfolding split_forest count Shaped
  split_takes zero ts s f r e =
      let q = some-injective (done, ts) (f, r) e in
      record {
        many = ap (λ (p : Terms × Terms). count p.0) q;
        front_shaped = subst (λ (p : Terms × Terms). ShapedAll calls p.0) q tt;
        rest_shaped = subst (λ (p : Terms × Terms). ShapedAll calls p.1) q s;
      }
  split_takes (suc n) done s f r e = absurd (none-ne-some (f, r) e)
  split_takes (suc n) (arg t ts) s f r e = go (split_forest n ts) refl e (split_takes n ts s.1)
    where
      go : (o : Option (Terms × Terms)) → split_forest n ts ≡ o → ◌>>=◌ {Y = Terms × Terms} o (λ (g, q). some (arg t g, q)) ≡ some (f, r)
          → ((g q : Terms) → split_forest n ts ≡ some (g, q) → Taken calls n g q) → Taken calls (suc n) f r
      go none d e' ih = absurd (none-ne-some (f, r) e')
      go (some (g, q)) d e' ih =
          let i = ih g q d in
          let p = some-injective (arg t g, q) (f, r) e' in
          record {
            many = ap suc i.many ∙ ap (λ (p : Terms × Terms). count p.0) p;
            front_shaped = subst (λ (p : Terms × Terms). ShapedAll calls p.0) p (s.0, i.front_shaped);
            rest_shaped = subst (λ (p : Terms × Terms). ShapedAll calls p.1) p i.rest_shaped;
          }

  call_keeps : (k A : ℕ) → k < 2 ^ 30 → (ts : Terms) → ShapedAll calls ts → Keeps (call_builder calls k A ts)
  unfolding call_builder Shaped
  call_keeps k A h ts s us e = known (known_arity calls k) refl e
    where
      go : (n : ℕ) → known_arity calls k ≡ some n → (o : Option (Terms × Terms)) → split_forest n ts ≡ o
          → (o >>= λ (f, r). some (arg (call k f) r)) ≡ some us → ShapedAll calls us
      go n c none d e' = absurd (none-ne-some us e')
      go n c (some (f, r)) d e' =
          let i = split_takes n ts s f r d in
          told (arg (call k f) r) ((h, c ∙ ap (λ (x : ℕ). some x) i.many, i.front_shaped), i.rest_shaped) us e'

      known : (o : Option ℕ) → known_arity calls k ≡ o → (o >>= λ n. split_forest n ts >>= λ (f, r). some (arg (call k f) r)) ≡ some us
          → ShapedAll calls us
      known none c e' = absurd (none-ne-some us e')
      known (some n) c e' = go n c (split_forest n ts) refl e'

  keeps : (k n A : ℕ) → n < 2 ^ 30 → A < 2 ^ 30 → (ts : Terms) → ShapedAll calls ts
      → Keeps (get_elem? (builders calls) k >>= λ build. build n A ts)
  unfolding builders Shaped
  keeps zero n A h g ts s = leaf_keeps _ n A h ts s
  keeps (suc zero) n A h g ts s = call_keeps n A h ts s
  keeps (suc (suc zero)) n A h g ts s = unary_keeps _ n A (λ a p. (g, p)) ts s
  keeps (suc (suc (suc zero))) n A h g ts s = binary_keeps _ n A (λ a b p q. (p, q)) ts s
  keeps (suc (suc (suc (suc zero)))) n A h g ts s = binary_keeps _ n A (λ a b p q. (p, q)) ts s
  keeps (suc (suc (suc (suc (suc zero))))) n A h g ts s = binary_keeps _ n A (λ a b p q. (g, p, q)) ts s
  keeps (suc (suc (suc (suc (suc (suc zero)))))) n A h g ts s = unary_keeps _ n A (λ a p. p) ts s
  keeps (suc (suc (suc (suc (suc (suc (suc zero))))))) n A h g ts s = unary_keeps _ n A (λ a p. p) ts s
  keeps (suc (suc (suc (suc (suc (suc (suc (suc zero)))))))) n A h g ts s = unary_keeps _ n A (λ a p. (g, p)) ts s
  keeps (suc (suc (suc (suc (suc (suc (suc (suc (suc zero))))))))) n A h g ts s = unary_keeps _ n A (λ a p. (g, p)) ts s
  keeps (suc (suc (suc (suc (suc (suc (suc (suc (suc (suc zero)))))))))) n A h g ts s = ternary_keeps _ n A (λ a b c p q r. (p, q, r)) ts s
  keeps (suc (suc (suc (suc (suc (suc (suc (suc (suc (suc (suc zero))))))))))) n A h g ts s = leaf_keeps _ n A g ts s
  keeps (suc (suc (suc (suc (suc (suc (suc (suc (suc (suc (suc (suc k)))))))))))) n A h g ts s = untold

  pub shaped_forest : (ws : List ℕ) (us : Terms) → decode_forest calls ws ≡ some us → ShapedAll calls us
  unfolding decode_forest graft Shaped
  shaped_forest [] us e = told done tt us e
  shaped_forest (w ∷ ws) us e = go (decode_forest calls ws) refl e (shaped_forest ws)
    where
      go : (o : Option Terms) → decode_forest calls ws ≡ o → (o >>= graft calls w) ≡ some us
          → ((ts : Terms) → decode_forest calls ws ≡ some ts → ShapedAll calls ts) → ShapedAll calls us
      go none d e' ih = absurd (none-ne-some us e')
      go (some ts) d e' ih = keeps (kind_of w) (number_of w) (type_of w) (omega arith) (omega arith) ts (ih ts d) us e'

  -- a term that words stand for is shaped
  pub shaped_term : (ws : List ℕ) (t : Term) → decode calls ws ≡ some t → Shaped calls t
  unfolding decode Shaped
  shaped_term ws t e = go (decode_forest calls ws) refl e
    where
      go : (o : Option Terms) → decode_forest calls ws ≡ o → (o >>= single) ≡ some t → Shaped calls t
      go none d e' = absurd (none-ne-some t e')
      go (some done) d e' = absurd (none-ne-some t e')
      go (some (arg u done)) d e' = subst (Shaped calls) (some-injective u t e') (shaped_forest ws (arg u done) d).0
      go (some (arg u (arg v us))) d e' = absurd (none-ne-some t e')
