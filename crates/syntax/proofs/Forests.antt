-- Words whose parts come out even stand for a forest.
use mathlib.Core.Path.{◌≡◌, refl, sym, ◌∙◌, ap, subst}
use mathlib.Core.List.{List, [], ◌∷◌}
use mathlib.Core.Option.{Option, some, none, map, some-injective, none-ne-some}
use Prim.Native.Nat.{ℕ, zero, suc, ◌+◌, ◌≤◌}
use native.Mathlib.Omega.{arith}
use lib.ListN.{length, get_elem?}
use Rattle.syntax.specs.Maybe.{◌>>=◌}
use Rattle.syntax.specs.Words.{kind_of, number_of, type_of}
use Rattle.syntax.specs.Tables.{arity, known_arity}
use Rattle.syntax.specs.Term.{Term, Terms, call, done, arg}
use Rattle.syntax.specs.Decoding.{leaf, unary, binary, ternary, split_forest, call_builder, builders, graft, decode_forest, single}
use Rattle.syntax.specs.Decoding.{decode}
use Rattle.syntax.specs.Kinds.{parts_of_kind}
use Rattle.syntax.specs.Parts.{known_parts, extent, part_end}
use Rattle.syntax.specs.Shaped.{count}
use Rattle.syntax.proofs.KnownParts.{known_parts_lem}

-- an answer: a forest of so many trees
pub record Gives (o : Option Terms) (m : ℕ) : Type 0 where
  pub trees : Terms
  pub is : o ≡ some trees
  pub many : count trees ≡ m

leaf_gives : (make : ℕ → ℕ → Term) (n A : ℕ) (ts : Terms) (m : ℕ) → count ts ≡ 0 + m → Gives (leaf make n A ts) (suc m)
unfolding leaf count
leaf_gives make n A ts m e = record { trees = arg (make n A) ts; is = refl; many = omega arith }

unary_gives : (make : ℕ → ℕ → Term → Term) (n A : ℕ) (ts : Terms) (m : ℕ) → count ts ≡ 1 + m → Gives (unary make n A ts) (suc m)
unfolding unary count
unary_gives make n A done m e = absurd (omega arith)
unary_gives make n A (arg a ts) m e = record { trees = arg (make n A a) ts; is = refl; many = omega arith }

binary_gives : (make : ℕ → ℕ → Term → Term → Term) (n A : ℕ) (ts : Terms) (m : ℕ) → count ts ≡ 2 + m → Gives (binary make n A ts) (suc m)
unfolding binary count
binary_gives make n A done m e = absurd (omega arith)
binary_gives make n A (arg a done) m e = absurd (omega arith)
binary_gives make n A (arg a (arg b ts)) m e = record { trees = arg (make n A a b) ts; is = refl; many = omega arith }

ternary_gives : (make : ℕ → ℕ → Term → Term → Term → Term) (n A : ℕ) (ts : Terms) (m : ℕ) → count ts ≡ 3 + m
    → Gives (ternary make n A ts) (suc m)
unfolding ternary count
ternary_gives make n A done m e = absurd (omega arith)
ternary_gives make n A (arg a done) m e = absurd (omega arith)
ternary_gives make n A (arg a (arg b done)) m e = absurd (omega arith)
ternary_gives make n A (arg a (arg b (arg c ts))) m e = record { trees = arg (make n A a b c) ts; is = refl; many = omega arith }

record Split (o : Option (Terms × Terms)) (m : ℕ) : Type 0 where
  front : Terms
  rest : Terms
  is : o ≡ some (front, rest)
  many : count rest ≡ m

split_gives : (n : ℕ) (ts : Terms) (m : ℕ) → count ts ≡ n + m → Split (split_forest n ts) m
unfolding split_forest count
split_gives zero ts m e = record { front = done; rest = ts; is = refl; many = omega arith }
split_gives (suc n) done m e = absurd (omega arith)
split_gives (suc n) (arg t ts) m e =
    let s = split_gives n ts m (omega arith) in
    record {
      front = arg t s.front;
      rest = s.rest;
      is = ap (λ (o : Option (Terms × Terms)). o >>= λ (f, r). some (arg t f, r)) s.is;
      many = s.many;
    }

pub one_fewer : (o : Option ℕ) (n : ℕ) → map suc o ≡ some (suc n) → o ≡ some n
one_fewer none n e = absurd (none-ne-some (suc n) e)
one_fewer (some m) n e = ap (λ (x : ℕ). some x) (omega (arith, some-injective (suc m) (suc n) e))

module _ (calls : List ℕ) where
  call_gives : (k A : ℕ) → known_arity calls k ≡ some (arity calls k) → (ts : Terms) (m : ℕ) → count ts ≡ arity calls k + m
      → Gives (call_builder calls k A ts) (suc m)
  unfolding call_builder count
  call_gives k A c ts m e =
      let s = split_gives (arity calls k) ts m e in
      record {
        trees = arg (call k s.front) s.rest;
        is = ap (λ (o : Option ℕ). o >>= λ n. split_forest n ts >>= λ (f, r). some (arg (call k f) r)) c
            ∙ ap (λ (o : Option (Terms × Terms)). o >>= λ (f, r). some (arg (call k f) r)) s.is;
        many = ap suc s.many;
      }

  -- a node of a known kind takes its parts from a forest that has them
  gives : (k n A : ℕ) → k ≤ 11 → (k ≡ 1 → known_arity calls n ≡ some (arity calls n)) → (ts : Terms) (m : ℕ)
      → count ts ≡ parts_of_kind (arity calls n) k + m
      → Gives (get_elem? (builders calls) k >>= λ build. build n A ts) (suc m)
  unfolding builders
  gives zero n A h c ts m e = leaf_gives _ n A ts m e
  gives (suc zero) n A h c ts m e = call_gives n A (c refl) ts m e
  gives (suc (suc zero)) n A h c ts m e = unary_gives _ n A ts m e
  gives (suc (suc (suc zero))) n A h c ts m e = binary_gives _ n A ts m e
  gives (suc (suc (suc (suc zero)))) n A h c ts m e = binary_gives _ n A ts m e
  gives (suc (suc (suc (suc (suc zero))))) n A h c ts m e = binary_gives _ n A ts m e
  gives (suc (suc (suc (suc (suc (suc zero)))))) n A h c ts m e = unary_gives _ n A ts m e
  gives (suc (suc (suc (suc (suc (suc (suc zero))))))) n A h c ts m e = unary_gives _ n A ts m e
  gives (suc (suc (suc (suc (suc (suc (suc (suc zero)))))))) n A h c ts m e = unary_gives _ n A ts m e
  gives (suc (suc (suc (suc (suc (suc (suc (suc (suc zero))))))))) n A h c ts m e = unary_gives _ n A ts m e
  gives (suc (suc (suc (suc (suc (suc (suc (suc (suc (suc zero)))))))))) n A h c ts m e = ternary_gives _ n A ts m e
  gives (suc (suc (suc (suc (suc (suc (suc (suc (suc (suc (suc zero))))))))))) n A h c ts m e = leaf_gives _ n A ts m e
  gives (suc (suc (suc (suc (suc (suc (suc (suc (suc (suc (suc (suc k)))))))))))) n A h c ts m e = absurd (omega arith)

  graft_after : (w : ℕ) (o : Option Terms) (ts : Terms) (m : ℕ) → o ≡ some ts → Gives (graft calls w ts) m → Gives (o >>= graft calls w) m
  graft_after w o ts m e g = subst (λ (p : Option Terms). Gives (p >>= graft calls w) m) (sym e) g

  -- words that are so many parts stand for so many trees
  pub even_forest : (ws : List ℕ) (n : ℕ) → extent calls ws n ≡ some (length ws) → Gives (decode_forest calls ws) n
  unfolding decode_forest extent count graft
  even_forest [] zero e = record { trees = done; is = refl; many = refl }
  even_forest [] (suc n) e = absurd (none-ne-some _ e)
  even_forest (w ∷ ws) zero e = absurd (omega (arith, some-injective 0 (suc (length ws)) e))
  even_forest (w ∷ ws) (suc n) e = go (known_parts calls w) refl e (even_forest ws)
    where
      go : (o : Option ℕ) → known_parts calls w ≡ o → (o >>= λ a. map suc (extent calls ws (a + n))) ≡ some (suc (length ws))
          → ((m : ℕ) → extent calls ws m ≡ some (length ws) → Gives (decode_forest calls ws) m)
          → Gives (decode_forest calls (w ∷ ws)) (suc n)
      go none d e' ih = absurd (none-ne-some _ e')
      go (some a) d e' ih =
          let k = known_parts_lem calls w a d in
          let g = ih (a + n) (one_fewer _ (length ws) e') in
          graft_after w _ g.trees (suc n) g.is
          (gives (kind_of w) (number_of w) (type_of w) k.kind k.call g.trees n (g.many ∙ ap (λ (x : ℕ). x + n) (sym k.parts)))

  one_tree : (ts : Terms) → count ts ≡ 1 → (single ts ≡ none → ⊥)
  unfolding count
  one_tree done e = absurd (omega arith)
  one_tree (arg t done) e = λ q. none-ne-some t (sym q)
  one_tree (arg t (arg u ts)) e = absurd (omega arith)

  -- words that are one part stand for a term
  pub even_term : (ws : List ℕ) → part_end calls ws ≡ some (length ws) → decode calls ws ≡ none → ⊥
  unfolding decode part_end
  even_term ws e q =
      let g = even_forest ws 1 e in
      one_tree g.trees g.many (sym (ap (λ (o : Option Terms). o >>= single) g.is) ∙ q)
