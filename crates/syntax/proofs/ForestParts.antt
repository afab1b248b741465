-- Words that stand for a forest are as many parts as it has trees: each word takes its parts from the forest behind it, and is one tree. So
-- words that stand for a term are one part.
use mathlib.Core.Path.{◌≡◌, refl, sym, ◌∙◌, ap}
use mathlib.Core.List.{List, [], ◌∷◌}
use mathlib.Core.Option.{Option, some, none, map, some-injective, none-ne-some}
use Prim.Native.Nat.{ℕ, zero, suc, ◌+◌}
use native.Mathlib.Omega.{arith}
use lib.ListN.{length, get_elem?}
use Rattle.syntax.specs.Maybe.{◌>>=◌}
use Rattle.syntax.specs.Words.{kind_of, number_of, type_of}
use Rattle.syntax.specs.Tables.{known_arity}
use Rattle.syntax.specs.Term.{Term, Terms, call, done, arg}
use Rattle.syntax.specs.Decoding.{leaf, unary, binary, ternary, split_forest, call_builder, builders, graft, decode_forest, single}
use Rattle.syntax.specs.Decoding.{decode}
use Rattle.syntax.specs.Parts.{known_parts, extent, part_end}
use Rattle.syntax.specs.Shaped.{count}
use Rattle.syntax.proofs.KnownParts.{known_by}

-- a node whose number of parts is o makes us of ts: it takes its parts, and is a tree before those left
record Takes (o : Option ℕ) (ts us : Terms) : Type 0 where
  parts : ℕ
  left : ℕ
  is : o ≡ some parts
  taken : count ts ≡ parts + left
  made : count us ≡ suc left

leaf_takes : (make : ℕ → ℕ → Term) (n A : ℕ) (ts us : Terms) → leaf make n A ts ≡ some us → Takes (some 0) ts us
unfolding leaf count
leaf_takes make n A ts us e = record { parts = 0; left = count ts; is = refl; taken = omega arith; made = sym (ap count (some-injective _ us e)) }

unary_takes : (make : ℕ → ℕ → Term → Term) (n A : ℕ) (ts us : Terms) → unary make n A ts ≡ some us → Takes (some 1) ts us
unfolding unary count
unary_takes make n A done us e = absurd (none-ne-some us e)
unary_takes make n A (arg a ts) us e =
    record { parts = 1; left = count ts; is = refl; taken = omega arith; made = sym (ap count (some-injective _ us e)) }

binary_takes : (make : ℕ → ℕ → Term → Term → Term) (n A : ℕ) (ts us : Terms) → binary make n A ts ≡ some us → Takes (some 2) ts us
unfolding binary count
binary_takes make n A done us e = absurd (none-ne-some us e)
binary_takes make n A (arg a done) us e = absurd (none-ne-some us e)
binary_takes make n A (arg a (arg b ts)) us e =
    record { parts = 2; left = count ts; is = refl; taken = omega arith; made = sym (ap count (some-injective _ us e)) }

ternary_takes : (make : ℕ → ℕ → Term → Term → Term → Term) (n A : ℕ) (ts us : Terms) → ternary make n A ts ≡ some us
    → Takes (some 3) ts us
unfolding ternary count
ternary_takes make n A done us e = absurd (none-ne-some us e)
ternary_takes make n A (arg a done) us e = absurd (none-ne-some us e)
ternary_takes make n A (arg a (arg b done)) us e = absurd (none-ne-some us e)
ternary_takes make n A (arg a (arg b (arg c ts))) us e =
    record { parts = 3; left = count ts; is = refl; taken = omega arith; made = sym (ap count (some-injective _ us e)) }

split_count : (n : ℕ) (ts f r : Terms) → split_forest n ts ≡ some (f, r) → count ts ≡ n + count r
unfolding split_forest count
split_count zero ts f r e = omega (arith, ap (λ (p : Terms × Terms). count p.1) (some-injective (done, ts) (f, r) e))
split_count (suc n) done f r e = absurd (none-ne-some (f, r) e)
split_count (suc n) (arg t ts) f r e = go (split_forest n ts) refl e (split_count n ts)
  where
    go : (o : Option (Terms × Terms)) → split_forest n ts ≡ o → ◌>>=◌ {Y = Terms × Terms} o (λ (g, q). some (arg t g, q)) ≡ some (f, r)
        → ((g q : Terms) → split_forest n ts ≡ some (g, q) → count ts ≡ n + count q) → suc (count ts) ≡ suc n + count r
    go none d e' ih = absurd (none-ne-some (f, r) e')
    go (some (g, q)) d e' ih =
        omega (arith, ih g q d, ap (λ (p : Terms × Terms). count p.1) (some-injective (arg t g, q) (f, r) e'))

module _ (calls : List ℕ) where
  call_takes : (k A : ℕ) (ts us : Terms) → call_builder calls k A ts ≡ some us → Takes (known_by calls 1 k) ts us
  unfolding call_builder count
  call_takes k A ts us e = known (known_arity calls k) refl e
    where
      go : (n : ℕ) → known_arity calls k ≡ some n → (o : Option (Terms × Terms)) → split_forest n ts ≡ o
          → (o >>= λ (f, r). some (arg (call k f) r)) ≡ some us → Takes (known_by calls 1 k) ts us
      go n c none d e' = absurd (none-ne-some us e')
      go n c (some (f, r)) d e' = record {
        parts = n;
        left = count r;
        is = ap (λ (o : Option ℕ). o >>= λ a. some a) c;
        taken = split_count n ts f r d;
        made = sym (ap count (some-injective (arg (call k f) r) us e'));
      }

      known : (o : Option ℕ) → known_arity calls k ≡ o → (o >>= λ n. split_forest n ts >>= λ (f, r). some (arg (call k f) r)) ≡ some us
          → Takes (known_by calls 1 k) ts us
      known none c e' = absurd (none-ne-some us e')
      known (some n) c e' = go n c (split_forest n ts) refl e'

  takes : (k n A : ℕ) (ts us : Terms) → (get_elem? (builders calls) k >>= λ build. build n A ts) ≡ some us → Takes (known_by calls k n) ts us
  unfolding builders
  takes zero n A ts us e = leaf_takes _ n A ts us e
  takes (suc zero) n A ts us e = call_takes n A ts us e
  takes (suc (suc zero)) n A ts us e = unary_takes _ n A ts us e
  takes (suc (suc (suc zero))) n A ts us e = binary_takes _ n A ts us e
  takes (suc (suc (suc (suc zero)))) n A ts us e = binary_takes _ n A ts us e
  takes (suc (suc (suc (suc (suc zero))))) n A ts us e = binary_takes _ n A ts us e
  takes (suc (suc (suc (suc (suc (suc zero)))))) n A ts us e = unary_takes _ n A ts us e
  takes (suc (suc (suc (suc (suc (suc (suc zero))))))) n A ts us e = unary_takes _ n A ts us e
  takes (suc (suc (suc (suc (suc (suc (suc (suc zero)))))))) n A ts us e = unary_takes _ n A ts us e
  takes (suc (suc (suc (suc (suc (suc (suc (suc (suc zero))))))))) n A ts us e = unary_takes _ n A ts us e
  takes (suc (suc (suc (suc (suc (suc (suc (suc (suc (suc zero)))))))))) n A ts us e = ternary_takes _ n A ts us e
  takes (suc (suc (suc (suc (suc (suc (suc (suc (suc (suc (suc zero))))))))))) n A ts us e = leaf_takes _ n A ts us e
  takes (suc (suc (suc (suc (suc (suc (suc (suc (suc (suc (suc (suc k)))))))))))) n A ts us e = absurd (none-ne-some us e)

  -- words that stand for a forest are as many parts as it has trees
  pub forest_even : (ws : List ℕ) (us : Terms) → decode_forest calls ws ≡ some us → extent calls ws (count us) ≡ some (length ws)
  unfolding decode_forest extent graft known_parts count
  forest_even [] us e = ap (λ (n : ℕ). extent calls [] n) (sym (ap count (some-injective done us e)))
  forest_even (w ∷ ws) us e = go (decode_forest calls ws) refl e (forest_even ws)
    where
      go : (o : Option Terms) → decode_forest calls ws ≡ o → (o >>= graft calls w) ≡ some us
          → ((ts : Terms) → decode_forest calls ws ≡ some ts → extent calls ws (count ts) ≡ some (length ws))
          → extent calls (w ∷ ws) (count us) ≡ some (suc (length ws))
      go none d e' ih = absurd (none-ne-some us e')
      go (some ts) d e' ih =
          let t = takes (kind_of w) (number_of w) (type_of w) ts us e' in
          ap (extent calls (w ∷ ws)) t.made
          ∙ ap (λ (p : Option ℕ). p >>= λ a. map suc (extent calls ws (a + t.left))) t.is
          ∙ ap (λ (n : ℕ). map suc (extent calls ws n)) (sym t.taken) ∙ ap (map suc) (ih ts d)

  one_count : (ts : Terms) (t : Term) → single ts ≡ some t → count ts ≡ 1
  unfolding count
  one_count done t e = absurd (none-ne-some t e)
  one_count (arg u done) t e = refl
  one_count (arg u (arg v ts)) t e = absurd (none-ne-some t e)

  -- words that stand for a term are one part, and no more
  pub term_even : (ws : List ℕ) (t : Term) → decode calls ws ≡ some t → part_end calls ws ≡ some (length ws)
  unfolding decode part_end
  term_even ws t e = go (decode_forest calls ws) refl e
    where
      go : (o : Option Terms) → decode_forest calls ws ≡ o → (o >>= single) ≡ some t → extent calls ws 1 ≡ some (length ws)
      go none d e' = absurd (none-ne-some t e')
      go (some us) d e' = ap (extent calls ws) (sym (one_count us t e')) ∙ forest_even ws us d
