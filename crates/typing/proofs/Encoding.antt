-- Words that pass check 6 and decode are the words of the term they stand for.
use mathlib.Core.Path.{◌≡◌, refl, sym, ◌∙◌, ap, ap₂}
use mathlib.Core.List.{List, [], ◌∷◌, ◌++◌, append_assoc, append-nil}
use mathlib.Core.Option.{Option, some, none, some-injective, none-ne-some}
use Prim.Native.Nat.{ℕ, zero, suc}
use native.Mathlib.Omega.{arith}
use lib.Dec.{T, ltb, eqb, eqb→eq}
use lib.ListN.{length, get_elem?}
use Rattle.syntax.specs.Maybe.{◌>>=◌}
use Rattle.syntax.specs.Words.{pack, kind_of, number_of, type_of}
use Rattle.syntax.specs.Tables.{Tables, known_arity}
use Rattle.syntax.specs.Term.{Term, Terms, var, call, lam, app, bind, pair, fst, snd, inl, inr, case, unit, done, arg, node}
use Rattle.syntax.specs.Encoding.{encode, encode_all}
use Rattle.syntax.specs.Decoding.{leaf, unary, binary, ternary, split_forest, call_builder, builders, graft, decode_forest, single}
use Rattle.syntax.specs.Decoding.{decode}
use Rattle.syntax.proofs.Options.{and_left, and_right}
use Rattle.typing.specs.TableChecks.{every}
use Rattle.typing.specs.TermChecks.{well_formed_fields, well_formed_word, well_formed_words}

-- a word is its fields
pub pack_fields : (w : ℕ) → pack (kind_of w) (number_of w) (type_of w) ≡ w
pack_fields w = omega arith

zero_field : (n : ℕ) → T (eqb n 0) → n ≡ 0
zero_field n h = eqb→eq n 0 h

-- what a builder made stands for its word before the words it took
abbrev Undone : Terms → Terms → ℕ → Type 0
Undone us ts w = encode_all us ≡ w ∷ encode_all ts

leaf_undone : (make : ℕ → ℕ → Term) (n A w : ℕ) (ts us : Terms) → leaf make n A ts ≡ some us → encode (make n A) ≡ w ∷ [] → Undone us ts w
unfolding leaf encode
leaf_undone make n A w ts us e h = ap encode_all (sym (some-injective _ us e)) ∙ ap (λ (x : List ℕ). x ++ encode_all ts) h

unary_undone : (make : ℕ → ℕ → Term → Term) (n A w : ℕ) (ts us : Terms) → unary make n A ts ≡ some us
    → ((a : Term) → encode (make n A a) ≡ w ∷ encode a) → Undone us ts w
unfolding unary encode
unary_undone make n A w done us e h = absurd (none-ne-some us e)
unary_undone make n A w (arg a ts) us e h = ap encode_all (sym (some-injective _ us e)) ∙ ap (λ (x : List ℕ). x ++ encode_all ts) (h a)

binary_undone : (make : ℕ → ℕ → Term → Term → Term) (n A w : ℕ) (ts us : Terms) → binary make n A ts ≡ some us
    → ((a b : Term) → encode (make n A a b) ≡ w ∷ (encode a ++ encode b)) → Undone us ts w
unfolding binary encode
binary_undone make n A w done us e h = absurd (none-ne-some us e)
binary_undone make n A w (arg a done) us e h = absurd (none-ne-some us e)
binary_undone make n A w (arg a (arg b ts)) us e h =
    ap encode_all (sym (some-injective _ us e)) ∙ ap (λ (x : List ℕ). x ++ encode_all ts) (h a b)
    ∙ ap {B = List ℕ} (λ x. w ∷ x) (append_assoc (encode a) (encode b) (encode_all ts))

ternary_undone : (make : ℕ → ℕ → Term → Term → Term → Term) (n A w : ℕ) (ts us : Terms) → ternary make n A ts ≡ some us
    → ((a b c : Term) → encode (make n A a b c) ≡ w ∷ (encode a ++ (encode b ++ encode c))) → Undone us ts w
unfolding ternary encode
ternary_undone make n A w done us e h = absurd (none-ne-some us e)
ternary_undone make n A w (arg a done) us e h = absurd (none-ne-some us e)
ternary_undone make n A w (arg a (arg b done)) us e h = absurd (none-ne-some us e)
ternary_undone make n A w (arg a (arg b (arg c ts))) us e h =
    ap encode_all (sym (some-injective _ us e)) ∙ ap (λ (x : List ℕ). x ++ encode_all ts) (h a b c)
    ∙ ap {B = List ℕ} (λ x. w ∷ x)
    (append_assoc (encode a) (encode b ++ encode c) (encode_all ts)
    ∙ ap {B = List ℕ} (λ x. encode a ++ x) (append_assoc (encode b) (encode c) (encode_all ts)))

-- a forest split in two keeps its words
pub data Split (ts : Terms) : Option (Terms × Terms) → Type 0 where
  unsplit : Split ts none
  split : {front rest : Terms} → encode_all ts ≡ encode_all front ++ encode_all rest → Split ts (some (front, rest))

split_more : (t : Term) (ts : Terms) (o : Option (Terms × Terms)) → Split ts o
    → Split (arg t ts) (o >>= λ (front, rest). some (arg t front, rest))
unfolding encode
split_more t ts none unsplit = unsplit
split_more t ts (some p) (split {front = f} {rest = r} e) = split
    (ap {B = List ℕ} (λ x. encode t ++ x) e ∙ sym (append_assoc (encode t) (encode_all f) (encode_all r)))

splits : (n : ℕ) (ts : Terms) → Split ts (split_forest n ts)
unfolding split_forest encode
splits zero ts = split refl
splits (suc n) done = unsplit
splits (suc n) (arg t ts) = split_more t ts (split_forest n ts) (splits n ts)

module _ (tables : Tables) where
  call_undone : (k w : ℕ) (ts us : Terms) (o : Option (Terms × Terms)) → Split ts o
      → (o >>= λ (front, rest). some (arg (call k front) rest)) ≡ some us → pack 1 k 0 ≡ w → Undone us ts w
  unfolding encode node
  call_undone k w ts us none unsplit e h = absurd (none-ne-some us e)
  call_undone k w ts us (some p) (split {front = f} {rest = r} d) e h = ap encode_all (sym (some-injective _ us e))
      ∙ ap₂ {C = List ℕ} (λ x y. x ∷ y) h (sym d)

  known_undone : (k w : ℕ) (ts us : Terms) (o : Option ℕ)
      → (o >>= λ n. split_forest n ts >>= λ (front, rest). some (arg (call k front) rest)) ≡ some us → pack 1 k 0 ≡ w → Undone us ts w
  known_undone k w ts us none e h = absurd (none-ne-some us e)
  known_undone k w ts us (some n) e h = call_undone k w ts us (split_forest n ts) (splits n ts) e h

  -- with the fields taken apart
  undone : (k n A : ℕ) → T (well_formed_fields tables k n A) → (ts us : Terms)
      → (get_elem? (builders tables.calls) k >>= λ build. build n A ts) ≡ some us → Undone us ts (pack k n A)
  unfolding builders encode node call_builder
  undone zero n A h ts us e = leaf_undone (λ n A. var n) n A _ ts us e (ap {B = List ℕ} (λ (x : ℕ). pack 0 n x ∷ []) (sym (zero_field A h)))
  undone (suc zero) n A h ts us e = known_undone n _ ts us (known_arity tables.calls n) e
      (ap (λ (x : ℕ). pack 1 n x) (sym (zero_field A (and_right (ltb n (length tables.calls)) (eqb A 0) h))))
  undone (suc (suc zero)) n A h ts us e = unary_undone (λ n A. lam A) n A _ ts us e
      (λ a. ap {B = List ℕ} (λ (x : ℕ). pack 2 x A ∷ encode a)
      (sym (zero_field n (and_left (eqb n 0) (ltb A (length tables.types)) h))))
  undone (suc (suc (suc zero))) n A h ts us e = binary_undone (λ n A. app) n A _ ts us e
      (λ a b. ap₂ {C = List ℕ} (λ (x y : ℕ). pack 3 x y ∷ (encode a ++ encode b)) (sym (zero_field n (and_left (eqb n 0) (eqb A 0) h)))
      (sym (zero_field A (and_right (eqb n 0) (eqb A 0) h))))
  undone (suc (suc (suc (suc zero)))) n A h ts us e = binary_undone (λ n A. bind) n A _ ts us e
      (λ a b. ap₂ {C = List ℕ} (λ (x y : ℕ). pack 4 x y ∷ (encode a ++ encode b)) (sym (zero_field n (and_left (eqb n 0) (eqb A 0) h)))
      (sym (zero_field A (and_right (eqb n 0) (eqb A 0) h))))
  undone (suc (suc (suc (suc (suc zero))))) n A h ts us e = binary_undone (λ n A. pair A) n A _ ts us e
      (λ a b. ap {B = List ℕ} (λ (x : ℕ). pack 5 x A ∷ (encode a ++ encode b))
      (sym (zero_field n (and_left (eqb n 0) (ltb A (length tables.types)) h))))
  undone (suc (suc (suc (suc (suc (suc zero)))))) n A h ts us e = unary_undone (λ n A. fst) n A _ ts us e
      (λ a. ap₂ {C = List ℕ} (λ (x y : ℕ). pack 6 x y ∷ encode a) (sym (zero_field n (and_left (eqb n 0) (eqb A 0) h)))
      (sym (zero_field A (and_right (eqb n 0) (eqb A 0) h))))
  undone (suc (suc (suc (suc (suc (suc (suc zero))))))) n A h ts us e = unary_undone (λ n A. snd) n A _ ts us e
      (λ a. ap₂ {C = List ℕ} (λ (x y : ℕ). pack 7 x y ∷ encode a) (sym (zero_field n (and_left (eqb n 0) (eqb A 0) h)))
      (sym (zero_field A (and_right (eqb n 0) (eqb A 0) h))))
  undone (suc (suc (suc (suc (suc (suc (suc (suc zero)))))))) n A h ts us e = unary_undone (λ n A. inl A) n A _ ts us e
      (λ a. ap {B = List ℕ} (λ (x : ℕ). pack 8 x A ∷ encode a)
      (sym (zero_field n (and_left (eqb n 0) (ltb A (length tables.types)) h))))
  undone (suc (suc (suc (suc (suc (suc (suc (suc (suc zero))))))))) n A h ts us e = unary_undone (λ n A. inr A) n A _ ts us e
      (λ a. ap {B = List ℕ} (λ (x : ℕ). pack 9 x A ∷ encode a)
      (sym (zero_field n (and_left (eqb n 0) (ltb A (length tables.types)) h))))
  undone (suc (suc (suc (suc (suc (suc (suc (suc (suc (suc zero)))))))))) n A h ts us e = ternary_undone (λ n A. case) n A _ ts us e
      (λ a b c. ap₂ {C = List ℕ} (λ (x y : ℕ). pack 10 x y ∷ (encode a ++ (encode b ++ encode c)))
      (sym (zero_field n (and_left (eqb n 0) (eqb A 0) h))) (sym (zero_field A (and_right (eqb n 0) (eqb A 0) h))))
  undone (suc (suc (suc (suc (suc (suc (suc (suc (suc (suc (suc zero))))))))))) n A h ts us e = leaf_undone (λ n A. unit A) n A _ ts us e
      (ap {B = List ℕ} (λ (x : ℕ). pack 11 x A ∷ []) (sym (zero_field n (and_left (eqb n 0) (ltb A (length tables.types)) h))))
  undone (suc (suc (suc (suc (suc (suc (suc (suc (suc (suc (suc (suc k)))))))))))) n A h ts us e = absurd (none-ne-some us e)

  -- the words that decode to a forest are its words
  pub encode-decode_forest : (ws : List ℕ) → T (every (well_formed_word tables) ws) → (us : Terms) → decode_forest tables.calls ws ≡ some us
      → encode_all us ≡ ws
  unfolding decode_forest graft encode
  encode-decode_forest [] h us e = ap encode_all (sym (some-injective done us e))
  encode-decode_forest (w ∷ ws) h us e = go (decode_forest tables.calls ws) refl e
      (encode-decode_forest ws (and_right (well_formed_word tables w) (every (well_formed_word tables) ws) h))
    where
      go : (o : Option Terms) → decode_forest tables.calls ws ≡ o → (o >>= graft tables.calls w) ≡ some us
          → ((ts : Terms) → decode_forest tables.calls ws ≡ some ts → encode_all ts ≡ ws) → encode_all us ≡ w ∷ ws
      go none d e' ih = absurd (none-ne-some us e')
      go (some ts) d e' ih = undone (kind_of w) (number_of w) (type_of w)
          (and_left (well_formed_word tables w) (every (well_formed_word tables) ws) h) ts us e'
          ∙ ap₂ {C = List ℕ} (λ x xs. x ∷ xs) (pack_fields w) (ih ts d)

  -- the words of an accepted term are the words of the term
  pub encode-decode : (ws : List ℕ) → T (well_formed_words tables ws) → (t : Term) → decode tables.calls ws ≡ some t → encode t ≡ ws
  unfolding decode well_formed_words encode
  encode-decode ws h t e = go (decode_forest tables.calls ws) refl e
    where
      go : (o : Option Terms) → decode_forest tables.calls ws ≡ o → (o >>= single) ≡ some t → encode t ≡ ws
      go none d e' = absurd (none-ne-some t e')
      go (some done) d e' = absurd (none-ne-some t e')
      go (some (arg u done)) d e' = ap encode (sym (some-injective u t e')) ∙ sym (append-nil (encode u))
          ∙ encode-decode_forest ws h (arg u done) d
      go (some (arg u (arg v us))) d e' = absurd (none-ne-some t e')
