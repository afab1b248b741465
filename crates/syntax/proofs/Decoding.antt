-- The words of a term decode to that term, and what follows them to what follows.
use mathlib.Core.Path.{◌≡◌, refl, sym, ◌∙◌, ap}
use mathlib.Core.List.{List, [], ◌∷◌, ◌++◌, append_assoc, append-nil}
use mathlib.Core.Option.{Option, some, none}
use Prim.Native.Nat.{ℕ, ◌^◌, ◌<◌}
use native.Mathlib.Omega.{arith}
use Rattle.syntax.specs.Maybe.{◌>>=◌}
use Rattle.syntax.specs.Words.{pack, kind_of, number_of, type_of}
use Rattle.syntax.specs.Tables.{known_arity}
use Rattle.syntax.specs.Term.{Term, Terms, var, call, lam, app, bind, pair, fst, snd, inl, inr, case, unit, done, arg, node}
use Rattle.syntax.specs.Shaped.{count, Shaped, ShapedAll}
use Rattle.syntax.specs.Encoding.{word_of, encode, encode_all}
use Rattle.syntax.specs.Decoding.{leaf, unary, binary, ternary, split_forest, call_builder, builders, graft, decode_forest, single}
use Rattle.syntax.specs.Decoding.{decode}

pub kind_pack : (k m n : ℕ) → m < 2 ^ 30 → n < 2 ^ 30 → kind_of (pack k m n) ≡ k
kind_pack k m n h j = omega arith

pub number_pack : (k m n : ℕ) → m < 2 ^ 30 → n < 2 ^ 30 → number_of (pack k m n) ≡ m
number_pack k m n h j = omega arith

pub type_pack : (k m n : ℕ) → m < 2 ^ 30 → n < 2 ^ 30 → type_of (pack k m n) ≡ n
type_pack k m n h j = omega arith

-- one list of terms before another
abbrev pub before : Terms → Terms → Terms
before done us = us
before (arg t ts) us = arg t (before ts us)

module _ (calls : List ℕ) where
  -- the words ws stand for F of what the words behind them stand for
  abbrev pub Reads : List ℕ → List ℕ → (Terms → Terms) → Type 0
  Reads ws rest F = decode_forest calls (ws ++ rest) ≡ (decode_forest calls rest >>= λ ts. some (F ts))

  join : (o : Option Terms) (F G : Terms → Terms) → ((o >>= λ ts. some (G ts)) >>= λ ts. some (F ts)) ≡ (o >>= λ ts. some (F (G ts)))
  join none F G = refl
  join (some ts) F G = refl

  -- words in a row
  row : (ws vs rest : List ℕ) (F G : Terms → Terms) → Reads ws (vs ++ rest) F → Reads vs rest G → Reads (ws ++ vs) rest (λ ts. F (G ts))
  row ws vs rest F G p q = ap (decode_forest calls) (append_assoc ws vs rest) ∙ p ∙ ap (λ (o : Option Terms). o >>= λ ts. some (F ts)) q
      ∙ join (decode_forest calls rest) F G

  grafted : (w : ℕ) (o : Option Terms) (F G : Terms → Terms) → ((ts : Terms) → graft calls w (F ts) ≡ some (G ts))
      → ((o >>= λ ts. some (F ts)) >>= graft calls w) ≡ (o >>= λ ts. some (G ts))
  grafted w none F G h = refl
  grafted w (some ts) F G h = h ts

  -- a word before words
  under : (w : ℕ) (ws rest : List ℕ) (F G : Terms → Terms) → ((ts : Terms) → graft calls w (F ts) ≡ some (G ts)) → Reads ws rest F
      → Reads (w ∷ ws) rest G
  unfolding decode_forest
  under w ws rest F G h p = ap (λ (o : Option Terms). o >>= graft calls w) p ∙ grafted w (decode_forest calls rest) F G h

  nothing : (rest : List ℕ) → Reads [] rest (λ ts. ts)
  nothing rest = go (decode_forest calls rest)
    where
      go : (o : Option Terms) → o ≡ (o >>= λ ts. some ts)
      go none = refl
      go (some ts) = refl

  split_before : (us ts : Terms) → split_forest (count us) (before us ts) ≡ some (us, ts)
  unfolding count split_forest
  split_before done ts = refl
  split_before (arg u us) ts = rw (split_before us ts)

  -- what a node's word makes of the node's parts
  graft_var : (n : ℕ) → n < 2 ^ 30 → (ts : Terms) → graft calls (word_of (var n)) ts ≡ some (arg (var n) ts)
  unfolding graft builders node leaf
  graft_var n h ts = rw (kind_pack 0 n 0 h (omega arith), number_pack 0 n 0 h (omega arith))

  graft_call : (k : ℕ) (us : Terms) → k < 2 ^ 30 → known_arity calls k ≡ some (count us) → (ts : Terms)
      → graft calls (word_of (call k us)) (before us ts) ≡ some (arg (call k us) ts)
  unfolding graft builders node call_builder
  graft_call k us h e ts = rw (kind_pack 1 k 0 h (omega arith), number_pack 1 k 0 h (omega arith), e, split_before us ts)

  graft_lam : (A : ℕ) (b : Term) → A < 2 ^ 30 → (ts : Terms) → graft calls (word_of (lam A b)) (arg b ts) ≡ some (arg (lam A b) ts)
  unfolding graft builders node unary
  graft_lam A b h ts = rw (kind_pack 2 0 A (omega arith) h, type_pack 2 0 A (omega arith) h)

  graft_pair : (A : ℕ) (a b : Term) → A < 2 ^ 30 → (ts : Terms) → graft calls (word_of (pair A a b)) (arg a (arg b ts)) ≡ some
      (arg (pair A a b) ts)
  unfolding graft builders node binary
  graft_pair A a b h ts = rw (kind_pack 5 0 A (omega arith) h, type_pack 5 0 A (omega arith) h)

  graft_inl : (A : ℕ) (a : Term) → A < 2 ^ 30 → (ts : Terms) → graft calls (word_of (inl A a)) (arg a ts) ≡ some (arg (inl A a) ts)
  unfolding graft builders node unary
  graft_inl A a h ts = rw (kind_pack 8 0 A (omega arith) h, type_pack 8 0 A (omega arith) h)

  graft_inr : (A : ℕ) (a : Term) → A < 2 ^ 30 → (ts : Terms) → graft calls (word_of (inr A a)) (arg a ts) ≡ some (arg (inr A a) ts)
  unfolding graft builders node unary
  graft_inr A a h ts = rw (kind_pack 9 0 A (omega arith) h, type_pack 9 0 A (omega arith) h)

  graft_unit : (A : ℕ) → A < 2 ^ 30 → (ts : Terms) → graft calls (word_of (unit A)) ts ≡ some (arg (unit A) ts)
  unfolding graft builders node leaf
  graft_unit A h ts = rw (kind_pack 11 0 A (omega arith) h, type_pack 11 0 A (omega arith) h)

  mutual
    unfolding encode Shaped graft builders node unary binary ternary

    pub decode-encode : (t : Term) (rest : List ℕ) → Shaped calls t → Reads (encode t) rest (arg t)
    decode-encode (var n) rest s = under _ [] rest (λ ts. ts) (arg (var n)) (graft_var n s) (nothing rest)
    decode-encode (call k us) rest s = under _ (encode_all us) rest (before us) (arg (call k us)) (graft_call k us s.0 s.1)
        (decode-encode_all us rest s.2)
    decode-encode (lam A b) rest s = under _ (encode b) rest (arg b) (arg (lam A b)) (graft_lam A b s.0) (decode-encode b rest s.1)
    decode-encode (app f a) rest s = under _ (encode f ++ encode a) rest (λ ts. arg f (arg a ts)) (arg (app f a)) (λ ts. refl)
        (row (encode f) (encode a) rest (arg f) (arg a) (decode-encode f (encode a ++ rest) s.0) (decode-encode a rest s.1))
    decode-encode (bind e b) rest s = under _ (encode e ++ encode b) rest (λ ts. arg e (arg b ts)) (arg (bind e b)) (λ ts. refl)
        (row (encode e) (encode b) rest (arg e) (arg b) (decode-encode e (encode b ++ rest) s.0) (decode-encode b rest s.1))
    decode-encode (pair A a b) rest s = under _ (encode a ++ encode b) rest (λ ts. arg a (arg b ts)) (arg (pair A a b))
        (graft_pair A a b s.0)
        (row (encode a) (encode b) rest (arg a) (arg b) (decode-encode a (encode b ++ rest) s.1) (decode-encode b rest s.2))
    decode-encode (fst a) rest s = under _ (encode a) rest (arg a) (arg (fst a)) (λ ts. refl) (decode-encode a rest s)
    decode-encode (snd a) rest s = under _ (encode a) rest (arg a) (arg (snd a)) (λ ts. refl) (decode-encode a rest s)
    decode-encode (inl A a) rest s = under _ (encode a) rest (arg a) (arg (inl A a)) (graft_inl A a s.0) (decode-encode a rest s.1)
    decode-encode (inr A a) rest s = under _ (encode a) rest (arg a) (arg (inr A a)) (graft_inr A a s.0) (decode-encode a rest s.1)
    decode-encode (case c l r) rest s =
        under _ (encode c ++ (encode l ++ encode r)) rest (λ ts. arg c (arg l (arg r ts))) (arg (case c l r)) (λ ts. refl)
        (row (encode c) (encode l ++ encode r) rest (arg c) (λ ts. arg l (arg r ts))
        (decode-encode c ((encode l ++ encode r) ++ rest) s.0)
        (row (encode l) (encode r) rest (arg l) (arg r) (decode-encode l (encode r ++ rest) s.1) (decode-encode r rest s.2)))
    decode-encode (unit A) rest s = under _ [] rest (λ ts. ts) (arg (unit A)) (graft_unit A s) (nothing rest)

    pub decode-encode_all : (ts : Terms) (rest : List ℕ) → ShapedAll calls ts → Reads (encode_all ts) rest (before ts)
    decode-encode_all done rest s = nothing rest
    decode-encode_all (arg t ts) rest s = row (encode t) (encode_all ts) rest (arg t) (before ts)
        (decode-encode t (encode_all ts ++ rest) s.0) (decode-encode_all ts rest s.1)

  -- the words of a term decode to it
  pub decode-words : (t : Term) → Shaped calls t → decode calls (encode t) ≡ some t
  unfolding decode decode_forest
  decode-words t s = ap (λ (ws : List ℕ). decode_forest calls ws >>= single) (sym (append-nil (encode t)))
      ∙ ap (λ (o : Option Terms). o >>= single) (decode-encode t [] s)
