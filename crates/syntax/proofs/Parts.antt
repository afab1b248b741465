-- The first part of a term's words, and what follows, ends where the term's words end.
use mathlib.Core.Path.{◌≡◌, refl, sym, ◌∙◌, ap, subst}
use mathlib.Core.List.{List, [], ◌∷◌, ◌++◌, append_assoc}
use mathlib.Core.Option.{Option, some, none, map}
use Prim.Native.Nat.{ℕ, suc, ◌+◌, ◌^◌, ◌<◌}
use native.Mathlib.Omega.{arith}
use lib.ListN.{length, length-append}
use Rattle.syntax.specs.Maybe.{◌>>=◌}
use Rattle.syntax.specs.Words.{pack, number_of}
use Rattle.syntax.specs.Tables.{arity}
use Rattle.syntax.specs.Term.{Term, Terms, var, call, lam, app, bind, pair, fst, snd, inl, inr, case, unit, done, arg, node}
use Rattle.syntax.specs.Encoding.{encode, encode_all, size}
use Rattle.syntax.specs.Kinds.{parts_of_kind}
use Rattle.syntax.specs.Parts.{part_count, known_parts, extent, part_end}
use Rattle.syntax.proofs.KnownParts.{known_by}
use Rattle.syntax.proofs.Decoding.{kind_pack, number_pack}
use Rattle.syntax.specs.Shaped.{count, Shaped, ShapedAll}

-- more words
abbrev pub longer : ℕ → Option ℕ → Option ℕ
longer k o = map (λ n. k + n) o

longer_twice : (j k l : ℕ) (o : Option ℕ) → j + k ≡ l → longer j (longer k o) ≡ longer l o
longer_twice j k l none e = refl
longer_twice j k l (some n) e = ap (λ (x : ℕ). some x) (add j k l n e)
  where
    add : (j k l n : ℕ) → j + k ≡ l → j + (k + n) ≡ l + n
    add j k l n e = omega (arith, e)

one_longer : (k : ℕ) (o : Option ℕ) → map suc (longer k o) ≡ longer (suc k) o
one_longer k none = refl
one_longer k (some n) = ap (λ (x : ℕ). some x) (omega arith)

pub no_longer : (o : Option ℕ) → o ≡ longer 0 o
no_longer none = refl
no_longer (some n) = ap (λ (x : ℕ). some x) (omega arith)

module _ (calls : List ℕ) where
  -- the words ws are those of m parts
  abbrev pub Holds : List ℕ → ℕ → Type 0
  Holds ws m = (rest : List ℕ) (n : ℕ) → extent calls (ws ++ rest) (m + n) ≡ longer (length ws) (extent calls rest n)

  nothing : Holds [] 0
  nothing rest n = ap (λ (k : ℕ). extent calls rest k) (omega arith) ∙ no_longer (extent calls rest n)

  row : (ws vs : List ℕ) (m k : ℕ) → Holds ws m → Holds vs k → Holds (ws ++ vs) (m + k)
  row ws vs m k p q rest n =
      ap (λ (us : List ℕ). extent calls us (m + k + n)) (append_assoc ws vs rest)
      ∙ ap (λ (j : ℕ). extent calls (ws ++ (vs ++ rest)) j) (omega arith)
      ∙ p (vs ++ rest) (k + n) ∙ ap (longer (length ws)) (q rest n) ∙ longer_twice (length ws) (length vs) _ (extent calls rest n)
      (sym (length-append ws vs))

  under : (w : ℕ) (ws : List ℕ) (m : ℕ) → known_parts calls w ≡ some m → Holds ws m → Holds (w ∷ ws) 1
  unfolding extent
  under w ws m e p rest n =
      ap (λ (k : ℕ). extent calls (w ∷ (ws ++ rest)) k) (one_more n)
      ∙ ap (λ (o : Option ℕ). o >>= λ k. map suc (extent calls (ws ++ rest) (k + n))) e
      ∙ ap (map suc) (p rest n) ∙ one_longer (length ws) (extent calls rest n)
    where
      one_more : (n : ℕ) → 1 + n ≡ suc n
      one_more n = omega arith

  known : (k m n : ℕ) → m < 2 ^ 30 → n < 2 ^ 30 → known_parts calls (pack k m n) ≡ known_by calls k m
  unfolding known_parts
  known k m n h j = ap (λ (x : ℕ). known_by calls x (number_of (pack k m n))) (kind_pack k m n h j)
      ∙ ap (known_by calls k) (number_pack k m n h j)

  pub kinded : (k m n : ℕ) → m < 2 ^ 30 → n < 2 ^ 30 → part_count calls (pack k m n) ≡ parts_of_kind (arity calls m) k
  unfolding part_count
  kinded k m n h j = ap (λ (x : ℕ). parts_of_kind (arity calls (number_of (pack k m n))) x) (kind_pack k m n h j)
      ∙ ap (λ (x : ℕ). parts_of_kind (arity calls x) k) (number_pack k m n h j)

  mutual
    unfolding encode Shaped node count

    pub term_holds : (t : Term) → Shaped calls t → Holds (encode t) 1
    term_holds (var n) s = under _ [] 0 (known 0 n 0 s (omega arith)) nothing
    term_holds (call k ts) s = under _ (encode_all ts) (count ts) (known 1 k 0 s.0 (omega arith) ∙ ap (λ (o : Option ℕ). o >>= λ a. some a) s.1) (terms_hold ts s.2)
    term_holds (lam A b) s = under _ (encode b) 1 (known 2 0 A (omega arith) s.0) (term_holds b s.1)
    term_holds (app f a) s = under _ (encode f ++ encode a) 2 (known 3 0 0 (omega arith) (omega arith))
        (row (encode f) (encode a) 1 1 (term_holds f s.0) (term_holds a s.1))
    term_holds (bind e b) s = under _ (encode e ++ encode b) 2 (known 4 0 0 (omega arith) (omega arith))
        (row (encode e) (encode b) 1 1 (term_holds e s.0) (term_holds b s.1))
    term_holds (pair A a b) s = under _ (encode a ++ encode b) 2 (known 5 0 A (omega arith) s.0)
        (row (encode a) (encode b) 1 1 (term_holds a s.1) (term_holds b s.2))
    term_holds (fst a) s = under _ (encode a) 1 (known 6 0 0 (omega arith) (omega arith)) (term_holds a s)
    term_holds (snd a) s = under _ (encode a) 1 (known 7 0 0 (omega arith) (omega arith)) (term_holds a s)
    term_holds (inl A a) s = under _ (encode a) 1 (known 8 0 A (omega arith) s.0) (term_holds a s.1)
    term_holds (inr A a) s = under _ (encode a) 1 (known 9 0 A (omega arith) s.0) (term_holds a s.1)
    term_holds (case c l r) s = under _ (encode c ++ (encode l ++ encode r)) 3 (known 10 0 0 (omega arith) (omega arith))
        (row (encode c) (encode l ++ encode r) 1 2 (term_holds c s.0)
        (row (encode l) (encode r) 1 1 (term_holds l s.1) (term_holds r s.2)))
    term_holds (unit A) s = under _ [] 0 (known 11 0 A (omega arith) s) nothing

    pub terms_hold : (ts : Terms) → ShapedAll calls ts → Holds (encode_all ts) (count ts)
    terms_hold done s = nothing
    terms_hold (arg t ts) s = ap_count (count ts) (row (encode t) (encode_all ts) 1 (count ts) (term_holds t s.0) (terms_hold ts s.1))
      where
        ap_count : (n : ℕ) → Holds (encode t ++ encode_all ts) (1 + n) → Holds (encode t ++ encode_all ts) (suc n)
        ap_count n h = subst (Holds (encode t ++ encode_all ts)) (omega arith) h

  -- the end of a part is the part's size
  pub part_end_lem : (t : Term) (rest : List ℕ) → Shaped calls t → part_end calls (encode t ++ rest) ≡ some (size t)
  unfolding part_end size extent
  part_end_lem t rest s = term_holds t s rest 0 ∙ ended rest
    where
      ended : (rest : List ℕ) → longer (length (encode t)) (extent calls rest 0) ≡ some (length (encode t))
      ended [] = ap (λ (x : ℕ). some x) (omega arith)
      ended (w ∷ ws) = ap (λ (x : ℕ). some x) (omega arith)
