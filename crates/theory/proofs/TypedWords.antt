-- The words of a typed term pass check 6: the types and calls that it names are in the tables, and the fields that a kind does not use are
-- zero.
use mathlib.Core.Path.{◌≡◌, sym, subst}
use mathlib.Core.Bool.{Bool, true, ◌&&◌}
use mathlib.Core.List.{List, [], ◌∷◌, ◌++◌}
use lib.Dec.{T, ltb, lt→ltb}
use lib.ListN.{length, length-append}
use Prim.Native.Nat.{ℕ, ◌+◌, ◌^◌, ◌≤◌, ◌<◌}
use native.Mathlib.Omega.{arith}
use Rattle.syntax.specs.Words.{pack, kind_of, number_of, type_of}
use Rattle.syntax.specs.Tables.{Tables}
use Rattle.syntax.specs.Term.{Term, Terms, node}
use Rattle.syntax.specs.Encoding.{encode, encode_all}
use Rattle.syntax.proofs.Options.{both_true}
use Rattle.typing.specs.Infer.{Context}
use Rattle.typing.specs.TableChecks.{every}
use Rattle.typing.specs.TermChecks.{well_formed_fields, well_formed_word, well_formed_words}
use Rattle.typing.proofs.Typing.{Of, at_below, Typed, TypedAll, t_var, t_call, t_lam, t_app, t_bind, t_pair, t_fst, t_snd}
use Rattle.typing.proofs.Typing.{t_inl, t_inr, t_case, t_unit, t_done, t_arg}
use Rattle.typing.proofs.ScopedNode.{every_append}
use Rattle.theory.proofs.Fields.{known_type, known_call, Fitting}

and_after : (b : Bool) → T b → T (b && true)
and_after b h = both_true b true h tt

module _ (tables : Tables) (fit : Fitting tables) (ok : ℕ → Type 0) where
  -- a word passes if its fields do
  word_formed : (k n A : ℕ) → k ≤ 15 → n < 2 ^ 30 → A < 2 ^ 30 → T (well_formed_fields tables k n A) → T (well_formed_word tables (pack k n A))
  word_formed k n A hk hn hA h =
      let w = pack k n A in
      let ek : k ≡ kind_of w = omega (arith, hn, hA) in
      let en : n ≡ number_of w = omega (arith, hn, hA) in
      let eA : A ≡ type_of w = omega (arith, hA) in
      subst (λ (x : ℕ). T (well_formed_fields tables x (number_of w) (type_of w))) ek
      (subst (λ (x : ℕ). T (well_formed_fields tables k x (type_of w))) en (subst (λ (x : ℕ). T (well_formed_fields tables k n x)) eA h))

  abbrev Formed : List ℕ → Type 0
  Formed ws = T (well_formed_words tables ws)

  abbrev Below : Context → List ℕ → Type 0
  Below Γ ws = length Γ + length ws ≤ 2 ^ 30

  -- a node's word before those of its parts
  before : (w : ℕ) (ws : List ℕ) → T (well_formed_word tables w) → Formed ws → Formed (w ∷ ws)
  unfolding well_formed_words
  before w ws h k = both_true (well_formed_word tables w) (every (well_formed_word tables) ws) h k

  none : Formed []
  unfolding well_formed_words
  none = tt

  both : (xs ys : List ℕ) → Formed xs → Formed ys → Formed (xs ++ ys)
  unfolding well_formed_words
  both xs ys h k =
      let f = well_formed_word tables in
      subst T (sym (every_append f xs ys)) (both_true (every f xs) (every f ys) h k)

  -- a word of no field, of a type, of a call
  plain : (k : ℕ) → k ≤ 15 → T (well_formed_fields tables k 0 0) → T (well_formed_word tables (pack k 0 0))
  plain k h f = word_formed k 0 0 h (omega arith) (omega arith) f

  of_type : {j F A B : ℕ} (k : ℕ) → k ≤ 15 → Of tables j F A B → (T (ltb F (length tables.types)) → T (well_formed_fields tables k 0 F))
      → T (well_formed_word tables (pack k 0 F))
  of_type {F = F} k h o f =
      let l = known_type tables o in
      word_formed k 0 F h (omega arith) (omega (arith, l, fit.types)) (f (lt→ltb F (length tables.types) l))

  mutual
    unfolding encode node

    pub words_formed : {Γ : Context} {t : Term} {A : ℕ} → Typed tables ok Γ t A → Below Γ (encode t) → Formed (encode t)
    words_formed (t_var {n = n} x) h =
        before _ [] (word_formed 0 n 0 (omega arith) (omega (arith, at_below x, h)) (omega arith) tt) none
    words_formed (t_call {k = k} z e d xs) h =
        let l = known_call tables e in
        let f = and_after (ltb k (length tables.calls)) (lt→ltb k (length tables.calls) l) in
        before _ _ (word_formed 1 k 0 (omega arith) (omega (arith, l, fit.calls)) (omega arith) f) (all_formed xs (omega (arith, h)))
    words_formed (t_lam o x) h = before _ _ (of_type 2 (omega arith) o (λ l. l)) (words_formed x (omega (arith, h)))
    words_formed (t_app {f = f} {a = a} o x y) h =
        let i = length-append (encode f) (encode a) in
        before _ _ (plain 3 (omega arith) tt)
        (both (encode f) (encode a) (words_formed x (omega (arith, h, i))) (words_formed y (omega (arith, h, i))))
    words_formed (t_bind {e = e} {b = b} x y) h =
        let i = length-append (encode e) (encode b) in
        before _ _ (plain 4 (omega arith) tt)
        (both (encode e) (encode b) (words_formed x (omega (arith, h, i))) (words_formed y (omega (arith, h, i))))
    words_formed (t_pair {a = a} {b = b} o x y) h =
        let i = length-append (encode a) (encode b) in
        before _ _ (of_type 5 (omega arith) o (λ l. l))
        (both (encode a) (encode b) (words_formed x (omega (arith, h, i))) (words_formed y (omega (arith, h, i))))
    words_formed (t_fst o x) h = before _ _ (plain 6 (omega arith) tt) (words_formed x (omega (arith, h)))
    words_formed (t_snd o x) h = before _ _ (plain 7 (omega arith) tt) (words_formed x (omega (arith, h)))
    words_formed (t_inl o x) h = before _ _ (of_type 8 (omega arith) o (λ l. l)) (words_formed x (omega (arith, h)))
    words_formed (t_inr o x) h = before _ _ (of_type 9 (omega arith) o (λ l. l)) (words_formed x (omega (arith, h)))
    words_formed (t_case {s = s} {l = l} {r = r} o x y z) h =
        let i = length-append (encode s) (encode l ++ encode r) in
        let j = length-append (encode l) (encode r) in
        before _ _ (plain 10 (omega arith) tt)
        (both (encode s) (encode l ++ encode r) (words_formed x (omega (arith, h, i, j)))
        (both (encode l) (encode r) (words_formed y (omega (arith, h, i, j))) (words_formed z (omega (arith, h, i, j)))))
    words_formed (t_unit o) h = before _ [] (of_type 11 (omega arith) o (λ l. l)) none

    all_formed : {Γ : Context} {ts : Terms} {As : List ℕ} → TypedAll tables ok Γ ts As → Below Γ (encode_all ts) → Formed (encode_all ts)
    all_formed t_done h = none
    all_formed (t_arg {t = t} {ts = ts} x xs) h =
        let i = length-append (encode t) (encode_all ts) in
        both (encode t) (encode_all ts) (words_formed x (omega (arith, h, i))) (all_formed xs (omega (arith, h, i)))
