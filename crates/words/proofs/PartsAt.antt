-- Parts that stand at an index of words: the parts of the node at the front, those behind a part, and those of the first of them. Words are
-- in prefix order, so the parts of a part come before what follows it.
use Prim.Native.Nat.{ℕ, ◌+◌, ◌-◌, ◌≤◌}
use native.Mathlib.Omega.{arith}
use mathlib.Core.Path.{◌≡◌, sym, ◌∙◌, ap}
use mathlib.Core.List.{List, ◌∷◌, ◌++◌, append_assoc}
use lib.ListN.{length, get_or, drop, take}
use lib.Seq.{drop-drop, get_or-drop}
use Rattle.syntax.specs.Term.{Term, Terms, done, arg, node}
use Rattle.syntax.specs.Encoding.{word_of, encode, encode_all, size}
use Rattle.syntax.specs.Shaped.{count, Shaped, ShapedAll}
use Rattle.syntax.proofs.Nodes.{encode_node, shaped_node, tail_part, next_part, past_part}
use Rattle.syntax.proofs.Sizes.{size_all, size_node, size_arg, size_positive}
use Rattle.words.specs.Fronts.{Holds, Starts, from}
use Rattle.words.specs.Joined.{joined}
use Rattle.words.specs.Ends.{Sized}
use Rattle.words.proofs.Joined.{encode_joined, shaped_joined, size_joined}
use Rattle.words.proofs.Traversal.{front_of, first_word, fits, front_words, from_length}

-- the first word of a slice's words from an index on
pub first_from : (words : List ℕ) (i : ℕ) → get_or (from words i) 0 0 ≡ get_or words i 0
first_from words i = ap (λ (l : List ℕ). get_or l 0 0) (tail_part words i) ∙ get_or-drop i words 0 0 ∙ ap (λ (k : ℕ). get_or words k 0) (last i)
  where
    last : (j : ℕ) → j + 0 ≡ j
    last j = omega arith

-- a term that stands at an index: its end, its words, its first word
module _ {calls : List ℕ} (words : List ℕ) (i : ℕ) {t : Term} {rest : List ℕ} (h : Holds calls (from words i) t rest) where
  pub held_inside : i + size t ≤ length words
  held_inside = omega (arith, fits h, size_positive t, from_length words i)

  pub held_words : (n : ℕ) → n ≡ size t → take n (drop i words) ≡ encode t
  held_words n e = ap (take n) (sym (tail_part words i)) ∙ front_words h n e

  pub held_first : get_or words i 0 ≡ word_of t
  held_first = sym (first_from words i) ∙ first_word h

module _ (calls words : List ℕ) where
  -- from i on stand the words of the parts ts, and then rest
  pub record PartsAt (i : ℕ) (ts : Terms) (rest : List ℕ) : Type 0 where
    pub shaped : ShapedAll calls ts
    pub here : drop i words ≡ encode_all ts ++ rest
    pub inside : i + size_all ts ≤ length words

  -- the parts of the node at the front
  pub parts_of_lem : {t : Term} {rest : List ℕ} → Holds calls words t rest → PartsAt 1 (node t).parts rest
  parts_of_lem {t} h =
      let f = front_of h in
      record { shaped = f.shaped; here = f.tail; inside = omega (arith, size_node t, fits h) }

  module _ {i : ℕ} {t : Term} {ts : Terms} {rest : List ℕ} (p : PartsAt i (arg t ts) rest) where
    -- the first of them
    pub part_here : Holds calls (from words i) t (encode_all ts ++ rest)
    unfolding Shaped
    part_here = record { shaped = p.shaped.0; is = tail_part words i ∙ next_part words i t ts rest p.here }

    -- those behind it, after as many words as it has
    pub parts_past : (n : ℕ) → n ≡ size t → PartsAt (i + n) ts rest
    unfolding Shaped size
    parts_past n e = record {
      shaped = p.shaped.1;
      here = ap (λ (k : ℕ). drop (i + k) words) e ∙ past_part words i t ts rest p.here;
      inside = omega (arith, p.inside, size_arg t ts, e);
    }

    -- its own parts, and those behind it
    pub parts_open : PartsAt (i + 1) (joined (node t).parts ts) rest
    unfolding Shaped encode
    parts_open =
        let us = joined (node t).parts ts in
        let e : encode_all (arg t ts) ++ rest ≡ word_of t ∷ (encode_all us ++ rest) =
        append_assoc (encode t) (encode_all ts) rest ∙ ap (λ (l : List ℕ). l ++ (encode_all ts ++ rest)) (encode_node t)
        ∙ ap {B = List ℕ} (λ (l : List ℕ). word_of t ∷ l)
        (sym (append_assoc (encode_all (node t).parts) (encode_all ts) rest)
        ∙ ap (λ (l : List ℕ). l ++ rest) (sym (encode_joined (node t).parts ts))) in
        record {
          shaped = shaped_joined calls (node t).parts ts (shaped_node calls t p.shaped.0).shaped p.shaped.1;
          here = sym (drop-drop 1 i words) ∙ ap (drop 1) (p.here ∙ e);
          inside = omega (arith, p.inside, size_arg t ts, size_node t, size_joined (node t).parts ts);
        }

  -- some n parts stand from i on
  pub record Row (i n : ℕ) : Type 0 where
    pub parts : Terms
    pub rest : List ℕ
    pub at : PartsAt i parts rest
    pub many : count parts ≡ n

  pub row_high : {i n : ℕ} → Row i n → i ≤ length words
  row_high r = omega (arith, r.at.inside)

  -- the first of them starts a slice
  row_first : {i n : ℕ} {rest : List ℕ} (ts : Terms) → PartsAt i ts rest → count ts ≡ n → 1 ≤ n → Starts calls (from words i)
  unfolding count
  row_first done p e h = absurd (omega (arith, e, h))
  row_first (arg t ts) p e h = record { term = t; rest = _; holds = part_here p }

  pub row_starts : {i n : ℕ} → Row i n → 1 ≤ n → Starts calls (from words i)
  row_starts r h = row_first r.parts r.at r.many h

  -- the others stand behind it
  row_past : {i n : ℕ} {rest : List ℕ} (ts : Terms) → PartsAt i ts rest → count ts ≡ n → 1 ≤ n
      → (a : ℕ) → Sized calls (from words i) a → Row (i + a) (n - 1)
  unfolding count
  row_past done p e h a s = absurd (omega (arith, e, h))
  row_past (arg t ts) p e h a s = record {
    parts = ts;
    rest = _;
    at = parts_past p a (s.told t _ (part_here p));
    many = omega (arith, e);
  }

  pub row_next : {i n : ℕ} → Row i n → 1 ≤ n → (a : ℕ) → Sized calls (from words i) a → Row (i + a) (n - 1)
  row_next r h a s = row_past r.parts r.at r.many h a s
