-- Going through the parts of the node that words begin with, whatever its kind: the words ahead are the words of the parts still to come.
use Prim.Native.Nat.{ℕ, ◌+◌, ◌-◌, ◌≤◌, ◌<◌}
use native.Mathlib.Omega.{arith}
use mathlib.Core.Path.{◌≡◌, refl, sym, ◌∙◌, ap, subst}
use mathlib.Core.List.{List, ◌++◌}
use lib.ListN.{length, get_or, drop, take, length-append, length-drop}
use lib.Seq.{take_at, drop-drop}
use Rattle.syntax.specs.Term.{Term, Terms, done, arg, node}
use Rattle.syntax.specs.Encoding.{word_of, encode, encode_all, size}
use Rattle.syntax.specs.Parts.{part_count}
use Rattle.syntax.specs.Shaped.{count, Shaped, ShapedAll}
use Rattle.syntax.proofs.Nodes.{encode_node, Front, front, words_of, tail_part, next_part, past_part}
use Rattle.words.specs.Fronts.{Holds, HoldsAll, Starts, from}

-- the first word, by its node
pub front_of : {calls words : List ℕ} {t : Term} {rest : List ℕ} → Holds calls words t rest → Front calls words t rest
front_of {calls} {words} {t} {rest} h = front calls words t rest h.shaped h.is

pub first_word : {calls words : List ℕ} {t : Term} {rest : List ℕ} → Holds calls words t rest → get_or words 0 0 ≡ word_of t
first_word {t = t} {rest = rest} h = ap (λ (l : List ℕ). get_or l 0 0) (h.is ∙ ap (λ (l : List ℕ). l ++ rest) (encode_node t))

-- a term at the front takes no more words than there are
pub fits : {calls words : List ℕ} {t : Term} {rest : List ℕ} → Holds calls words t rest → size t ≤ length words
unfolding size
fits {t = t} {rest = rest} h = omega (arith, ap (λ (l : List ℕ). length l) h.is, length-append (encode t) rest)

-- and they are its words
pub front_words : {calls words : List ℕ} {t : Term} {rest : List ℕ} → Holds calls words t rest → (n : ℕ) → n ≡ size t
    → take n words ≡ encode t
unfolding size
front_words {t = t} {rest = rest} h n e = ap (take n) h.is ∙ take_at (encode t) rest n (sym e)

pub all_fit : {calls words : List ℕ} {n : ℕ} {ts : Terms} {rest : List ℕ} → HoldsAll calls words n ts rest
    → length (encode_all ts) ≤ length words
all_fit {ts = ts} {rest = rest} h = omega (arith, ap (λ (l : List ℕ). length l) h.is, length-append (encode_all ts) rest)

pub not_empty : {calls words : List ℕ} → Starts calls words → 1 ≤ length words
unfolding size
not_empty s = omega (arith, fits s.holds, words_of s.term)

-- the length of a slice's words from an index on
pub from_length : (words : List ℕ) (i : ℕ) → length (from words i) ≡ length words - i
from_length words i = ap (λ (l : List ℕ). length l) (tail_part words i) ∙ length-drop i words

-- a slice of a slice
pub from_from : (words : List ℕ) (i n : ℕ) → from (from words i) n ≡ from words (i + n)
from_from words i n = tail_part (from words i) n ∙ ap (drop n) (tail_part words i) ∙ drop-drop n i words ∙ sym (tail_part words (i + n))

module _ (calls words : List ℕ) where
  -- of the n parts of t, j are passed; the words from `at` on are those of the parts ts, and then rest
  pub record Ahead (n at j : ℕ) (t : Term) (rest : List ℕ) (ts : Terms) : Type 0 where
    pub shaped : ShapedAll calls ts
    pub here : drop at words ≡ encode_all ts ++ rest
    pub many : j + count ts ≡ n
    pub sized : at + length (encode_all ts) ≡ size t

  -- the parts still to come, and Q of the term and these
  pub record Stand (Q : Term → Terms → Type 0) (n at j : ℕ) (t : Term) (rest : List ℕ) : Type 0 where
    pub parts : Terms
    pub ahead : Ahead n at j t rest parts
    pub to_do : Q t parts

  -- the invariant of a loop over the parts: for whatever term is at the front
  pub record Going (Q : Term → Terms → Type 0) (n at j : ℕ) : Type 0 where
    pub low : 1 ≤ at
    pub high : at ≤ length words
    pub start : Starts calls words
    pub stand : (t : Term) (rest : List ℕ) → Holds calls words t rest → Stand Q n at j t rest

  -- the next part of a term, and what it leaves
  pub record Next (Q : Term → Terms → Type 0) (n at j : ℕ) (t : Term) (rest : List ℕ) : Type 0 where
    pub part : Term
    pub later : Terms
    pub holds : Holds calls (from words at) part (encode_all later ++ rest)
    pub to_do : Q t (arg part later)
    pub after : Ahead n (at + size part) (j + 1) t rest later
    pub inside : at + size part ≤ size t

  step : (Q : Term → Terms → Type 0) (n at j : ℕ) (t : Term) (rest : List ℕ) (ts : Terms)
      → Ahead n at j t rest ts → j < n → Q t ts → Next Q n at j t rest
  unfolding count Shaped size encode
  step Q n at j t rest done a lt q = absurd (omega (arith, a.many))
  step Q n at j t rest (arg u us) a lt q = record {
    part = u;
    later = us;
    holds = record { shaped = a.shaped.0; is = tail_part words at ∙ next_part words at u us rest a.here };
    to_do = q;
    after = record {
      shaped = a.shaped.1;
      here = past_part words at u us rest a.here;
      many = omega (arith, a.many);
      sized = omega (arith, a.sized, length-append (encode u) (encode_all us));
    };
    inside = omega (arith, a.sized, length-append (encode u) (encode_all us));
  }

  -- before the first part
  pub enter : (Q : Term → Terms → Type 0) (n : ℕ) → Starts calls words → n ≡ part_count calls (get_or words 0 0)
      → ((t : Term) (rest : List ℕ) → Holds calls words t rest → Q t (node t).parts) → Going Q n 1 0
  unfolding size
  enter Q n s e q = record {
    low = omega arith;
    high = not_empty s;
    start = s;
    stand = λ t rest h.
        let f = front_of h in
        record {
          parts = (node t).parts;
          ahead = record { shaped = f.shaped; here = f.tail; many = omega (arith, e, f.parts); sized = f.size };
          to_do = q t rest h;
        };
  }

  pub enter_start : (Q : Term → Terms → Type 0) (n : ℕ) (s : Starts calls words) (e : n ≡ part_count calls (get_or words 0 0))
      (q : (t : Term) (rest : List ℕ) → Holds calls words t rest → Q t (node t).parts) → (enter Q n s e q).start ≡ s
  unfolding enter
  enter_start Q n s e q = refl

  module _ {Q : Term → Terms → Type 0} {n at j : ℕ} (g : Going Q n at j) where
    -- the next part, for whatever term is at the front
    pub next : j < n → (t : Term) (rest : List ℕ) → Holds calls words t rest → Next Q n at j t rest
    next lt t rest h = let s = g.stand t rest h in step Q n at j t rest s.parts s.ahead lt s.to_do

    -- the next part, of the term that is known to be there
    pub upcoming : j < n → Next Q n at j g.start.term g.start.rest
    upcoming lt = next lt g.start.term g.start.rest g.start.holds

    -- it starts a slice that can be handed on
    pub part_starts : j < n → Starts calls (from words at)
    part_starts lt = let u = upcoming lt in record { term = u.part; rest = encode_all u.later ++ g.start.rest; holds = u.holds }

    -- no part is left
    pub leave : n ≤ j → (t : Term) (rest : List ℕ) → Holds calls words t rest → (at ≡ size t) × Q t done
    unfolding count encode
    leave ge t rest h = let s = g.stand t rest h in last s.parts s.ahead s.to_do
      where
        last : (ts : Terms) → Ahead n at j t rest ts → Q t ts → (at ≡ size t) × Q t done
        last done a q = (omega (arith, a.sized), q)
        last (arg u us) a q = absurd (omega (arith, a.many))

  -- what is done to a part of l words, for whatever term is at the front: Q before it, R after it
  abbrev pub Does : (Q R : Term → Terms → Type 0) → (at l : ℕ) → Type 0
  Does Q R at l =
      (t : Term) (rest : List ℕ) → Holds calls words t rest
      → (part : Term) (later : Terms) → Holds calls (from words at) part (encode_all later ++ rest)
      → Q t (arg part later) → (l ≡ size part) × R t later

  module _ {Q : Term → Terms → Type 0} (R : Term → Terms → Type 0) {n at j : ℕ} (l : ℕ) (g : Going Q n at j) (lt : j < n)
      (d : Does Q R at l) where
    done_at : (t : Term) (rest : List ℕ) → Holds calls words t rest → (x : Next Q n at j t rest) → (l ≡ size x.part) × R t x.later
    done_at t rest h x = d t rest h x.part x.later x.holds x.to_do

    -- the part's words are there
    pub reached : at + l ≤ length words
    reached =
        let h = g.start.holds in
        let x = upcoming g lt in
        omega (arith, x.inside, (done_at _ _ h x).0, fits h)

    -- a turn of the loop
    pub onward : Going R n (at + l) (j + 1)
    onward = record {
      low = omega (arith, g.low);
      high = reached;
      start = g.start;
      stand = λ t rest h.
          let x = next g lt t rest h in
          let y = done_at t rest h x in
          record {
            parts = x.later;
            ahead = subst (λ (i : ℕ). Ahead n (at + i) (j + 1) t rest x.later) (sym y.0) x.after;
            to_do = y.1;
          };
    }

    pub onward_start : onward.start ≡ g.start
    unfolding onward
    onward_start = refl
