-- Going through a row of terms node by node: the words ahead are those of a row too, because a node's parts come before what follows it.
use Prim.Native.Nat.{ℕ, ◌+◌, ◌-◌, ◌≤◌}
use native.Mathlib.Omega.{arith}
use mathlib.Core.Path.{◌≡◌, refl, sym, ◌∙◌, ap, subst}
use mathlib.Core.List.{List, ◌++◌, append_assoc, append-nil}
use lib.ListN.{length, get_or, drop}
use lib.Seq.{drop-drop, drop-append_seam}
use Rattle.syntax.specs.Words.{kind_of, number_of}
use Rattle.syntax.specs.Term.{Term, Terms, done, arg, node}
use Rattle.syntax.specs.Encoding.{word_of, encode, encode_all}
use Rattle.syntax.specs.Parts.{part_count}
use Rattle.syntax.specs.Shaped.{count, Shaped}
use Rattle.syntax.proofs.Nodes.{tail_part}
use Rattle.syntax.proofs.Sizes.{size_all, size_node, size_done, size_arg, size_positive}
use Rattle.words.specs.Fronts.{Holds, Starts, HoldsAll, StartsAll, from}
use Rattle.words.specs.Joined.{joined}
use Rattle.words.specs.Ends.{Sized, SizedAll}
use Rattle.words.specs.Reach.{outer, inner, outer_count}
use Rattle.words.proofs.Joined.{encode_joined, size_joined, joined_shaped, count_joined, joined_assoc}
use Rattle.words.proofs.Reach.{node_parts, outer_many}
use Rattle.words.proofs.Traversal.{front_of, first_word, all_fit}
use Rattle.words.proofs.PartsAt.{PartsAt, part_here, parts_past, parts_open, held_first}

-- one term is a row of one
pub one_holds : {calls words : List ℕ} {t : Term} {rest : List ℕ} → Holds calls words t rest → HoldsAll calls words 1 (arg t done) rest
unfolding Shaped encode count
one_holds {t = t} {rest = rest} h = record {
  shaped = (h.shaped, tt);
  is = h.is ∙ ap (λ (l : List ℕ). l ++ rest) (sym (append-nil (encode t)));
  many = refl;
}

abbrev pub one_starts : {calls words : List ℕ} → Starts calls words → StartsAll calls words 1
one_starts s = record { terms = arg s.term done; rest = s.rest; holds = one_holds s.holds }

pub one_sized : {calls words : List ℕ} {n : ℕ} → SizedAll calls words 1 n → Sized calls words n
one_sized s = record {
  within = s.within;
  told = λ t rest h. omega (arith, s.told (arg t done) rest (one_holds h), size_arg t done, size_done);
}

-- a term has a word at least
pub count_size : (ts : Terms) → count ts ≤ size_all ts
unfolding count
count_size done = omega arith
count_size (arg t ts) = omega (arith, count_size ts, size_arg t ts, size_positive t)

-- so a row has no more terms than words
pub few_terms : {calls words : List ℕ} {n : ℕ} → StartsAll calls words n → n ≤ length words
few_terms s = omega (arith, count_size s.terms, s.holds.many, all_fit s.holds)

-- a row in two: the first a terms, and P of them and the others
pub record Cut (a : ℕ) (P : Terms → Terms → Type 0) (us : Terms) : Type 0 where
  pub front : Terms
  pub later : Terms
  pub is : us ≡ joined front later
  pub many : count front ≡ a
  pub facts : P front later

module _ (calls words : List ℕ) where
  -- terms at an index stand at the front of the slice from there on
  pub row_holds : {i : ℕ} {ts : Terms} {rest : List ℕ} → PartsAt calls words i ts rest → (n : ℕ) → count ts ≡ n
      → HoldsAll calls (from words i) n ts rest
  row_holds {i} p n e = record { shaped = p.shaped; is = tail_part words i ∙ p.here; many = e }

  module _ {i : ℕ} {rest : List ℕ} (ts us : Terms) (p : PartsAt calls words i (joined ts us) rest) where
    here : drop i words ≡ encode_all ts ++ (encode_all us ++ rest)
    here = p.here ∙ ap (λ (l : List ℕ). l ++ rest) (encode_joined ts us) ∙ append_assoc (encode_all ts) (encode_all us) rest

    -- the others behind them
    pub row_behind : (l : ℕ) → l ≡ size_all ts → PartsAt calls words (i + l) us rest
    row_behind l e = record {
      shaped = (joined_shaped calls ts us p.shaped).1;
      here = sym (drop-drop l i words) ∙ ap (drop l) here
          ∙ ap (λ (j : ℕ). drop j (encode_all ts ++ (encode_all us ++ rest))) e
          ∙ drop-append_seam (encode_all ts) (encode_all us ++ rest);
      inside = omega (arith, p.inside, size_joined ts us, e);
    }

  -- the row ahead, of `owed` terms, and Q of the whole row and this
  pub record Standing (Q : Terms → Terms → Type 0) (at owed : ℕ) (ts : Terms) (rest : List ℕ) : Type 0 where
    pub ahead : Terms
    pub here : PartsAt calls words at ahead rest
    pub many : count ahead ≡ owed
    pub sized : at + size_all ahead ≡ size_all ts
    pub to_do : Q ts ahead

  -- the invariant of a loop over the nodes: for whatever row of n terms is at the front
  pub record Marching (Q : Terms → Terms → Type 0) (n at owed : ℕ) : Type 0 where
    pub start : StartsAll calls words n
    pub stand : (ts : Terms) (rest : List ℕ) → HoldsAll calls words n ts rest → Standing Q at owed ts rest

  -- before the first node
  unfoldable pub march_from : (Q : Terms → Terms → Type 0) (n : ℕ) → StartsAll calls words n → ((ts : Terms) → count ts ≡ n → Q ts ts)
      → Marching Q n 0 n
  march_from Q n s q = record {
    start = s;
    stand = λ ts rest h. record {
      ahead = ts;
      here = record {
        shaped = h.shaped;
        here = h.is;
        inside = omega (arith, all_fit h);
      };
      many = h.many;
      sized = omega arith;
      to_do = q ts h.many;
    };
  }

  pub march : (Q : Terms → Terms → Type 0) (n : ℕ) → StartsAll calls words n → ((ts : Terms) → Q ts ts) → Marching Q n 0 n
  march Q n s q = march_from Q n s λ ts e. q ts

  -- the node at the front of the row ahead
  pub record Visit (Q : Terms → Terms → Type 0) (at owed : ℕ) (ts : Terms) (rest : List ℕ) : Type 0 where
    pub term : Term
    pub later : Terms
    pub holds : Holds calls (from words at) term (encode_all later ++ rest)
    pub row : PartsAt calls words (at + 1) (joined (outer term) (joined (inner term) later)) rest
    pub word : get_or words at 0 ≡ word_of term
    pub kind : kind_of (get_or words at 0) ≡ (node term).kind
    pub number : number_of (get_or words at 0) ≡ (node term).number
    pub parts : part_count calls (get_or words at 0) ≡ count (outer term) + count (inner term)
    pub outers : outer_count (kind_of (get_or words at 0)) (part_count calls (get_or words at 0)) ≡ count (outer term)
    pub many : owed ≡ count later + 1
    pub sized : at + 1 + (size_all (outer term) + (size_all (inner term) + size_all later)) ≡ size_all ts
    pub to_do : Q ts (arg term later)

  visit_first : {Q : Terms → Terms → Type 0} {at owed : ℕ} {ts : Terms} {rest : List ℕ} (us : Terms) → PartsAt calls words at us rest
      → count us ≡ owed → at + size_all us ≡ size_all ts → Q ts us → 1 ≤ owed → Visit Q at owed ts rest
  unfolding count
  visit_first done p m e q lt = absurd (omega (arith, m, lt))
  visit_first {at = at} {ts = ts} {rest = rest} (arg t us) p m e q lt =
      let h = part_here calls words p in
      let f = front_of h in
      let w : get_or words at 0 ≡ word_of t = held_first words at h in
      let v : get_or words at 0 ≡ get_or (from words at) 0 0 = w ∙ sym (first_word h) in
      let k : kind_of (get_or words at 0) ≡ (node t).kind = ap kind_of v ∙ f.kind in
      let n : part_count calls (get_or words at 0) ≡ count (node t).parts = ap (part_count calls) v ∙ f.parts in
      record {
        term = t;
        later = us;
        holds = h;
        row = subst (λ (l : Terms). PartsAt calls words (at + 1) l rest)
            (ap (λ (l : Terms). joined l us) (node_parts t) ∙ joined_assoc (outer t) (inner t) us) (parts_open calls words p);
        word = w;
        kind = k;
        number = ap number_of v ∙ f.number;
        parts = n ∙ ap count (node_parts t) ∙ count_joined (outer t) (inner t);
        outers = ap (λ (i : ℕ). outer_count i (part_count calls (get_or words at 0))) k ∙ ap (outer_count (node t).kind) n ∙ outer_many t;
        many = omega (arith, m);
        sized = omega
            (arith, e, size_arg t us, size_node t, ap (λ (l : Terms). size_all l) (node_parts t), size_joined (outer t) (inner t));
        to_do = q;
      }

  module _ {Q : Terms → Terms → Type 0} {n at owed : ℕ} (g : Marching Q n at owed) where
    -- the words passed and the terms owed are no more than the words there are
    pub march_inside : at + owed ≤ length words
    march_inside =
        let s = g.stand _ _ g.start.holds in
        omega (arith, s.here.inside, s.many, count_size s.ahead)

    pub march_fits : size_all g.start.terms ≤ length words
    march_fits = let s = g.stand _ _ g.start.holds in omega (arith, s.sized, s.here.inside)

    pub march_within : at + owed ≤ size_all g.start.terms
    march_within =
        let s = g.stand _ _ g.start.holds in
        omega (arith, s.sized, s.many, count_size s.ahead)

    -- no term is owed
    pub march_end : owed ≡ 0 → (ts : Terms) (rest : List ℕ) → HoldsAll calls words n ts rest → (at ≡ size_all ts) × Q ts done
    unfolding count encode
    march_end z ts rest h = let s = g.stand ts rest h in last s.ahead s.many s.sized s.to_do
      where
        last : (us : Terms) → count us ≡ owed → at + size_all us ≡ size_all ts → Q ts us → (at ≡ size_all ts) × Q ts done
        last done m e q = (omega (arith, e), q)
        last (arg u us) m e q = absurd (omega (arith, m, z))

    -- what is said of the row ahead, said otherwise
    pub march_said : (R : Terms → Terms → Type 0) → ((ts us : Terms) → count us ≡ owed → Q ts us → R ts us) → Marching R n at owed
    march_said R r = record {
      start = g.start;
      stand = λ ts rest h.
          let s = g.stand ts rest h in
          record { ahead = s.ahead; here = s.here; many = s.many; sized = s.sized; to_do = r ts s.ahead s.many s.to_do };
    }

    module _ (lt : 1 ≤ owed) where
      pub visit : (ts : Terms) (rest : List ℕ) → HoldsAll calls words n ts rest → Visit Q at owed ts rest
      visit ts rest h = let s = g.stand ts rest h in visit_first s.ahead s.here s.many s.sized s.to_do lt

      -- it starts a slice that can be handed on
      pub march_first : Starts calls (from words at)
      march_first = let v = visit _ _ g.start.holds in record { term = v.term; rest = _; holds = v.holds }

      -- past the whole term, l words further
      pub march_term : (R : Terms → Terms → Type 0) (l : ℕ) → Sized calls (from words at) l
          → ((ts us : Terms) (t : Term) (rest : List ℕ) → Holds calls (from words at) t rest → Q ts (arg t us) → R ts us)
          → Marching R n (at + l) (owed - 1)
      unfolding count
      march_term R l z r = record {
        start = g.start;
        stand = λ ts rest h. past ts rest (g.stand ts rest h) (g.stand ts rest h).ahead refl;
      }
        where
          past : (ts : Terms) (rest : List ℕ) (s : Standing Q at owed ts rest) (us : Terms) → s.ahead ≡ us
              → Standing R (at + l) (owed - 1) ts rest
          past ts rest s done e = absurd (omega (arith, s.many, ap count e, lt))
          past ts rest s (arg t us) e =
              let p : PartsAt calls words at (arg t us) rest = subst (λ (x : Terms). PartsAt calls words at x rest) e s.here in
              let h = part_here calls words p in
              let d = z.told t _ h in
              record {
                ahead = us;
                here = parts_past calls words p l d;
                many = omega (arith, s.many, ap count e);
                sized = omega (arith, s.sized, ap (λ (x : Terms). size_all x) e, size_arg t us, d);
                to_do = r ts us t _ h (subst (Q ts) e s.to_do);
              }

      -- past the node: its parts come first
      unfoldable pub march_on : (R : Terms → Terms → Type 0) (m : ℕ) → m ≡ owed - 1 + part_count calls (get_or words at 0)
          → ((ts : Terms) (rest : List ℕ) → (v : Visit Q at owed ts rest)
          → R ts (joined (outer v.term) (joined (inner v.term) v.later)))
          → Marching R n (at + 1) m
      march_on R m e r = record {
        start = g.start;
        stand = λ ts rest h.
            let v = visit ts rest h in
            let o = outer v.term in
            let i = inner v.term in
            record {
              ahead = joined o (joined i v.later);
              here = v.row;
              many = omega (arith, e, v.parts, v.many, count_joined o (joined i v.later), count_joined i v.later);
              sized = omega (arith, v.sized, size_joined o (joined i v.later), size_joined i v.later);
              to_do = r ts rest v;
            };
      }

  -- the parts of the node at the front, and the terms behind it, are no more than the row's words past it
  pub march_parts : {Q : Terms → Terms → Type 0} {n at owed : ℕ} (g : Marching Q n at owed) → 1 ≤ owed
      → at + 1 + (owed - 1 + part_count calls (get_or words at 0)) ≤ size_all g.start.terms
  unfolding march_on
  march_parts g lt = march_within (march_on g lt (λ ts us. Unit {0}) _ refl λ ts rest v. tt)
