-- Writing a term node by node, with what is put for its variables: what is written and what the row ahead will be make up the whole.
use Prim.Native.Nat.{ℕ, suc, ◌+◌, ◌-◌, ◌≤◌, ◌<◌}
use native.Mathlib.Omega.{arith}
use mathlib.Core.Path.{◌≡◌, refl, sym, ◌∙◌, ap, subst}
use mathlib.Core.List.{List, [], ◌∷◌, ◌++◌, append_assoc, append-nil}
use lib.ListN.{length, get_or, set, length-set}
use lib.Seq.{sets, get_or-set_same}
use Rattle.syntax.specs.Words.{kind_of, number_of, pack}
use Rattle.syntax.specs.Term.{Term, Terms, var, done, arg, node}
use Rattle.syntax.specs.Encoding.{word_of, encode, encode_all, size}
use Rattle.syntax.specs.Kinds.{parts_of_kind}
use Rattle.syntax.specs.Parts.{part_count}
use Rattle.syntax.specs.Tables.{arity}
use Rattle.syntax.specs.Shaped.{count}
use Rattle.syntax.specs.Substitution.{Kit, traverse, traverse_all}
use Rattle.syntax.specs.Under.{under_by}
use Rattle.syntax.proofs.ByKind.{by_kind}
use Rattle.syntax.proofs.Sizes.{size_all, size_positive, size_arg, size_done}
use Rattle.syntax.proofs.Under.{under_under_by}
use Rattle.words.specs.Fronts.{Holds, Starts}
use Rattle.words.specs.Joined.{joined}
use Rattle.words.specs.Reach.{outer, inner, outer_count}
use Rattle.words.specs.Depths.{OpensParts}
use Rattle.words.proofs.Joined.{none_left}
use Rattle.words.proofs.Reach.{encode_binding}
use Rattle.words.proofs.Stretches.{get_or_behind, Writing, write_none, write_next, write_all, write_room}
use Rattle.words.proofs.RowAtDepths.{Gathering, ahead, ahead_one, ahead_same, ahead_opened, Near, near_begin, near_next}
use Rattle.words.proofs.Rows.{Marching, Visit, march_from, march_end, visit, march_on}
use Rattle.words.proofs.Rows.{one_starts, one_holds}

no_parts : (os is later : Terms) → count os ≡ 0 → count is ≡ 0 → later ≡ joined os (joined is later)
unfolding joined
no_parts os is later e f = none_left (λ x. later ≡ joined x (joined is later)) os e (none_left (λ x. later ≡ joined x later) is f refl)

module _ {X A : Type 0} (kit : Kit X) (f : A → ℕ → X) where
  -- a term under so many binders, with what is put, whatever a is; and the words of a row of them
  abbrev pub put : A → Term → ℕ → Term
  put a t d = traverse kit t (under_by kit d (f a))

  abbrev pub put_all : A → Terms → ℕ → List ℕ
  put_all a ts d = encode_all (traverse_all kit ts (under_by kit d (f a)))

  pub put_all_done : (a : A) (d : ℕ) → put_all a done d ≡ []
  unfolding traverse encode
  put_all_done a d = refl

  pub put_all_arg : (a : A) (t : Term) (ts : Terms) (d : ℕ) → put_all a (arg t ts) d ≡ encode (put a t d) ++ put_all a ts d
  unfolding traverse encode
  put_all_arg a t ts d = refl

  abbrev pub putting : A → Gathering (List ℕ)
  putting a = record {
    one = λ t d. encode (put a t d);
    all = put_all a;
    none = [];
    join = ◌++◌;
    all_done = put_all_done a;
    all_arg = put_all_arg a;
    none-join = λ x. refl;
    join-none = append-nil;
    join-join = append_assoc;
  }

  put_all_one : (a : A) (t : Term) (d : ℕ) → put_all a (arg t done) d ≡ encode (put a t d)
  put_all_one a t d = put_all_arg a t done d ∙ ap (λ (l : List ℕ). encode (put a t d) ++ l) (put_all_done a d)
      ∙ append-nil (encode (put a t d))

  -- a node that is no variable: its word, and then its parts
  pub put_node : (a : A) (t : Term) (d : ℕ) → ((node t).kind ≡ 0 → ⊥)
      → encode (put a t d) ≡ word_of t ∷ (put_all a (outer t) d ++ put_all a (inner t) (suc d))
  put_node a t d z = encode_binding kit (under_by kit d (f a)) t z
      ∙ ap {B = List ℕ} (λ (g : ℕ → X). word_of t ∷ (put_all a (outer t) d ++ encode_all (traverse_all kit (inner t) g)))
      (under_under_by kit d (f a))

  -- o words are written from `at` on, before the row ahead
  abbrev pub Ahead : (old : List ℕ) (d at : ℕ) (p new : List ℕ) (o : ℕ) → Terms → Terms → Type 0
  Ahead old d at p new o ts us = (a : A) → Writing old new at o (put_all a ts d) (ahead (putting a) p us)

  -- i words of the term are read and o are written, and m places of the buffer of depths are kept free
  pub record Trace (calls words old : List ℕ) (d at m : ℕ) (p new : List ℕ) (owed i o : ℕ) : Type 0 where
    pub going : Marching calls words (Ahead old d at p new o) 1 i owed
    pub given : A
    pub room : at + length (put_all given going.start.terms d) ≤ length old
    pub spare : size_all going.start.terms + m ≤ length p
    pub len : length new ≡ length old
    pub far : d + length words ≤ 65536
    pub near : Near p owed (d + i)

  pub trace_begin : {calls words old : List ℕ} {at m : ℕ} (p : List ℕ) (d : ℕ) (s : Starts calls words) (a : A)
      → at + size (put a s.term d) ≤ length old → size s.term + m ≤ length p → d + length words ≤ 65536
      → Trace calls words old d at m (set p 0 d) old 1 0 0
  unfolding march_from size
  trace_begin {calls} {words} {old} {at} {m} p d s a r e far =
      let l = length-set p 0 d in
      let h : 1 ≤ length p = omega (arith, e, size_positive s.term) in
      record {
        going = march_from calls words _ 1 (one_starts s) λ ts c b.
            subst (Writing old old at 0 (put_all b ts d)) (sym (ahead_one (putting b) (set p 0 d) d ts c (get_or-set_same p 0 d 0 h)))
            (write_none old at _);
        given = a;
        room = omega (arith, r, ap (λ (x : List ℕ). length x) (put_all_one a s.term d));
        spare = omega (arith, e, l, size_arg s.term done, size_done);
        len = refl;
        far = far;
        near = near_begin p d h;
      }

  module _ {calls words old : List ℕ} {d at m : ℕ} {p new : List ℕ} {owed i o : ℕ} (g : Trace calls words old d at m p new owed i o) where
    -- no term is owed
    pub trace_end : owed ≤ 0 → (t : Term) (rest : List ℕ) → Holds calls words t rest → (a : A)
        → (i ≡ size t) × (new ≡ sets old at (encode (put a t d)))
    unfolding ahead size
    trace_end z t rest h a =
        let e = march_end calls words g.going (omega arith) (arg t done) rest (one_holds h) in
        (omega (arith, e.0, size_arg t done, size_done), (write_all (e.1 a)).0 ∙ ap (sets old at) (put_all_one a t d))

    -- the words behind those written are as they were
    pub trace_behind : (j : ℕ) → at + o ≤ j → get_or new j 0 ≡ get_or old j 0
    trace_behind j le =
        let w = (g.going.stand _ _ g.going.start.holds).to_do g.given in
        ap (λ (l : List ℕ). get_or l j 0) w.written ∙ get_or_behind old at w.done j (omega (arith, le, w.reach))

    -- what comes next has room
    next_room : (xs left : List ℕ) → Writing old new at o (put_all g.given g.going.start.terms d) (xs ++ left)
        → at + o + length xs ≤ length new
    next_room xs left w = omega (arith, write_room xs left w, g.room, g.len)

    module _ (lt : 1 ≤ owed) (w under : ℕ) (we : w ≡ get_or words i 0) (ue : under ≡ get_or p (owed - 1) 0) where
      -- of the term whose word this is
      abbrev pub OfTerm : (Term → A → Type 0) → Type 0
      OfTerm P = (t : Term) → w ≡ word_of t → kind_of w ≡ (node t).kind → number_of w ≡ (node t).number → (a : A) → P t a

      first : Visit calls words (Ahead old d at p new o) i owed g.going.start.terms g.going.start.rest
      first = visit calls words g.going lt _ _ g.going.start.holds

      at_term : {ts : Terms} {rest : List ℕ} (P : Term → A → Type 0) (v : Visit calls words (Ahead old d at p new o) i owed ts rest)
          → OfTerm P
          → (a : A) → P v.term a
      at_term P v h a = h v.term (we ∙ v.word) (ap kind_of we ∙ v.kind) (ap number_of we ∙ v.number) a

      -- what is still to be written begins with the node
      to_write : {ts : Terms} {rest : List ℕ} (v : Visit calls words (Ahead old d at p new o) i owed ts rest) (a : A)
          → Writing old new at o (put_all a ts d) (encode (put a v.term under) ++ ahead (putting a) p v.later)
      unfolding ahead
      to_write {ts} v a =
          let c : count v.later ≡ owed - 1 = omega (arith, v.many) in
          subst (λ (x : ℕ). Writing old new at o (put_all a ts d) (encode (put a v.term x) ++ ahead (putting a) p v.later))
          (ap (λ (j : ℕ). get_or p j 0) c ∙ sym ue) (v.to_do a)

      -- there is room for a word at least, and for what is put
      pub trace_room : at + o + 1 ≤ length new
      unfolding size
      trace_room =
          let v = first in
          let y = put g.given v.term under in
          omega (arith, next_room (encode y) _ (to_write v g.given), size_positive y)

      pub put_room : (k : ℕ) → OfTerm (λ t a. k ≡ size (put a t under)) → at + o + k ≤ length new
      unfolding size
      put_room k h =
          let v = first in
          omega (
            arith,
            next_room (encode (put g.given v.term under)) _ (to_write v g.given),
            at_term (λ t a. k ≡ size (put a t under)) v h g.given,
          )

      -- a node that is no variable: its word is written, and then its parts are ahead
      pub trace_node : (kind_of w ≡ 0 → ⊥) → (q : List ℕ) (r y : ℕ) → length q ≡ length p → OpensParts calls w under p q (owed - 1) r
          → y ≡ at + o
          → Trace calls words old d at m q (set new y w) r (i + 1) (o + 1)
      unfolding march_on
      trace_node nz q r y l ops ye = record {
        going = march_on calls words g.going lt _ r (ops.many ∙ ap (λ (z : ℕ). owed - 1 + part_count calls z) we) λ ts rest v a.
            let os = outer v.term in
            let is = inner v.term in
            let c : owed - 1 ≡ count v.later = omega (arith, v.many) in
            let e = at_term Opened v opened a in
            let j = ahead_opened (putting a) ops.opened os is v.later c
            (ap (λ (z : ℕ). outer_count_of z) we ∙ v.outers) (ap (part_count calls) we ∙ v.parts) in
            subst (Writing old (set new y w) at (o + 1) (put_all a ts d))
            (append_assoc (put_all a os under) (put_all a is (suc under)) (ahead (putting a) p v.later) ∙ sym j)
            (write_next (w ∷ []) _ y 1
            (subst (λ (z : List ℕ). Writing old new at o (put_all a ts d) (z ++ ahead (putting a) p v.later)) e (to_write v a))
            ye refl refl);
        given = g.given;
        room = g.room;
        spare = omega (arith, g.spare, l);
        len = length-set new y w ∙ g.len;
        far = g.far;
        near = near_next p q d i owed r g.near lt (subst (λ (x : ℕ). OpensParts calls w x p q (owed - 1) r) ue ops);
      }
        where
          Opened : Term → A → Type 0
          Opened t a = encode (put a t under) ≡ w ∷ (put_all a (outer t) under ++ put_all a (inner t) (suc under))

          opened : OfTerm Opened
          opened t e k n a = put_node a t under (λ z. nz (k ∙ z))
              ∙ ap {B = List ℕ} (λ (v : ℕ). v ∷ (put_all a (outer t) under ++ put_all a (inner t) (suc under))) (sym e)

          outer_count_of : ℕ → ℕ
          outer_count_of z = outer_count (kind_of z) (part_count calls z)

      -- a node without parts: what is put for it is written, k words
      pub trace_leaf : (q new' : List ℕ) (k y : ℕ) → length q ≡ length p → ((j : ℕ) → j < owed - 1 → get_or q j 0 ≡ get_or p j 0)
          → length new' ≡ length new → part_count calls w ≡ 0 → y ≡ at + o
          → OfTerm (λ t a. (new' ≡ sets new y (encode (put a t under))) × (k ≡ size (put a t under)))
          → Trace calls words old d at m q new' (owed - 1) (i + 1) (o + k)
      unfolding march_on size
      trace_leaf q new' k y l same ln z ye h = record {
        going = march_on calls words g.going lt _ (owed - 1) (omega (arith, z, ap (part_count calls) we)) λ ts rest v a.
            let os = outer v.term in
            let is = inner v.term in
            let n : count os + count is ≡ 0 = sym v.parts ∙ ap (part_count calls) (sym we) ∙ z in
            let e = at_term (λ t a. (new' ≡ sets new y (encode (put a t under))) × (k ≡ size (put a t under))) v h a in
            subst (λ (us : Terms). Writing old new' at (o + k) (put_all a ts d) (ahead (putting a) q us))
            (no_parts os is v.later (omega (arith, n)) (omega (arith, n)))
            (subst (Writing old new' at (o + k) (put_all a ts d))
            (sym (ahead_same (putting a) p q v.later (λ j c. same j (omega (arith, c, v.many)))))
            (write_next (encode (put a v.term under)) _ y k (to_write v a) ye e.0 e.1));
        given = g.given;
        room = g.room;
        spare = omega (arith, g.spare, l);
        len = ln ∙ g.len;
        far = g.far;
        near = λ j c. omega (arith, same j c, g.near j (omega (arith, c)));
      }

      -- a variable: the word x is written for it
      pub trace_variable : kind_of w ≡ 0 → (x y : ℕ) → y ≡ at + o
          → ((n : ℕ) → w ≡ pack 0 n 0 → number_of w ≡ n → (a : A) → encode (put a (var n) under) ≡ x ∷ [])
          → Trace calls words old d at m p (set new y x) (owed - 1) (i + 1) (o + 1)
      unfolding node size part_count
      trace_variable z x y ye h =
          let none = ap (parts_of_kind (arity calls (number_of w))) z in
          trace_leaf p (set new y x) 1 y refl (λ j c. refl) (length-set new y x) none ye λ t e k n a.
          by_kind (λ u. w ≡ word_of u → number_of w ≡ (node u).number → Put u a) 0 t (sym k ∙ z) (λ v f c. of_word (var v) a (h v f c a)) e n
        where
          Put : Term → A → Type 0
          Put t a = (set new y x ≡ sets new y (encode (put a t under))) × (1 ≡ size (put a t under))

          of_word : (t : Term) (a : A) → encode (put a t under) ≡ x ∷ [] → Put t a
          of_word t a e = (ap (sets new y) (sym e), ap (λ (l : List ℕ). length l) (sym e))
