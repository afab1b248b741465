-- A node written under a new binder, part by part: each part moves too, and the new variable stands for one of them.
use Prim.Native.Nat.{ℕ, suc, ◌+◌, ◌-◌, ◌≤◌, ◌<◌}
use native.Mathlib.Omega.{arith}
use native.Mathlib.Numerals.{add-one}
use mathlib.Core.Path.{◌≡◌, refl, sym, ◌∙◌, ap, ap₂, subst}
use mathlib.Core.Bool.{Bool, true, false}
use mathlib.Core.List.{List, ◌∷◌, ◌++◌}
use lib.Dec.{eqb}
use lib.ListN.{length, get_or, set, length-set}
use lib.Seq.{sets}
use borrow.Author.Tests.{eqb-true}
use Rattle.std.specs.Prelude.{Option, Some, None, is_some, IfSome}
use Rattle.std.specs.Bool.{then_some}
use Rattle.syntax.specs.Words.{kind_of}
use Rattle.syntax.specs.Kinds.{binders_at}
use Rattle.syntax.specs.Term.{Term, Terms, arg, node}
use Rattle.syntax.specs.Encoding.{word_of, encode, encode_all, size}
use Rattle.syntax.specs.Parts.{part_count}
use Rattle.syntax.specs.Under.{raise_at}
use Rattle.syntax.proofs.Nodes.{encode_node}
use Rattle.syntax.proofs.Sizes.{size_positive, size-rename}
use Rattle.words.specs.Fronts.{Holds, Starts, from}
use Rattle.words.specs.Ends.{Sized}
use Rattle.binding.specs.Writes.{Room, Renames}
use Rattle.contraction.specs.declared.insert.Moved.{Moved}
use Rattle.words.proofs.Sized.{same_size}
use Rattle.words.proofs.Traversal.{fits, front_of, first_word, Going, enter, enter_start}
use Rattle.words.proofs.Traversal.{Does, upcoming, reached, onward, onward_start, leave}
use Rattle.words.proofs.Stretches.{Writing, write_none, write_next, write_all, write_room}
use Rattle.contraction.specs.Plans.{insert_part, insert_parts, Inserted, part_size}
use Rattle.contraction.specs.Insertion.{PartRoom, InsertsPart, NodeRoom, InsertsNode}

-- the size of a part is known if the new variable stands for it
sized_if : {calls src : List ℕ} {n : ℕ} (b : Bool) → (b ≡ true → Sized calls src n) → IfSome (then_some b n) (λ m. Sized calls src m)
sized_if true f = f refl
sized_if false f = tt

some_then : (b : Bool) (n : ℕ) → is_some (then_some b n) ≡ b
some_then true n = refl
some_then false n = refl

-- one part
module _ {calls src : List ℕ} {bound : Option ℕ} {len at cut : ℕ} (r : PartRoom calls src bound len at cut) where
  pub part_space : at < len
  part_space = omega (arith, r.room, size_positive (insert_part (is_some bound) cut r.start.term))

  pub part_room : bound ≡ None → Room calls src len at
  part_room e = record {
    start = r.start;
    room = omega (
      arith,
      r.room,
      ap (λ (b : Option ℕ). size (insert_part (is_some b) cut r.start.term)) e,
      size-rename r.start.term (raise_at cut 1),
    );
  }

module _ {calls src : List ℕ} {bound : Option ℕ} {old : List ℕ} {at cut n : ℕ} where
  pub part_replaced : {len : ℕ} → PartRoom calls src bound len at cut → bound ≡ Some n
      → InsertsPart calls src bound old (set old at 0) at cut (record { read = n; wrote = 1 })
  unfolding encode size node
  part_replaced r e =
      let s = rw e at r.sized in
      record {
        told = λ t rest h. rw e (record { written = record { read_is = s.told t rest h; new_is = refl }; wrote_is = refl });
      }

  pub part_moved : {new : List ℕ} → bound ≡ None → Renames calls src old new at cut 1 n
      → InsertsPart calls src bound old new at cut (record { read = n; wrote = n })
  part_moved e f = record {
    told = λ t rest h.
        let w = f.told t rest h in
        rw e (record { written = w; wrote_is = w.read_is ∙ sym (size-rename t (raise_at cut 1)) });
  }

-- the node's own word has room
pub node_space : {calls src : List ℕ} {i n len at : ℕ} → NodeRoom calls src i n len at → at < len
node_space r = omega (arith, r.room, size_positive r.node)

-- as much room in a buffer of the same length
pub node_room : {calls src : List ℕ} {i n len at : ℕ} → NodeRoom calls src i n len at → {len' : ℕ} → len' ≡ len
    → NodeRoom calls src i n len' at
node_room r e =
    record { start = r.start; sized = r.sized; node = r.node; inserted = r.inserted; room = omega (arith, e, r.room) }

-- the words of the node with the new variable in it
inserted_words : (i k : ℕ) (x z : Term) → Inserted i x z → (node x).kind ≡ k
    → encode z ≡ word_of x ∷ encode_all (insert_parts k i 0 (node x).parts)
inserted_words i k x z s e = encode_node z ∙ ap₂ {C = List ℕ} (λ (w : ℕ) (ts : Terms). w ∷ encode_all ts) s.word s.parts
    ∙ ap {B = List ℕ} (λ (j : ℕ). word_of x ∷ encode_all (insert_parts j i 0 (node x).parts)) e

-- o words of the parts are written, behind the node's own word, and the parts from j on are still to come; part i has s words, if it is one
-- of these
pub record InsertedTo (old new : List ℕ) (at i s k j o : ℕ) (t : Term) (ts : Terms) : Type 0 where
  pub writing : Writing old new (at + 1) o (encode_all (insert_parts k i 0 (node t).parts)) (encode_all (insert_parts k i j ts))
  pub sized : (d : ℕ) → j + d ≡ i → s ≡ part_size ts d

-- the loop's invariant; `old` is the buffer when the node's own word is written
pub record Inserting (calls src old new : List ℕ) (at i s k n m o j : ℕ) : Type 0 where
  pub low : 1 ≤ o
  pub going : Going calls src (InsertedTo old new at i s k j (o - 1)) n m j
  pub room : at + 1 + length (encode_all (insert_parts k i 0 (node going.start.term).parts)) ≤ length old
  pub len : length new ≡ length old

kind_is : {calls src : List ℕ} {k : ℕ} {t : Term} {rest : List ℕ} → k ≡ kind_of (get_or src 0 0) → Holds calls src t rest
    → (node t).kind ≡ k
kind_is e h = sym (front_of h).kind ∙ sym e

module _ {calls src : List ℕ} (old : List ℕ) {at i s k : ℕ} (ke : k ≡ kind_of (get_or src 0 0)) where
  -- before the first part
  pub insert_enter : (w : ℕ) {n : ℕ} → NodeRoom calls src i s (length old) at → n ≡ part_count calls (get_or src 0 0)
      → Inserting calls src (set old at w) (set old at w) at i s k n 1 1 0
  unfolding size
  insert_enter w {n} r e =
      let x = r.start.term in
      let all = inserted_words i k x r.node r.inserted (kind_is ke r.start.holds) in
      record {
        low = omega arith;
        going = enter calls src Q n r.start e start;
        room = subst
            (λ (f : Starts calls src). at + 1 + length (encode_all (insert_parts k i 0 (node f.term).parts)) ≤ length (set old at w))
            (sym (enter_start calls src Q n r.start e start))
            (omega (arith, r.room, ap (λ (l : List ℕ). length l) all, length-set old at w));
        len = refl;
      }
    where
      Q : Term → Terms → Type 0
      Q = InsertedTo (set old at w) (set old at w) at i s k 0 0

      start : (t : Term) (rest : List ℕ) → Holds calls src t rest → Q t (node t).parts
      start t rest h = record {
        writing = write_none (set old at w) (at + 1) _;
        sized = λ d e. r.sized.told t rest h ∙ ap (part_size (node t).parts) (omega (arith, e));
      }

  -- after the last part
  pub insert_leave : {n m o j : ℕ} {new : List ℕ} → Inserting calls src (set old at (get_or src 0 0)) new at i s k n m o j → n ≤ j
      → InsertsNode calls src i old new at
  unfolding insert_parts encode
  insert_leave g ge = record {
    told = λ x z rest h e.
        let q = leave calls src g.going ge x rest h in
        let all = inserted_words i k x z e (kind_is ke h) in
        (write_all q.1.writing).0 ∙ rw (all, add-one at, first_word h);
  }

module _ {calls src old new : List ℕ} {at i s k n m o j : ℕ} (g : Inserting calls src old new at i s k n m o j) (lt : j < n)
    {bound : Option ℕ} (he : bound ≡ then_some (eqb j i) s) {b : ℕ} (be : b ≡ binders_at k j) where
  here : is_some bound ≡ eqb j i
  here = ap is_some he ∙ some_then (eqb j i) s

  part_is : (t : Term) → insert_part (is_some bound) b t ≡ insert_part (eqb j i) (binders_at k j) t
  part_is t = ap₂ (λ (x : Bool) (c : ℕ). insert_part x c t) here be

  -- the part that the new variable stands for has s words
  next_size : (part : Term) (later : Terms) → ((d : ℕ) → j + d ≡ i → s ≡ part_size (arg part later) d) → eqb j i ≡ true
      → s ≡ size part
  unfolding part_size
  next_size part later f e = f 0 (omega (arith, eqb-true j i e))

  -- the next part has room
  pub insert_room : PartRoom calls (from src m) bound (length new) (at + o) b
  unfolding insert_parts encode size
  insert_room =
      let u = upcoming calls src g.going lt in
      let y = insert_part (eqb j i) (binders_at k j) u.part in
      record {
        start = record { term = u.part; rest = _; holds = u.holds };
        sized = rw he (sized_if (eqb j i) (λ e.
            let n = next_size u.part u.later u.to_do.sized e in
            record { within = omega (arith, n, fits u.holds); told = λ t rest h. n ∙ same_size u.holds h }));
        room = omega (arith, g.room, g.len, g.low, write_room (encode y) _ u.to_do.writing, ap size (part_is u.part));
      }

  module _ {new' : List ℕ} {r : Moved} (a : InsertsPart calls (from src m) bound new new' (at + o) b r) where
    inserted : Does calls src (InsertedTo old new at i s k j (o - 1)) (InsertedTo old new' at i s k (j + 1) (o + r.wrote - 1)) m r.read
    unfolding insert_parts encode size part_size
    inserted t rest h part later holds q =
        let w = a.told part (encode_all later ++ rest) holds in
        let y = insert_part (eqb j i) (binders_at k j) part in
        let W : ℕ → ℕ → Type 0 = λ l c. Writing old new' (at + 1) c (encode_all (insert_parts k i 0 (node t).parts))
        (encode_all (insert_parts k i l later)) in
        let next : o - 1 + r.wrote ≡ o + r.wrote - 1 = omega (arith, g.low) in (
          w.written.read_is,
          record {
            writing = subst (λ (l : ℕ). W l (o + r.wrote - 1)) (sym (add-one j))
                (subst (W (suc j)) next
                (write_next (encode y) _ (at + o) r.wrote q.writing (omega (arith, g.low))
                (w.written.new_is ∙ ap (λ (x : Term). sets new (at + o) (encode x)) (part_is part))
                (w.wrote_is ∙ ap size (part_is part))));
            sized = λ d e. q.sized (suc d) (omega (arith, e));
          },
        )

    pub insert_reached : m + r.read ≤ length src
    insert_reached = reached calls src (InsertedTo old new' at i s k (j + 1) (o + r.wrote - 1)) r.read g.going lt inserted

    pub insert_wrote : at + (o + r.wrote) ≤ length new
    insert_wrote =
        let q = insert_room in
        let x = q.start in
        omega (arith, q.room, (a.told x.term x.rest x.holds).wrote_is)

    -- a turn of the loop
    pub insert_next : length new' ≡ length new → Inserting calls src old new' at i s k n (m + r.read) (o + r.wrote) (j + 1)
    insert_next l =
        let R = InsertedTo old new' at i s k (j + 1) (o + r.wrote - 1) in
        record {
          low = omega (arith, g.low);
          going = onward calls src R r.read g.going lt inserted;
          room = subst (λ (f : Starts calls src). at + 1 + length (encode_all (insert_parts k i 0 (node f.term).parts)) ≤ length old)
              (sym (onward_start calls src R r.read g.going lt inserted)) g.room;
          len = l ∙ g.len;
        }
