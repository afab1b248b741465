-- Writing what a plan says: the stretches written one after the other are the words of the contractum, in order.
use Prim.Native.Nat.{ℕ, ◌+◌, ◌-◌, ◌≤◌, ◌<◌}
use native.Mathlib.Omega.{arith}
use mathlib.Core.Path.{◌≡◌, refl, sym, ◌∙◌, ap}
use mathlib.Core.List.{List, ◌++◌}
use lib.ListN.{length, get_or, set, take, drop}
use lib.Seq.{sets, paste}
use Rattle.syntax.specs.Term.{Term, var, bind, case, node}
use Rattle.syntax.specs.Encoding.{word_of, encode, size}
use Rattle.syntax.specs.Substitution.{weaken_body}
use Rattle.syntax.specs.Under.{under_by}
use Rattle.syntax.proofs.Sizes.{size_positive, size_bind, size_case, size_var}
use Rattle.words.proofs.PastedWords.{pasted_sets}
use Rattle.words.specs.Fronts.{Holds, Whole, from}
use Rattle.binding.specs.Writes.{RoomFor, Substitutes}
use Rattle.words.proofs.PartsAt.{held_inside, held_words, held_first}
use Rattle.words.proofs.Sized.{same_size}
use Rattle.words.proofs.Stretches.{write_word, write_next, write_last}
use Rattle.contraction.specs.declared.write.TheConstants.{LET, CASE}
use Rattle.contraction.specs.declared.plan.Plan.TheVariants.{Substitute, Copy, MoveLet, MoveCase, Insert}
use Rattle.contraction.specs.Plans.{PlanMakes, substitutes, copies, moves_let, moves_case, inserts}
use Rattle.contraction.specs.Insertion.{NodeRoom, InsertsNode}
use Rattle.contraction.specs.Writers.{LetParts, LetRoom, WritesLet, PlanRoom, WritesPlan}
use Rattle.contraction.proofs.LetOver.{held_starts, bound_written}

-- the n words from `start` on, as a slice has them
abbrev stretch : List ℕ → ℕ → ℕ → List ℕ
stretch words start n = take (start + n - start) (drop start words)

-- what each plan gives its writer: its parts are inside the source, and what it makes has room in the buffer
pub record Putting (calls words : List ℕ) (body value n len : ℕ) : Type 0 where
  pub body_in : body ≤ length words
  pub value_in : value + n ≤ length words
  pub room : (space : ℕ) → length words + 2 ≤ space → RoomFor calls (from words body) (stretch words value n) len 0 0 space

pub record Copying (calls words : List ℕ) (start n len : ℕ) : Type 0 where
  pub inside : start + n ≤ length words
  pub room : 0 + n ≤ len

pub record MovingLet (calls words : List ℕ) (second third len : ℕ) : Type 0 where
  pub low : 2 ≤ second
  pub inside : 2 + (second - 2) ≤ length words
  pub room : 1 + (second - 2) ≤ len
  pub inner : LetRoom calls words second third third len (second - 1)

pub record MovingCase (calls words : List ℕ) (right third len : ℕ) : Type 0 where
  pub subject : 2 < length words
  pub room : 2 < len
  pub left : LetRoom calls words 3 right third len 2
  pub other : (old new : List ℕ) (n : ℕ) → WritesLet calls words 3 right third old new 2 n
      → LetRoom calls words right third third len (2 + n)

pub record InsertingLet (calls words : List ℕ) (index start n len : ℕ) : Type 0 where
  pub inside : start + n ≤ length words
  pub room : 1 + n ≤ len
  pub node : NodeRoom calls words index n len (1 + n)

abbrev whole : {calls : List ℕ} (words : List ℕ) (start n : ℕ) {t : Term} {rest : List ℕ} → Holds calls (from words start) t rest
    → n ≡ size t → Whole calls (stretch words start n)
whole words start n {t} h e =
    record { term = t; shaped = h.shaped; is = held_words words start h (start + n - start) (omega (arith, e)) }

module _ {calls words : List ℕ} where
  -- a body and a value
  module _ {body value n : ℕ} where
    makes_putting : {len : ℕ} {y : Term} → PlanMakes calls words (Substitute body value n) y → size y ≤ len
        → Putting calls words body value n len
    unfolding under_by size
    makes_putting (substitutes hb hv ve le) r =
        let long : length (stretch words value n) ≡ n = ap (λ (l : List ℕ). length l) (whole words value n hv ve).is ∙ sym ve in
        record {
          body_in = omega (arith, held_inside words body hb);
          value_in = omega (arith, ve, held_inside words value hv);
          room = λ space e. record {
            start = held_starts hb;
            whole = whole words value n hv ve;
            room = omega (arith, r);
            spare = omega (arith, le, e, long);
          };
        }

    pub putting : {len : ℕ} → PlanRoom calls words (Substitute body value n) len → Putting calls words body value n len
    putting p = makes_putting p.makes p.room

    put_written : {y : Term} {old new : List ℕ} → PlanMakes calls words (Substitute body value n) y
        → Substitutes calls (from words body) (stretch words value n) old new 0 0 → new ≡ sets old 0 (encode y)
    unfolding under_by
    put_written (substitutes {b = b} {l = l} hb hv ve le) f = f.told b l hb (whole words value n hv ve)

    pub put_writes : {old new : List ℕ} → Substitutes calls (from words body) (stretch words value n) old new 0 0
        → WritesPlan calls words (Substitute body value n) old new
    put_writes f = record { told = λ y l. put_written l f }

  -- a part that stays
  makes_copying : {start len n : ℕ} {y : Term} → PlanMakes calls words (Copy start) y → size y ≤ len → n ≡ size y
      → Copying calls words start n len
  makes_copying {start = start} (copies h) r e = record { inside = omega (arith, e, held_inside words start h); room = omega (arith, e, r) }

  pub copying : {start n len : ℕ} (p : PlanRoom calls words (Copy start) len) → n ≡ size p.term → Copying calls words start n len
  copying p e = makes_copying p.makes p.room e

  copied : (old : List ℕ) {start n : ℕ} {x y : Term} {new : List ℕ} → PlanMakes calls words (Copy start) x
      → PlanMakes calls words (Copy start) y → n ≡ size x
      → new ≡ sets old 0 (take n (drop start words)) → new ≡ sets old 0 (encode y)
  copied old {start = start} {n = n} (copies g) (copies h) e d =
      d ∙ ap (sets old 0) (held_words words start h n (e ∙ same_size g h))

  pub copy_writes : {start n len : ℕ} {old new : List ℕ} (p : PlanRoom calls words (Copy start) len) → n ≡ size p.term
      → length new ≡ length old → new ≡ paste old 0 (drop start words) n → WritesPlan calls words (Copy start) old new
  copy_writes {start} {n} {old = old} {new} p e kept d = record {
    told = λ y l. copied old p.makes l e (pasted_sets words old new start n 0 kept d);
  }

  -- let of let
  makes_moving_let : {second third len : ℕ} {y : Term} → PlanMakes calls words (MoveLet second third) y → size y ≤ len
      → MovingLet calls words second third len
  makes_moving_let {second = second} (moves_let {p = p} {b = b} {c = c} hp hb hc se te) r =
      let z = size_bind p (bind b (weaken_body c)) in
      record {
        low = omega (arith, se);
        inside = omega (arith, se, held_inside words 2 hp);
        room = omega (arith, se, r, z);
        inner = record {
          bound = b;
          under = c;
          parts = record { more = _; bound = hb; rest = _; under = hc; end_is = te };
          room = omega (arith, se, r, z);
        };
      }

  pub moving_let : {second third len : ℕ} → PlanRoom calls words (MoveLet second third) len → MovingLet calls words second third len
  moving_let p = makes_moving_let p.makes p.room

  let_moved : (old : List ℕ) {second third n : ℕ} {y : Term} {d new : List ℕ} → PlanMakes calls words (MoveLet second third) y
      → d ≡ sets (set old 0 LET) 1 (take (second - 2) (drop 2 words))
      → WritesLet calls words second third third d new (second - 1) n → new ≡ sets old 0 (encode y)
  unfolding encode node size
  let_moved old {second = second} {n = n} (moves_let {p = p} {b = b} {c = c} hp hb hc se te) de f =
      let z = bind b (weaken_body c) in
      let pe : second - 2 ≡ size p = omega (arith, se) in
      let w = f.told b c (record { more = _; bound = hb; rest = _; under = hc; end_is = te }) in
      (write_last (encode z) (second - 1) n (bound_written words 2 old z hp pe de) (omega (arith, se)) w.new_is w.wrote_is).0

  pub let_writes : {second third n : ℕ} (old : List ℕ) {d new : List ℕ}
      → length d ≡ length (set old 0 LET) → d ≡ paste (set old 0 LET) 1 (drop 2 words) (second - 2)
      → WritesLet calls words second third third d new (second - 1) n → WritesPlan calls words (MoveLet second third) old new
  let_writes {second} old {d} kept de f = record {
    told = λ y l. let_moved old l (pasted_sets words (set old 0 LET) d 2 (second - 2) 1 kept de) f;
  }

  -- let of case
  makes_moving_case : {right third len : ℕ} {y : Term} → PlanMakes calls words (MoveCase right third) y → size y ≤ len
      → MovingCase calls words right third len
  makes_moving_case {len = len} (moves_case {z = v} {l = l} {r = r} {c = c} hz hl hr hc re te) s =
      let L = bind l (weaken_body c) in
      let R = bind r (weaken_body c) in
      let z = size_case (var v) L R in
      let parts : LetParts calls words 3 _ _ l c = record { more = _; bound = hl; rest = _; under = hc; end_is = re } in
      record {
        subject = omega (arith, held_inside words 2 hz, size_var v);
        room = omega (arith, s, z, size_var v, size_positive L);
        left = record { bound = l; under = c; parts = parts; room = omega (arith, s, z, size_var v) };
        other = λ old new n f. record {
          bound = r;
          under = c;
          parts = record { more = _; bound = hr; rest = _; under = hc; end_is = te };
          room = omega (arith, s, z, size_var v, (f.told l c parts).wrote_is);
        };
      }

  pub moving_case : {right third len : ℕ} → PlanRoom calls words (MoveCase right third) len → MovingCase calls words right third len
  moving_case p = makes_moving_case p.makes p.room

  case_moved : (old : List ℕ) {right third n m : ℕ} {y : Term} {d new : List ℕ} → PlanMakes calls words (MoveCase right third) y
      → WritesLet calls words 3 right third (set (set old 0 CASE) 1 (get_or words 2 0)) d 2 n
      → WritesLet calls words right third third d new (2 + n) m → new ≡ sets old 0 (encode y)
  unfolding encode node size
  case_moved old {n = n} {m = m} (moves_case {z = v} {l = l} {r = r} {c = c} hz hl hr hc re te) f g =
      let L = bind l (weaken_body c) in
      let R = bind r (weaken_body c) in
      let y = case (var v) L R in
      let a = f.told l c (record { more = _; bound = hl; rest = _; under = hc; end_is = re }) in
      let b = g.told r c (record { more = _; bound = hr; rest = _; under = hc; end_is = te }) in
      let first = write_word old 0 CASE (word_of y) (encode y) (encode (var v) ++ (encode L ++ encode R)) refl refl in
      let subject = write_next (encode (var v)) (encode L ++ encode R) 1 1 first refl
      (ap (λ (w : ℕ). set (set old 0 CASE) 1 w) (held_first words 2 hz)) refl in
      let left = write_next (encode L) (encode R) 2 n subject refl a.new_is a.wrote_is in
      (write_last (encode R) (2 + n) m left (omega arith) b.new_is b.wrote_is).0

  pub case_writes : {right third n m : ℕ} (old : List ℕ) {d new : List ℕ}
      → WritesLet calls words 3 right third (set (set old 0 CASE) 1 (get_or words 2 0)) d 2 n
      → WritesLet calls words right third third d new (2 + n) m → WritesPlan calls words (MoveCase right third) old new
  case_writes old f g = record { told = λ y l. case_moved old l f g }

  -- let insertion
  makes_inserting_let : {index start n len : ℕ} {y : Term} → PlanMakes calls words (Insert index start n) y → size y ≤ len
      → InsertingLet calls words index start n len
  makes_inserting_let {start = start} (inserts {x = x} {p = p} {z = z} hx i hp ne ns) r = record {
    inside = omega (arith, ne, held_inside words start hp);
    room = omega (arith, ne, r, size_bind p z);
    node = record { start = held_starts hx; sized = ns; node = z; inserted = i; room = omega (arith, ne, r, size_bind p z) };
  }

  pub inserting_let : {index start n len : ℕ} → PlanRoom calls words (Insert index start n) len → InsertingLet calls words index start n len
  inserting_let p = makes_inserting_let p.makes p.room

  let_inserted : (old : List ℕ) {index start n : ℕ} {y : Term} {d new : List ℕ} → PlanMakes calls words (Insert index start n) y
      → d ≡ sets (set old 0 LET) 1 (take n (drop start words)) → InsertsNode calls words index d new (1 + n)
      → new ≡ sets old 0 (encode y)
  unfolding encode node size
  let_inserted old {start = start} {n = n} (inserts {x = x} {p = p} {z = z} {m = m} hx i hp ne ns) de f =
      (write_last (encode z) (1 + n) (size z) (bound_written words start old z hp ne de) (omega arith) (f.told x z m hx i) refl).0

  pub insert_writes : {index start n : ℕ} (old : List ℕ) {d new : List ℕ}
      → length d ≡ length (set old 0 LET) → d ≡ paste (set old 0 LET) 1 (drop start words) n
      → InsertsNode calls words index d new (1 + n) → WritesPlan calls words (Insert index start n) old new
  insert_writes {start = start} {n} old {d} kept de f = record {
    told = λ y l. let_inserted old l (pasted_sets words (set old 0 LET) d start n 1 kept de) f;
  }
