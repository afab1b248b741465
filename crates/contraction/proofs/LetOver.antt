-- A let over the body of another let that moves under it: its word, the words of its bound part, and the body renamed.
use Prim.Native.Nat.{ℕ, suc, ◌+◌, ◌-◌, ◌≤◌, ◌<◌}
use native.Mathlib.Omega.{arith}
use mathlib.Core.Path.{◌≡◌, refl, sym, ◌∙◌, ap}
use mathlib.Core.List.{List, ◌++◌}
use lib.ListN.{length, set, drop, take}
use lib.Seq.{sets, paste}
use Rattle.syntax.specs.Term.{Term, bind, node}
use Rattle.syntax.specs.Encoding.{word_of, encode, size}
use Rattle.syntax.specs.Substitution.{under, renaming, rename, weaken_body}
use Rattle.syntax.specs.Under.{raise_at}
use Rattle.syntax.proofs.Under.{weaken_body-raise_at}
use Rattle.syntax.proofs.Sizes.{size_positive, size_bind, size-rename}
use Rattle.words.proofs.PastedWords.{pasted_sets}
use Rattle.words.specs.Fronts.{Holds, Starts, from}
use Rattle.binding.specs.Writes.{Room, Renames}
use Rattle.words.proofs.PartsAt.{held_inside, held_words}
use Rattle.words.proofs.Stretches.{Writing, write_word, write_next, write_last}
use Rattle.contraction.specs.declared.write.TheConstants.{LET}
use Rattle.contraction.specs.Writers.{LetRoom, WritesLet}

-- a term at the front starts a slice
abbrev pub held_starts : {calls words : List ℕ} {t : Term} {rest : List ℕ} → Holds calls words t rest → Starts calls words
held_starts h = record { term = _; rest = _; holds = h }

size_let : (e c : Term) → size (bind e (weaken_body c)) ≡ suc (size e + size c)
size_let e c = omega (arith, size_bind e (weaken_body c), size-rename c (under renaming suc))

-- the word of a let and the words of the part that it binds are written, and its body is still to be written
pub bound_written : {calls : List ℕ} (words : List ℕ) (start : ℕ) {n at : ℕ} (old : List ℕ) {d : List ℕ} {p : Term} {rest : List ℕ}
    (body : Term) → Holds calls (from words start) p rest → n ≡ size p
    → d ≡ sets (set old at LET) (at + 1) (take n (drop start words))
    → Writing old d at (1 + n) (encode (bind p body)) (encode body)
unfolding encode node size
bound_written words start {n} {at} old {p = p} body h e de =
    let first = write_word old at LET (word_of (bind p body)) (encode (bind p body)) (encode p ++ encode body) refl refl in
    write_next (encode p) (encode body) (at + 1) n first refl (de ∙ ap (sets (set old at LET) (at + 1)) (held_words words start h n e)) e

module _ {calls words : List ℕ} {start end body at : ℕ} where
  module _ {len : ℕ} (r : LetRoom calls words start end body len at) where
    end_is : end ≡ start + size r.bound
    end_is = r.parts.end_is

    pub let_ordered : start ≤ end
    let_ordered = omega (arith, end_is)

    pub bound_inside : start + (end - start) ≤ length words
    bound_inside = omega (arith, end_is, held_inside words start r.parts.bound)

    -- the body's first word has room behind the bound part
    pub bound_room : at + 1 + (end - start) < len
    bound_room = omega (arith, end_is, r.room, size_let r.bound r.under, size_positive r.under)

    pub body_inside : body < length words
    body_inside = omega (arith, held_inside words body r.parts.under, size_positive r.under)

    -- in a buffer of the same length the body has room behind the bound part, and the let has room
    pub body_room : {len' : ℕ} → len' ≡ len → Room calls (from words body) len' (at + 1 + (end - start))
    body_room e = record {
      start = held_starts r.parts.under;
      room = omega (arith, e, end_is, r.room, size_let r.bound r.under);
    }

    pub let_room : {len' : ℕ} → len' ≡ len → LetRoom calls words start end body len' at
    let_room e = record { bound = r.bound; under = r.under; parts = r.parts; room = omega (arith, e, r.room) }

    pub let_fits : {old new : List ℕ} {p cut by n : ℕ} → Renames calls (from words body) old new p cut by n
        → at + 1 + (end - start) + n ≤ len
    let_fits f = omega (arith, end_is, r.room, size_let r.bound r.under, (f.told r.under _ r.parts.under).read_is)

  pub let_written : {n : ℕ} (old : List ℕ) {d new : List ℕ}
      → length d ≡ length (set old at LET)
      → d ≡ paste (set old at LET) (at + 1) (drop start words) (end - start)
      → Renames calls (from words body) d new (at + 1 + (end - start)) 1 1 n
      → WritesLet calls words start end body old new at (1 + (end - start) + n)
  unfolding size
  let_written {n} old {d} kept de f = record {
    told = λ e c p.
        let w = f.told c p.rest p.under in
        let we : encode (rename c (raise_at 1 1)) ≡ encode (weaken_body c) = ap encode (sym (weaken_body-raise_at c)) in
        let size_is : end - start ≡ size e = omega (arith, p.end_is) in
        let copied = pasted_sets words (set old at LET) d start (end - start) (at + 1) kept de in
        let bound = bound_written words start old (weaken_body c) p.bound size_is copied in
        let all = write_last (encode (weaken_body c)) (at + 1 + (end - start)) n bound (omega arith)
        (w.new_is ∙ ap (sets d (at + 1 + (end - start))) we) (w.read_is ∙ sym (size-rename c (under renaming suc))) in
        record { new_is = all.0; wrote_is = all.1 };
  }
