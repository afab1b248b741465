-- Substitution into a buffer: the value is written for its variable, other variables are lowered past it, any other word is copied.
use Prim.Native.Nat.{ℕ, ◌+◌, ◌-◌, ◌^◌, ◌≤◌, ◌<◌}
use native.Mathlib.Omega.{arith}
use mathlib.Core.Path.{◌≡◌, refl, sym, ◌∙◌, ap, subst, fun_ext}
use mathlib.Core.Logic.{◌≢◌}
use mathlib.Core.List.{List, [], ◌∷◌, ◌++◌, append-nil}
use lib.ListN.{length, get_or, set, take, drop, take-append-drop, get_or-append}
use lib.Seq.{sets, paste, take_all, length-take-le}
use borrow.Rule.Slice.PartMut.{mid_of, post_of, put_mid, same_len_mid}
use Rattle.syntax.specs.Words.{kind_of, number_of, pack}
use Rattle.syntax.specs.Term.{Term, var, node}
use Rattle.syntax.specs.Encoding.{word_of, encode, size}
use Rattle.syntax.specs.Kinds.{parts_of_kind}
use Rattle.syntax.specs.Parts.{part_count}
use Rattle.syntax.specs.Tables.{arity}
use Rattle.syntax.specs.Substitution.{traverse, rename, substitution, only}
use Rattle.syntax.specs.Under.{under_by, raise_at, only_at}
use Rattle.syntax.proofs.Algebra.{rename_id}
use Rattle.syntax.proofs.Sizes.{size-rename}
use Rattle.syntax.proofs.Under.{only_at_at, only_at_other}
use Rattle.words.specs.Depths.{OpensParts}
use Rattle.words.specs.Fronts.{Holds, Whole}
use Rattle.binding.specs.Writes.{Room, Renames, RoomFor, Substitutes, lowered_word, Raises}
use Rattle.words.proofs.PastedWords.{pasted_sets}
use Rattle.syntax.proofs.ByKind.{by_kind}
use Rattle.binding.proofs.LoweredWords.{lower_word}
use Rattle.binding.proofs.TermTurns.{Turn, turn}
use Rattle.binding.proofs.TermWritten.{put, Trace, trace_begin, trace_end, put_room, trace_leaf, trace_variable, trace_node}

-- a value is put for a variable
abbrev pub valued : (calls value : List ℕ) → Whole calls value → ℕ → Term
valued calls value v = only v.term

-- a value's words begin with it
whole_holds : {calls value : List ℕ} (v : Whole calls value) → Holds calls value v.term []
whole_holds v = record { shaped = v.shaped; is = v.is ∙ sym (append-nil (encode v.term)) }

pub whole_room : {calls value : List ℕ} {at : ℕ} (len : ℕ) → Whole calls value → at + length value ≤ len → Room calls value len at
unfolding size
whole_room len w le = record {
  start = record { term = w.term; rest = []; holds = whole_holds w };
  room = omega (arith, le, ap (λ (l : List ℕ). length l) w.is);
}

-- the value is copied, or raised
module _ {calls value old new : List ℕ} {at by : ℕ} where
  pub raises_copied : by ≡ 0 → length new ≡ length old → new ≡ paste old at (drop 0 value) (length value)
      → Raises calls value old new at by (length value)
  unfolding under_by
  raises_copied z kept e = record {
    told = λ v. pasted_sets value old new 0 (length value) at kept e
        ∙ ap (sets old at) (take_all (length value) value (omega arith) ∙ v.is ∙ ap encode (sym (same v)));
    size_is = refl;
  }
    where
      same : (v : Whole calls value) → rename v.term (raise_at 0 by) ≡ v.term
      same v = ap (rename v.term) (fun_ext λ n. omega (arith, z)) ∙ rename_id v.term

  pub raises_renamed : (r : ℕ) → Whole calls value → Renames calls value old new at 0 by r → Raises calls value old new at by r
  unfolding size
  raises_renamed r w n = record {
    told = λ v. (n.told v.term [] (whole_holds v)).new_is;
    size_is = (n.told w.term [] (whole_holds w)).read_is ∙ ap (λ (l : List ℕ). length l) (sym w.is);
  }

-- the word of a variable other than the one that goes, lowered
lower_other : (w d n : ℕ) (v : Term) → w ≡ pack 0 n 0 → number_of w ≡ n → w ≢ pack 0 d 0 → encode (only_at d v n) ≡ lowered_word d w ∷ []
unfolding encode node
lower_other w d n v e m h = ap encode (only_at_other d v n (λ x. h (omega (arith, e, x))))
    ∙ ap {B = List ℕ} (λ (i : ℕ). i ∷ []) (lower_word w d n e m)

-- the loop's invariant
abbrev pub Substituting : (calls body value old : List ℕ) (depth at : ℕ) (p new : List ℕ) (owed i o : ℕ) → Type 0
Substituting calls body value old depth at p new owed i o =
    Turn substitution (valued calls value) calls body old depth at (length value + 2) p new owed i o

module _ {calls body value old : List ℕ} {depth at : ℕ} {p new : List ℕ} {owed i o : ℕ} where
  substituting : Trace substitution (valued calls value) calls body old depth at (length value + 2) p new owed i o
      → Substituting calls body value old depth at p new owed i o
  substituting = turn substitution (valued calls value) (omega arith)

pub substitute_begin : {calls body value old : List ℕ} {at : ℕ} (p : List ℕ) (depth : ℕ)
    → RoomFor calls body value (length old) at depth (length p) → depth + length body ≤ 65536
    → Substituting calls body value old depth at (set p 0 depth) old 1 0 0
substitute_begin {calls} {value = value} p depth r far =
    substituting (trace_begin substitution (valued calls value) p depth r.start r.whole r.room (omega (arith, r.spare)) far)

module _ {calls body value old : List ℕ} {depth at : ℕ} {p new : List ℕ} {owed i o : ℕ}
    (g : Substituting calls body value old depth at p new owed i o) where
  -- another variable
  pub substitute_variable : (x : ℕ) → 1 ≤ owed → kind_of (get_or body i 0) ≡ 0 → get_or body i 0 ≢ pack 0 (get_or p (owed - 1) 0) 0
      → x ≡ lowered_word (get_or p (owed - 1) 0) (get_or body i 0)
      → Substituting calls body value old depth at p (set new (at + o) x) (owed - 1) (i + 1) (o + 1)
  unfolding traverse
  substitute_variable x lt z h e = substituting
      (trace_variable substitution (valued calls value) g.trace lt (get_or body i 0) (get_or p (owed - 1) 0) refl refl z x (at + o) refl λ n f c v.
      lower_other _ _ n v.term f c h ∙ ap {B = List ℕ} (λ (w : ℕ). w ∷ []) (sym e))

  pub substitute_node : (q : List ℕ) (r : ℕ) → 1 ≤ owed → (kind_of (get_or body i 0) ≡ 0 → ⊥) → length q ≡ length p
      → OpensParts calls (get_or body i 0) (get_or p (owed - 1) 0) p q (owed - 1) r
      → Substituting calls body value old depth at q (set new (at + o) (get_or body i 0)) r (i + 1) (o + 1)
  substitute_node q r lt z l ops = substituting
      (trace_node substitution (valued calls value) g.trace lt (get_or body i 0) (get_or p (owed - 1) 0) refl refl z q r (at + o) l ops refl)

  pub substitute_end : owed ≤ 0 → Substitutes calls body value old new at depth
  substitute_end z = record { told = λ t rest h v. (trace_end substitution (valued calls value) g.trace z t rest h v).1 }

-- the depths before a part of the buffer that is handed on stay
kept_before_part : (p ys : List ℕ) (a k j : ℕ) → a ≤ length p → j < a → get_or (put_mid a k p ys) j 0 ≡ get_or p j 0
kept_before_part p ys a k j le l =
    let h : j < length (take a p) = omega (arith, l, length-take-le a p le) in
    get_or-append (take a p) (ys ++ post_of a k p) 0 j h ∙ sym (get_or-append (take a p) (drop a p) 0 j h)
    ∙ ap (λ (x : List ℕ). get_or x j 0) (take-append-drop a p)

-- the variable itself: the value is written, its variables raised
module _ {calls body value old : List ℕ} {depth at : ℕ} {p new : List ℕ} {owed i o : ℕ}
    (g : Substituting calls body value old depth at p new owed i o) (lt : 1 ≤ owed) (w under : ℕ) (we : w ≡ get_or body i 0)
    (ue : under ≡ get_or p (owed - 1) 0) (e : w ≡ pack 0 under 0) where
  lu : under < 2 ^ 30
  lu = omega (arith, (g.opens lt).2, ue)

  kind_is : kind_of w ≡ 0
  kind_is = omega (arith, e, lu)

  -- the term is the variable
  is_variable : (P : Term → Type 0) (t : Term) → w ≡ word_of t → kind_of w ≡ (node t).kind → number_of w ≡ (node t).number
      → P (var under) → P t
  unfolding node
  is_variable P t _ k n h = by_kind (λ x. number_of w ≡ (node x).number → P x) 0 t (sym k ∙ kind_is) (λ m q.
      let c : under ≡ m = omega (arith, e, lu, q) in
      subst (λ (x : ℕ). P (var x)) c h) n

  value_size : (v : Whole calls value) → length value ≡ size (put substitution (valued calls value) v (var under) under)
  unfolding size traverse
  value_size v = ap (λ (l : List ℕ). length l) v.is ∙ sym (size-rename v.term (λ n. under + n))
      ∙ ap size (sym (only_at_at under v.term))

  pub value_room : at + o + length value ≤ length new
  value_room = put_room substitution (valued calls value) g.trace lt w under we ue (length value) λ t a b c v.
      is_variable (λ x. length value ≡ size (put substitution (valued calls value) v x under)) t a b c (value_size v)

  -- the value's depths stand in the part of the buffer behind those of the parts still to come
  pub substitute_value : (ys new' : List ℕ) (k r : ℕ) → length ys ≡ length (mid_of owed k p) → length new' ≡ length new
      → Raises calls value new new' (at + o) under r
      → Substituting calls body value old depth at (put_mid owed k p ys) new' (owed - 1) (i + 1) (o + r)
  unfolding part_count traverse under_by
  substitute_value ys new' k r l ln s = substituting
      (trace_leaf substitution (valued calls value) g.trace lt w under we ue (put_mid owed k p ys) new' r (at + o) (same_len_mid owed k p ys l)
      (λ j c. kept_before_part p ys owed k j (omega (arith, g.spare)) (omega (arith, c))) ln
      (ap (parts_of_kind (arity calls (number_of w))) kind_is) refl λ t a b c v.
      is_variable (λ x. (new' ≡ sets new (at + o) (encode (put substitution (valued calls value) v x under)))
      × (r ≡ size (put substitution (valued calls value) v x under))) t a b c (
        s.told v ∙ ap (λ (x : Term). sets new (at + o) (encode x)) (sym (only_at_at under v.term)),
        s.size_is ∙ value_size v,
      ))
