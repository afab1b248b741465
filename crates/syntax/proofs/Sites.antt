-- A position's index is the number of words before its subterm, and the words of the whole with another term there are the same words
-- with that term's words between them: a node puts fixed words before and behind each of its parts.
use mathlib.Core.Path.{◌≡◌, refl, sym, ◌∙◌, ap, subst}
use mathlib.Core.List.{List, [], ◌∷◌, ◌++◌, map, append_assoc, append-nil}
use mathlib.Core.Option.{some, some-injective, none-ne-some}
use Prim.Native.Nat.{ℕ, zero, suc, ◌+◌, ◌<◌}
use native.Mathlib.Omega.{arith}
use lib.ListN.{length, drop, get_elem?, length-append, length-map}
use lib.Seq.{drop_at}
use Rattle.syntax.specs.Term.{Term, Terms, var, call, lam, app, bind, pair, fst, snd, inl, inr, case, unit, done, arg}
use Rattle.syntax.specs.Encoding.{word_of, encode, encode_all, size}
use Rattle.syntax.specs.Positions.{Position, root, within, bound, positions, positions_all}
use Rattle.syntax.proofs.Positions.{length_positions}
use Rattle.syntax.proofs.Sizes.{size_positive}

-- p stands at index i of the words ws of a whole: so many words come before its subterm
record Place {X : Type 0} (words : X → List ℕ) (ws : List ℕ) (i : ℕ) (p : Position X) : Type 0 where
  before : List ℕ
  after : List ℕ
  index : length before ≡ i
  whole : ws ≡ before ++ (encode p.subterm ++ after)
  plugged : (u : Term) → words (p.plug u) ≡ before ++ (encode u ++ after)

-- these positions stand at the indices from i on
data Row {X : Type 0} (words : X → List ℕ) (ws : List ℕ) : ℕ → List (Position X) → Type 0 where
  no_more : {i : ℕ} → Row words ws i []
  more : {i : ℕ} {p : Position X} {ps : List (Position X)} → Place words ws i p → Row words ws (suc i) ps → Row words ws i (p ∷ ps)

look : {X : Type 0} {words : X → List ℕ} {ws : List ℕ} {i : ℕ} {ps : List (Position X)} → Row words ws i ps → (j : ℕ) (p : Position X)
    → get_elem? ps j ≡ some p → Place words ws (i + j) p
look no_more j p e = absurd (none-ne-some p e)
look {words = words} {ws = ws} {i = i} (more {p = q} s r) zero p e =
    subst (λ (k : ℕ). Place words ws k p) (omega arith) (subst (Place words ws i) (some-injective q p e) s)
look {words = words} {ws = ws} {i = i} (more s r) (suc j) p e =
    subst (λ (k : ℕ). Place words ws k p) (omega arith) (look r j p e)

in_a_row : {X : Type 0} {words : X → List ℕ} {ws : List ℕ} {i : ℕ} {ps : List (Position X)} → Row words ws i ps → (k : ℕ)
    (qs : List (Position X)) → k ≡ i + length ps → Row words ws k qs → Row words ws i (ps ++ qs)
in_a_row {words = words} {ws = ws} no_more k qs e r = subst (λ (n : ℕ). Row words ws n qs) (e ∙ omega arith) r
in_a_row (more s q) k qs e r = more s (in_a_row q k qs (e ∙ omega arith) r)

-- A part of a whole: C puts the words `left` before the part's and `right` behind them.
module _ {X Y : Type 0} (inner : X → List ℕ) (outer : Y → List ℕ) (C : X → Y) (left right : List ℕ)
    (around : (x : X) → outer (C x) ≡ left ++ (inner x ++ right)) (x : X) where
  -- the words of a whole, regrouped around a place in the part
  regroup : (y : X) (before mid after : List ℕ) → inner y ≡ before ++ (mid ++ after)
      → outer (C y) ≡ (left ++ before) ++ (mid ++ (after ++ right))
  regroup y before mid after e = around y ∙ ap {B = List ℕ} (λ ws. left ++ (ws ++ right)) e ∙ simp append_assoc

  place_part : (i k : ℕ) (p : Position X) (d : ℕ) → k ≡ length left + i → Place inner (inner x) i p
      → Place outer (outer (C x)) k (record { subterm = p.subterm; depth = d; plug = λ u. C (p.plug u) })
  place_part i k p d e s = record {
    before = left ++ s.before;
    after = s.after ++ right;
    index = length-append left s.before ∙ ap (λ (n : ℕ). length left + n) s.index ∙ sym e;
    whole = regroup x s.before (encode p.subterm) s.after s.whole;
    plugged = λ u. regroup (p.plug u) s.before (encode u) s.after (s.plugged u);
  }

  row_within : {i : ℕ} {ps : List (Position X)} → Row inner (inner x) i ps → (k : ℕ) → k ≡ length left + i
      → Row outer (outer (C x)) k (map (within C) ps)
  row_within no_more k e = no_more
  row_within {i} (more {p = p} s r) k e = more (place_part i k p p.depth e s) (row_within r (suc k) (omega arith))

  row_bound : {i : ℕ} {ps : List (Position X)} → Row inner (inner x) i ps → (k : ℕ) → k ≡ length left + i
      → Row outer (outer (C x)) k (map (bound C) ps)
  row_bound no_more k e = no_more
  row_bound {i} (more {p = p} s r) k e = more (place_part i k p (suc p.depth) e s) (row_bound r (suc k) (omega arith))

-- the last part of a node has no words behind it
last : (left ws : List ℕ) → left ++ ws ≡ left ++ (ws ++ [])
last left ws = ap {B = List ℕ} (λ us. left ++ us) (sym (append-nil ws))

at_root : (t : Term) → Place encode (encode t) 0 (root t)
at_root t = record { before = []; after = []; index = refl; whole = last [] (encode t); plugged = λ u. last [] (encode u) }

-- where the part behind the first one, or behind the first two, begins
after_within : {Y : Type 0} (C : Term → Y) (n : ℕ) (t : Term) → n + size t ≡ n + length (map (within C) (positions t))
after_within C n t = ap (λ (k : ℕ). n + k) (sym (length-map (positions t) (within C) ∙ length_positions t))

after_bound : {Y : Type 0} (C : Term → Y) (n : ℕ) (t : Term) → n + size t ≡ n + length (map (bound C) (positions t))
after_bound C n t = ap (λ (k : ℕ). n + k) (sym (length-map (positions t) (bound C) ∙ length_positions t))

-- the length of the words before the second part, and before the third
second_at : (w : ℕ) (t : Term) → 1 + size t ≡ length (w ∷ encode t) + 0
unfolding size
second_at w t = omega arith

third_at : (w : ℕ) (s l : Term) → 1 + size s + size l ≡ length (w ∷ (encode s ++ encode l)) + 0
unfolding size
third_at w s l = let e = length-append (encode s) (encode l) in omega arith

next_at : (t : Term) → 0 + size t ≡ length (encode t) + 0
unfolding size
next_at t = omega arith

-- a node's only part
only_part : {X : Type 0} (words : X → List ℕ) (C : X → Term) (w : ℕ) (x : X) → ((y : X) → encode (C y) ≡ w ∷ words y)
    → {ps : List (Position X)} → Row words (words x) 0 ps → Row encode (encode (C x)) 1 (map (within C) ps)
only_part words C w x e r = row_within words encode C (w ∷ []) [] (λ y. e y ∙ last (w ∷ []) (words y)) x r 1 refl

-- the first of several parts
first_part : (C : Term → Term) (w : ℕ) (rest : List ℕ) (x : Term) → ((y : Term) → encode (C y) ≡ w ∷ (encode y ++ rest))
    → {ps : List (Position Term)} → Row encode (encode x) 0 ps → Row encode (encode (C x)) 1 (map (within C) ps)
first_part C w rest x e r = row_within encode encode C (w ∷ []) rest e x r 1 refl

mutual
  unfolding positions encode

  row : (t : Term) → Row encode (encode t) 0 (positions t)
  row (var n) = more (at_root (var n)) no_more
  row (call k ts) = more (at_root (call k ts)) (only_part encode_all (call k) _ ts (λ x. refl) (row_all ts))
  row (lam A b) = more (at_root (lam A b))
      (row_bound encode encode (lam A) (word_of (lam A b) ∷ []) [] (λ x. last (word_of (lam A x) ∷ []) (encode x)) b (row b) 1 refl)
  row (app f a) = more (at_root (app f a))
      (in_a_row (first_part (λ x. app x a) _ _ f (λ x. refl) (row f)) (1 + size f) _ (after_within (λ x. app x a) 1 f)
      (row_within encode encode (app f) (word_of (app f a) ∷ encode f) [] (λ x. last (word_of (app f x) ∷ encode f) (encode x)) a (row a) _
      (second_at (word_of (app f a)) f)))
  row (bind e b) = more (at_root (bind e b))
      (in_a_row (first_part (λ x. bind x b) _ _ e (λ x. refl) (row e)) (1 + size e) _ (after_within (λ x. bind x b) 1 e)
      (row_bound encode encode (bind e) (word_of (bind e b) ∷ encode e) [] (λ x. last (word_of (bind e x) ∷ encode e) (encode x)) b (row b) _
      (second_at (word_of (bind e b)) e)))
  row (pair A a b) = more (at_root (pair A a b))
      (in_a_row (first_part (λ x. pair A x b) _ _ a (λ x. refl) (row a)) (1 + size a) _ (after_within (λ x. pair A x b) 1 a)
      (row_within encode encode (pair A a) (word_of (pair A a b) ∷ encode a) [] (λ x. last (word_of (pair A a x) ∷ encode a) (encode x)) b
      (row b) _ (second_at (word_of (pair A a b)) a)))
  row (fst a) = more (at_root (fst a)) (only_part encode fst _ a (λ x. refl) (row a))
  row (snd a) = more (at_root (snd a)) (only_part encode snd _ a (λ x. refl) (row a))
  row (inl A a) = more (at_root (inl A a)) (only_part encode (inl A) _ a (λ x. refl) (row a))
  row (inr A a) = more (at_root (inr A a)) (only_part encode (inr A) _ a (λ x. refl) (row a))
  row (case s l r) = more (at_root (case s l r))
      (in_a_row (first_part (λ x. case x l r) _ _ s (λ x. refl) (row s)) (1 + size s) _ (after_within (λ x. case x l r) 1 s)
      (in_a_row
      (row_bound encode encode (λ x. case s x r) (word_of (case s l r) ∷ encode s) (encode r) (λ x. refl) l (row l) (1 + size s)
      (second_at (word_of (case s l r)) s))
      (1 + size s + size l) _ (after_bound (λ x. case s x r) (1 + size s) l)
      (row_bound encode encode (case s l) (word_of (case s l r) ∷ (encode s ++ encode l)) []
      (λ x. ap {B = List ℕ} (λ ws. word_of (case s l x) ∷ ws) (sym (append_assoc (encode s) (encode l) (encode x)))
      ∙ last (word_of (case s l x) ∷ (encode s ++ encode l)) (encode x)) r (row r) _ (third_at (word_of (case s l r)) s l))))
  row (unit A) = more (at_root (unit A)) no_more

  row_all : (ts : Terms) → Row encode_all (encode_all ts) 0 (positions_all ts)
  row_all done = no_more
  row_all (arg t ts) =
      in_a_row (row_within encode encode_all (λ x. arg x ts) [] (encode_all ts) (λ x. refl) t (row t) 0 refl) (0 + size t) _
      (after_within (λ x. arg x ts) 0 t)
      (row_within encode_all encode_all (arg t) (encode t) [] (λ us. last (encode t) (encode_all us)) ts (row_all ts) _ (next_at t))

-- a position's place among the words of a term
pub record Site (t : Term) (i : ℕ) (p : Position Term) : Type 0 where
  pub before : List ℕ
  pub after : List ℕ
  pub index : length before ≡ i
  pub whole : encode t ≡ before ++ (encode p.subterm ++ after)
  pub plugged : (u : Term) → encode (p.plug u) ≡ before ++ (encode u ++ after)

pub site : (t : Term) (i : ℕ) (p : Position Term) → get_elem? (positions t) i ≡ some p → Site t i p
site t i p e = let s = look (row t) i p e in record {
  before = s.before;
  after = s.after;
  index = s.index ∙ omega arith;
  whole = s.whole;
  plugged = s.plugged;
}

module _ {t : Term} {i : ℕ} {p : Position Term} (s : Site t i p) where
  -- the words from its index on begin with its subterm's
  pub drop_site : drop i (encode t) ≡ encode p.subterm ++ s.after
  drop_site = ap (drop i) s.whole ∙ drop_at s.before _ i s.index

  pub size_site : size t ≡ i + (size p.subterm + length s.after)
  unfolding size
  size_site = let a = ap length s.whole in let b = length-append s.before (encode p.subterm ++ s.after) in
      let c = length-append (encode p.subterm) s.after in let d = s.index in omega arith

  pub size_plugged : (u : Term) → size (p.plug u) ≡ i + (size u + length s.after)
  unfolding size
  size_plugged u = let a = ap length (s.plugged u) in let b = length-append s.before (encode u ++ s.after) in
      let c = length-append (encode u) s.after in let d = s.index in omega arith

-- an index below the size has a position
pub record PositionAt (t : Term) (i : ℕ) : Type 0 where
  pub position : Position Term
  pub is : get_elem? (positions t) i ≡ some position

-- the member at an index below the length
record Member {X : Type 0} (xs : List X) (i : ℕ) : Type 0 where
  member : X
  is : get_elem? xs i ≡ some member

member_at : {X : Type 0} (xs : List X) (i : ℕ) → i < length xs → Member xs i
member_at [] i h = absurd (omega arith)
member_at (x ∷ xs) zero h = record { member = x; is = refl }
member_at (x ∷ xs) (suc i) h = let m = member_at xs i (omega arith) in record { member = m.member; is = m.is }

pub position_at : (t : Term) (i : ℕ) → i < size t → PositionAt t i
position_at t i h =
    let e = length_positions t in let m = member_at (positions t) i (omega arith) in record { position = m.member; is = m.is }

-- and only such an index
pub index_below : (t : Term) (i : ℕ) (p : Position Term) → get_elem? (positions t) i ≡ some p → i < size t
index_below t i p e = let a = size_site (site t i p e) in let b = size_positive p.subterm in omega arith
