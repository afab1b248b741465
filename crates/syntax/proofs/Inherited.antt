-- What a term hands on to its parts holds of the subterm at each of its positions. So words can hold each subterm of a term that they can
-- hold.
use mathlib.Core.Path.{◌≡◌, subst}
use mathlib.Core.List.{List, [], ◌∷◌, ◌++◌, map}
use mathlib.Core.Option.{some, some-injective, none-ne-some}
use Prim.Native.Nat.{ℕ, zero, suc}
use lib.ListN.{get_elem?}
use Rattle.syntax.specs.Term.{Term, Terms, var, call, lam, app, bind, pair, fst, snd, inl, inr, case, unit, done, arg, node}
use Rattle.syntax.specs.Lists.{◌∈◌, here, there}
use Rattle.syntax.specs.Positions.{Position, within, bound, positions, positions_all}
use Rattle.syntax.specs.Shaped.{Shaped, ShapedAll}

-- a property of terms, and of lists of terms, that a term hands on to its parts
pub record Inherited (P : Term → Type 0) (PAll : Terms → Type 0) : Type 0 where
  pub parts : (t : Term) → P t → PAll (node t).parts
  pub first : (t : Term) (ts : Terms) → PAll (arg t ts) → P t
  pub rest : (t : Term) (ts : Terms) → PAll (arg t ts) → PAll ts

-- P holds of the subterms at these positions
data All (P : Term → Type 0) {X : Type 0} : List (Position X) → Type 0 where
  no_more : All P []
  more : {p : Position X} {ps : List (Position X)} → P p.subterm → All P ps → All P (p ∷ ps)

module _ {P : Term → Type 0} where
  all_within : {X Y : Type 0} (C : X → Y) {ps : List (Position X)} → All P ps → All P (map (within C) ps)
  all_within C no_more = no_more
  all_within C (more h a) = more h (all_within C a)

  all_bound : {X Y : Type 0} (C : X → Y) {ps : List (Position X)} → All P ps → All P (map (bound C) ps)
  all_bound C no_more = no_more
  all_bound C (more h a) = more h (all_bound C a)

  in_a_row : {X : Type 0} {ps qs : List (Position X)} → All P ps → All P qs → All P (ps ++ qs)
  in_a_row no_more b = b
  in_a_row (more h a) b = more h (in_a_row a b)

  look : {X : Type 0} {ps : List (Position X)} → All P ps → (i : ℕ) (p : Position X) → get_elem? ps i ≡ some p → P p.subterm
  look no_more i p e = absurd (none-ne-some p e)
  look (more {p = q} h a) zero p e = subst (λ (x : Position _). P x.subterm) (some-injective q p e) h
  look (more h a) (suc i) p e = look a i p e

  look_in : {X : Type 0} {ps : List (Position X)} → All P ps → (p : Position X) → p ∈ ps → P p.subterm
  look_in no_more p i = elim i [ ]
  look_in (more h a) p here = h
  look_in (more h a) p (there i) = look_in a p i

module _ {P : Term → Type 0} {PAll : Terms → Type 0} (I : Inherited P PAll) where
  mutual
    unfolding positions node

    all : (t : Term) → P t → All P (positions t)
    all (var n) h = more h no_more
    all (call k ts) h = more h (all_within (call k) (all_all ts (I.parts (call k ts) h)))
    all (lam A b) h = more h (all_bound (lam A) (all b (I.first b done (I.parts (lam A b) h))))
    all (app f a) h = let i = I.parts (app f a) h in
        more h (in_a_row (all_within (λ x. app x a) (all f (I.first f _ i)))
        (all_within (λ x. app f x) (all a (I.first a _ (I.rest f _ i)))))
    all (bind e b) h = let i = I.parts (bind e b) h in
        more h (in_a_row (all_within (λ x. bind x b) (all e (I.first e _ i)))
        (all_bound (λ x. bind e x) (all b (I.first b _ (I.rest e _ i)))))
    all (pair A a b) h = let i = I.parts (pair A a b) h in
        more h (in_a_row (all_within (λ x. pair A x b) (all a (I.first a _ i)))
        (all_within (λ x. pair A a x) (all b (I.first b _ (I.rest a _ i)))))
    all (fst a) h = more h (all_within fst (all a (I.first a done (I.parts (fst a) h))))
    all (snd a) h = more h (all_within snd (all a (I.first a done (I.parts (snd a) h))))
    all (inl A a) h = more h (all_within (inl A) (all a (I.first a done (I.parts (inl A a) h))))
    all (inr A a) h = more h (all_within (inr A) (all a (I.first a done (I.parts (inr A a) h))))
    all (case s l r) h = let i = I.parts (case s l r) h in let j = I.rest s _ i in
        more h (in_a_row (all_within (λ x. case x l r) (all s (I.first s _ i)))
        (in_a_row (all_bound (λ x. case s x r) (all l (I.first l _ j)))
        (all_bound (λ x. case s l x) (all r (I.first r _ (I.rest l _ j))))))
    all (unit A) h = more h no_more

    all_all : (ts : Terms) → PAll ts → All P (positions_all ts)
    all_all done h = no_more
    all_all (arg t ts) h = in_a_row (all_within (λ x. arg x ts) (all t (I.first t ts h)))
        (all_within (λ x. arg t x) (all_all ts (I.rest t ts h)))

  pub inherited : (t : Term) → P t → (i : ℕ) (p : Position Term) → get_elem? (positions t) i ≡ some p → P p.subterm
  inherited t h i p e = look (all t h) i p e

  pub inherited_in : (t : Term) → P t → (p : Position Term) → p ∈ positions t → P p.subterm
  inherited_in t h p i = look_in (all t h) p i

shaped_parts : (calls : List ℕ) (t : Term) → Shaped calls t → ShapedAll calls (node t).parts
unfolding Shaped node
shaped_parts calls (var n) h = tt
shaped_parts calls (call k ts) h = h.2
shaped_parts calls (lam A b) h = (h.1, tt)
shaped_parts calls (app f a) h = (h.0, (h.1, tt))
shaped_parts calls (bind e b) h = (h.0, (h.1, tt))
shaped_parts calls (pair A a b) h = (h.1, (h.2, tt))
shaped_parts calls (fst a) h = (h, tt)
shaped_parts calls (snd a) h = (h, tt)
shaped_parts calls (inl A a) h = (h.1, tt)
shaped_parts calls (inr A a) h = (h.1, tt)
shaped_parts calls (case s l r) h = (h.0, (h.1, (h.2, tt)))
shaped_parts calls (unit A) h = tt

shaped_inherited : (calls : List ℕ) → Inherited (Shaped calls) (ShapedAll calls)
unfolding Shaped
shaped_inherited calls = record { parts = shaped_parts calls; first = λ t ts h. h.0; rest = λ t ts h. h.1 }

pub shaped_site : (calls : List ℕ) (t : Term) → Shaped calls t → (i : ℕ) (p : Position Term) → get_elem? (positions t) i ≡ some p
    → Shaped calls p.subterm
shaped_site calls t h i p e = inherited (shaped_inherited calls) t h i p e
