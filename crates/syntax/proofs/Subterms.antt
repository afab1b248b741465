-- The subterms of a term by structure: the term itself, then those of its parts in order.
use mathlib.Core.Path.{◌≡◌, refl, sym, ◌∙◌, ap, ap₂}
use mathlib.Core.List.{List, [], ◌∷◌, ◌++◌, map, map-map, map-append}
use mathlib.Core.Option
use Prim.Native.Nat.{ℕ, zero, suc}
use lib.ListN.{length, get_elem?, length-map}
use Rattle.syntax.specs.Term.{Term, Terms, var, call, lam, app, bind, pair, fst, snd, inl, inr, case, unit, done, arg}
use Rattle.syntax.specs.Encoding.{word_of, encode, encode_all, size}
use Rattle.syntax.specs.Positions.{Position, within, bound, positions, positions_all}

unfoldable mutual
  pub nodes : Term → List Term
  nodes (var n) = var n ∷ []
  nodes (call k ts) = call k ts ∷ nodes_all ts
  nodes (lam A b) = lam A b ∷ nodes b
  nodes (app f a) = app f a ∷ (nodes f ++ nodes a)
  nodes (bind e b) = bind e b ∷ (nodes e ++ nodes b)
  nodes (pair A a b) = pair A a b ∷ (nodes a ++ nodes b)
  nodes (fst a) = fst a ∷ nodes a
  nodes (snd a) = snd a ∷ nodes a
  nodes (inl A a) = inl A a ∷ nodes a
  nodes (inr A a) = inr A a ∷ nodes a
  nodes (case s l r) = case s l r ∷ (nodes s ++ (nodes l ++ nodes r))
  nodes (unit A) = unit A ∷ []

  pub nodes_all : Terms → List Term
  nodes_all done = []
  nodes_all (arg t ts) = nodes t ++ nodes_all ts

abbrev there : {X : Type 0} → List (Position X) → List Term
there ps = map (λ p. p.subterm) ps

-- the subterms of a part, seen from the whole
part : {X Y : Type 0} (C : X → Y) (ps : List (Position X)) (ts : List Term) → there ps ≡ ts → there (map (within C) ps) ≡ ts
part C ps ts e = map-map (λ p. p.subterm) (within C) ps ∙ e

body : {X Y : Type 0} (C : X → Y) (ps : List (Position X)) (ts : List Term) → there ps ≡ ts → there (map (bound C) ps) ≡ ts
body C ps ts e = map-map (λ p. p.subterm) (bound C) ps ∙ e

-- what is made of the elements of two lists
both : {X Y : Type 0} (f : X → Y) (ps qs : List X) (ts us : List Y) → map f ps ≡ ts → map f qs ≡ us → map f (ps ++ qs) ≡ ts ++ us
both {Y = Y} f ps qs ts us d e = map-append f ps qs ∙ ap₂ {C = List Y} (λ x y. x ++ y) d e

first : {X : Type 0} (x : X) (xs ys : List X) → xs ≡ ys → ◌≡◌ {A = List X} (x ∷ xs) (x ∷ ys)
first {X} x xs ys e = ap {B = List X} (λ zs. x ∷ zs) e

mutual
  unfolding positions nodes

  pub subterms_nodes : (t : Term) → map (λ p. p.subterm) (positions t) ≡ nodes t
  subterms_nodes (var n) = refl
  subterms_nodes (call k ts) = first _ _ _ (part (call k) (positions_all ts) _ (subterms_nodes_all ts))
  subterms_nodes (lam A b) = first _ _ _ (body (lam A) (positions b) _ (subterms_nodes b))
  subterms_nodes (app f a) = first _ _ _
      (both (λ p. p.subterm) (map (within (λ x. app x a)) (positions f)) (map (within (λ x. app f x)) (positions a)) _ _
      (part (λ x. app x a) (positions f) _ (subterms_nodes f)) (part (λ x. app f x) (positions a) _ (subterms_nodes a)))
  subterms_nodes (bind e b) = first _ _ _
      (both (λ p. p.subterm) (map (within (λ x. bind x b)) (positions e)) (map (bound (λ x. bind e x)) (positions b)) _ _
      (part (λ x. bind x b) (positions e) _ (subterms_nodes e)) (body (λ x. bind e x) (positions b) _ (subterms_nodes b)))
  subterms_nodes (pair A a b) = first _ _ _
      (both (λ p. p.subterm) (map (within (λ x. pair A x b)) (positions a)) (map (within (λ x. pair A a x)) (positions b)) _ _
      (part (λ x. pair A x b) (positions a) _ (subterms_nodes a)) (part (λ x. pair A a x) (positions b) _ (subterms_nodes b)))
  subterms_nodes (fst a) = first _ _ _ (part fst (positions a) _ (subterms_nodes a))
  subterms_nodes (snd a) = first _ _ _ (part snd (positions a) _ (subterms_nodes a))
  subterms_nodes (inl A a) = first _ _ _ (part (inl A) (positions a) _ (subterms_nodes a))
  subterms_nodes (inr A a) = first _ _ _ (part (inr A) (positions a) _ (subterms_nodes a))
  subterms_nodes (case s l r) = first _ _ _
      (both (λ p. p.subterm) (map (within (λ x. case x l r)) (positions s))
      (map (bound (λ x. case s x r)) (positions l) ++ map (bound (λ x. case s l x)) (positions r)) _ _
      (part (λ x. case x l r) (positions s) _ (subterms_nodes s))
      (both (λ p. p.subterm) (map (bound (λ x. case s x r)) (positions l)) (map (bound (λ x. case s l x)) (positions r)) _ _
      (body (λ x. case s x r) (positions l) _ (subterms_nodes l)) (body (λ x. case s l x) (positions r) _ (subterms_nodes r))))
  subterms_nodes (unit A) = refl

  subterms_nodes_all : (ts : Terms) → map (λ p. p.subterm) (positions_all ts) ≡ nodes_all ts
  subterms_nodes_all done = refl
  subterms_nodes_all (arg t ts) =
      both (λ p. p.subterm) (map (within (λ x. arg x ts)) (positions t)) (map (within (λ x. arg t x)) (positions_all ts)) _ _
      (part (λ x. arg x ts) (positions t) _ (subterms_nodes t)) (part (λ x. arg t x) (positions_all ts) _ (subterms_nodes_all ts))

-- their words are those of the term
mutual
  unfolding nodes encode

  pub words_nodes : (t : Term) → map word_of (nodes t) ≡ encode t
  words_nodes (var n) = refl
  words_nodes (call k ts) = first _ _ _ (words_nodes_all ts)
  words_nodes (lam A b) = first _ _ _ (words_nodes b)
  words_nodes (app f a) = first _ _ _ (both word_of (nodes f) (nodes a) _ _ (words_nodes f) (words_nodes a))
  words_nodes (bind e b) = first _ _ _ (both word_of (nodes e) (nodes b) _ _ (words_nodes e) (words_nodes b))
  words_nodes (pair A a b) = first _ _ _ (both word_of (nodes a) (nodes b) _ _ (words_nodes a) (words_nodes b))
  words_nodes (fst a) = first _ _ _ (words_nodes a)
  words_nodes (snd a) = first _ _ _ (words_nodes a)
  words_nodes (inl A a) = first _ _ _ (words_nodes a)
  words_nodes (inr A a) = first _ _ _ (words_nodes a)
  words_nodes (case s l r) = first _ _ _
      (both word_of (nodes s) (nodes l ++ nodes r) _ _ (words_nodes s)
      (both word_of (nodes l) (nodes r) _ _ (words_nodes l) (words_nodes r)))
  words_nodes (unit A) = refl

  words_nodes_all : (ts : Terms) → map word_of (nodes_all ts) ≡ encode_all ts
  words_nodes_all done = refl
  words_nodes_all (arg t ts) = both word_of (nodes t) (nodes_all ts) _ _ (words_nodes t) (words_nodes_all ts)

pub length_nodes : (t : Term) → length (nodes t) ≡ size t
unfolding size
length_nodes t = sym (length-map (nodes t) word_of) ∙ ap length (words_nodes t)

-- the node at an index is the subterm of the position there
pub node_at : (t : Term) (i : ℕ) → get_elem? (nodes t) i ≡ Option.map (λ p. p.subterm) (get_elem? (positions t) i)
node_at t i = ap (λ (ts : List Term). get_elem? ts i) (sym (subterms_nodes t)) ∙ go (positions t) i
  where
    go : (ps : List (Position Term)) (i : ℕ) → get_elem? (there ps) i ≡ Option.map (λ p. p.subterm) (get_elem? ps i)
    go [] i = refl
    go (p ∷ ps) zero = refl
    go (p ∷ ps) (suc i) = go ps i
