-- Every node of a term with the term around it, in prefix order: the ways to write t as C[s].
use Rattle.std.specs.Prelude.{ℕ, suc, List, [], ◌∷◌, ◌++◌, map}
use Rattle.syntax.specs.Term.{Term, Terms, var, call, lam, app, bind, pair, fst, snd, inl, inr, case, unit, done, arg}

-- a position: the subterm there, how many binders it stands under, and the whole by what stands there
pub record Position (Whole : Type 0) : Type 0 where
  pub subterm : Term
  pub depth : ℕ
  pub plug : Term → Whole

-- the position of the whole term
abbrev pub root : Term → Position Term
root t = record { subterm = t; depth = 0; plug = λ x. x }

-- a position of a part, seen from a whole that has the part in it, under no binder or under one
abbrev pub within : {X Y : Type 0} → (X → Y) → Position X → Position Y
within C p = record { subterm = p.subterm; depth = p.depth; plug = λ x. C (p.plug x) }

abbrev pub bound : {X Y : Type 0} → (X → Y) → Position X → Position Y
bound C p = record { subterm = p.subterm; depth = suc p.depth; plug = λ x. C (p.plug x) }

-- the positions of a term; a position's place in the list is its node's index among the words
unfoldable mutual
  pub positions : Term → List (Position Term)
  positions (var n) = root (var n) ∷ []
  positions (call k ts) = root (call k ts) ∷ map (within (call k)) (positions_all ts)
  positions (lam A b) = root (lam A b) ∷ map (bound (lam A)) (positions b)
  positions (app f a) = root (app f a) ∷ (map (within (λ x. app x a)) (positions f) ++ map (within (λ x. app f x)) (positions a))
  positions (bind e b) = root (bind e b) ∷ (map (within (λ x. bind x b)) (positions e) ++ map (bound (λ x. bind e x)) (positions b))
  positions (pair A a b) = root (pair A a b)
      ∷ (map (within (λ x. pair A x b)) (positions a) ++ map (within (λ x. pair A a x)) (positions b))
  positions (fst a) = root (fst a) ∷ map (within fst) (positions a)
  positions (snd a) = root (snd a) ∷ map (within snd) (positions a)
  positions (inl A a) = root (inl A a) ∷ map (within (inl A)) (positions a)
  positions (inr A a) = root (inr A a) ∷ map (within (inr A)) (positions a)
  positions (case s l r) = root (case s l r)
      ∷ (map (within (λ x. case x l r)) (positions s)
      ++ (map (bound (λ x. case s x r)) (positions l) ++ map (bound (λ x. case s l x)) (positions r)))
  positions (unit A) = root (unit A) ∷ []

  pub positions_all : Terms → List (Position Terms)
  positions_all done = []
  positions_all (arg t ts) = map (within (λ x. arg x ts)) (positions t) ++ map (within (λ x. arg t x)) (positions_all ts)

-- the subterms of a term, in prefix order
unfoldable pub subterms : Term → List Term
subterms t = map (λ p. p.subterm) (positions t)
