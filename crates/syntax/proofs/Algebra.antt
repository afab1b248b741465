-- The algebra of renaming and substitution, proved once for all kits: a traversal after a traversal is one traversal, because this holds at
-- each variable and is kept under binders.
use mathlib.Core.Path.{◌≡◌, refl, sym, ◌∙◌, ap, ap₂}
use Prim.Native.Nat.{ℕ, zero, suc}
use Rattle.syntax.specs.Term.{Term, Terms, var, call, lam, app, bind, pair, fst, snd, inl, inr, case, unit, done, arg}
use Rattle.syntax.specs.Substitution.{Kit, under, traverse, traverse_all, renaming, rename, weaken, substitution, substitute}

-- putting for each variable itself changes nothing
module _ {X : Type 0} (K : Kit X) where
  abbrev Itself : (ℕ → X) → Type 0
  Itself f = (n : ℕ) → K.term (f n) ≡ var n

  module _ (lift : (f : ℕ → X) → Itself f → Itself (under K f)) where
    mutual
      unfolding traverse

      pub identity : (t : Term) (f : ℕ → X) → Itself f → traverse K t f ≡ t
      identity (var n) f h = h n
      identity (call k ts) f h = ap (call k) (identities ts f h)
      identity (lam A b) f h = ap (lam A) (identity b (under K f) (lift f h))
      identity (app a b) f h = ap₂ app (identity a f h) (identity b f h)
      identity (bind a b) f h = ap₂ bind (identity a f h) (identity b (under K f) (lift f h))
      identity (pair A a b) f h = ap₂ (pair A) (identity a f h) (identity b f h)
      identity (fst a) f h = ap fst (identity a f h)
      identity (snd a) f h = ap snd (identity a f h)
      identity (inl A a) f h = ap (inl A) (identity a f h)
      identity (inr A a) f h = ap (inr A) (identity a f h)
      identity (case s l r) f h = λ i. case (identity s f h i) (identity l (under K f) (lift f h) i) (identity r (under K f) (lift f h) i)
      identity (unit A) f h = refl

      pub identities : (ts : Terms) (f : ℕ → X) → Itself f → traverse_all K ts f ≡ ts
      identities done f h = refl
      identities (arg t ts) f h = ap₂ arg (identity t f h) (identities ts f h)

-- one traversal after another
module _ {X Y Z : Type 0} (K : Kit X) (L : Kit Y) (M : Kit Z) where
  abbrev Agree : (ℕ → X) → (ℕ → Y) → (ℕ → Z) → Type 0
  Agree f g h = (n : ℕ) → traverse L (K.term (f n)) g ≡ M.term (h n)

  module _ (lift : (f : ℕ → X) (g : ℕ → Y) (h : ℕ → Z) → Agree f g h → Agree (under K f) (under L g) (under M h)) where
    mutual
      unfolding traverse

      pub fusion : (t : Term) (f : ℕ → X) (g : ℕ → Y) (h : ℕ → Z) → Agree f g h → traverse L (traverse K t f) g ≡ traverse M t h
      fusion (var n) f g h a = a n
      fusion (call k ts) f g h a = ap (call k) (fusions ts f g h a)
      fusion (lam A b) f g h a = ap (lam A) (fusion b (under K f) (under L g) (under M h) (lift f g h a))
      fusion (app x y) f g h a = ap₂ app (fusion x f g h a) (fusion y f g h a)
      fusion (bind x y) f g h a = ap₂ bind (fusion x f g h a) (fusion y (under K f) (under L g) (under M h) (lift f g h a))
      fusion (pair A x y) f g h a = ap₂ (pair A) (fusion x f g h a) (fusion y f g h a)
      fusion (fst x) f g h a = ap fst (fusion x f g h a)
      fusion (snd x) f g h a = ap snd (fusion x f g h a)
      fusion (inl A x) f g h a = ap (inl A) (fusion x f g h a)
      fusion (inr A x) f g h a = ap (inr A) (fusion x f g h a)
      fusion (case s l r) f g h a = λ i. case (fusion s f g h a i) (fusion l (under K f) (under L g) (under M h) (lift f g h a) i)
          (fusion r (under K f) (under L g) (under M h) (lift f g h a) i)
      fusion (unit A) f g h a = refl

      pub fusions : (ts : Terms) (f : ℕ → X) (g : ℕ → Y) (h : ℕ → Z) → Agree f g h
          → traverse_all L (traverse_all K ts f) g ≡ traverse_all M ts h
      fusions done f g h a = refl
      fusions (arg t ts) f g h a = ap₂ arg (fusion t f g h a) (fusions ts f g h a)

unvar : Term → ℕ
unvar (var n) = n
unvar (call k ts) = 0
unvar (lam A b) = 0
unvar (app a b) = 0
unvar (bind a b) = 0
unvar (pair A a b) = 0
unvar (fst a) = 0
unvar (snd a) = 0
unvar (inl A a) = 0
unvar (inr A a) = 0
unvar (case s l r) = 0
unvar (unit A) = 0

pub var_injective : {m n : ℕ} → var m ≡ var n → m ≡ n
unfolding unvar
var_injective e = ap unvar e

-- the instances
lift_id : (f : ℕ → ℕ) → Itself renaming f → Itself renaming (under renaming f)
lift_id f h zero = refl
lift_id f h (suc n) = ap (λ (m : ℕ). var (suc m)) (var_injective (h n))

pub rename_id : (t : Term) → rename t (λ n. n) ≡ t
rename_id t = identity renaming lift_id t (λ n. n) (λ n. refl)

pub renames_id : (ts : Terms) → traverse_all renaming ts (λ n. n) ≡ ts
renames_id ts = identities renaming lift_id ts (λ n. n) (λ n. refl)

lift_rename : (f g h : ℕ → ℕ) → Agree renaming renaming renaming f g h
    → Agree renaming renaming renaming (under renaming f) (under renaming g) (under renaming h)
unfolding traverse
lift_rename f g h a zero = refl
lift_rename f g h a (suc n) = ap (λ (m : ℕ). var (suc m)) (var_injective (a n))

pub rename-rename : (t : Term) (f g : ℕ → ℕ) → rename (rename t f) g ≡ rename t (λ n. g (f n))
unfolding traverse
rename-rename t f g = fusion renaming renaming renaming lift_rename t f g (λ n. g (f n)) (λ n. refl)

lift_rename_sub : (f : ℕ → ℕ) (s r : ℕ → Term) → Agree renaming substitution substitution f s r
    → Agree renaming substitution substitution (under renaming f) (under substitution s) (under substitution r)
unfolding traverse
lift_rename_sub f s r a zero = refl
lift_rename_sub f s r a (suc n) = ap weaken (a n)

-- renamed, then substituted
pub sub_rename : (t : Term) (f : ℕ → ℕ) (s : ℕ → Term) → substitute (rename t f) s ≡ substitute t (λ n. s (f n))
unfolding traverse
sub_rename t f s = fusion renaming substitution substitution lift_rename_sub t f s (λ n. s (f n)) (λ n. refl)

lift_sub_rename : (s : ℕ → Term) (f : ℕ → ℕ) (r : ℕ → Term) → Agree substitution renaming substitution s f r
    → Agree substitution renaming substitution (under substitution s) (under renaming f) (under substitution r)
unfolding traverse
lift_sub_rename s f r a zero = refl
lift_sub_rename s f r a (suc n) = rename-rename (s n) suc (under renaming f) ∙ sym (rename-rename (s n) f suc) ∙ ap weaken (a n)

-- substituted, then renamed
pub rename_sub : (t : Term) (s : ℕ → Term) (f : ℕ → ℕ) → rename (substitute t s) f ≡ substitute t (λ n. rename (s n) f)
rename_sub t s f = fusion substitution renaming substitution lift_sub_rename t s f (λ n. rename (s n) f) (λ n. refl)

lift_sub_sub : (s r q : ℕ → Term) → Agree substitution substitution substitution s r q
    → Agree substitution substitution substitution (under substitution s) (under substitution r) (under substitution q)
unfolding traverse
lift_sub_sub s r q a zero = refl
lift_sub_sub s r q a (suc n) = sub_rename (s n) suc (under substitution r) ∙ sym (rename_sub (s n) r suc) ∙ ap weaken (a n)

pub sub_sub : (t : Term) (s r : ℕ → Term) → substitute (substitute t s) r ≡ substitute t (λ n. substitute (s n) r)
sub_sub t s r = fusion substitution substitution substitution lift_sub_sub t s r (λ n. substitute (s n) r) (λ n. refl)
