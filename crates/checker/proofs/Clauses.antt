-- Each clause of `infer` over any answers of the parts: the parts are typed first, and then the node from their types.
use mathlib.Core.Path.{◌≡◌, refl, ◌∙◌, ap, ap₂}
use mathlib.Core.Bool.{◌&&◌}
use mathlib.Core.List.{List, [], ◌∷◌}
use mathlib.Core.Option.{Option, some, none}
use Prim.Native.Nat.{ℕ}
use lib.Dec.{eqb}
use lib.ListN.{get_or}
use Rattle.syntax.specs.Maybe.{◌>>=◌, given}

-- the types of one, two or three parts, the missing ones 0
abbrev pub one : Option ℕ → Option (List ℕ)
one o = o >>= λ A. some (A ∷ 0 ∷ 0 ∷ [])

abbrev pub two : Option ℕ → (ℕ → Option ℕ) → Option (List ℕ)
two o p = o >>= λ A. p A >>= λ B. some (A ∷ B ∷ 0 ∷ [])

abbrev pub three : Option ℕ → (ℕ → Option ℕ) → (ℕ → Option ℕ) → Option (List ℕ)
three o p q = o >>= λ A. p A >>= λ B. q A >>= λ D. some (A ∷ B ∷ D ∷ [])

nothing : (c : Option (ℕ × ℕ)) → ◌>>=◌ {Y = ℕ} c (λ x. none) ≡ none
nothing none = refl
nothing (some x) = refl

-- a function: its body typed under the argument's type, q A for the components' A and p for the word's left field
pub lam_law : (C : Option (ℕ × ℕ)) (q : ℕ → Option ℕ) (p : Option ℕ) (F : ℕ) → ((A B : ℕ) → C ≡ some (A, B) → q A ≡ p)
    → (C >>= λ (A, B). q A >>= λ B'. given (eqb B' B) F) ≡ (one p >>= λ G. C >>= λ (X, Y). given (eqb (get_or G 0 0) Y) F)
lam_law none q none F h = refl
lam_law none q (some x) F h = refl
lam_law (some (A, B)) q none F h = ap (λ (o : Option ℕ). o >>= λ B'. given (eqb B' B) F) (h A B refl)
lam_law (some (A, B)) q (some x) F h = ap (λ (o : Option ℕ). o >>= λ B'. given (eqb B' B) F) (h A B refl)

pub app_law : (o p : Option ℕ) (C : ℕ → Option (ℕ × ℕ))
    → (o >>= λ F. C F >>= λ (A, B). p >>= λ A'. given (eqb A' A) B)
    ≡ (two o (λ _. p) >>= λ G. C (get_or G 0 0) >>= λ (X, Y). given (eqb (get_or G 1 0) X) Y)
app_law none p C = refl
app_law (some F) none C = nothing (C F)
app_law (some F) (some A) C = refl

pub bind_law : (o : Option ℕ) (q : ℕ → Option ℕ) → (o >>= q) ≡ (two o q >>= λ G. some (get_or G 1 0))
bind_law none q = refl
bind_law (some B) q = go (q B)
  where
    go : (p : Option ℕ) → p ≡ ((p >>= λ D. some (B ∷ D ∷ 0 ∷ [])) >>= λ G. some (get_or G 1 0))
    go none = refl
    go (some D) = refl

pub pair_law : (C : Option (ℕ × ℕ)) (o p : Option ℕ) (P : ℕ)
    → (C >>= λ (A, B). o >>= λ A'. p >>= λ B'. given (eqb A' A && eqb B' B) P)
    ≡ (two o (λ _. p) >>= λ G. C >>= λ (X, Y). given (eqb (get_or G 0 0) X && eqb (get_or G 1 0) Y) P)
pair_law none none p P = refl
pair_law none (some x) none P = refl
pair_law none (some x) (some y) P = refl
pair_law (some c) none p P = refl
pair_law (some c) (some x) none P = refl
pair_law (some c) (some x) (some y) P = refl

-- a projection
pub one_law : (o : Option ℕ) (g : ℕ → Option ℕ) → (o >>= g) ≡ (one o >>= λ G. g (get_or G 0 0))
one_law none g = refl
one_law (some x) g = refl

-- an injection
pub in_law : (C : Option (ℕ × ℕ)) (o : Option ℕ) (g : ℕ × ℕ → ℕ → Option ℕ)
    → (C >>= λ c. o >>= λ A'. g c A') ≡ (one o >>= λ G. C >>= λ c. g c (get_or G 0 0))
in_law none none g = refl
in_law none (some x) g = refl
in_law (some c) none g = refl
in_law (some c) (some x) g = refl

-- a case: its branches typed under the halves of the sum, l A and r B for the components and l' S and r' S for the word's fields
pub case_law : (o : Option ℕ) (C : ℕ → Option (ℕ × ℕ)) (l r l' r' : ℕ → Option ℕ)
    → ((S A B : ℕ) → C S ≡ some (A, B) → (l A ≡ l' S) × (r B ≡ r' S))
    → (o >>= λ S. C S >>= λ (A, B). l A >>= λ D. r B >>= λ D'. given (eqb D' D) D)
    ≡ (three o l' r' >>= λ G. C (get_or G 0 0) >>= λ (X, Y). given (eqb (get_or G 2 0) (get_or G 1 0)) (get_or G 1 0))
case_law none C l r l' r' h = refl
case_law (some S) C l r l' r' h = inner (C S) (h S) ∙ outer (l' S) (r' S)
  where
    inner : (c : Option (ℕ × ℕ)) → ((A B : ℕ) → c ≡ some (A, B) → (l A ≡ l' S) × (r B ≡ r' S))
        → (c >>= λ (A, B). l A >>= λ D. r B >>= λ D'. given (eqb D' D) D) ≡ (c >>= λ x. l' S >>= λ D. r' S >>= λ D'. given (eqb D' D) D)
    inner none h = refl
    inner (some (A, B)) h =
        ap₂ {C = Option ℕ} (λ p q. p >>= λ D. q >>= λ D'. given (eqb D' D) D) (h A B refl).0 (h A B refl).1

    outer : (x y : Option ℕ) → (C S >>= λ c. x >>= λ D. y >>= λ D'. given (eqb D' D) D)
        ≡ ((x >>= λ D. y >>= λ D'. some (S ∷ D ∷ D' ∷ []))
        >>= λ G. C (get_or G 0 0) >>= λ (X, Y). given (eqb (get_or G 2 0) (get_or G 1 0)) (get_or G 1 0))
    outer none y = nothing (C S)
    outer (some D) none = nothing (C S)
    outer (some D) (some D') = refl
