-- Typing as a family over type numbers, with equations as premises; `ok` says which calls a term may make.
use mathlib.Core.Path.{◌≡◌, sym, ◌∙◌, ap}
use mathlib.Core.List.{List, [], ◌∷◌}
use mathlib.Core.Option.{Option, some, none, some-injective, none-ne-some}
use mathlib.Core.Bool.{Bool, true, false}
use lib.Dec.{T, eqb, eqb→eq}
use lib.ListN.{length, get_elem?}
use Prim.Native.Nat.{ℕ, zero, suc, ◌<◌}
use native.Mathlib.Omega.{arith}
use Rattle.syntax.specs.Maybe.{◌>>=◌, given}
use Rattle.syntax.specs.Words.{kind_of, left_of, right_of}
use Rattle.syntax.specs.Tables.{Tables, arrow, product, sum, unit_type, components, Signature, signature}
use Rattle.syntax.specs.Term.{Term, Terms, var, call, lam, app, bind, pair, fst, snd, inl, inr, case, unit, done, arg}
use Rattle.typing.specs.Infer.{Context}

-- the n-th of the context is A
pub data At : Context → ℕ → ℕ → Type 0 where
  here : {A : ℕ} {Γ : Context} → At (A ∷ Γ) zero A
  there : {A B : ℕ} {Γ : Context} {n : ℕ} → At Γ n A → At (B ∷ Γ) (suc n) A

pub at_below : {Γ : Context} {n A : ℕ} → At Γ n A → n < length Γ
at_below here = omega arith
at_below (there x) = let h = at_below x in omega (arith, h)

-- F is of the kind k and has the parts A and B
pub record Of (tables : Tables) (k F A B : ℕ) : Type 0 where
  pub is : components tables k F ≡ some (A, B)

-- a type's parts are determined
pub of_one : {tables : Tables} {k F A B A' B' : ℕ} → Of tables k F A B → Of tables k F A' B' → (A ≡ A') × (B ≡ B')
of_one {A = A} {B = B} {A' = A'} {B' = B'} p q =
    let e = some-injective {A = ℕ × ℕ} (A, B) (A', B') (sym p.is ∙ q.is) in
    (ap (λ (x : ℕ × ℕ). x.0) e, ap (λ (x : ℕ × ℕ). x.1) e)

-- so is its kind
pub of_kind : {tables : Tables} {F A B C D : ℕ} (k j : ℕ) → Of tables k F A B → Of tables j F C D → k ≡ j
of_kind {tables} {F} {A} {B} {C} {D} k j p q = go (get_elem? tables.types F) p.is q.is
  where
    kind : (w k A B : ℕ) (b : Bool) → (T b → kind_of w ≡ k) → given {X = ℕ × ℕ} b (left_of w, right_of w) ≡ some (A, B) → kind_of w ≡ k
    kind w k A B true h e = h tt
    kind w k A B false h e = absurd (none-ne-some {A = ℕ × ℕ} (A, B) e)

    go : (o : Option ℕ) → (o >>= λ w. given {X = ℕ × ℕ} (eqb (kind_of w) k) (left_of w, right_of w)) ≡ some (A, B)
        → (o >>= λ w. given {X = ℕ × ℕ} (eqb (kind_of w) j) (left_of w, right_of w)) ≡ some (C, D) → k ≡ j
    go none e d = absurd (none-ne-some {A = ℕ × ℕ} (A, B) e)
    go (some w) e d = sym (kind w k A B (eqb (kind_of w) k) (eqb→eq (kind_of w) k) e)
        ∙ kind w j C D (eqb (kind_of w) j) (eqb→eq (kind_of w) j) d

-- the call k has the signature s
pub record Signed (tables : Tables) (k : ℕ) (s : Signature) : Type 0 where
  pub is : signature tables k ≡ some s

module _ (tables : Tables) (ok : ℕ → Type 0) where
  mutual
    pub data Typed : Context → Term → ℕ → Type 0 where
      t_var : {Γ : Context} {n A : ℕ} → At Γ n A → Typed Γ (var n) A
      t_call : {Γ : Context} {k : ℕ} {ts : Terms} {s : Signature} {A : ℕ} → ok k → Signed tables k s → s.result ≡ A
          → TypedAll Γ ts s.arguments → Typed Γ (call k ts) A
      t_lam : {Γ : Context} {F A B : ℕ} {b : Term} → Of tables arrow F A B → Typed (A ∷ Γ) b B → Typed Γ (lam F b) F
      t_app : {Γ : Context} {F A B : ℕ} {f a : Term} → Of tables arrow F A B → Typed Γ f F → Typed Γ a A → Typed Γ (app f a) B
      t_bind : {Γ : Context} {A B : ℕ} {e b : Term} → Typed Γ e A → Typed (A ∷ Γ) b B → Typed Γ (bind e b) B
      t_pair : {Γ : Context} {P A B : ℕ} {a b : Term} → Of tables product P A B → Typed Γ a A → Typed Γ b B → Typed Γ (pair P a b) P
      t_fst : {Γ : Context} {P A B : ℕ} {a : Term} → Of tables product P A B → Typed Γ a P → Typed Γ (fst a) A
      t_snd : {Γ : Context} {P A B : ℕ} {a : Term} → Of tables product P A B → Typed Γ a P → Typed Γ (snd a) B
      t_inl : {Γ : Context} {S A B : ℕ} {a : Term} → Of tables sum S A B → Typed Γ a A → Typed Γ (inl S a) S
      t_inr : {Γ : Context} {S A B : ℕ} {a : Term} → Of tables sum S A B → Typed Γ a B → Typed Γ (inr S a) S
      t_case : {Γ : Context} {S A B C : ℕ} {s l r : Term} → Of tables sum S A B → Typed Γ s S → Typed (A ∷ Γ) l C → Typed (B ∷ Γ) r C
          → Typed Γ (case s l r) C
      t_unit : {Γ : Context} {U A B : ℕ} → Of tables unit_type U A B → Typed Γ (unit U) U

    pub data TypedAll : Context → Terms → List ℕ → Type 0 where
      t_done : {Γ : Context} → TypedAll Γ done []
      t_arg : {Γ : Context} {t : Term} {ts : Terms} {A : ℕ} {As : List ℕ} → Typed Γ t A → TypedAll Γ ts As → TypedAll Γ (arg t ts) (A ∷ As)
