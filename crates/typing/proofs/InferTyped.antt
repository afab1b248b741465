-- What `infer` answers is typed, and a typed term is answered its type: the family has `infer`'s clauses as its constructors.
use mathlib.Core.Path.{◌≡◌, refl, sym, ◌∙◌, ap, ap₂, subst}
use mathlib.Core.Bool.{Bool, true, false, ◌&&◌}
use mathlib.Core.List.{List, [], ◌∷◌}
use mathlib.Core.Option.{Option, some}
use lib.Dec.{T, eqb, eqb→eq, eqb_refl}
use lib.ListN.{get_elem?}
use Prim.Native.Nat.{ℕ, zero, suc}
use Rattle.syntax.specs.Maybe.{◌>>=◌, given}
use Rattle.syntax.specs.Tables.{Tables, arrow, product, sum, unit_type, components, signature}
use Rattle.syntax.specs.Term.{Term, Terms, var, call, lam, app, bind, pair, fst, snd, inl, inr, case, unit, done, arg}
use Rattle.typing.specs.Infer.{Context, equal, infer, infer_all}
use Rattle.syntax.specs.Lists.{◌∈◌}
use Rattle.syntax.specs.Calls.{calls_in}
use Rattle.syntax.proofs.Options.{Every, every_none, every_some, every_self, every_bind, every_given, every_to, every_at, and_left}
use Rattle.syntax.proofs.Options.{and_right, both_true}
use Rattle.typing.proofs.Typing.{At, here, there, Typed, TypedAll, t_var, t_call, t_lam, t_app, t_bind, t_pair, t_fst, t_snd, t_inl}
use Rattle.typing.proofs.Typing.{t_inr, t_case, t_unit, t_done, t_arg}
use Rattle.syntax.proofs.CallsIn.{calls_in_all, of_call, of_arguments, of_lam, of_app₁, of_app₂, of_bind₁, of_bind₂, of_pair₁, of_pair₂}
use Rattle.syntax.proofs.CallsIn.{of_fst, of_snd, of_inl, of_inr, of_case₁, of_case₂, of_case₃, of_first, of_rest}

pub equal_is : (xs ys : List ℕ) → T (equal xs ys) → xs ≡ ys
equal_is [] [] h = refl
equal_is [] (y ∷ ys) h = absurd h
equal_is (x ∷ xs) [] h = absurd h
equal_is (x ∷ xs) (y ∷ ys) h = ap₂ {C = List ℕ} (λ z zs. z ∷ zs) (eqb→eq x y (and_left (eqb x y) (equal xs ys) h))
    (equal_is xs ys (and_right (eqb x y) (equal xs ys) h))

pub equal_refl : (xs : List ℕ) → T (equal xs xs)
equal_refl [] = tt
equal_refl (x ∷ xs) = both_true (eqb x x) (equal xs xs) (eqb_refl x) (equal_refl xs)

pub at_is : (Γ : Context) (n : ℕ) → Every (At Γ n) (get_elem? Γ n)
at_is [] n = every_none
at_is (A ∷ Γ) zero = every_some here
at_is (A ∷ Γ) (suc n) = every_to (λ B x. there x) (at_is Γ n)

pub is_at : {Γ : Context} {n A : ℕ} → At Γ n A → get_elem? Γ n ≡ some A
is_at here = refl
is_at (there x) = is_at x

bind_is : {X Y : Type 0} (o : Option X) (f : X → Option Y) (x : X) {y : Option Y} → o ≡ some x → f x ≡ y → (o >>= f) ≡ y
bind_is o f x {y} e h = subst (λ (p : Option _). (p >>= f) ≡ y) (sym e) h

given_is : {X : Type 0} (b : Bool) (x : X) → T b → given b x ≡ some x
given_is true x h = refl
given_is false x h = absurd h

module _ (tables : Tables) (ok : ℕ → Type 0) where
  retype : {Γ : Context} {t : Term} {A B : ℕ} → T (eqb A B) → Typed tables ok Γ t A → Typed tables ok Γ t B
  retype {Γ} {t} {A} {B} h x = subst (λ (C : ℕ). Typed tables ok Γ t C) (eqb→eq A B h) x

  mutual
    unfolding infer

    pub infer_typed : (t : Term) (Γ : Context) → ((k : ℕ) → k ∈ calls_in t → ok k) → Every (Typed tables ok Γ t) (infer tables t Γ)
    infer_typed (var n) Γ h = every_to (λ A x. t_var x) (at_is Γ n)
    infer_typed (call k ts) Γ h =
        every_bind _ (every_self (signature tables k)) λ s e.
        every_bind _ (infer_typed_all ts Γ (λ j i. h j (of_arguments k ts i))) λ As xs.
        every_given (equal As s.arguments) s.result λ q. t_call (h k (of_call ts)) (record { is = e }) refl
        (subst (λ (Bs : List ℕ). TypedAll tables ok Γ ts Bs) (equal_is As s.arguments q) xs)
    infer_typed (lam F b) Γ h =
        every_bind _ (every_self (components tables arrow F)) λ p e.
        every_bind _ (infer_typed b (p.0 ∷ Γ) (λ j i. h j (of_lam F b i))) λ B' x.
        every_given (eqb B' p.1) F λ q. t_lam (record { is = e }) (retype q x)
    infer_typed (app f a) Γ h =
        every_bind _ (infer_typed f Γ (λ j i. h j (of_app₁ f a i))) λ F x.
        every_bind _ (every_self (components tables arrow F)) λ p e.
        every_bind _ (infer_typed a Γ (λ j i. h j (of_app₂ f a i))) λ A' y.
        every_given (eqb A' p.0) p.1 λ q. t_app (record { is = e }) x (retype q y)
    infer_typed (bind e b) Γ h =
        every_bind _ (infer_typed e Γ (λ j i. h j (of_bind₁ e b i))) λ A x.
        every_to (λ B y. t_bind x y) (infer_typed b (A ∷ Γ) (λ j i. h j (of_bind₂ e b i)))
    infer_typed (pair P a b) Γ h =
        every_bind _ (every_self (components tables product P)) λ p e.
        every_bind _ (infer_typed a Γ (λ j i. h j (of_pair₁ P a b i))) λ A' x.
        every_bind _ (infer_typed b Γ (λ j i. h j (of_pair₂ P a b i))) λ B' y.
        every_given (eqb A' p.0 && eqb B' p.1) P λ q. t_pair (record { is = e })
        (retype (and_left (eqb A' p.0) (eqb B' p.1) q) x) (retype (and_right (eqb A' p.0) (eqb B' p.1) q) y)
    infer_typed (fst a) Γ h =
        every_bind _ (infer_typed a Γ (λ j i. h j (of_fst a i))) λ P x.
        every_bind _ (every_self (components tables product P)) λ p e. every_some (t_fst (record { is = e }) x)
    infer_typed (snd a) Γ h =
        every_bind _ (infer_typed a Γ (λ j i. h j (of_snd a i))) λ P x.
        every_bind _ (every_self (components tables product P)) λ p e. every_some (t_snd (record { is = e }) x)
    infer_typed (inl S a) Γ h =
        every_bind _ (every_self (components tables sum S)) λ p e.
        every_bind _ (infer_typed a Γ (λ j i. h j (of_inl S a i))) λ A' x.
        every_given (eqb A' p.0) S λ q. t_inl (record { is = e }) (retype q x)
    infer_typed (inr S a) Γ h =
        every_bind _ (every_self (components tables sum S)) λ p e.
        every_bind _ (infer_typed a Γ (λ j i. h j (of_inr S a i))) λ B' x.
        every_given (eqb B' p.1) S λ q. t_inr (record { is = e }) (retype q x)
    infer_typed (case s l r) Γ h =
        every_bind _ (infer_typed s Γ (λ j i. h j (of_case₁ s l r i))) λ S x.
        every_bind _ (every_self (components tables sum S)) λ p e.
        every_bind _ (infer_typed l (p.0 ∷ Γ) (λ j i. h j (of_case₂ s l r i))) λ C y.
        every_bind _ (infer_typed r (p.1 ∷ Γ) (λ j i. h j (of_case₃ s l r i))) λ C' z.
        every_given (eqb C' C) C λ q. t_case (record { is = e }) x y (retype q z)
    infer_typed (unit U) Γ h = every_bind _ (every_self (components tables unit_type U)) λ p e. every_some (t_unit (record { is = e }))

    pub infer_typed_all : (ts : Terms) (Γ : Context) → ((k : ℕ) → k ∈ calls_in_all ts → ok k)
        → Every (TypedAll tables ok Γ ts) (infer_all tables ts Γ)
    infer_typed_all done Γ h = every_some t_done
    infer_typed_all (arg t ts) Γ h =
        every_bind _ (infer_typed t Γ (λ j i. h j (of_first t ts i))) λ A x.
        every_bind _ (infer_typed_all ts Γ (λ j i. h j (of_rest t ts i))) λ As xs. every_some (t_arg x xs)

  -- back: a term with a derivation is answered its type
  mutual
    unfolding infer

    pub typed_infer : {Γ : Context} {t : Term} {A : ℕ} → Typed tables ok Γ t A → infer tables t Γ ≡ some A
    typed_infer (t_var x) = is_at x
    typed_infer {Γ = Γ} (t_call {k = k} {ts = ts} {s = s} z e d xs) =
        bind_is _ _ _ e.is
        (bind_is _ _ _ (typed_infer_all xs)
        (given_is (equal s.arguments s.arguments) s.result (equal_refl s.arguments) ∙ ap (λ (x : ℕ). some x) d))
    typed_infer {Γ = Γ} (t_lam {F = F} {A = A} {B = B} {b = b} e x) =
        bind_is _ _ _ e.is
        (bind_is _ _ _ (typed_infer x) (given_is (eqb B B) _ (eqb_refl B)))
    typed_infer {Γ = Γ} (t_app {F = F} {A = A} {B = B} {f = f} {a = a} e x y) =
        bind_is _ _ _ (typed_infer x)
        (bind_is _ _ _ e.is
        (bind_is _ _ _ (typed_infer y) (given_is (eqb A A) _ (eqb_refl A))))
    typed_infer {Γ = Γ} (t_bind {A = A} {e = e} {b = b} x y) = bind_is _ _ _ (typed_infer x) (typed_infer y)
    typed_infer {Γ = Γ} (t_pair {P = P} {A = A} {B = B} {a = a} {b = b} e x y) =
        bind_is _ _ _ e.is
        (bind_is _ _ _ (typed_infer x)
        (bind_is _ _ _ (typed_infer y) (given_is (eqb A A && eqb B B) P (both_true (eqb A A) (eqb B B) (eqb_refl A) (eqb_refl B)))))
    typed_infer {Γ = Γ} (t_fst {P = P} {A = A} {B = B} {a = a} e x) =
        bind_is _ _ _ (typed_infer x) (bind_is _ _ _ e.is refl)
    typed_infer {Γ = Γ} (t_snd {P = P} {A = A} {B = B} {a = a} e x) =
        bind_is _ _ _ (typed_infer x) (bind_is _ _ _ e.is refl)
    typed_infer {Γ = Γ} (t_inl {S = S} {A = A} {B = B} {a = a} e x) =
        bind_is _ _ _ e.is
        (bind_is _ _ _ (typed_infer x) (given_is (eqb A A) _ (eqb_refl A)))
    typed_infer {Γ = Γ} (t_inr {S = S} {A = A} {B = B} {a = a} e x) =
        bind_is _ _ _ e.is
        (bind_is _ _ _ (typed_infer x) (given_is (eqb B B) _ (eqb_refl B)))
    typed_infer {Γ = Γ} (t_case {S = S} {A = A} {B = B} {C = C} {s = s} {l = l} {r = r} e x y z) =
        bind_is _ _ _ (typed_infer x)
        (bind_is _ _ _ e.is
        (bind_is _ _ _ (typed_infer y)
        (bind_is _ _ _ (typed_infer z) (given_is (eqb C C) _ (eqb_refl C)))))
    typed_infer (t_unit e) = bind_is _ _ _ e.is refl

    pub typed_infer_all : {Γ : Context} {ts : Terms} {As : List ℕ} → TypedAll tables ok Γ ts As → infer_all tables ts Γ ≡ some As
    typed_infer_all t_done = refl
    typed_infer_all {Γ = Γ} (t_arg {t = t} {ts = ts} {A = A} {As = As} x xs) =
        bind_is _ _ _ (typed_infer x) (bind_is _ _ _ (typed_infer_all xs) refl)

  -- the check on type numbers gives a derivation, over the calls in the term
  pub typing_of : (t : Term) (Γ : Context) (A : ℕ) → infer tables t Γ ≡ some A → ((k : ℕ) → k ∈ calls_in t → ok k) → Typed tables ok Γ t A
  typing_of t Γ A e h = every_at A (infer_typed t Γ h) e
