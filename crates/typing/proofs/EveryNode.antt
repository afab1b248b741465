-- Every node of a term that has a type has a type.
use mathlib.Core.Path.{◌≡◌, refl, sym, subst}
use mathlib.Core.Bool.{◌&&◌}
use mathlib.Core.List.{List, [], ◌∷◌, ◌++◌}
use mathlib.Core.Option.{Option, some, none, some-injective, none-ne-some}
use Prim.Native.Nat.{ℕ}
use lib.Dec.{eqb}
use Rattle.syntax.specs.Maybe.{◌>>=◌, given}
use Rattle.syntax.specs.Tables.{Tables, arrow, product, sum, components, signature}
use Rattle.syntax.specs.Term.{Term, Terms, var, call, lam, app, bind, pair, fst, snd, inl, inr, case, unit, done, arg}
use Rattle.typing.specs.Infer.{Context, equal, infer, infer_all}
use Rattle.typing.specs.NodeTypes.{◌then◌, ◌and◌, node_types, node_types_all}

-- there is an answer
pub record There {X : Type 0} (o : Option X) : Type 0 where
  pub answer : X
  pub is : o ≡ some answer

there : {X : Type 0} (x : X) → There (some x)
there x = record { answer = x; is = refl }

-- where a sequence answers, its first does, and what follows it
pub record Parted {X Y : Type 0} (o : Option X) (f : X → Option Y) : Type 0 where
  pub one : X
  pub is : o ≡ some one
  pub rest : There (f one)

parted : {X Y : Type 0} (o : Option X) (f : X → Option Y) → There (o >>= f) → Parted o f
parted none f h = absurd (none-ne-some h.answer h.is)
parted (some x) f h = record { one = x; is = refl; rest = h }

joined : {X Y : Type 0} (o : Option X) (f : X → Option Y) (x : X) → o ≡ some x → There (f x) → There (o >>= f)
joined none f x e h = absurd (none-ne-some x e)
joined (some y) f x e h = subst (λ (z : _). There (f z)) (sym (some-injective y x e)) h

then_there : (o : Option ℕ) (p : Option (List ℕ)) → There o → There p → There (o then p)
then_there none p h j = absurd (none-ne-some h.answer h.is)
then_there (some A) none h j = absurd (none-ne-some j.answer j.is)
then_there (some A) (some As) h j = there (A ∷ As)

and_there : (o p : Option (List ℕ)) → There o → There p → There (o and p)
and_there none p h j = absurd (none-ne-some h.answer h.is)
and_there (some As) none h j = absurd (none-ne-some j.answer j.is)
and_there (some As) (some Bs) h j = there (As ++ Bs)

known : {X : Type 0} {o : Option X} (x : X) → o ≡ some x → There o
known x e = record { answer = x; is = e }

module _ (tables : Tables) where
  mutual
    unfolding infer node_types

    pub every_node : (t : Term) (Γ : Context) → There (infer tables t Γ) → There (node_types tables t Γ)
    every_node (var n) Γ h = then_there _ _ h (there [])
    every_node (call k ts) Γ h =
        let p = parted (signature tables k) (λ s. infer_all tables ts Γ >>= λ As. given (equal As s.arguments) s.result) h in
        let q = parted (infer_all tables ts Γ) (λ As. given (equal As p.one.arguments) p.one.result) p.rest in
        then_there _ _ h (every_node_all ts Γ (known q.one q.is))
    every_node (lam F b) Γ h =
        let p = parted (components tables arrow F) (λ (A, B). infer tables b (A ∷ Γ) >>= λ B'. given (eqb B' B) F) h in
        let q = parted (infer tables b (p.one.0 ∷ Γ)) (λ B'. given (eqb B' p.one.1) F) p.rest in
        then_there _ _ h (joined (components tables arrow F) (λ (A, B). node_types tables b (A ∷ Γ)) p.one p.is
        (every_node b (p.one.0 ∷ Γ) (known q.one q.is)))
    every_node (app f a) Γ h =
        let p = parted (infer tables f Γ) (λ F. components tables arrow F >>= λ (A, B). infer tables a Γ >>= λ A'. given (eqb A' A) B) h in
        let q = parted (components tables arrow p.one) (λ (A, B). infer tables a Γ >>= λ A'. given (eqb A' A) B) p.rest in
        let r = parted (infer tables a Γ) (λ A'. given (eqb A' q.one.0) q.one.1) q.rest in
        then_there _ _ h (and_there _ _ (every_node f Γ (known p.one p.is)) (every_node a Γ (known r.one r.is)))
    every_node (bind e b) Γ h =
        let p = parted (infer tables e Γ) (λ A. infer tables b (A ∷ Γ)) h in
        then_there _ _ h (and_there _ _ (every_node e Γ (known p.one p.is))
        (joined (infer tables e Γ) (λ A. node_types tables b (A ∷ Γ)) p.one p.is (every_node b (p.one ∷ Γ) p.rest)))
    every_node (pair P a b) Γ h =
        let p = parted (components tables product P)
        (λ (A, B). infer tables a Γ >>= λ A'. infer tables b Γ >>= λ B'. given (eqb A' A && eqb B' B) P) h in
        let q = parted (infer tables a Γ) (λ A'. infer tables b Γ >>= λ B'. given (eqb A' p.one.0 && eqb B' p.one.1) P) p.rest in
        let r = parted (infer tables b Γ) (λ B'. given (eqb q.one p.one.0 && eqb B' p.one.1) P) q.rest in
        then_there _ _ h (and_there _ _ (every_node a Γ (known q.one q.is)) (every_node b Γ (known r.one r.is)))
    every_node (fst a) Γ h =
        let p = parted (infer tables a Γ) (λ P. components tables product P >>= λ (A, B). some A) h in
        then_there _ _ h (every_node a Γ (known p.one p.is))
    every_node (snd a) Γ h =
        let p = parted (infer tables a Γ) (λ P. components tables product P >>= λ (A, B). some B) h in
        then_there _ _ h (every_node a Γ (known p.one p.is))
    every_node (inl S a) Γ h =
        let p = parted (components tables sum S) (λ (A, B). infer tables a Γ >>= λ A'. given (eqb A' A) S) h in
        let q = parted (infer tables a Γ) (λ A'. given (eqb A' p.one.0) S) p.rest in
        then_there _ _ h (every_node a Γ (known q.one q.is))
    every_node (inr S a) Γ h =
        let p = parted (components tables sum S) (λ (A, B). infer tables a Γ >>= λ B'. given (eqb B' B) S) h in
        let q = parted (infer tables a Γ) (λ B'. given (eqb B' p.one.1) S) p.rest in
        then_there _ _ h (every_node a Γ (known q.one q.is))
    every_node (case s l r) Γ h =
        let p = parted (infer tables s Γ)
        (λ S. components tables sum S >>= λ (A, B). infer tables l (A ∷ Γ) >>= λ C. infer tables r (B ∷ Γ) >>= λ C'. given (eqb C' C) C)
        h in
        let q = parted (components tables sum p.one)
        (λ (A, B). infer tables l (A ∷ Γ) >>= λ C. infer tables r (B ∷ Γ) >>= λ C'. given (eqb C' C) C) p.rest in
        let x = parted (infer tables l (q.one.0 ∷ Γ)) (λ C. infer tables r (q.one.1 ∷ Γ) >>= λ C'. given (eqb C' C) C) q.rest in
        let y = parted (infer tables r (q.one.1 ∷ Γ)) (λ C'. given (eqb C' x.one) x.one) x.rest in
        then_there _ _ h (and_there _ _ (every_node s Γ (known p.one p.is))
        (joined (infer tables s Γ) (λ S. components tables sum S >>= λ (A, B). node_types tables l (A ∷ Γ) and node_types tables r (B ∷ Γ))
        p.one p.is
        (joined (components tables sum p.one) (λ (A, B). node_types tables l (A ∷ Γ) and node_types tables r (B ∷ Γ)) q.one q.is
        (and_there _ _ (every_node l (q.one.0 ∷ Γ) (known x.one x.is)) (every_node r (q.one.1 ∷ Γ) (known y.one y.is))))))
    every_node (unit U) Γ h = then_there _ _ h (there [])

    pub every_node_all : (ts : Terms) (Γ : Context) → There (infer_all tables ts Γ) → There (node_types_all tables ts Γ)
    every_node_all done Γ h = there []
    every_node_all (arg t ts) Γ h =
        let p = parted (infer tables t Γ) (λ A. infer_all tables ts Γ >>= λ As. some (A ∷ As)) h in
        let q = parted (infer_all tables ts Γ) (λ As. some (p.one ∷ As)) p.rest in
        and_there _ _ (every_node t Γ (known p.one p.is)) (every_node_all ts Γ (known q.one q.is))
