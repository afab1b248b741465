-- A typed value runs with no call, so it may run where it is put: over related values a value renamed, weakened or put in for a variable
-- ends with a related value and an empty trace.
use mathlib.Core.Path.{◌≡◌, refl, subst}
use mathlib.Core.List.{[], ◌∷◌}
use lib.Dec.{T}
use Prim.Native.Nat.{ℕ, suc, ◌≤◌}
use Rattle.syntax.specs.Term.{Term, var, call, lam, app, bind, pair, fst, snd, inl, inr, case, unit}
use Rattle.syntax.specs.Substitution.{under, traverse, renaming, rename, weaken, weaken_body, only, ◌⟦◌⟧}
use Rattle.syntax.specs.Values.{is_value, uses}
use Rattle.typing.specs.Infer.{Context}
use Rattle.semantics.specs.Value.{Value, Values, closure, tuple, left, right, trivial, also, Trace}
use Rattle.semantics.specs.Run.{answered, lookup}
use Rattle.syntax.proofs.Options.{and_left, and_right}
use Rattle.syntax.proofs.Algebra.{rename_id}
use Rattle.typing.proofs.Typing.{At, here, there, Typed, t_var, t_pair, t_inl, t_inr}
use Rattle.theory.proofs.Ends.{ends_var, ends_lam, ends_pair, ends_inl, ends_inr, ends_unit}
use Rattle.theory.proofs.Ends.{ends_one}
use Rattle.theory.proofs.Relation.{Model, Rv, Runs, E}
use Rattle.theory.proofs.Compatible.{Bound, past_left, past_right}
use Rattle.theory.proofs.Fundamental.{renamed, Moved, substituted, Same}

module _ (M : Model) where
  -- a run with no call
  pub record Silent (ρ : Values) (t : Term) : Type 0 where
    pub v : Value
    pub ends : Runs M ρ t v []

  -- each variable of the context, renamed, has a value
  pub record Held (Γ : Context) (f : ℕ → ℕ) (ρ : Values) : Type 0 where
    pub at : (n A : ℕ) → At Γ n A → (v : Value) × (lookup ρ (f n) ≡ answered v)

  -- a typed value runs with no call, also renamed
  silent : (t : Term) → T (is_value t) → {Γ : Context} {A : ℕ} {f : ℕ → ℕ} {ρ : Values} → Typed M.tables M.ok Γ t A → Held Γ f ρ
      → Silent ρ (rename t f)
  unfolding is_value traverse
  silent (var n) h {A = A} (t_var x) o = let b = o.at n A x in record { v = b.0; ends = ends_var M.answer b.1 }
  silent (call k ts) h x o = absurd h
  silent (lam F b) h {f = f} {ρ = ρ} x o = record { v = closure ρ (rename b (under renaming f)); ends = ends_lam M.answer }
  silent (app a b) h x o = absurd h
  silent (bind a b) h x o = absurd h
  silent (pair P a b) h (t_pair e x y) o =
      let p = silent a (and_left (is_value a) (is_value b) h) x o in
      let q = silent b (and_right (is_value a) (is_value b) h) y o in
      record { v = tuple p.v q.v; ends = ends_pair M.answer p.ends q.ends }
  silent (fst a) h x o = absurd h
  silent (snd a) h x o = absurd h
  silent (inl S a) h (t_inl e x) o = let p = silent a h x o in record { v = left p.v; ends = ends_inl M.answer p.ends }
  silent (inr S a) h (t_inr e x) o = let p = silent a h x o in record { v = right p.v; ends = ends_inr M.answer p.ends }
  silent (case s l r) h x o = absurd h
  silent (unit U) h x o = record { v = trivial; ends = ends_unit M.answer }

  -- two runs with no call
  pub record Calm (A : ℕ) (ρ : Values) (t : Term) (ρ' : Values) (t' : Term) : Type 0 where
    pub v : Value
    pub w : Value
    pub p : Runs M ρ t v []
    pub q : Runs M ρ' t' w []
    pub vals : Rv M A v w

  -- a typed value, renamed over related values
  pub calm : (t : Term) → T (is_value t) → {Γ : Context} {A : ℕ} {f : ℕ → ℕ} {ρ ρ' : Values} → Typed M.tables M.ok Γ t A
      → ((n A : ℕ) → At Γ n A → Bound M A ρ n ρ' (f n)) → Calm A ρ t ρ' (rename t f)
  calm t h {Γ} {A} {f} {ρ} {ρ'} x o =
      let e = renamed M {f = f} {ρ = ρ} {ρ' = ρ'} x (record { at = λ n A y u. o n A y }) in
      let a = silent t h {f = λ n. n} {ρ = ρ} x (record { at = λ n A y. let b = o n A y in (b.v, b.p) }) in
      let b = silent t h {f = f} {ρ = ρ'} x (record { at = λ n A y. let b = o n A y in (b.w, b.q) }) in
      let i = ends_one M.answer e.p (subst (λ (y : Term). Runs M ρ y a.v []) (rename_id t) a.ends) in
      let j = ends_one M.answer e.q b.ends in
      record {
        v = e.v;
        w = e.w;
        p = subst (λ (z : Trace). Runs M ρ t e.v z) i.1 e.p;
        q = subst (λ (z : Trace). Runs M ρ' (rename t f) e.w z) j.1 e.q;
        vals = e.vals;
      }

  pub calm_same : (t : Term) → T (is_value t) → {Γ : Context} {A : ℕ} {ρ ρ' : Values} → Typed M.tables M.ok Γ t A → Same M Γ ρ ρ'
      → Calm A ρ t ρ' t
  calm_same t h {A = A} {ρ = ρ} {ρ' = ρ'} x o = subst (λ (y : Term). Calm A ρ t ρ' y) (rename_id t)
      (calm t h {f = λ n. n} x (λ n A y. o.at n A y))

  -- a term under one more binder, and a body
  pub weaken_e : {Γ : Context} {t : Term} {A : ℕ} {ρ ρ' : Values} (w : Value) → Typed M.tables M.ok Γ t A → Same M Γ ρ ρ'
      → E M A ρ t (also w ρ') (weaken t)
  weaken_e w x o = renamed M x (record { at = λ n A y u. past_right M (o.at n A y) })

  pub calm_weaken : (t : Term) → T (is_value t) → {Γ : Context} {A : ℕ} {ρ ρ' : Values} (w : Value) → Typed M.tables M.ok Γ t A
      → Same M Γ ρ ρ' → Calm A ρ t (also w ρ') (weaken t)
  calm_weaken t h w x o = calm t h x (λ n A y. past_right M (o.at n A y))

  pub body_e : {Γ : Context} {t : Term} {A B : ℕ} {ρ ρ' : Values} {v v' : Value} (w : Value) → Rv M A v v'
      → Typed M.tables M.ok (A ∷ Γ) t B → Same M Γ ρ ρ' → E M B (also v ρ) t (also v' (also w ρ')) (weaken_body t)
  unfolding lookup
  body_e {Γ} {t} {A} {B} {ρ} {ρ'} {v} {v'} w r x o = renamed M x (record { at = go })
    where
      go : (n D : ℕ) → At (A ∷ Γ) n D → 1 ≤ uses t n → Bound M D (also v ρ) n (also v' (also w ρ')) (under renaming suc n)
      go n D here u = record { v = v; w = v'; p = refl; q = refl; vals = r }
      go n D (there {n = m} y) u = past_left M (past_right M (past_right M (o.at m D y)))

  -- a value put in
  pub put_e : {Γ : Context} {t : Term} {A B : ℕ} {ρ ρ' : Values} (u : Term) → T (is_value u) → Typed M.tables M.ok Γ u A → {x : Value}
      → Runs M ρ u x []
      → Typed M.tables M.ok (A ∷ Γ) t B → Same M Γ ρ ρ' → E M B (also x ρ) t ρ' (t ⟦ u ⟧)
  unfolding lookup traverse
  put_e {Γ} {t} {A} {B} {ρ} {ρ'} u h y {x} px z o = substituted M z (record { at = go })
    where
      go : (n D : ℕ) → At (A ∷ Γ) n D → Moved M D (also x ρ) n ρ' (only u n)
      go n D here = record {
        v = x;
        p = refl;
        moves = record {
          to = λ f ρ'' k.
              let q = calm u h {f = f} {ρ = ρ} {ρ' = ρ''} y
              (λ j F a. let b = o.at j F a in record { v = b.v; w = b.w; p = b.p; q = k j b.w b.q; vals = b.vals }) in
              record { w = q.w; ends = q.q; vals = subst (λ (m : Value). Rv M A m q.w) (ends_one M.answer q.p px).0 q.vals };
        };
      }
      go n D (there {n = m} a) = let b = o.at m D a
          in record {
            v = b.v;
            p = b.p;
            moves = record { to = λ f ρ'' k. record { w = b.w; ends = ends_var M.answer (k m b.w b.q); vals = b.vals } };
          }
