-- A typed term runs alike over related values, renamed or with values put in: one traversal lemma, over used variables only, for both kits.
use mathlib.Core.Path.{◌≡◌, refl, sym, subst}
use mathlib.Core.List.{List, [], ◌∷◌}
use Prim.Native.Nat.{ℕ, zero, suc, ◌+◌, ◌≤◌}
use Rattle.syntax.specs.Term.{Term, Terms, var}
use Rattle.syntax.specs.Substitution.{Kit, under, traverse, traverse_all, renaming, rename, weaken, substitution, substitute}
use Rattle.syntax.specs.Values.{uses, uses_all}
use Rattle.typing.specs.Infer.{Context}
use Rattle.semantics.specs.Value.{Value, Values, also}
use Rattle.semantics.specs.Run.{answered, lookup}
use Rattle.syntax.proofs.Options.{uses_itself, add_left, add_right}
use Rattle.syntax.proofs.Algebra.{rename_id, renames_id, rename-rename}
use Rattle.typing.proofs.Typing.{At, here, there, Typed, TypedAll, t_var, t_call, t_lam, t_app, t_bind, t_pair, t_fst, t_snd, t_inl, t_inr}
use Rattle.typing.proofs.Typing.{t_case, t_unit, t_done, t_arg}
use Rattle.theory.proofs.Ends.{ends_var}
use Rattle.theory.proofs.Relation.{Model, Rv, Runs, E, EAll, ends_related}
use Rattle.theory.proofs.Compatible.{Bound, past_left, past_right, e_lam, e_app, e_bind, e_pair, e_fst, e_snd, e_inl, e_inr}
use Rattle.theory.proofs.Compatible.{e_case, e_unit, e_done, e_arg, e_call}

module _ (M : Model) where
  -- t over ρ gives, with no call, a value related to v
  pub record Quiet (A : ℕ) (v : Value) (ρ : Values) (t : Term) : Type 0 where
    pub w : Value
    pub ends : Runs M ρ t w []
    pub vals : Rv M A v w

  -- What a kit puts for a variable gives a related value: at the new variable of a binder, when weakened, and as a term.
  module _ {X : Type 0} (K : Kit X) (Gives : ℕ → Value → Values → X → Type 0)
      (g-new : (A : ℕ) (v w : Value) (ρ : Values) → Rv M A v w → Gives A v (also w ρ) (K.variable zero))
      (g-weaken : (A : ℕ) (v w : Value) (ρ : Values) (x : X) → Gives A v ρ x → Gives A v (also w ρ) (K.weaken x))
      (g-term : (A : ℕ) (v : Value) (ρ : Values) (x : X) → Gives A v ρ x → Quiet A v ρ (K.term x)) where
    pub record Given (A : ℕ) (ρ : Values) (n : ℕ) (ρ' : Values) (x : X) : Type 0 where
      pub v : Value
      pub p : lookup ρ n ≡ answered v
      pub gives : Gives A v ρ' x

    pub record Over (Γ : Context) (u : ℕ → ℕ) (f : ℕ → X) (ρ ρ' : Values) : Type 0 where
      pub at : (n A : ℕ) → At Γ n A → 1 ≤ u n → Given A ρ n ρ' (f n)

    over_up : {Γ : Context} (A : ℕ) {u : ℕ → ℕ} {f : ℕ → X} {ρ ρ' : Values} {v w : Value}
        → Over Γ (λ n. u (suc n)) f ρ ρ' → Rv M A v w → Over (A ∷ Γ) u (under K f) (also v ρ) (also w ρ')
    unfolding lookup
    over_up {Γ} A {u} {f} {ρ} {ρ'} {v} {w} o r = record { at = go }
      where
        go : (n B : ℕ) → At (A ∷ Γ) n B → 1 ≤ u n → Given B (also v ρ) n (also w ρ') (under K f n)
        go n B here s = record { v = v; p = refl; gives = g-new A v w ρ' r }
        go n B (there {n = m} x) s = let g = o.at m B x s in record { v = g.v; p = g.p; gives = g-weaken B g.v w ρ' (f m) g.gives }

    over_of : {Γ : Context} {u u' : ℕ → ℕ} {f : ℕ → X} {ρ ρ' : Values} → ((n : ℕ) → 1 ≤ u n → 1 ≤ u' n) → Over Γ u' f ρ ρ' → Over Γ u f ρ ρ'
    over_of h o = record { at = λ n A x s. o.at n A x (h n s) }

    mutual
      unfolding traverse uses

      pub traversed : {Γ : Context} {t : Term} {A : ℕ} {f : ℕ → X} {ρ ρ' : Values} → Typed M.tables M.ok Γ t A
          → Over Γ (uses t) f ρ ρ' → E M A ρ t ρ' (traverse K t f)
      traversed {A = A} {f = f} {ρ' = ρ'} (t_var {n = n} x) o =
          let g = o.at n A x (uses_itself n) in
          let r = g-term A g.v ρ' (f n) g.gives in
          ends_related M (ends_var M.answer g.p) r.ends M.none r.vals
      traversed (t_call z e d xs) o = e_call M z e d (traversed_all xs o)
      traversed (t_lam {A = A} e b) o = e_lam M e λ v w r. traversed b (over_up A o r)
      traversed (t_app {f = f} {a = a} e x y) o = e_app M e (traversed x (over_of (λ n. add_left (uses f n) (uses a n)) o))
          (traversed y (over_of (λ n. add_right (uses f n) (uses a n)) o))
      traversed (t_bind {A = A} {e = e} {b = b} x y) o = e_bind M
          (traversed x (over_of (λ n. add_left (uses e n) (uses b (suc n))) o)) λ v w r. traversed y
          (over_up A (over_of (λ n. add_right (uses e n) (uses b (suc n))) o) r)
      traversed (t_pair {a = a} {b = b} e x y) o = e_pair M e (traversed x (over_of (λ n. add_left (uses a n) (uses b n)) o))
          (traversed y (over_of (λ n. add_right (uses a n) (uses b n)) o))
      traversed (t_fst e x) o = e_fst M e (traversed x o)
      traversed (t_snd e x) o = e_snd M e (traversed x o)
      traversed (t_inl e x) o = e_inl M e (traversed x o)
      traversed (t_inr e x) o = e_inr M e (traversed x o)
      traversed (t_case {A = A} {B = B} {s = s} {l = l} {r = r} e x y z) o =
          let o' = over_of {u = λ n. uses l (suc n) + uses r (suc n)} (λ n. add_right (uses s n) (uses l (suc n) + uses r (suc n))) o in
          e_case M e (traversed x (over_of (λ n. add_left (uses s n) (uses l (suc n) + uses r (suc n))) o))
          (λ v w q. traversed y (over_up A (over_of (λ n. add_left (uses l (suc n)) (uses r (suc n))) o') q))
          (λ v w q. traversed z (over_up B (over_of (λ n. add_right (uses l (suc n)) (uses r (suc n))) o') q))
      traversed (t_unit e) o = e_unit M e

      pub traversed_all : {Γ : Context} {ts : Terms} {As : List ℕ} {f : ℕ → X} {ρ ρ' : Values} → TypedAll M.tables M.ok Γ ts As
          → Over Γ (uses_all ts) f ρ ρ' → EAll M As ρ ts ρ' (traverse_all K ts f)
      traversed_all t_done o = e_done M
      traversed_all (t_arg {t = t} {ts = ts} x xs) o = e_arg M (traversed x (over_of (λ n. add_left (uses t n) (uses_all ts n)) o))
          (traversed_all xs (over_of (λ n. add_right (uses t n) (uses_all ts n)) o))

  -- renaming: a number gives the value of its variable
  pub record Names (A : ℕ) (v : Value) (ρ : Values) (n : ℕ) : Type 0 where
    pub w : Value
    pub p : lookup ρ n ≡ answered w
    pub vals : Rv M A v w

  new_name : (A : ℕ) (v w : Value) (ρ : Values) → Rv M A v w → Names A v (also w ρ) zero
  unfolding lookup
  new_name A v w ρ r = record { w = w; p = refl; vals = r }

  weaken_name : (A : ℕ) (v w : Value) (ρ : Values) (n : ℕ) → Names A v ρ n → Names A v (also w ρ) (suc n)
  unfolding lookup
  weaken_name A v w ρ n x = record { w = x.w; p = x.p; vals = x.vals }

  term_name : (A : ℕ) (v : Value) (ρ : Values) (n : ℕ) → Names A v ρ n → Quiet A v ρ (var n)
  term_name A v ρ n x = record { w = x.w; ends = ends_var M.answer x.p; vals = x.vals }

  -- the values that the used variables name, before and after a renaming
  pub record Renamed (Γ : Context) (u : ℕ → ℕ) (f : ℕ → ℕ) (ρ ρ' : Values) : Type 0 where
    pub at : (n A : ℕ) → At Γ n A → 1 ≤ u n → Bound M A ρ n ρ' (f n)

  over_names : {Γ : Context} {u : ℕ → ℕ} {f : ℕ → ℕ} {ρ ρ' : Values} → Renamed Γ u f ρ ρ'
      → Over renaming Names new_name weaken_name term_name Γ u f ρ ρ'
  over_names o = record {
    at = λ n A x s. let b = o.at n A x s
        in record { v = b.v; p = b.p; gives = record { w = b.w; p = b.q; vals = b.vals } };
  }

  pub renamed : {Γ : Context} {t : Term} {A : ℕ} {f : ℕ → ℕ} {ρ ρ' : Values} → Typed M.tables M.ok Γ t A → Renamed Γ (uses t) f ρ ρ'
      → E M A ρ t ρ' (rename t f)
  renamed x o = traversed renaming Names new_name weaken_name term_name x (over_names o)

  pub renamed_all : {Γ : Context} {ts : Terms} {As : List ℕ} {f : ℕ → ℕ} {ρ ρ' : Values} → TypedAll M.tables M.ok Γ ts As
      → Renamed Γ (uses_all ts) f ρ ρ' → EAll M As ρ ts ρ' (traverse_all renaming ts f)
  renamed_all x o = traversed_all renaming Names new_name weaken_name term_name x (over_names o)

  -- substitution: a term, moved to any values that hold ρ, gives without a call a value related to v
  pub record Moves (A : ℕ) (v : Value) (ρ : Values) (t : Term) : Type 0 where
    pub to : (f : ℕ → ℕ) (ρ' : Values) → ((n : ℕ) (w : Value) → lookup ρ n ≡ answered w → lookup ρ' (f n) ≡ answered w)
        → Quiet A v ρ' (rename t f)

  new_move : (A : ℕ) (v w : Value) (ρ : Values) → Rv M A v w → Moves A v (also w ρ) (var zero)
  unfolding lookup traverse
  new_move A v w ρ r = record { to = λ f ρ' k. record { w = w; ends = ends_var M.answer (k zero w refl); vals = r } }

  weaken_move : (A : ℕ) (v w : Value) (ρ : Values) (t : Term) → Moves A v ρ t → Moves A v (also w ρ) (weaken t)
  unfolding lookup
  weaken_move A v w ρ t m =
      record {
        to = λ f ρ' k. subst (λ (x : Term). Quiet A v ρ' x) (sym (rename-rename t suc f))
            (m.to (λ n. f (suc n)) ρ' (λ n x e. k (suc n) x e));
      }

  term_move : (A : ℕ) (v : Value) (ρ : Values) (t : Term) → Moves A v ρ t → Quiet A v ρ t
  term_move A v ρ t m = subst (λ (x : Term). Quiet A v ρ x) (rename_id t) (m.to (λ n. n) ρ (λ n w e. e))

  pub record Moved (A : ℕ) (ρ : Values) (n : ℕ) (ρ' : Values) (t : Term) : Type 0 where
    pub v : Value
    pub p : lookup ρ n ≡ answered v
    pub moves : Moves A v ρ' t

  pub record Substituted (Γ : Context) (s : ℕ → Term) (ρ ρ' : Values) : Type 0 where
    pub at : (n A : ℕ) → At Γ n A → Moved A ρ n ρ' (s n)

  pub substituted : {Γ : Context} {t : Term} {A : ℕ} {s : ℕ → Term} {ρ ρ' : Values} → Typed M.tables M.ok Γ t A → Substituted Γ s ρ ρ'
      → E M A ρ t ρ' (substitute t s)
  substituted x o = traversed substitution Moves new_move weaken_move term_move x
      (record { at = λ n A y u. let b = o.at n A y in record { v = b.v; p = b.p; gives = b.moves } })

  -- the same term over related values
  pub record Same (Γ : Context) (ρ ρ' : Values) : Type 0 where
    pub at : (n A : ℕ) → At Γ n A → Bound M A ρ n ρ' n

  pub same_up : {Γ : Context} {A : ℕ} {ρ ρ' : Values} {v w : Value} → Rv M A v w → Same Γ ρ ρ' → Same (A ∷ Γ) (also v ρ) (also w ρ')
  unfolding lookup
  same_up {Γ} {A} {ρ} {ρ'} {v} {w} r o = record { at = go }
    where
      go : (n B : ℕ) → At (A ∷ Γ) n B → Bound M B (also v ρ) n (also w ρ') n
      go n B here = record { v = v; w = w; p = refl; q = refl; vals = r }
      go n B (there {n = m} x) = past_left M (past_right M (o.at m B x))

  pub same : {Γ : Context} {t : Term} {A : ℕ} {ρ ρ' : Values} → Typed M.tables M.ok Γ t A → Same Γ ρ ρ' → E M A ρ t ρ' t
  same {t = t} {A = A} {ρ = ρ} {ρ' = ρ'} x o = subst (λ (y : Term). E M A ρ t ρ' y) (rename_id t)
      (renamed {f = λ n. n} x (record { at = λ n A y u. o.at n A y }))

  pub same_all : {Γ : Context} {ts : Terms} {As : List ℕ} {ρ ρ' : Values} → TypedAll M.tables M.ok Γ ts As → Same Γ ρ ρ'
      → EAll M As ρ ts ρ' ts
  same_all {ts = ts} {As = As} {ρ = ρ} {ρ' = ρ'} x o = subst (λ (y : Terms). EAll M As ρ ts ρ' y) (renames_id ts)
      (renamed_all {f = λ n. n} x (record { at = λ n A y u. o.at n A y }))
