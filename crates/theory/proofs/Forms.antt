-- After phase 2 a typed term is in the grammar, but for the lets that may be dropped; phase 3 keeps it there.
-- The weaker grammar is the grammar for which nothing may be dropped: there every let has to stay.
use mathlib.Core.Path.{◌≡◌, refl}
use mathlib.Core.Bool.{Bool, false, ◌&&◌}
use mathlib.Core.List.{List, ◌∷◌}
use mathlib.Core.Option.{Option, some, none, some-ne-none}
use lib.Dec.{T, leb}
use Prim.Native.Nat.{ℕ}
use native.Mathlib.Omega.{arith}
use Rattle.syntax.specs.Tables.{Tables, arrow, product, sum}
use Rattle.syntax.specs.Term.{Term, Terms, app, bind, fst, snd, case, node, parts_of, as_var, as_lam, as_app, as_bind, as_pair, as_fst, as_snd}
use Rattle.syntax.specs.Term.{as_inl, as_inr, as_case}
use Rattle.syntax.specs.Substitution.{◌⟦◌⟧}
use Rattle.syntax.specs.Values.{is_value, is_computation, uses}
use Rattle.typing.specs.Infer.{Context}
use Rattle.reduction.specs.Rules.{let_of_let, let_of_case, apply, first, second, left_case, right_case, let_value, fire, rules}
use Rattle.reduction.specs.declared.Phase.TheVariants.{Reduction}
use Rattle.reduction.specs.Redex.{Contraction, contract, step}
use Rattle.reduction.specs.declared.Rule.{Rule}
use Rattle.reduction.specs.NormalForm.{needed, NormalValue, NormalValues, Operation, Normal, variable, function, product as both, left}
use Rattle.reduction.specs.NormalForm.{right, the_unit, no_more, more, application, calling, first as taking₁, second as taking₂, value}
use Rattle.reduction.specs.NormalForm.{operation}
use Rattle.reduction.specs.NormalForm.{letting, branching}
use Rattle.syntax.proofs.Options.{given_none, both_true, or_true, not_both}
use Rattle.typing.proofs.Typing.{Of, of_kind, Typed, TypedAll, t_var, t_call, t_lam, t_app, t_bind, t_pair, t_fst, t_snd, t_inl, t_inr}
use Rattle.typing.proofs.Typing.{t_case, t_unit, t_done, t_arg}
use Rattle.reduction.proofs.Search.{Each, EachAll, Misses, no_step}
use Rattle.theory.proofs.Operands.{AllValues, Ops, each_map}

-- nothing may be dropped
unfoldable pub never : Term → Bool
never e = false

pub stays : (e b : Term) → T (needed never e b)
unfolding needed never
stays e b = or_true (leb 1 (uses b 0))

-- no rule of phase 2 fits a node
pub record Irreducible (t : Term) : Type 0 where
  pub not_let_of_let : let_of_let t ≡ none
  pub not_let_of_case : let_of_case t ≡ none
  pub not_apply : apply t ≡ none
  pub not_first : first t ≡ none
  pub not_second : second t ≡ none
  pub not_left_case : left_case t ≡ none
  pub not_right_case : right_case t ≡ none
  pub not_let_value : let_value t ≡ none

module _ (pure : Term → Bool) where
  missed : (r : Rule) (rs : List Rule) (t : Term) → contract pure (r ∷ rs) t ≡ none → (fire pure r t ≡ none) × (contract pure rs t ≡ none)
  unfolding contract
  missed r rs t e = go (fire pure r t) e
    where
      go : (o : Option Term) → ◌≡◌ {A = Option Contraction}
          (elim o [ some u ↦ some (record { rule = r; contractum = u }) | none ↦ contract pure rs t ]) none → (o ≡ none)
          × (contract pure rs t ≡ none)
      go none d = (refl, d)
      go (some u) d = absurd (some-ne-none _ d)

  pub irreducible : (t : Term) → Misses pure Reduction t → Irreducible t
  unfolding rules fire
  irreducible t e =
      let a = missed _ _ t e in let b = missed _ _ t a.1 in let c = missed _ _ t b.1 in let d = missed _ _ t c.1 in
      let f = missed _ _ t d.1 in let g = missed _ _ t f.1 in let h = missed _ _ t g.1 in let i = missed _ _ t h.1 in
      record {
        not_let_of_let = a.0;
        not_let_of_case = b.0;
        not_apply = c.0;
        not_first = d.0;
        not_second = f.0;
        not_left_case = g.0;
        not_right_case = h.0;
        not_let_value = i.0;
      }

-- what an operation works on is a variable
module _ (tables : Tables) (ok : ℕ → Type 0) where
  apart : {F A B C D : ℕ} (k j : ℕ) → (k ≡ j → ⊥) → Of tables k F A B → Of tables j F C D → ⊥
  apart k j h p q = h (of_kind k j p q)

  app_form : {Γ : Context} {f v : Term} {F A B : ℕ} → Typed tables ok Γ f F → Of tables arrow F A B → T (is_value f) → T (is_value v)
      → apply (app f v) ≡ none → NormalValue never v → Operation never (app f v)
  unfolding is_value apply as_app as_lam parts_of node
  app_form (t_var x) o h k e w = application w
  app_form {v = v} (t_lam {b = b} d x) o h k e w = absurd (not_both (is_value v) k (given_none (is_value v) (b ⟦ v ⟧) e))
  app_form (t_pair d x y) o h k e w = absurd (apart 2 1 (λ z. omega (arith, z)) d o)
  app_form (t_inl d x) o h k e w = absurd (apart 3 1 (λ z. omega (arith, z)) d o)
  app_form (t_inr d x) o h k e w = absurd (apart 3 1 (λ z. omega (arith, z)) d o)
  app_form (t_call _ _ _ _) o h k e w = absurd h
  app_form (t_app _ _ _) o h k e w = absurd h
  app_form (t_bind _ _) o h k e w = absurd h
  app_form (t_fst _ _) o h k e w = absurd h
  app_form (t_snd _ _) o h k e w = absurd h
  app_form (t_case _ _ _ _) o h k e w = absurd h
  app_form (t_unit d) o h k e w = absurd (apart 4 1 (λ z. omega (arith, z)) d o)

  fst_form : {Γ : Context} {a : Term} {P A B : ℕ} → Typed tables ok Γ a P → Of tables product P A B → T (is_value a) → first (fst a) ≡ none
      → Operation never (fst a)
  unfolding is_value first as_fst as_pair parts_of node
  fst_form (t_var x) o h e = taking₁
  fst_form (t_pair {a = a} {b = b} d x y) o h e = absurd (not_both (is_value a && is_value b) h (given_none (is_value a && is_value b) a e))
  fst_form (t_lam d x) o h e = absurd (apart 1 2 (λ z. omega (arith, z)) d o)
  fst_form (t_inl d x) o h e = absurd (apart 3 2 (λ z. omega (arith, z)) d o)
  fst_form (t_inr d x) o h e = absurd (apart 3 2 (λ z. omega (arith, z)) d o)
  fst_form (t_call _ _ _ _) o h e = absurd h
  fst_form (t_app _ _ _) o h e = absurd h
  fst_form (t_bind _ _) o h e = absurd h
  fst_form (t_fst _ _) o h e = absurd h
  fst_form (t_snd _ _) o h e = absurd h
  fst_form (t_case _ _ _ _) o h e = absurd h
  fst_form (t_unit d) o h e = absurd (apart 4 2 (λ z. omega (arith, z)) d o)

  snd_form : {Γ : Context} {a : Term} {P A B : ℕ} → Typed tables ok Γ a P → Of tables product P A B → T (is_value a) → second (snd a) ≡ none
      → Operation never (snd a)
  unfolding is_value second as_snd as_pair parts_of node
  snd_form (t_var x) o h e = taking₂
  snd_form (t_pair {a = a} {b = b} d x y) o h e = absurd (not_both (is_value a && is_value b) h (given_none (is_value a && is_value b) b e))
  snd_form (t_lam d x) o h e = absurd (apart 1 2 (λ z. omega (arith, z)) d o)
  snd_form (t_inl d x) o h e = absurd (apart 3 2 (λ z. omega (arith, z)) d o)
  snd_form (t_inr d x) o h e = absurd (apart 3 2 (λ z. omega (arith, z)) d o)
  snd_form (t_call _ _ _ _) o h e = absurd h
  snd_form (t_app _ _ _) o h e = absurd h
  snd_form (t_bind _ _) o h e = absurd h
  snd_form (t_fst _ _) o h e = absurd h
  snd_form (t_snd _ _) o h e = absurd h
  snd_form (t_case _ _ _ _) o h e = absurd h
  snd_form (t_unit d) o h e = absurd (apart 4 2 (λ z. omega (arith, z)) d o)

  case_form : {Γ : Context} {s l r : Term} {S A B : ℕ} → Typed tables ok Γ s S → Of tables sum S A B → T (is_value s)
      → left_case (case s l r) ≡ none → right_case (case s l r) ≡ none → Normal never l → Normal never r → Normal never (case s l r)
  unfolding is_value left_case right_case as_case as_inl as_inr parts_of node
  case_form (t_var x) o h e d f g = branching f g
  case_form {l = l} (t_inl {a = a} _ _) o h e d f g = absurd (not_both (is_value a) h (given_none (is_value a) (l ⟦ a ⟧) e))
  case_form {r = r} (t_inr {a = a} _ _) o h e d f g = absurd (not_both (is_value a) h (given_none (is_value a) (r ⟦ a ⟧) d))
  case_form (t_lam i x) o h e d f g = absurd (apart 1 3 (λ z. omega (arith, z)) i o)
  case_form (t_pair i x y) o h e d f g = absurd (apart 2 3 (λ z. omega (arith, z)) i o)
  case_form (t_call _ _ _ _) o h e d f g = absurd h
  case_form (t_app _ _ _) o h e d f g = absurd h
  case_form (t_bind _ _) o h e d f g = absurd h
  case_form (t_fst _ _) o h e d f g = absurd h
  case_form (t_snd _ _) o h e d f g = absurd h
  case_form (t_case _ _ _ _) o h e d f g = absurd h
  case_form (t_unit i) o h e d f g = absurd (apart 4 3 (λ z. omega (arith, z)) i o)

pub operation_computes : {pure : Term → Bool} {t : Term} → Operation pure t → T (is_computation t)
unfolding is_computation is_value
operation_computes (application v) = tt
operation_computes (calling vs) = tt
operation_computes taking₁ = tt
operation_computes taking₂ = tt

pub value_is : {pure : Term → Bool} {t : Term} → NormalValue pure t → T (is_value t)
unfolding is_value
value_is variable = tt
value_is (function b) = tt
value_is (both {a = a} {b = b} x y) = both_true (is_value a) (is_value b) (value_is x) (value_is y)
value_is (left x) = value_is x
value_is (right x) = value_is x
value_is the_unit = tt

bind_form : {e b : Term} → Normal never e → let_of_let (bind e b) ≡ none → let_of_case (bind e b) ≡ none → let_value (bind e b) ≡ none
    → Normal never b → Normal never (bind e b)
unfolding let_of_let let_of_case let_value as_bind as_case as_var parts_of node
bind_form {e} {b} (value v) i j k f = absurd (not_both (is_value e) (value_is v) (given_none (is_value e) (b ⟦ e ⟧) k))
bind_form {e} {b} (operation o) i j k f = letting o (stays e b) f
bind_form (letting {e = p} o _ g) i j k f = absurd (not_both (is_computation p) (operation_computes o) (given_none (is_computation p) _ i))
bind_form (branching g h) i j k f = absurd (some-ne-none _ j)

module _ (tables : Tables) (ok : ℕ → Type 0) where
  mutual
    unfolding Each is_value

    form : {Γ : Context} {t : Term} {A : ℕ} → Typed tables ok Γ t A → Each t Ops → Each t Irreducible → Normal never t
    form (t_var x) p q = value variable
    form (t_call _ _ _ xs) p q = operation (calling (vals xs p.0 p.1 q.1))
    form (t_lam _ x) p q = value (function (form x p.1 q.1))
    form (t_app o x y) p q = operation (app_form tables ok x o p.0.0 p.0.1 q.0.not_apply (val y p.0.1 p.2 q.2))
    form (t_bind x y) p q = bind_form (form x p.1 q.1) q.0.not_let_of_let q.0.not_let_of_case q.0.not_let_value
        (form y p.2 q.2)
    form (t_pair _ x y) p q = value (both (val x p.0.0 p.1 q.1) (val y p.0.1 p.2 q.2))
    form (t_fst o x) p q = operation (fst_form tables ok x o p.0 q.0.not_first)
    form (t_snd o x) p q = operation (snd_form tables ok x o p.0 q.0.not_second)
    form (t_inl _ x) p q = value (left (val x p.0 p.1 q.1))
    form (t_inr _ x) p q = value (right (val x p.0 p.1 q.1))
    form (t_case o x y z) p q = case_form tables ok x o p.0 q.0.not_left_case q.0.not_right_case (form y p.2 q.2)
        (form z p.3 q.3)
    form (t_unit _) p q = value the_unit

    val : {Γ : Context} {t : Term} {A : ℕ} → Typed tables ok Γ t A → T (is_value t) → Each t Ops → Each t Irreducible → NormalValue never t
    val (t_var x) h p q = variable
    val (t_call _ _ _ xs) h p q = absurd h
    val (t_lam _ x) h p q = function (form x p.1 q.1)
    val (t_app _ x y) h p q = absurd h
    val (t_bind x y) h p q = absurd h
    val (t_pair _ x y) h p q = both (val x p.0.0 p.1 q.1) (val y p.0.1 p.2 q.2)
    val (t_fst _ x) h p q = absurd h
    val (t_snd _ x) h p q = absurd h
    val (t_inl _ x) h p q = left (val x p.0 p.1 q.1)
    val (t_inr _ x) h p q = right (val x p.0 p.1 q.1)
    val (t_case _ x y z) h p q = absurd h
    val (t_unit _) h p q = the_unit

    vals : {Γ : Context} {ts : Terms} {As : List ℕ} → TypedAll tables ok Γ ts As → AllValues ts → EachAll ts Ops → EachAll ts Irreducible
        → NormalValues never ts
    vals t_done h p q = no_more
    vals (t_arg x xs) h p q = more (val x h.0 p.0 q.0) (vals xs h.1 p.1 q.1)

  -- a typed term whose operands are values, and that no rule of phase 2 fits
  pub reduced : (pure : Term → Bool) {Γ : Context} {t : Term} {A : ℕ} → Typed tables ok Γ t A → Each t Ops → step pure Reduction t ≡ none
      → Normal never t
  reduced pure {t = t} x p e = form x p (each_map (Misses pure Reduction) Irreducible (irreducible pure) t (no_step pure Reduction t e))
