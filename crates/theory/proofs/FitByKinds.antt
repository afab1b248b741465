-- Where every operand is a value, the kinds of three words decide which rule of phase 2 fits a node: a part is a value exactly if its
-- kind is a value's, and no rule looks further than at the first part of a node's first part.
use mathlib.Core.Path.{◌≡◌, refl, sym, ◌∙◌, ap}
use mathlib.Core.Bool.{Bool, true, false, ◌&&◌, not}
use mathlib.Core.List.{List, ◌++◌, append_assoc}
use mathlib.Core.Option.{Option, some, none, map}
use lib.ListN.{get_or}
use Prim.Native.Nat.{ℕ}
use Rattle.syntax.specs.Maybe.{given}
use Rattle.syntax.specs.Words.{kind_of}
use Rattle.syntax.specs.Term.{Term, var, call, lam, app, bind, pair, fst, snd, inl, inr, case, unit, node, parts_of, as_var, as_lam, as_app}
use Rattle.syntax.specs.Term.{as_bind, as_pair, as_fst, as_snd, as_inl, as_inr, as_case}
use Rattle.syntax.specs.Encoding.{encode}
use Rattle.syntax.specs.Shaped.{Shaped}
use Rattle.syntax.specs.Values.{is_value, is_computation}
use Rattle.syntax.proofs.Nodes.{front}
use Rattle.syntax.proofs.Options.{is_true, both_true}
use Rattle.reduction.specs.Rules.{let_of_let, let_of_case, apply, first, second, left_case, right_case, let_value, fire, rules}
use Rattle.reduction.specs.declared.Phase.TheVariants.{Reduction}
use Rattle.reduction.specs.declared.Rule.{Rule}
use Rattle.reduction.specs.declared.Rule.TheVariants.{LetOfLet, Apply, First, Second, LeftCase, RightCase, LetValue}
use Rattle.reduction.specs.Redex.{Contraction, contract}
use Rattle.reduction.specs.FitByKinds.{value_kind, let_by_kinds, rule_by_kinds}
use Rattle.reduction.proofs.Search.{Each}
use Rattle.theory.proofs.Operands.{Ops}

-- a term whose operands are values is a value exactly if its kind is a value's
pub value_kind_lem : (t : Term) → Ops t → is_value t ≡ value_kind (node t).kind
unfolding is_value value_kind node
value_kind_lem (var n) o = refl
value_kind_lem (call k ts) o = refl
value_kind_lem (lam A b) o = refl
value_kind_lem (app f a) o = refl
value_kind_lem (bind e b) o = refl
value_kind_lem (pair A a b) o = is_true (is_value a && is_value b) (both_true (is_value a) (is_value b) o.0 o.1)
value_kind_lem (fst a) o = refl
value_kind_lem (snd a) o = refl
value_kind_lem (inl A a) o = is_true (is_value a) o
value_kind_lem (inr A a) o = is_true (is_value a) o
value_kind_lem (case s l r) o = refl
value_kind_lem (unit A) o = refl

-- a property of each node holds of the first
pub root_each : (P : Term → Type 0) (t : Term) → Each t P → P t
unfolding Each
root_each P (var n) e = e
root_each P (call k ts) e = e.0
root_each P (lam A b) e = e.0
root_each P (app f a) e = e.0
root_each P (bind d b) e = e.0
root_each P (pair A a b) e = e.0
root_each P (fst a) e = e.0
root_each P (snd a) e = e.0
root_each P (inl A a) e = e.0
root_each P (inr A a) e = e.0
root_each P (case s l r) e = e.0
root_each P (unit A) e = e

-- the kind of a node's first part, and of that part's first part, d where no rule looks for one
abbrev pub kind₁ : Term → ℕ → ℕ
kind₁ (var n) d = d
kind₁ (call k ts) d = d
kind₁ (lam A b) d = d
kind₁ (app f a) d = (node f).kind
kind₁ (bind e b) d = (node e).kind
kind₁ (pair A a b) d = d
kind₁ (fst a) d = (node a).kind
kind₁ (snd a) d = (node a).kind
kind₁ (inl A a) d = d
kind₁ (inr A a) d = d
kind₁ (case s l r) d = (node s).kind
kind₁ (unit A) d = d

abbrev pub kind₂ : Term → ℕ → ℕ
kind₂ (var n) d = d
kind₂ (call k ts) d = d
kind₂ (lam A b) d = d
kind₂ (app f a) d = d
kind₂ (bind e b) d = kind₁ e d
kind₂ (pair A a b) d = d
kind₂ (fst a) d = d
kind₂ (snd a) d = d
kind₂ (inl A a) d = d
kind₂ (inr A a) d = d
kind₂ (case s l r) d = d
kind₂ (unit A) d = d

-- the rule found where a test passes
fits : (b c : Bool) (r : Rule) (u : Term) → b ≡ c
    → map (λ (x : Contraction). x.rule)
    (elim (given b u) as (λ _. Option Contraction) [ some w ↦ some (record { rule = r; contractum = w }) | none ↦ none ]) ≡ given c r
fits true c r u e = ap (λ (x : Bool). given x r) e
fits false c r u e = ap (λ (x : Bool). given x r) e

module _ (pure : Term → Bool) where
  pub by_kinds : (t : Term) (d₁ d₂ : ℕ) → Each t Ops
      → map (λ (x : Contraction). x.rule) (contract pure (rules Reduction) t) ≡ rule_by_kinds (node t).kind (kind₁ t d₁) (kind₂ t d₂)
  unfolding contract rules fire let_of_let let_of_case apply first second left_case right_case let_value node parts_of as_var as_lam as_app as_bind
      as_pair as_fst as_snd as_inl as_inr as_case is_value is_computation Each rule_by_kinds let_by_kinds value_kind
  by_kinds (var n) d₁ d₂ e = refl
  by_kinds (call k ts) d₁ d₂ e = refl
  by_kinds (lam A b) d₁ d₂ e = refl
  by_kinds (app (var n') v) d₁ d₂ e = refl
  by_kinds (app (call k' ts') v) d₁ d₂ e = refl
  by_kinds (app (lam A' b') v) d₁ d₂ e = fits (is_value v) true Apply _ (is_true (is_value v) e.0.1)
  by_kinds (app (app f' a') v) d₁ d₂ e = refl
  by_kinds (app (bind x' y') v) d₁ d₂ e = refl
  by_kinds (app (pair A' a' b') v) d₁ d₂ e = refl
  by_kinds (app (fst a') v) d₁ d₂ e = refl
  by_kinds (app (snd a') v) d₁ d₂ e = refl
  by_kinds (app (inl A' a') v) d₁ d₂ e = refl
  by_kinds (app (inr A' a') v) d₁ d₂ e = refl
  by_kinds (app (case s' l' r') v) d₁ d₂ e = refl
  by_kinds (app (unit A') v) d₁ d₂ e = refl
  by_kinds (bind (var n') c) d₁ d₂ e = refl
  by_kinds (bind (call k' ts') c) d₁ d₂ e = refl
  by_kinds (bind (lam A' b') c) d₁ d₂ e = refl
  by_kinds (bind (app f' a') c) d₁ d₂ e = refl
  by_kinds (bind (bind p b) c) d₁ d₂ e = fits (is_computation p) (not (value_kind (node p).kind)) LetOfLet _
      (ap not (value_kind_lem p (root_each Ops p e.1.1)))
  by_kinds (bind (pair A' a' b') c) d₁ d₂ e = fits (is_value (pair A' a' b')) true LetValue _ (value_kind_lem (pair A' a' b') e.1.0)
  by_kinds (bind (fst a') c) d₁ d₂ e = refl
  by_kinds (bind (snd a') c) d₁ d₂ e = refl
  by_kinds (bind (inl A' a') c) d₁ d₂ e = fits (is_value (inl A' a')) true LetValue _ (value_kind_lem (inl A' a') e.1.0)
  by_kinds (bind (inr A' a') c) d₁ d₂ e = fits (is_value (inr A' a')) true LetValue _ (value_kind_lem (inr A' a') e.1.0)
  by_kinds (bind (case (var n'') l r) c) d₁ d₂ e = refl
  by_kinds (bind (case (call k'' ts'') l r) c) d₁ d₂ e = refl
  by_kinds (bind (case (lam A'' b'') l r) c) d₁ d₂ e = refl
  by_kinds (bind (case (app f'' a'') l r) c) d₁ d₂ e = refl
  by_kinds (bind (case (bind x'' y'') l r) c) d₁ d₂ e = refl
  by_kinds (bind (case (pair A'' a'' b'') l r) c) d₁ d₂ e = refl
  by_kinds (bind (case (fst a'') l r) c) d₁ d₂ e = refl
  by_kinds (bind (case (snd a'') l r) c) d₁ d₂ e = refl
  by_kinds (bind (case (inl A'' a'') l r) c) d₁ d₂ e = refl
  by_kinds (bind (case (inr A'' a'') l r) c) d₁ d₂ e = refl
  by_kinds (bind (case (case s'' l'' r'') l r) c) d₁ d₂ e = refl
  by_kinds (bind (case (unit A'') l r) c) d₁ d₂ e = refl
  by_kinds (bind (unit A') c) d₁ d₂ e = refl
  by_kinds (pair A a b) d₁ d₂ e = refl
  by_kinds (fst (var n')) d₁ d₂ e = refl
  by_kinds (fst (call k' ts')) d₁ d₂ e = refl
  by_kinds (fst (lam A' b')) d₁ d₂ e = refl
  by_kinds (fst (app f' a')) d₁ d₂ e = refl
  by_kinds (fst (bind x' y')) d₁ d₂ e = refl
  by_kinds (fst (pair A' a' b')) d₁ d₂ e = fits (is_value a' && is_value b') true First _ (is_true (is_value a' && is_value b') e.0)
  by_kinds (fst (fst a')) d₁ d₂ e = refl
  by_kinds (fst (snd a')) d₁ d₂ e = refl
  by_kinds (fst (inl A' a')) d₁ d₂ e = refl
  by_kinds (fst (inr A' a')) d₁ d₂ e = refl
  by_kinds (fst (case s' l' r')) d₁ d₂ e = refl
  by_kinds (fst (unit A')) d₁ d₂ e = refl
  by_kinds (snd (var n')) d₁ d₂ e = refl
  by_kinds (snd (call k' ts')) d₁ d₂ e = refl
  by_kinds (snd (lam A' b')) d₁ d₂ e = refl
  by_kinds (snd (app f' a')) d₁ d₂ e = refl
  by_kinds (snd (bind x' y')) d₁ d₂ e = refl
  by_kinds (snd (pair A' a' b')) d₁ d₂ e = fits (is_value a' && is_value b') true Second _ (is_true (is_value a' && is_value b') e.0)
  by_kinds (snd (fst a')) d₁ d₂ e = refl
  by_kinds (snd (snd a')) d₁ d₂ e = refl
  by_kinds (snd (inl A' a')) d₁ d₂ e = refl
  by_kinds (snd (inr A' a')) d₁ d₂ e = refl
  by_kinds (snd (case s' l' r')) d₁ d₂ e = refl
  by_kinds (snd (unit A')) d₁ d₂ e = refl
  by_kinds (inl A a) d₁ d₂ e = refl
  by_kinds (inr A a) d₁ d₂ e = refl
  by_kinds (case (var n') l r) d₁ d₂ e = refl
  by_kinds (case (call k' ts') l r) d₁ d₂ e = refl
  by_kinds (case (lam A' b') l r) d₁ d₂ e = refl
  by_kinds (case (app f' a') l r) d₁ d₂ e = refl
  by_kinds (case (bind x' y') l r) d₁ d₂ e = refl
  by_kinds (case (pair A' a' b') l r) d₁ d₂ e = refl
  by_kinds (case (fst a') l r) d₁ d₂ e = refl
  by_kinds (case (snd a') l r) d₁ d₂ e = refl
  by_kinds (case (inl A' a') l r) d₁ d₂ e = fits (is_value a') true LeftCase _ (is_true (is_value a') e.0)
  by_kinds (case (inr A' a') l r) d₁ d₂ e = fits (is_value a') true RightCase _ (is_true (is_value a') e.0)
  by_kinds (case (case s' l' r') l r) d₁ d₂ e = refl
  by_kinds (case (unit A') l r) d₁ d₂ e = refl
  by_kinds (unit A) d₁ d₂ e = refl

module _ (calls : List ℕ) where
  -- the kind of the word at an index
  abbrev kind_at : List ℕ → ℕ → ℕ
  kind_at ws i = kind_of (get_or ws i 0)

  at₀ : (t : Term) (rest : List ℕ) → Shaped calls t → kind_at (encode t ++ rest) 0 ≡ (node t).kind
  at₀ t rest s = (front calls (encode t ++ rest) t rest s refl).kind

  part₀ : (t : Term) (ws rest : List ℕ) → Shaped calls t → kind_at ((encode t ++ ws) ++ rest) 0 ≡ (node t).kind
  part₀ t ws rest s = ap (λ (us : List ℕ). kind_at us 0) (append_assoc (encode t) ws rest) ∙ at₀ t (ws ++ rest) s

  at₁ : (t : Term) (rest : List ℕ) → Shaped calls t → kind_at (encode t ++ rest) 1 ≡ kind₁ t (kind_at (encode t ++ rest) 1)
  unfolding encode Shaped
  at₁ (var n) rest s = refl
  at₁ (call k ts) rest s = refl
  at₁ (lam A b) rest s = refl
  at₁ (app f a) rest s = part₀ f (encode a) rest s.0
  at₁ (bind e b) rest s = part₀ e (encode b) rest s.0
  at₁ (pair A a b) rest s = refl
  at₁ (fst a) rest s = at₀ a rest s
  at₁ (snd a) rest s = at₀ a rest s
  at₁ (inl A a) rest s = refl
  at₁ (inr A a) rest s = refl
  at₁ (case c l r) rest s = part₀ c (encode l ++ encode r) rest s.0
  at₁ (unit A) rest s = refl

  at₂ : (t : Term) (rest : List ℕ) → Shaped calls t → kind_at (encode t ++ rest) 2 ≡ kind₂ t (kind_at (encode t ++ rest) 2)
  unfolding encode Shaped
  at₂ (var n) rest s = refl
  at₂ (call k ts) rest s = refl
  at₂ (lam A b) rest s = refl
  at₂ (app f a) rest s = refl
  at₂ (bind e b) rest s =
      let i = ap (λ (us : List ℕ). kind_at us 1) (append_assoc (encode e) (encode b) rest) in
      i ∙ at₁ e (encode b ++ rest) s.0 ∙ ap (kind₁ e) (sym i)
  at₂ (pair A a b) rest s = refl
  at₂ (fst a) rest s = refl
  at₂ (snd a) rest s = refl
  at₂ (inl A a) rest s = refl
  at₂ (inr A a) rest s = refl
  at₂ (case c l r) rest s = refl
  at₂ (unit A) rest s = refl

  pub fit_by_kinds : (pure : Term → Bool) (t : Term) (rest : List ℕ) → Shaped calls t → Each t Ops
      → map (λ (x : Contraction). x.rule) (contract pure (rules Reduction) t) ≡ rule_by_kinds (kind_of (get_or (encode t ++ rest) 0 0))
      (kind_of (get_or (encode t ++ rest) 1 0)) (kind_of (get_or (encode t ++ rest) 2 0))
  fit_by_kinds pure t rest s e = by_kinds pure t (kind_at (encode t ++ rest) 1) (kind_at (encode t ++ rest) 2) e
      ∙ sym (λ i. rule_by_kinds (at₀ t rest s i) (at₁ t rest s i) (at₂ t rest s i))
