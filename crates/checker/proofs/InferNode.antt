-- The type of a node from the types of its parts, whatever its kind.
use mathlib.Core.Path.{◌≡◌, refl, sym, ◌∙◌, ap}
use mathlib.Core.Bool.{Bool, cond}
use mathlib.Core.List.{[], ◌∷◌}
use mathlib.Core.Option.{some, none}
use Prim.Native.Nat.{ℕ, ◌≤◌, ◌<◌}
use native.Mathlib.Omega.{arith}
use native.Mathlib.Decide.{ℕ_discrete}
use lib.Dec.{eqb}
use borrow.Author.Tests.{ne_eqb}
use lib.ListN.{get_or, get_elem?}
use Rattle.syntax.specs.Maybe.{◌>>=◌, given}
use Rattle.syntax.specs.Words.{left_of, right_of}
use Rattle.syntax.specs.Tables.{Tables, arrow, product, sum, components}
use Rattle.syntax.specs.Term.{Term, Terms, var, call, lam, app, bind, pair, fst, snd, inl, inr, case, unit, done, arg, node}
use Rattle.syntax.specs.Kinds.{binders_at}
use Rattle.syntax.specs.Shaped.{count, Shaped}
use Rattle.syntax.proofs.ByKind.{by_kind}
use Rattle.typing.specs.Infer.{Context, infer}
use Rattle.syntax.proofs.KnownParts.{known_arity_lem}
use Rattle.checker.specs.Nodes.{binder_type, judge, node_type}
use Rattle.checker.proofs.TypeParts.{parts_are}
use Rattle.checker.proofs.PartTypes.{infer_parts}
use Rattle.checker.proofs.Clauses.{lam_law, app_law, bind_law, pair_law, one_law, in_law, case_law}
use Rattle.checker.proofs.InferCall.{infer_call, infer_long_call}

module _ (tables : Tables) where
  pub infer_node : (t : Term) (Γ : Context) → Shaped tables.calls t → ((node t).kind ≡ 0 → ⊥) → count (node t).parts ≤ 3
      → infer tables t Γ
      ≡ (infer_parts tables (node t).kind (node t).type Γ (node t).parts 0 (0 ∷ 0 ∷ 0 ∷ [])
      >>= node_type tables (node t).kind (node t).number (node t).type)
  unfolding infer node_type judge infer_parts binders_at binder_type count node Shaped
  infer_node (var n) Γ s h l = absurd (h refl)
  infer_node (call k ts) Γ s h l = infer_call tables k ts Γ (known_arity_lem tables.calls k (count ts) s.1).0 l
  infer_node (lam F b) Γ s h l =
      lam_law (components tables arrow F) (λ A. infer tables b (A ∷ Γ)) (infer tables b (left_of (get_or tables.types F 0) ∷ Γ)) F
      (λ A B e. ap (λ (x : ℕ). infer tables b (x ∷ Γ)) (parts_are tables arrow F A B e).0)
  infer_node (app f a) Γ s h l = app_law (infer tables f Γ) (infer tables a Γ) (components tables arrow)
  infer_node (bind e b) Γ s h l = bind_law (infer tables e Γ) (λ A. infer tables b (A ∷ Γ))
  infer_node (pair P a b) Γ s h l = pair_law (components tables product P) (infer tables a Γ) (infer tables b Γ) P
  infer_node (fst a) Γ s h l = one_law (infer tables a Γ) (λ P. components tables product P >>= λ (A, B). some A)
  infer_node (snd a) Γ s h l = one_law (infer tables a Γ) (λ P. components tables product P >>= λ (A, B). some B)
  infer_node (inl S a) Γ s h l = in_law (components tables sum S) (infer tables a Γ) (λ (A, B) A'. given (eqb A' A) S)
  infer_node (inr S a) Γ s h l = in_law (components tables sum S) (infer tables a Γ) (λ (A, B) B'. given (eqb B' B) S)
  infer_node (case c l r) Γ s h z =
      case_law (infer tables c Γ) (components tables sum) (λ A. infer tables l (A ∷ Γ)) (λ B. infer tables r (B ∷ Γ))
      (λ S. infer tables l (left_of (get_or tables.types S 0) ∷ Γ)) (λ S. infer tables r (right_of (get_or tables.types S 0) ∷ Γ))
      (λ S A B e.
      let (p, q) = parts_are tables sum S A B e in
      (ap (λ (x : ℕ). infer tables l (x ∷ Γ)) p, ap (λ (x : ℕ). infer tables r (x ∷ Γ)) q))
  infer_node (unit U) Γ s h l = refl

  -- a node that has none: a variable, or else a node with no types of parts to ask for
  pub infer_leaf : (t : Term) (Γ : Context) → Shaped tables.calls t → count (node t).parts ≡ 0
      → infer tables t Γ
      ≡ cond (eqb (node t).kind 0) (get_elem? Γ (node t).number)
      (node_type tables (node t).kind (node t).number (node t).type (0 ∷ 0 ∷ 0 ∷ []))
  unfolding infer infer_parts count node
  infer_leaf t Γ s z = by (ℕ_discrete (node t).kind 0)
    where
      Answer : Term → Type 0
      Answer x = infer tables x Γ ≡ cond (eqb (node x).kind 0) (get_elem? Γ (node x).number)
          (node_type tables (node x).kind (node x).number (node x).type (0 ∷ 0 ∷ 0 ∷ []))

      no_parts : (ts : Terms) → count ts ≡ 0 → ts ≡ done
      no_parts done z = refl
      no_parts (arg t ts) z = absurd (omega (arith, z))

      by : Dec ((node t).kind ≡ 0) → Answer t
      by (yes e) = by_kind Answer 0 t e λ n. refl
      by (no e) =
          let n = node t in
          infer_node t Γ s e (omega (arith, z))
          ∙ ap (λ (ts : Terms). infer_parts tables n.kind n.type Γ ts 0 (0 ∷ 0 ∷ 0 ∷ [])
          >>= node_type tables n.kind n.number n.type)
          (no_parts n.parts z)
          ∙ sym (ap (λ (b : Bool). cond b (get_elem? Γ n.number) (node_type tables n.kind n.number n.type (0 ∷ 0 ∷ 0 ∷ [])))
          (ne_eqb n.kind 0 e))

  -- only a call has more than three parts
  pub infer_many : (t : Term) (Γ : Context) → 3 < count (node t).parts → infer tables t Γ ≡ none
  unfolding count node
  infer_many (var n) Γ h = absurd (omega arith)
  infer_many (call k ts) Γ h = infer_long_call tables k ts Γ h
  infer_many (lam A b) Γ h = absurd (omega arith)
  infer_many (app f a) Γ h = absurd (omega arith)
  infer_many (bind e b) Γ h = absurd (omega arith)
  infer_many (pair A a b) Γ h = absurd (omega arith)
  infer_many (fst a) Γ h = absurd (omega arith)
  infer_many (snd a) Γ h = absurd (omega arith)
  infer_many (inl A a) Γ h = absurd (omega arith)
  infer_many (inr A a) Γ h = absurd (omega arith)
  infer_many (case s l r) Γ h = absurd (omega arith)
  infer_many (unit A) Γ h = absurd (omega arith)
