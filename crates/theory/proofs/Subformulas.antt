-- In the grammar each node's type is in every set of types that holds the result's, the context's and the calls', with their parts:
-- an operation works on a variable, and a value's parts have parts of its type.
use mathlib.Core.Path.{◌≡◌, sym, subst}
use mathlib.Core.Bool.{Bool}
use mathlib.Core.List.{List, [], ◌∷◌, ◌++◌}
use mathlib.Core.Option.{Option, some}
use lib.Dec.{T}
use Prim.Native.Nat.{ℕ}
use Rattle.syntax.specs.Maybe.{◌>>=◌}
use Rattle.syntax.specs.Tables.{Tables, arrow, product, sum, is_composite, Signature}
use Rattle.syntax.specs.Term.{Term, Terms, var}
use Rattle.typing.specs.Infer.{Context}
use Rattle.typing.specs.NodeTypes.{◌then◌, ◌and◌, node_types, node_types_all}
use Rattle.reduction.specs.NormalForm.{NormalValue, NormalValues, Operation, Normal, variable, function, product as both, left, right}
use Rattle.reduction.specs.NormalForm.{the_unit}
use Rattle.reduction.specs.NormalForm.{no_more, more, application, calling, first as taking₁, second as taking₂, value, operation, letting}
use Rattle.reduction.specs.NormalForm.{branching}
use Rattle.syntax.specs.Lists.{◌∈◌, here, there}
use Rattle.syntax.specs.Calls.{calls_in}
use Rattle.semantics.specs.TypeParts.{PartOf, itself, of_left, of_right, types_of}
use Rattle.semantics.specs.Claim.{Subformula, of_result, of_input, of_call}
use Rattle.typing.proofs.Typing.{Of, Signed, At, here as now, there as later, Typed, TypedAll, t_var, t_call, t_lam, t_app, t_bind, t_pair}
use Rattle.typing.proofs.Typing.{t_fst, t_snd, t_inl, t_inr, t_case, t_unit, t_done, t_arg}
use Rattle.typing.proofs.InferTyped.{typed_infer}

-- P of each member
pub data AllIn (P : ℕ → Type 0) : List ℕ → Type 0 where
  all_none : AllIn P []
  all_more : {A : ℕ} {As : List ℕ} → P A → AllIn P As → AllIn P (A ∷ As)

all_append : {P : ℕ → Type 0} {As Bs : List ℕ} → AllIn P As → AllIn P Bs → AllIn P (As ++ Bs)
all_append all_none q = q
all_append (all_more p ps) q = all_more p (all_append ps q)

pub all_at : {P : ℕ → Type 0} {As : List ℕ} {D : ℕ} → AllIn P As → D ∈ As → P D
all_at all_none i = elim i [ ]
all_at (all_more p ps) here = p
all_at (all_more p ps) (there i) = all_at ps i

-- there is a list, and P holds of each member
pub data Listed (P : ℕ → Type 0) : Option (List ℕ) → Type 0 where
  listed : {As : List ℕ} → AllIn P As → Listed P (some As)

module _ {P : ℕ → Type 0} where
  first_of : {o : Option ℕ} {p : Option (List ℕ)} (A : ℕ) → o ≡ some A → P A → Listed P p → Listed P (o then p)
  first_of {p = p} A e h l = subst (λ (o : Option ℕ). Listed P (o then p)) (sym e) (go l)
    where
      go : {q : Option (List ℕ)} → Listed P q → Listed P (some A then q)
      go (listed x) = listed (all_more h x)

  both_of : {o p : Option (List ℕ)} → Listed P o → Listed P p → Listed P (o and p)
  both_of (listed x) (listed y) = listed (all_append x y)

  after_of : {X : Type 0} {o : Option X} (f : X → Option (List ℕ)) (x : X) → o ≡ some x → Listed P (f x) → Listed P (o >>= f)
  after_of f x e l = subst (λ (o : Option _). Listed P (o >>= f)) (sym e) l

-- a set of types that holds each type's parts, and the types of the calls made
pub record Closed (tables : Tables) (ok : ℕ → Type 0) (P : ℕ → Type 0) : Type 0 where
  pub parts : (k F A B : ℕ) → T (is_composite k) → Of tables k F A B → P F → P A × P B
  pub calls : (k : ℕ) (s : Signature) → ok k → Signed tables k s → AllIn P (types_of s)

module _ (tables : Tables) (ok : ℕ → Type 0) (P : ℕ → Type 0) (closed : Closed tables ok P) (pure : Term → Bool) where
  pub record Holds (Γ : Context) : Type 0 where
    pub at : (n A : ℕ) → At Γ n A → P A

  under : {Γ : Context} {A : ℕ} → P A → Holds Γ → Holds (A ∷ Γ)
  under {Γ} {A} p c = record { at = go }
    where
      go : (n B : ℕ) → At (A ∷ Γ) n B → P B
      go n B now = p
      go n B (later {n = m} x) = c.at m B x

  var_in : {Γ : Context} {n A : ℕ} → Holds Γ → Typed tables ok Γ (var n) A → P A
  var_in {n = n} {A = A} c (t_var x) = c.at n A x

  var_listed : {Γ : Context} {n A : ℕ} → Holds Γ → Typed tables ok Γ (var n) A → Listed P (node_types tables (var n) Γ)
  unfolding node_types
  var_listed {A = A} c x = first_of A (typed_infer tables ok x) (var_in c x) (listed all_none)

  head : {A : ℕ} {As : List ℕ} → AllIn P (A ∷ As) → P A
  head (all_more p ps) = p

  tail : {A : ℕ} {As : List ℕ} → AllIn P (A ∷ As) → AllIn P As
  tail (all_more p ps) = ps

  -- an operation's type
  operation_in : {Γ : Context} {t : Term} {A : ℕ} → Holds Γ → Operation pure t → Typed tables ok Γ t A → P A
  operation_in c (application v) (t_app {F = F} {A = A} {B = B} o x y) = (closed.parts arrow F A B tt o (var_in c x)).1
  operation_in c (calling vs) (t_call {k = k} {s = s} z e d xs) = subst P d (head (closed.calls k s z e))
  operation_in c taking₁ (t_fst {P = F} {A = A} {B = B} o x) = (closed.parts product F A B tt o (var_in c x)).0
  operation_in c taking₂ (t_snd {P = F} {A = A} {B = B} o x) = (closed.parts product F A B tt o (var_in c x)).1

  mutual
    unfolding node_types

    pub form_listed : {Γ : Context} {t : Term} {A : ℕ} → Normal pure t → Typed tables ok Γ t A → Holds Γ → P A
        → Listed P (node_types tables t Γ)
    form_listed (value v) x c p = value_listed v x c p
    form_listed (operation o) x c p = operation_listed o x c p
    form_listed {Γ = Γ} {A = A} (letting {e = e} {b = b} o k f) (t_bind {A = E} x y) c p =
        let q = operation_in c o x in
        first_of A (typed_infer tables ok (t_bind x y)) p
        (both_of (operation_listed o x c q) (after_of _ E (typed_infer tables ok x) (form_listed f y (under q c) p)))
    form_listed {Γ = Γ} {A = C} (branching {n = n} {l = l} {r = r} f g) (t_case {S = S} {A = A} {B = B} o x y z) c p =
        let q = closed.parts sum S A B tt o (var_in c x) in
        first_of C (typed_infer tables ok (t_case o x y z)) p (both_of (var_listed c x)
        (after_of _ S (typed_infer tables ok x)
        (after_of _ (A, B) o.is
        (both_of (form_listed f y (under q.0 c) p) (form_listed g z (under q.1 c) p)))))

    value_listed : {Γ : Context} {t : Term} {A : ℕ} → NormalValue pure t → Typed tables ok Γ t A → Holds Γ → P A
        → Listed P (node_types tables t Γ)
    value_listed variable x c p = var_listed c x
    value_listed {Γ = Γ} (function {b = b} f) (t_lam {F = F} {A = A} {B = B} o x) c p =
        let q = closed.parts arrow F A B tt o p in
        first_of F (typed_infer tables ok (t_lam o x)) p (after_of _ (A, B) o.is (form_listed f x (under q.0 c) q.1))
    value_listed (both v w) (t_pair {P = F} {A = A} {B = B} o x y) c p =
        let q = closed.parts product F A B tt o p in
        first_of F (typed_infer tables ok (t_pair o x y)) p (both_of (value_listed v x c q.0) (value_listed w y c q.1))
    value_listed (left v) (t_inl {S = F} {A = A} {B = B} o x) c p = first_of F (typed_infer tables ok (t_inl o x)) p
        (value_listed v x c (closed.parts sum F A B tt o p).0)
    value_listed (right v) (t_inr {S = F} {A = A} {B = B} o x) c p = first_of F (typed_infer tables ok (t_inr o x)) p
        (value_listed v x c (closed.parts sum F A B tt o p).1)
    value_listed the_unit (t_unit {U = F} o) c p = first_of F (typed_infer tables ok (t_unit o)) p (listed all_none)

    values_listed : {Γ : Context} {ts : Terms} {As : List ℕ} → NormalValues pure ts → TypedAll tables ok Γ ts As → Holds Γ → AllIn P As
        → Listed P (node_types_all tables ts Γ)
    values_listed no_more t_done c p = listed all_none
    values_listed (more v vs) (t_arg x xs) c p = both_of (value_listed v x c (head p)) (values_listed vs xs c (tail p))

    operation_listed : {Γ : Context} {t : Term} {A : ℕ} → Operation pure t → Typed tables ok Γ t A → Holds Γ → P A
        → Listed P (node_types tables t Γ)
    operation_listed {A = C} (application v) (t_app {F = F} {A = A} {B = B} o x y) c p = first_of C (typed_infer tables ok (t_app o x y)) p
        (both_of (var_listed c x) (value_listed v y c (closed.parts arrow F A B tt o (var_in c x)).0))
    operation_listed {A = C} (calling vs) (t_call {k = k} {s = s} z e d xs) c p = first_of C (typed_infer tables ok (t_call z e d xs)) p
        (values_listed vs xs c (tail (closed.calls k s z e)))
    operation_listed {A = C} taking₁ (t_fst o x) c p = first_of C (typed_infer tables ok (t_fst o x)) p (var_listed c x)
    operation_listed {A = C} taking₂ (t_snd o x) c p = first_of C (typed_infer tables ok (t_snd o x)) p (var_listed c x)

-- the parts of types that the claim names
module _ (tables : Tables) where
  part_parts : {F X : ℕ} (k A B : ℕ) → T (is_composite k) → Of tables k F A B → PartOf tables F X → PartOf tables A X × PartOf tables B X
  part_parts k A B c o itself = (of_left k c o.is itself, of_right k c o.is itself)
  part_parts k A B c o (of_left j d e p) = let q = part_parts k A B c o p in (of_left j d e q.0, of_left j d e q.1)
  part_parts k A B c o (of_right j d e p) = let q = part_parts k A B c o p in (of_right j d e q.0, of_right j d e q.1)

  subformula_parts : (result : ℕ) (u : Term) (k F A B : ℕ) → T (is_composite k) → Of tables k F A B → Subformula tables result u F
      → Subformula tables result u A × Subformula tables result u B
  subformula_parts result u k F A B c o (of_result p) = let q = part_parts k A B c o p in (of_result q.0, of_result q.1)
  subformula_parts result u k F A B c o (of_input i p) = let q = part_parts k A B c o p in (of_input i q.0, of_input i q.1)
  subformula_parts result u k F A B c o (of_call i p) = let q = part_parts k A B c o p in (of_call i q.0, of_call i q.1)

  all_members : (As : List ℕ) {P : ℕ → Type 0} → ((A : ℕ) → A ∈ As → P A) → AllIn P As
  all_members [] h = all_none
  all_members (A ∷ As) h = all_more (h A here) (all_members As (λ B i. h B (there i)))

  subformula_closed : (result : ℕ) (u : Term) → Closed tables (λ k. k ∈ calls_in u) (Subformula tables result u)
  subformula_closed result u = record {
    parts = subformula_parts result u;
    calls = λ k s i e. all_members (types_of s)
        (λ A m. of_call (record { number = k; sign = s; occurs = i; listed = e.is; among = m }) itself);
  }

  at_member : {Γ : Context} {n A : ℕ} → At Γ n A → A ∈ Γ
  at_member now = here
  at_member (later x) = there (at_member x)

  -- a typed term in the grammar, over the inputs
  pub subformulas : (pure : Term → Bool) (u : Term) (A : ℕ) → Typed tables (λ k. k ∈ calls_in u) tables.inputs u A → Normal pure u
      → Listed (Subformula tables A u) (node_types tables u tables.inputs)
  subformulas pure u A x f = form_listed tables (λ k. k ∈ calls_in u) (Subformula tables A u) (subformula_closed A u) pure f x
      (record { at = λ n B y. of_input (at_member y) itself }) (of_result itself)
