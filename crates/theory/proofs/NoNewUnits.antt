-- Over any tables, no term of the reduction sequence of a typed term without units has a unit. For such a term is also typed where a base
-- type stands in the unit type's place, and there no unit arises.
use mathlib.Core.Path.{◌≡◌, subst}
use mathlib.Core.Bool.{Bool, true, false, cond, not}
use mathlib.Core.List.{List, [], ◌∷◌, ◌++◌, map}
use mathlib.Core.Logic.{◌≢◌}
use mathlib.Core.Option.{some, none-ne-some}
use lib.Dec.{T, leb, eqb, leb→le, eqb→eq, not_T}
use lib.ListN.{get_elem?}
use Prim.Native.Nat.{ℕ, zero, suc}
use native.Mathlib.Omega.{arith}
use Rattle.syntax.specs.Maybe.{◌>>=◌, given}
use Rattle.syntax.specs.Words.{kind_of, left_of, right_of}
use Rattle.syntax.specs.Tables.{Tables, over, arrow, sum, unit_type, is_composite}
use Rattle.syntax.specs.Term.{Term, Terms, node}
use Rattle.syntax.specs.Positions.{Position, positions}
use Rattle.syntax.specs.Lists.{◌∈◌, here, there}
use Rattle.syntax.proofs.Options.{and_left, and_right, both_true}
use Rattle.syntax.proofs.Subterms.{nodes, nodes_all, subterms_nodes}
use Rattle.typing.specs.Infer.{Context, infer}
use Rattle.typing.specs.TableChecks.{every}
use Rattle.typing.proofs.Typing.{Of, Typed, TypedAll, t_var, t_call, t_lam, t_app, t_bind, t_pair, t_fst, t_snd, t_inl, t_inr}
use Rattle.typing.proofs.Typing.{t_case, t_unit, t_done, t_arg}
use Rattle.typing.proofs.InferTyped.{typing_of, typed_infer}
use Rattle.typing.proofs.ScopedNode.{every_append}
use Rattle.typing.proofs.BeforeUnits.{NoUnitType}
use Rattle.reduction.specs.Sequence.{Sequence, terms}
use Rattle.theory.proofs.NoUnits.{NoUnitIn, no_unit_between}

-- a type word, with a base type for a unit type
abbrev with_base : ℕ → ℕ
with_base w = cond (eqb (kind_of w) unit_type) 0 w

abbrev tables_with_base : Tables → Tables
tables_with_base tables = over (map with_base tables.types) tables.calls tables.inputs

-- no unit type is left
none_of_units : (ws : List ℕ) → NoUnitType (map with_base ws)
none_of_units [] = tt
none_of_units (w ∷ ws) =
    both_true (not (eqb (kind_of (with_base w)) unit_type)) _ (of_base (eqb (kind_of w) unit_type) (λ h. h)) (none_of_units ws)
  where
    of_base : (b : Bool) → (T (eqb (kind_of w) unit_type) → T b) → T (not (eqb (kind_of (cond b 0 w)) unit_type))
    of_base true h = tt
    of_base false h = not_T (eqb (kind_of w) unit_type) h

-- the parts of types that have two stay
components_kept : (ws : List ℕ) (k F A B : ℕ) → T (is_composite k)
    → (get_elem? ws F >>= λ w. given {X = ℕ × ℕ} (eqb (kind_of w) k) (left_of w, right_of w)) ≡ some (A, B)
    → (get_elem? (map with_base ws) F >>= λ w. given {X = ℕ × ℕ} (eqb (kind_of w) k) (left_of w, right_of w)) ≡ some (A, B)
components_kept [] k F A B h e = e
components_kept (w ∷ ws) k (suc F) A B h e = components_kept ws k F A B h e
components_kept (w ∷ ws) k zero A B h e = go (eqb (kind_of w) unit_type) (eqb→eq (kind_of w) unit_type)
  where
    is_kind : (b : Bool) → given {X = ℕ × ℕ} b (left_of w, right_of w) ≡ some (A, B) → T b
    is_kind true e = tt
    is_kind false e = absurd (none-ne-some {A = ℕ × ℕ} (A, B) e)

    go : (b : Bool) → (T b → kind_of w ≡ unit_type)
        → given {X = ℕ × ℕ} (eqb (kind_of (cond b 0 w)) k) (left_of (cond b 0 w), right_of (cond b 0 w)) ≡ some (A, B)
    go false u = e
    go true u = absurd (omega (arith, u tt, eqb→eq (kind_of w) k (is_kind (eqb (kind_of w) k) e), leb→le k sum (and_right (leb arrow k) _ h)))

-- the node is no unit
abbrev not_unit : Term → Bool
not_unit t = not (eqb (node t).kind 11)

-- a test that two lists in a row pass
split : {X : Type 0} (test : X → Bool) (xs ys : List X) → T (every test (xs ++ ys)) → T (every test xs) × T (every test ys)
split test xs ys h =
    let i = subst T (every_append test xs ys) h in
    (and_left (every test xs) (every test ys) i, and_right (every test xs) (every test ys) i)

module _ (tables : Tables) where
  abbrev Has : Context → Term → ℕ → Type 0
  Has = Typed tables (λ k. Unit)

  abbrev HasWithBase : Context → Term → ℕ → Type 0
  HasWithBase = Typed (tables_with_base tables) (λ k. Unit)

  still_of : {k F A B : ℕ} → T (is_composite k) → Of tables k F A B → Of (tables_with_base tables) k F A B
  still_of {k} {F} {A} {B} h o = record { is = components_kept tables.types k F A B h o.is }

  mutual
    unfolding nodes node

    retyped : {Γ : Context} {t : Term} {A : ℕ} → Has Γ t A → T (every not_unit (nodes t)) → HasWithBase Γ t A
    retyped (t_var x) h = t_var x
    retyped (t_call z s d xs) h = t_call z (record { is = s.is }) d (retyped_all xs h)
    retyped (t_lam o x) h = t_lam (still_of tt o) (retyped x h)
    retyped (t_app {f = f} {a = a} o x y) h = let i = split not_unit (nodes f) (nodes a) h in
        t_app (still_of tt o) (retyped x i.0) (retyped y i.1)
    retyped (t_bind {e = e} {b = b} x y) h = let i = split not_unit (nodes e) (nodes b) h in t_bind (retyped x i.0) (retyped y i.1)
    retyped (t_pair {a = a} {b = b} o x y) h = let i = split not_unit (nodes a) (nodes b) h in
        t_pair (still_of tt o) (retyped x i.0) (retyped y i.1)
    retyped (t_fst o x) h = t_fst (still_of tt o) (retyped x h)
    retyped (t_snd o x) h = t_snd (still_of tt o) (retyped x h)
    retyped (t_inl o x) h = t_inl (still_of tt o) (retyped x h)
    retyped (t_inr o x) h = t_inr (still_of tt o) (retyped x h)
    retyped (t_case {s = s} {l = l} {r = r} o x y z) h =
        let i = split not_unit (nodes s) (nodes l ++ nodes r) h in
        let j = split not_unit (nodes l) (nodes r) i.1 in
        t_case (still_of tt o) (retyped x i.0) (retyped y j.0) (retyped z j.1)
    retyped (t_unit o) h = absurd h

    retyped_all : {Γ : Context} {ts : Terms} {As : List ℕ} → TypedAll tables (λ k. Unit) Γ ts As → T (every not_unit (nodes_all ts))
        → TypedAll (tables_with_base tables) (λ k. Unit) Γ ts As
    retyped_all t_done h = t_done
    retyped_all (t_arg {t = t} {ts = ts} x xs) h = let i = split not_unit (nodes t) (nodes_all ts) h in
        t_arg (retyped x i.0) (retyped_all xs i.1)

positions_pass : (ps : List (Position Term)) → ((p : Position Term) → p ∈ ps → (node p.subterm).kind ≢ 11)
    → T (every not_unit (map (λ p. p.subterm) ps))
positions_pass [] h = tt
positions_pass (p ∷ ps) h =
    both_true (not_unit p.subterm) _ (not_T (eqb (node p.subterm).kind 11) (λ e. h p here (eqb→eq (node p.subterm).kind 11 e)))
    (positions_pass ps (λ q i. h q (there i)))

-- no term of the sequence has a unit node, nor has its last
pub no_new_unit : (tables : Tables) (pure : Term → Bool) (Γ : Context) (A : ℕ) {t u : Term} → infer tables t Γ ≡ some A → NoUnitIn t
    → (q : Sequence pure t u) → ((w : Term) → w ∈ terms pure q → NoUnitIn w) × NoUnitIn u
no_new_unit tables pure Γ A {t} e h q =
    let typed = typing_of tables (λ k. Unit) t Γ A e (λ k i. tt) in
    let other-nodes = subst (λ (ts : List Term). T (every not_unit ts)) (subterms_nodes t) (positions_pass (positions t) h) in
    no_unit_between (tables_with_base tables) (none_of_units tables.types) pure Γ A
    (typed_infer (tables_with_base tables) (λ k. Unit) (retyped tables typed other-nodes)) q
