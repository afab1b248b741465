-- Each form of a term keeps the relation: its parts end with related values and traces, and a run of the form joins the traces in order.
use mathlib.Core.Path.{◌≡◌, subst}
use mathlib.Core.List.{List, [], ◌∷◌}
use Prim.Native.Nat.{ℕ, suc}
use Rattle.syntax.specs.Tables.{arrow, product, sum, unit_type, Signature}
use Rattle.syntax.specs.Term.{Term, Terms, call, lam, app, bind, pair, fst, snd, inl, inr, case, unit, done, arg}
use Rattle.semantics.specs.Value.{Value, Values, also, Trace}
use Rattle.semantics.specs.Run.{answered, lookup}
use Rattle.theory.proofs.Ends.{ends_lam, ends_unit, ends_app, ends_bind, ends_pair, ends_fst, ends_snd, ends_inl, ends_inr}
use Rattle.theory.proofs.Ends.{ends_case_left, ends_case_right, ends_done, ends_arg, ends_call, enters_closure}
use Rattle.typing.proofs.Typing.{Of, Signed}
use Rattle.theory.proofs.Relation.{Pairs, pairs, Sums, lefts, rights, all_none, all_more, Model, Rv, Runs, E, EAll, ends_related}
use Rattle.theory.proofs.Relation.{ends_related_all, enters_related, one_call, from_arrow, to_arrow, from_product}
use Rattle.theory.proofs.Relation.{to_product, from_sum, to_sum, to_unit, units}

module _ (M : Model) where
  -- variables of two runs that hold related values
  pub record Bound (A : ℕ) (ρ : Values) (n : ℕ) (ρ' : Values) (m : ℕ) : Type 0 where
    pub v : Value
    pub w : Value
    pub p : lookup ρ n ≡ answered v
    pub q : lookup ρ' m ≡ answered w
    pub vals : Rv M A v w

  -- the same values, one of the variables seen under one more binder
  module _ {A n m : ℕ} {ρ ρ' : Values} {x : Value} where
    pub past_left : Bound A ρ n ρ' m → Bound A (also x ρ) (suc n) ρ' m
    unfolding lookup
    past_left b = record { v = b.v; w = b.w; p = b.p; q = b.q; vals = b.vals }

    pub past_right : Bound A ρ n ρ' m → Bound A ρ n (also x ρ') (suc m)
    unfolding lookup
    past_right b = record { v = b.v; w = b.w; p = b.p; q = b.q; vals = b.vals }

  module _ {ρ ρ' : Values} where
    pub e_lam : {F A B : ℕ} {b b' : Term} → Of M.tables arrow F A B
        → ((v w : Value) → Rv M A v w → E M B (also v ρ) b (also w ρ') b') → E M F ρ (lam F b) ρ' (lam F b')
    e_lam e h = ends_related M (ends_lam M.answer) (ends_lam M.answer) M.none (to_arrow M e λ v w r.
        let x = h v w r in
        enters_related M (enters_closure M.answer x.p) (enters_closure M.answer x.q) x.calls x.vals)

    pub e_app : {F A B : ℕ} {a a' b b' : Term} → Of M.tables arrow F A B → E M F ρ a ρ' a' → E M A ρ b ρ' b'
        → E M B ρ (app a b) ρ' (app a' b')
    e_app e x y =
        let r = from_arrow M e x.vals y.v y.w y.vals in
        ends_related M (ends_app M.answer x.p y.p r.p) (ends_app M.answer x.q y.q r.q)
        (M.join x.calls (M.join y.calls r.calls)) r.vals

    pub e_bind : {A B : ℕ} {a a' b b' : Term} → E M A ρ a ρ' a'
        → ((v w : Value) → Rv M A v w → E M B (also v ρ) b (also w ρ') b') → E M B ρ (bind a b) ρ' (bind a' b')
    e_bind x h =
        let r = h x.v x.w x.vals in
        ends_related M (ends_bind M.answer x.p r.p) (ends_bind M.answer x.q r.q)
        (M.join x.calls r.calls) r.vals

    pub e_pair : {P A B : ℕ} {a a' b b' : Term} → Of M.tables product P A B → E M A ρ a ρ' a' → E M B ρ b ρ' b'
        → E M P ρ (pair P a b) ρ' (pair P a' b')
    e_pair e x y =
        ends_related M (ends_pair M.answer x.p y.p) (ends_pair M.answer x.q y.q)
        (M.join x.calls (M.join y.calls M.none)) (to_product M e (pairs x.vals y.vals))

    pub e_fst : {P A B : ℕ} {a a' : Term} → Of M.tables product P A B → E M P ρ a ρ' a' → E M A ρ (fst a) ρ' (fst a')
    e_fst {A = A} {B = B} {a = a} {a' = a'} e x = go x.p x.q x.calls (from_product M e x.vals)
      where
        go : {v w : Value} {c d : Trace} → Runs M ρ a v c → Runs M ρ' a' w d → M.C c d → Pairs (Rv M A) (Rv M B) v w
            → E M A ρ (fst a) ρ' (fst a')
        go p q k (pairs r s) =
            ends_related M (ends_fst M.answer p) (ends_fst M.answer q) (M.join k M.none) r

    pub e_snd : {P A B : ℕ} {a a' : Term} → Of M.tables product P A B → E M P ρ a ρ' a' → E M B ρ (snd a) ρ' (snd a')
    e_snd {A = A} {B = B} {a = a} {a' = a'} e x = go x.p x.q x.calls (from_product M e x.vals)
      where
        go : {v w : Value} {c d : Trace} → Runs M ρ a v c → Runs M ρ' a' w d → M.C c d → Pairs (Rv M A) (Rv M B) v w
            → E M B ρ (snd a) ρ' (snd a')
        go p q k (pairs r s) =
            ends_related M (ends_snd M.answer p) (ends_snd M.answer q) (M.join k M.none) s

    pub e_inl : {S A B : ℕ} {a a' : Term} → Of M.tables sum S A B → E M A ρ a ρ' a' → E M S ρ (inl S a) ρ' (inl S a')
    e_inl e x = ends_related M (ends_inl M.answer x.p) (ends_inl M.answer x.q)
        (M.join x.calls M.none) (to_sum M e (lefts x.vals))

    pub e_inr : {S A B : ℕ} {a a' : Term} → Of M.tables sum S A B → E M B ρ a ρ' a' → E M S ρ (inr S a) ρ' (inr S a')
    e_inr e x = ends_related M (ends_inr M.answer x.p) (ends_inr M.answer x.q)
        (M.join x.calls M.none) (to_sum M e (rights x.vals))

    pub e_unit : {U A B : ℕ} → Of M.tables unit_type U A B → E M U ρ (unit U) ρ' (unit U)
    e_unit e = ends_related M (ends_unit M.answer) (ends_unit M.answer) M.none (to_unit M e units)

    pub e_case : {S A B D : ℕ} {s s' a a' b b' : Term} → Of M.tables sum S A B → E M S ρ s ρ' s'
        → ((v w : Value) → Rv M A v w → E M D (also v ρ) a (also w ρ') a')
        → ((v w : Value) → Rv M B v w → E M D (also v ρ) b (also w ρ') b')
        → E M D ρ (case s a b) ρ' (case s' a' b')
    e_case {A = A} {B = B} {D = D} {s = s} {s' = s'} {a = a} {a' = a'} {b = b} {b' = b'} e x ha hb = go x.p x.q x.calls
        (from_sum M e x.vals)
      where
        go : {v w : Value} {c d : Trace} → Runs M ρ s v c → Runs M ρ' s' w d → M.C c d → Sums (Rv M A) (Rv M B) v w
            → E M D ρ (case s a b) ρ' (case s' a' b')
        go p q k (lefts {a = x} {b = y} r) =
            let f = ha x y r in
            ends_related M (ends_case_left M.answer p f.p) (ends_case_left M.answer q f.q) (M.join k f.calls) f.vals
        go p q k (rights {a = x} {b = y} r) =
            let f = hb x y r in
            ends_related M (ends_case_right M.answer p f.p) (ends_case_right M.answer q f.q) (M.join k f.calls) f.vals

    pub e_done : EAll M [] ρ done ρ' done
    e_done = ends_related_all M (ends_done M.answer) (ends_done M.answer) M.none all_none

    pub e_arg : {A : ℕ} {As : List ℕ} {t t' : Term} {ts ts' : Terms} → E M A ρ t ρ' t' → EAll M As ρ ts ρ' ts'
        → EAll M (A ∷ As) ρ (arg t ts) ρ' (arg t' ts')
    e_arg x xs = ends_related_all M (ends_arg M.answer x.p xs.p) (ends_arg M.answer x.q xs.q)
        (M.join x.calls (M.join xs.calls M.none)) (all_more x.vals xs.vals)

    pub e_call : {k A : ℕ} {s : Signature} {ts ts' : Terms} → M.ok k → Signed M.tables k s → s.result ≡ A
        → EAll M s.arguments ρ ts ρ' ts' → E M A ρ (call k ts) ρ' (call k ts')
    e_call {k} {A} {s} {ts} {ts'} z e d xs =
        let r = M.answers k z s e xs.v xs.w xs.vals in
        ends_related M (ends_call M.answer xs.p) (ends_call M.answer xs.q)
        (M.join xs.calls (one_call M k r.0))
        (subst (λ (B : ℕ). Rv M B (M.answer k xs.v) (M.answer k xs.w)) d r.1)
