-- Let insertion keeps what a run ends with: what stands before the named operand is a value and makes no call, so the order of calls stays.
use mathlib.Core.List.{◌∷◌}
use Prim.Native.Nat.{ℕ}
use Rattle.syntax.specs.Tables.{product, sum}
use Rattle.syntax.specs.Term.{Term, var, bind, fst, snd, case}
use Rattle.syntax.specs.Substitution.{weaken_body}
use Rattle.typing.specs.Infer.{Context}
use Rattle.semantics.specs.Value.{Value, Values, left, right, Trace}
use Rattle.typing.proofs.Typing.{Of, Typed, t_call, t_app, t_pair, t_fst, t_snd, t_inl, t_inr, t_case}
use Rattle.theory.proofs.Ends.{ends_app, ends_bind, ends_pair, ends_fst, ends_snd, ends_inl, ends_inr}
use Rattle.theory.proofs.Ends.{ends_case_left, ends_case_right}
use Rattle.theory.proofs.Relation.{Pairs, pairs, Sums, lefts, rights, Model, Rv, Runs, E, from_arrow, from_product}
use Rattle.theory.proofs.Relation.{to_product, from_sum, to_sum, ends_related}
use Rattle.theory.proofs.Fundamental.{Same, same}
use Rattle.theory.proofs.ValuesMakeNoCalls.{weaken_e, calm_weaken, body_e}
use Rattle.reduction.proofs.Roots.{Insert, i_call, i_app₁, i_app₂, i_pair₁, i_pair₂, i_fst, i_snd, i_inl, i_inr, i_case}
use Rattle.theory.proofs.SoundCall.{new, named, let_call}

module _ (M : Model) where
  let_fst : {P A B : ℕ} {ρ ρ' : Values} {a : Term} → Of M.tables product P A B → E M P ρ a ρ' a
      → E M A ρ (fst a) ρ' (bind a (fst (var 0)))
  let_fst {A = A} {B = B} {ρ = ρ} {ρ' = ρ'} {a = a} i e = go e.p e.q e.calls (from_product M i e.vals)
    where
      go : {v w : Value} {c d : Trace} → Runs M ρ a v c → Runs M ρ' a w d → M.C c d → Pairs (Rv M A) (Rv M B) v w
          → E M A ρ (fst a) ρ' (bind a (fst (var 0)))
      go p q k (pairs r s) =
          ends_related M (ends_fst M.answer p) (ends_bind M.answer q (ends_fst M.answer (new M))) (M.join k M.none) r

  let_snd : {P A B : ℕ} {ρ ρ' : Values} {a : Term} → Of M.tables product P A B → E M P ρ a ρ' a
      → E M B ρ (snd a) ρ' (bind a (snd (var 0)))
  let_snd {A = A} {B = B} {ρ = ρ} {ρ' = ρ'} {a = a} i e = go e.p e.q e.calls (from_product M i e.vals)
    where
      go : {v w : Value} {c d : Trace} → Runs M ρ a v c → Runs M ρ' a w d → M.C c d → Pairs (Rv M A) (Rv M B) v w
          → E M B ρ (snd a) ρ' (bind a (snd (var 0)))
      go p q k (pairs r s) =
          ends_related M (ends_snd M.answer p) (ends_bind M.answer q (ends_snd M.answer (new M))) (M.join k M.none) s

  let_case : {Γ : Context} {S A B D : ℕ} {ρ ρ' : Values} {s l r : Term} → Of M.tables sum S A B → E M S ρ s ρ' s
      → Typed M.tables M.ok (A ∷ Γ) l D → Typed M.tables M.ok (B ∷ Γ) r D → Same M Γ ρ ρ'
      → E M D ρ (case s l r) ρ' (bind s (case (var 0) (weaken_body l) (weaken_body r)))
  let_case {Γ} {S} {A} {B} {D} {ρ} {ρ'} {s} {l} {r} i e y z o = go e.p e.q e.calls (from_sum M i e.vals)
    where
      go : {v w : Value} {c d : Trace} → Runs M ρ s v c → Runs M ρ' s w d → M.C c d → Sums (Rv M A) (Rv M B) v w
          → E M D ρ (case s l r) ρ' (bind s (case (var 0) (weaken_body l) (weaken_body r)))
      go p q k (lefts {a = v} {b = w} x) =
          let g = body_e M (left w) x y o in
          ends_related M (ends_case_left M.answer p g.p) (ends_bind M.answer q (ends_case_left M.answer (new M) g.q))
          (M.join k g.calls) g.vals
      go p q k (rights {a = v} {b = w} x) =
          let g = body_e M (right w) x z o in
          ends_related M (ends_case_right M.answer p g.p)
          (ends_bind M.answer q (ends_case_right M.answer (new M) g.q))
          (M.join k g.calls) g.vals

  pub sound₁ : {t t' : Term} → Insert t t' → {Γ : Context} {A : ℕ} {ρ ρ' : Values} → Typed M.tables M.ok Γ t A → Same M Γ ρ ρ'
      → E M A ρ t ρ' t'
  sound₁ (i_call l) (t_call z e d xs) o = let_call M z e d (named M l xs o)
  sound₁ (i_app₁ _) (t_app i x y) o =
      let e = same M x o in
      let f = weaken_e M e.w y o in
      let r = from_arrow M i e.vals f.v f.w f.vals in
      ends_related M (ends_app M.answer e.p f.p r.p)
      (ends_bind M.answer e.q (ends_app M.answer (new M) f.q r.q))
      (M.join e.calls (M.join f.calls r.calls)) r.vals
  sound₁ (i_app₂ {f = g} h _) (t_app i x y) o =
      let f = same M y o in
      let e = calm_weaken M g h f.w x o in
      let r = from_arrow M i e.vals f.v f.w f.vals in
      ends_related M (ends_app M.answer e.p f.p r.p)
      (ends_bind M.answer f.q (ends_app M.answer e.q (new M) r.q))
      (M.join f.calls r.calls) r.vals
  sound₁ (i_pair₁ _) (t_pair i x y) o =
      let e = same M x o in
      let f = weaken_e M e.w y o in
      ends_related M (ends_pair M.answer e.p f.p) (ends_bind M.answer e.q (ends_pair M.answer (new M) f.q))
      (M.join e.calls (M.join f.calls M.none)) (to_product M i (pairs e.vals f.vals))
  sound₁ (i_pair₂ {a = a} k _) (t_pair i x y) o =
      let f = same M y o in
      let e = calm_weaken M a k f.w x o in
      ends_related M (ends_pair M.answer e.p f.p) (ends_bind M.answer f.q (ends_pair M.answer e.q (new M)))
      (M.join f.calls M.none) (to_product M i (pairs e.vals f.vals))
  sound₁ (i_fst _) (t_fst i x) o = let_fst i (same M x o)
  sound₁ (i_snd _) (t_snd i x) o = let_snd i (same M x o)
  sound₁ (i_inl _) (t_inl i x) o =
      let e = same M x o in
      ends_related M (ends_inl M.answer e.p) (ends_bind M.answer e.q (ends_inl M.answer (new M)))
      (M.join e.calls M.none) (to_sum M i (lefts e.vals))
  sound₁ (i_inr _) (t_inr i x) o =
      let e = same M x o in
      ends_related M (ends_inr M.answer e.p) (ends_bind M.answer e.q (ends_inr M.answer (new M)))
      (M.join e.calls M.none) (to_sum M i (rights e.vals))
  sound₁ (i_case _) (t_case i x y z) o = let_case i (same M x o) y z o
