-- The rules of phase 2 keep what a run ends with: a let or a case that moves out runs its parts in the same order, and a value makes no
-- call wherever it is put.
use mathlib.Core.Path.{sym, subst}
use mathlib.Core.List.{[], ◌∷◌, ◌++◌, append_assoc}
use Prim.Native.Nat.{ℕ}
use Rattle.syntax.specs.Tables.{sum}
use Rattle.syntax.specs.Term.{Term, var, bind, case}
use Rattle.syntax.specs.Substitution.{weaken_body}
use Rattle.typing.specs.Infer.{Context}
use Rattle.semantics.specs.Value.{Value, Values, Trace}
use Rattle.typing.proofs.Typing.{Of, Typed, t_var, t_app, t_bind, t_fst, t_snd, t_case}
use Rattle.theory.proofs.Ends.{ends_var, ends_lam, ends_app, ends_bind, ends_pair, ends_fst, ends_snd, ends_inl, ends_inr}
use Rattle.theory.proofs.Ends.{ends_case_left, ends_case_right, enters_closure}
use Rattle.theory.proofs.Relation.{Sums, lefts, rights, Model, Rv, Runs, E, ends_related, from_sum}
use Rattle.theory.proofs.Compatible.{Bound}
use Rattle.theory.proofs.Fundamental.{Same, same_up, same}
use Rattle.theory.proofs.Preserve.{lam_typed, pair_typed, inl_typed, inr_typed}
use Rattle.reduction.proofs.Roots.{Reduce, r_let, r_case, r_apply, r_fst, r_snd, r_left, r_right, r_value}
use Rattle.theory.proofs.ValuesMakeNoCalls.{calm_same, body_e, put_e}

module _ (M : Model) where
  case_out : {Γ : Context} {S A B D F : ℕ} {ρ ρ' : Values} {n : ℕ} {l r c : Term} → Of M.tables sum S A B → Bound M S ρ n ρ' n
      → Typed M.tables M.ok (A ∷ Γ) l D → Typed M.tables M.ok (B ∷ Γ) r D → Typed M.tables M.ok (D ∷ Γ) c F
      → Same M Γ ρ ρ'
      → E M F ρ (bind (case (var n) l r) c) ρ' (case (var n) (bind l (weaken_body c)) (bind r (weaken_body c)))
  case_out {Γ} {S} {A} {B} {D} {F} {ρ} {ρ'} {n} {l} {r} {c} e b y y' z o = go (ends_var M.answer b.p) (ends_var M.answer b.q)
      (from_sum M e b.vals)
    where
      go : {v w : Value} → Runs M ρ (var n) v [] → Runs M ρ' (var n) w [] → Sums (Rv M A) (Rv M B) v w
          → E M F ρ (bind (case (var n) l r) c) ρ' (case (var n) (bind l (weaken_body c)) (bind r (weaken_body c)))
      go p q (lefts {a = v} {b = w} s) =
          let a = same M y (same_up M s o) in
          let g = body_e M w a.vals z o in
          ends_related M (ends_bind M.answer (ends_case_left M.answer p a.p) g.p)
          (ends_case_left M.answer q (ends_bind M.answer a.q g.q))
          (M.join a.calls g.calls) g.vals
      go p q (rights {a = v} {b = w} s) =
          let a = same M y' (same_up M s o) in
          let g = body_e M w a.vals z o in
          ends_related M (ends_bind M.answer (ends_case_right M.answer p a.p) g.p)
          (ends_case_right M.answer q (ends_bind M.answer a.q g.q))
          (M.join a.calls g.calls) g.vals

  pub sound₂ : {t t' : Term} → Reduce t t' → {Γ : Context} {A : ℕ} {ρ ρ' : Values} → Typed M.tables M.ok Γ t A → Same M Γ ρ ρ'
      → E M A ρ t ρ' t'
  sound₂ (r_let _) (t_bind {A = B} (t_bind {A = A} x y) z) o =
      let e = same M x o in
      let f = same M y (same_up M e.vals o) in
      let g = body_e M e.w f.vals z o in
      ends_related M (ends_bind M.answer (ends_bind M.answer e.p f.p) g.p)
      (ends_bind M.answer e.q (ends_bind M.answer f.q g.q))
      (subst (λ (a : Trace). M.C a (e.d ++ (f.d ++ g.d))) (sym (append_assoc e.c f.c g.c))
      (M.join e.calls (M.join f.calls g.calls))) g.vals
  sound₂ (r_case {n = n}) (t_bind (t_case {S = S} e (t_var x) y y') z) o = case_out e (o.at n S x) y y' z o
  sound₂ (r_apply {v = u} h) (t_app e x y) o =
      let q = calm_same M u h y o in
      let g = put_e M u h y q.p (lam_typed M.tables M.ok e x) o in
      ends_related M (ends_app M.answer (ends_lam M.answer) q.p (enters_closure M.answer g.p)) g.q g.calls g.vals
  sound₂ (r_fst {v = u} {w = u'} h k) (t_fst e x) o =
      let i = pair_typed M.tables M.ok e x in
      let q = calm_same M u h i.0 o in
      let q' = calm_same M u' k i.1 o in
      ends_related M (ends_fst M.answer (ends_pair M.answer q.p q'.p)) q.q M.none q.vals
  sound₂ (r_snd {v = u} {w = u'} h k) (t_snd e x) o =
      let i = pair_typed M.tables M.ok e x in
      let q = calm_same M u h i.0 o in
      let q' = calm_same M u' k i.1 o in
      ends_related M (ends_snd M.answer (ends_pair M.answer q.p q'.p)) q'.q M.none q'.vals
  sound₂ (r_left {v = u} h) (t_case e x y z) o =
      let i = inl_typed M.tables M.ok e x in
      let q = calm_same M u h i o in
      let g = put_e M u h i q.p y o in
      ends_related M (ends_case_left M.answer (ends_inl M.answer q.p) g.p) g.q g.calls g.vals
  sound₂ (r_right {v = u} h) (t_case e x y z) o =
      let i = inr_typed M.tables M.ok e x in
      let q = calm_same M u h i o in
      let g = put_e M u h i q.p z o in
      ends_related M (ends_case_right M.answer (ends_inr M.answer q.p) g.p) g.q g.calls g.vals
  sound₂ (r_value {v = u} h) (t_bind y z) o =
      let q = calm_same M u h y o in
      let g = put_e M u h y q.p z o in
      ends_related M (ends_bind M.answer q.p g.p) g.q g.calls g.vals
