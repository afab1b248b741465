-- A call whose first computation is named by a let runs as before: the arguments before the named one are values, which make no call.
use mathlib.Core.Path.{◌≡◌, refl, sym, subst}
use mathlib.Core.List.{List, [], ◌∷◌, ◌++◌, append_assoc}
use Prim.Native.Nat.{ℕ, suc}
use Rattle.syntax.specs.Tables.{Signature}
use Rattle.syntax.specs.Term.{Term, Terms, var, call, bind, arg}
use Rattle.typing.specs.Infer.{Context}
use Rattle.semantics.specs.Value.{Value, Values, also, Trace}
use Rattle.semantics.specs.Run.{lookup}
use Rattle.typing.proofs.Typing.{Signed, TypedAll, t_arg}
use Rattle.theory.proofs.Ends.{EndsAll, ends_var, ends_bind}
use Rattle.theory.proofs.Ends.{ends_arg, ends_call}
use Rattle.theory.proofs.Relation.{All, all_more, Model, Rv, Runs, E, ends_related, one_call}
use Rattle.theory.proofs.Compatible.{past_right}
use Rattle.theory.proofs.Fundamental.{renamed_all, Same, same}
use Rattle.theory.proofs.ValuesMakeNoCalls.{calm_weaken}
use Rattle.reduction.proofs.Roots.{Names, this, next}

module _ (M : Model) where
  -- the new variable
  pub new : {ρ : Values} {v : Value} → Runs M (also v ρ) (var 0) v []
  unfolding lookup
  new = ends_var M.answer refl

  -- the arguments of a call, and the named one before them
  pub record Named (As : List ℕ) (ρ ρ' : Values) (p : Term) (ts us : Terms) : Type 0 where
    v : Values
    w : Values
    x : Value
    c : Trace
    d : Trace
    c' : Trace
    d' : Trace
    before : EndsAll M.answer ρ ts v (c ++ d)
    bound : Runs M ρ' p x c'
    behind : EndsAll M.answer (also x ρ') us w d'
    calls : M.C c c'
    calls' : M.C d d'
    vals : All (Rv M) As v w

  pub named : {ts us : Terms} {p : Term} → Names ts p us → {Γ : Context} {As : List ℕ} {ρ ρ' : Values}
      → TypedAll M.tables M.ok Γ ts As → Same M Γ ρ ρ' → Named As ρ ρ' p ts us
  named (this {ts = ts} _) {ρ = ρ} {ρ' = ρ'} (t_arg x xs) o =
      let e = same M x o in
      let es = renamed_all M {f = suc} {ρ = ρ} {ρ' = also e.w ρ'} xs
      (record { at = λ n A y u. past_right M (o.at n A y) }) in
      record {
        v = also e.v es.v;
        w = also e.w es.w;
        x = e.w;
        c = e.c;
        d = es.c ++ [];
        c' = e.d;
        d' = es.d ++ [];
        before = ends_arg M.answer e.p es.p;
        bound = e.q;
        behind = ends_arg M.answer new es.q;
        calls = e.calls;
        calls' = M.join es.calls M.none;
        vals = all_more e.vals es.vals;
      }
  named (next {t = t} {ts = ts} h l) {ρ = ρ} {ρ' = ρ'} (t_arg {A = A} x xs) o =
      let r = named l xs o in
      let q = calm_weaken M t h r.x x o in
      record {
        v = also q.v r.v;
        w = also q.w r.w;
        x = r.x;
        c = r.c;
        d = r.d ++ [];
        c' = r.c';
        d' = r.d' ++ [];
        before = subst (λ (z : Trace). EndsAll M.answer ρ (arg t ts) (also q.v r.v) z) (append_assoc r.c r.d [])
            (ends_arg M.answer q.p r.before);
        bound = r.bound;
        behind = ends_arg M.answer q.q r.behind;
        calls = r.calls;
        calls' = M.join r.calls' M.none;
        vals = all_more q.vals r.vals;
      }

  pub let_call : {k A : ℕ} {s : Signature} {ρ ρ' : Values} {p : Term} {ts us : Terms} → M.ok k → Signed M.tables k s → s.result ≡ A
      → Named s.arguments ρ ρ' p ts us → E M A ρ (call k ts) ρ' (bind p (call k us))
  let_call {k} {A} {s} z e i r =
      let a = M.answers k z s e r.v r.w r.vals in
      let d = r.c' ++ (r.d' ++ (record { number = k; arguments = r.w } ∷ [])) in
      ends_related M (ends_call M.answer r.before) (ends_bind M.answer r.bound (ends_call M.answer r.behind))
      (subst (λ (x : Trace). M.C x d) (sym (append_assoc r.c r.d _))
      (M.join r.calls (M.join r.calls' (one_call M k a.0))))
      (subst (λ (B : ℕ). Rv M B (M.answer k r.v) (M.answer k r.w)) i a.1)
