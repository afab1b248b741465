-- The search may begin at any index that no redex stands before: the first redex from there on is the first redex.
use mathlib.Core.Path.{◌≡◌, refl, sym, ◌∙◌, ap, subst}
use mathlib.Core.Bool.{Bool}
use mathlib.Core.Option.{Option, some, none, some-injective, none-ne-some, some-ne-none}
use Prim.Native.Nat.{ℕ, suc, ◌≤◌, ◌<◌}
use native.Mathlib.Omega.{arith}
use native.Mathlib.Decide.{ℕ_discrete, dec_lt}
use lib.ListN.{get_elem?}
use Rattle.syntax.specs.Term.{Term}
use Rattle.syntax.specs.Encoding.{size}
use Rattle.syntax.specs.Positions.{Position, positions}
use Rattle.syntax.proofs.Sites.{index_below}
use Rattle.reduction.specs.Rules.{rules}
use Rattle.reduction.specs.declared.Phase.{Phase}
use Rattle.reduction.specs.Redex.{Contraction, contract, Step, step}
use Rattle.reduction.specs.Clear.{Clear}
use Rattle.reduction.proofs.FirstRedex.{fitting, Search, nowhere, first, step_first}

module _ (pure : Term → Bool) (phase : Phase) where
  pub clear_zero : (t : Term) → Clear pure phase t 0
  clear_zero t = record { misses = λ j p l e. absurd (omega arith) }

  pub clear_down : {t : Term} {i : ℕ} (j : ℕ) → j ≤ i → Clear pure phase t i → Clear pure phase t j
  clear_down j h c = record { misses = λ k p l e. c.misses k p (omega arith) e }

  -- one index more
  pub clear_suc : {t : Term} {i : ℕ} → Clear pure phase t i
      → ((p : Position Term) → get_elem? (positions t) i ≡ some p → contract pure (rules phase) p.subterm ≡ none)
      → Clear pure phase t (suc i)
  clear_suc {t} {i} c h = record { misses = λ j p l e. go j p l e (ℕ_discrete j i) }
    where
      go : (j : ℕ) (p : Position Term) → j < suc i → get_elem? (positions t) j ≡ some p → Dec (j ≡ i)
          → contract pure (rules phase) p.subterm ≡ none
      go j p l e (yes d) = h p (ap (get_elem? (positions t)) (sym d) ∙ e)
      go j p l e (no d) = c.misses j p (omega arith) e

  -- no redex before the end: no step
  pub clear_all : (t : Term) → Clear pure phase t (size t) → step pure phase t ≡ none
  clear_all t c = go (step_first pure phase t)
    where
      go : {o : Option Step} → Search pure phase 0 (positions t) o → o ≡ none
      go (nowhere h) = refl
      go (first k p x e f s h) = absurd (none-ne-some x (sym (c.misses k p (index_below t k p e) e) ∙ f))

  pub all_clear : (t : Term) (i : ℕ) → step pure phase t ≡ none → Clear pure phase t i
  all_clear t i e = record { misses = λ j p l d. go (step_first pure phase t) e j p d }
    where
      go : {o : Option Step} → Search pure phase 0 (positions t) o → o ≡ none → (j : ℕ) (p : Position Term)
          → get_elem? (positions t) j ≡ some p → contract pure (rules phase) p.subterm ≡ none
      go (nowhere h) e j p d = h j p d
      go (first {s = s} k q x f g i h) e j p d = absurd (some-ne-none s e)

  -- what a step is: its place is the first, and its next term has the contractum there
  pub record FirstAt (t : Term) (s : Step) : Type 0 where
    pub clear : Clear pure phase t s.place
    pub position : Position Term
    pub at : get_elem? (positions t) s.place ≡ some position
    pub contraction : Contraction
    pub fits : contract pure (rules phase) position.subterm ≡ some contraction
    pub rule : s.rule ≡ contraction.rule
    pub next : s.next ≡ position.plug contraction.contractum

  pub step_at : (t : Term) (s : Step) → step pure phase t ≡ some s → FirstAt t s
  step_at t s e = go (step_first pure phase t) e
    where
      go : {o : Option Step} → Search pure phase 0 (positions t) o → o ≡ some s → FirstAt t s
      go (nowhere h) e = absurd (none-ne-some s e)
      go (first {s = r} k p c f g i h) e = subst (FirstAt t) (sym i ∙ some-injective r s e)
          (record {
            clear = record { misses = λ j q l d. h j (omega arith) q d };
            position = p;
            at = ap (get_elem? (positions t)) (omega arith) ∙ f;
            contraction = c;
            fits = g;
            rule = refl;
            next = refl;
          })

  -- a redex stands at or behind an index that none stands before
  not_before : (t : Term) (j k : ℕ) (q : Position Term) (x : Contraction) → Clear pure phase t k → get_elem? (positions t) j ≡ some q
      → fitting pure phase q ≡ some x → k ≤ j
  not_before t j k q x c d g = other (dec_lt j k)
    where
      other : Dec (j < k) → k ≤ j
      other (yes l) = absurd (none-ne-some x (sym (c.misses j q l d) ∙ g))
      other (no l) = omega arith

  -- a fit at an index that no redex stands before is the step
  pub first_at : (t : Term) (i : ℕ) (p : Position Term) (c : Contraction) → Clear pure phase t i → get_elem? (positions t) i ≡ some p
      → contract pure (rules phase) p.subterm ≡ some c
      → step pure phase t ≡ some (record { rule = c.rule; place = i; next = p.plug c.contractum })
  first_at t i p c h e f = go (step pure phase t) refl
    where
      made : (s : Step) → s.rule ≡ c.rule → s.place ≡ i → s.next ≡ p.plug c.contractum
          → some s ≡ some (record { rule = c.rule; place = i; next = p.plug c.contractum })
      made s a b d = λ n. some (record { rule = a n; place = b n; next = d n })

      go : (o : Option Step) → step pure phase t ≡ o → o ≡ some (record { rule = c.rule; place = i; next = p.plug c.contractum })
      go none d = absurd (none-ne-some c (sym ((all_clear t (suc i) d).misses i p (omega arith) e) ∙ f))
      go (some s) d =
          let a = step_at t s d in
          let l = not_before t i s.place p c a.clear e f in
          let g = not_before t s.place i a.position a.contraction h a.at a.fits in
          let k : s.place ≡ i = omega arith in
          let x : a.position ≡ p = some-injective _ p (sym a.at ∙ ap (get_elem? (positions t)) k ∙ e) in
          let y : a.contraction ≡ c = some-injective _ c (sym a.fits ∙ ap (fitting pure phase) x ∙ f) in
          made s (a.rule ∙ ap (λ (z : Contraction). z.rule) y) k
          (a.next ∙ (λ n. (x n).plug (y n).contractum))
