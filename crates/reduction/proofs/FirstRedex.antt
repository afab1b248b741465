-- A step is at the smallest index that a rule of the phase fits, and where there is none no index fits.
use mathlib.Core.Path.{◌≡◌, refl, sym, ◌∙◌, ap}
use mathlib.Core.Bool.{Bool}
use mathlib.Core.List.{List, [], ◌∷◌}
use mathlib.Core.Option.{Option, some, none, some-injective, none-ne-some}
use Prim.Native.Nat.{ℕ, zero, suc, ◌+◌, ◌<◌}
use native.Mathlib.Omega.{arith}
use native.Mathlib.Nat.{le_of_suc-le-suc}
use lib.ListN.{get_elem?}
use Rattle.syntax.specs.Term.{Term}
use Rattle.syntax.specs.Positions.{Position, positions}
use Rattle.reduction.specs.Rules.{rules}
use Rattle.reduction.specs.declared.Phase.{Phase}
use Rattle.reduction.specs.Redex.{Contraction, contract, Step, first_step, step}

module _ (pure : Term → Bool) (phase : Phase) where
  -- what a rule of the phase makes of a position's subterm
  abbrev pub fitting : Position Term → Option Contraction
  fitting p = contract pure (rules phase) p.subterm

  -- no rule fits at an index
  abbrev pub Misses : List (Position Term) → ℕ → Type 0
  Misses ps j = (p : Position Term) → get_elem? ps j ≡ some p → fitting p ≡ none

  -- what a search through positions, counted from i, has found
  pub data Search (i : ℕ) (ps : List (Position Term)) : Option Step → Type 0 where
    nowhere : ((j : ℕ) → Misses ps j) → Search i ps none
    first : {s : Step} (k : ℕ) (p : Position Term) (c : Contraction) → get_elem? ps k ≡ some p → fitting p ≡ some c
        → s ≡ record { rule = c.rule; place = i + k; next = p.plug c.contractum }
        → ((j : ℕ) → j < k → Misses ps j) → Search i ps (some s)

  missed : (p : Position Term) (ps : List (Position Term)) → fitting p ≡ none → (k : ℕ) → ((j : ℕ) → j < k → Misses ps j) → (j : ℕ)
      → j < suc k → Misses (p ∷ ps) j
  missed p ps e k h zero l q d = ap fitting (sym (some-injective p q d)) ∙ e
  missed p ps e k h (suc j) l q d = h j (le_of_suc-le-suc l) q d

  missed_all_lem : (p : Position Term) (ps : List (Position Term)) → fitting p ≡ none → ((j : ℕ) → Misses ps j) → (j : ℕ) → Misses (p ∷ ps) j
  missed_all_lem p ps e h zero q d = ap fitting (sym (some-injective p q d)) ∙ e
  missed_all_lem p ps e h (suc j) q d = h j q d

  further : (i : ℕ) (p : Position Term) (ps : List (Position Term)) → fitting p ≡ none → {o : Option Step} → Search (suc i) ps o
      → Search i (p ∷ ps) o
  further i p ps e (nowhere h) = nowhere (missed_all_lem p ps e h)
  further i p ps e (first k q c d f s h) = first (suc k) q c d f
      (s ∙ ap (λ (n : ℕ). record { rule = c.rule; place = n; next = q.plug c.contractum }) (shift i k)) (missed p ps e k h)
    where
      shift : (i k : ℕ) → suc i + k ≡ i + suc k
      shift i k = omega arith

  search : (i : ℕ) (ps : List (Position Term)) → Search i ps (first_step pure phase i ps)
  unfolding first_step
  search i [] = nowhere (λ j p e. absurd (none-ne-some p e))
  search i (p ∷ ps) = go (fitting p) refl (search (suc i) ps)
    where
      none_before : (j : ℕ) → j < 0 → Misses (p ∷ ps) j
      none_before j l = absurd (omega (arith, l))

      here : (c : Contraction) (n : ℕ) → n ≡ i → ◌≡◌ {A = Step} (record { rule = c.rule; place = i; next = p.plug c.contractum })
          (record { rule = c.rule; place = n; next = p.plug c.contractum })
      here c n e = ap (λ (m : ℕ). record { rule = c.rule; place = m; next = p.plug c.contractum }) (sym e)

      go : (o : Option Contraction) → fitting p ≡ o → Search (suc i) ps (first_step pure phase (suc i) ps)
          → Search i (p ∷ ps)
          (elim o [
            | some c ↦ some (record { rule = c.rule; place = i; next = p.plug c.contractum })
            | none ↦ first_step pure phase
                (suc i) ps
          ])
      go none e r = further i p ps e r
      go (some c) e r = first 0 p c refl e (here c (i + 0) (omega arith)) none_before

  pub step_first : (t : Term) → Search 0 (positions t) (step pure phase t)
  unfolding step
  step_first t = search 0 (positions t)
