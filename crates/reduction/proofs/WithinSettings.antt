-- A reduction is accepted exactly if its sequence stays within the budget, the ceilings and the capacity, and it is refused with 13 exactly
-- where its steps meet a ceiling.
use mathlib.Core.Path.{◌≡◌, refl, ap, subst}
use mathlib.Core.Bool.{Bool}
use mathlib.Core.List.{List, ◌∷◌}
use mathlib.Core.Option.{some}
use Prim.Native.Nat.{ℕ, ◌+◌, ◌-◌, ◌≤◌, ◌<◌}
use native.Mathlib.Omega.{arith}
use borrow.Author.Tests.{le-leb}
use lib.ListN.{length}
use Rattle.syntax.specs.Term.{Term}
use Rattle.reduction.specs.declared.Phase.{Phase}
use Rattle.reduction.specs.declared.Phase.TheVariants.{Insertion}
use Rattle.reduction.specs.declared.Rule.{Rule}
use Rattle.reduction.specs.declared.Settings.{Settings}
use Rattle.reduction.specs.Redex.{Step, step}
use Rattle.reduction.specs.Reduction.{Counts, of_rule, zero_counts, Progress, stopped, reached, reduce}
use Rattle.reduction.specs.Sequence.{tally, Sequence, terms}
use Rattle.reduction.proofs.Path.{Within, nexts, Path, steps}
use Rattle.reduction.proofs.Exact.{Refused, budget_spent, ceiling_met_lem, next_too_long, first_too_long, Exact, normal, exact_reduce}
use Rattle.reduction.proofs.Exact.{reduce_exact, reduce_refused, refused_reduce}
use Rattle.reduction.proofs.CountOfRule.{steps_by, count_by}
use Rattle.reduction.proofs.Ceilings.{met_reached, allowed_uses, uses_allowed}

module _ (pure : Term → Bool) (capacity : ℕ) (settings : Settings) where
  -- a sequence that stays within the budget, the ceilings and the capacity
  pub record Stays {t u : Term} (q : Sequence pure t u) : Type 0 where
    pub in_budget : length (steps pure q) ≤ settings.budget
    pub in_ceilings : (r : Rule) → steps_by r (steps pure q) ≤ of_rule r settings.ceilings
    pub in_capacity : Within capacity (terms pure q)

  -- the sequence of a reduction that came through: it stays within, the rest of the budget is left, and the counts are its steps'
  pub record Accepted (t u : Term) (left : ℕ) (counts : Counts) : Type 0 where
    pub sequence : Sequence pure t u
    pub stays : Stays sequence
    pub left_over : left + length (steps pure sequence) ≡ settings.budget
    pub counted : tally (steps pure sequence) zero_counts ≡ counts

  -- Accepted exactly if the sequence stays within (demand 1).
  pub reduce_accepted : (t u : Term) (left : ℕ) (counts : Counts) → reduce pure capacity settings t ≡ reached left u counts
      → Accepted t u left counts
  reduce_accepted t u left counts e =
      accepted (subst (λ (x : Progress). Exact pure capacity settings t x) e (reduce_exact pure capacity settings t))
    where
      accepted : Exact pure capacity settings t (reached left u counts) → Accepted t u left counts
      accepted (normal q h a l d) = record {
        sequence = q;
        stays = record { in_budget = omega (arith, l); in_ceilings = allowed_uses settings.ceilings a; in_capacity = h };
        left_over = l;
        counted = d;
      }

  pub accepted_reduce : (t u : Term) (left : ℕ) (counts : Counts) → Accepted t u left counts
      → reduce pure capacity settings t ≡ reached left u counts
  accepted_reduce t u left counts a =
      let q = a.sequence in
      exact_reduce pure capacity settings t (normal q a.stays.in_capacity
      (uses_allowed settings.ceilings (steps pure q) a.stays.in_ceilings) a.left_over a.counted)

  pub stays_reduce : (t u : Term) (q : Sequence pure t u) → Stays q
      → reduce pure capacity settings t ≡ reached (settings.budget - length (steps pure q)) u (tally (steps pure q) zero_counts)
  stays_reduce t u q h = accepted_reduce t u (settings.budget - length (steps pure q)) (tally (steps pure q) zero_counts)
      (record { sequence = q; stays = h; left_over = omega (arith, h.in_budget); counted = refl })

  -- a run of steps that meets a ceiling: the next step is within the budget, and its rule has been used as often as its ceiling says
  pub record Meets (t : Term) (counts : Counts) : Type 0 where
    pub phase : Phase
    pub term : Term
    pub taken : List Step
    pub next : Step
    pub path : Path pure Insertion t taken phase term
    pub in_capacity : Within capacity (t ∷ nexts taken)
    pub in_ceilings : (r : Rule) → steps_by r taken ≤ of_rule r settings.ceilings
    pub in_budget : length taken < settings.budget
    pub fits : step pure phase term ≡ some next
    pub met : steps_by next.rule taken ≡ of_rule next.rule settings.ceilings
    pub counted : tally taken zero_counts ≡ counts

  -- 13 falls exactly there (demand 2).
  pub reduce_meets : (t : Term) (counts : Counts) → reduce pure capacity settings t ≡ stopped 13 counts → Meets t counts
  reduce_meets t counts e = go (reduce_refused pure capacity settings t 13 counts e) refl
    where
      go : {n : ℕ} {counts : Counts} → Refused pure capacity settings t n counts → n ≡ 13 → Meets t counts
      go (budget_spent p h a e l d) z = absurd (omega (arith, z))
      go {counts = counts} (ceiling_met_lem {phase = phase} {w = w} {ss = ss} {s = s} p h a e l u d) z = record {
        phase = phase;
        term = w;
        taken = ss;
        next = s;
        path = p;
        in_capacity = h;
        in_ceilings = allowed_uses settings.ceilings a;
        in_budget = l;
        fits = e;
        met = omega (
          arith,
          met_reached settings.ceilings s.rule counts u,
          ap (λ (c : Counts). of_rule s.rule c) d,
          count_by s.rule ss,
          allowed_uses settings.ceilings a s.rule,
        );
        counted = d;
      }
      go (next_too_long p h a e l u k d) z = absurd (omega (arith, z))
      go (first_too_long l) z = absurd (omega (arith, z))

  pub meets_reduce : (t : Term) (counts : Counts) → Meets t counts → reduce pure capacity settings t ≡ stopped 13 counts
  meets_reduce t counts m =
      let rule = m.next.rule in
      let reached : of_rule rule settings.ceilings ≤ of_rule rule counts = omega (
        arith,
        m.met,
        count_by rule m.taken,
        ap (λ (c : Counts). of_rule rule c) m.counted,
      ) in
      refused_reduce pure capacity settings t 13 counts
      (ceiling_met_lem m.path m.in_capacity (uses_allowed settings.ceilings m.taken m.in_ceilings) m.fits m.in_budget
      (le-leb (of_rule rule settings.ceilings) (of_rule rule counts) reached) m.counted)
