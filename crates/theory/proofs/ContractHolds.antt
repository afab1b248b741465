-- An outcome that is as defined keeps the whole contract: where the refusal is 0, the checks accepted and the reduction came through.
use mathlib.Core.Bool.{Bool}
use mathlib.Core.Path.{◌≡◌, refl, sym, ap, subst}
use mathlib.Core.List.{List, [], ◌∷◌, ◌++◌}
use lib.ListN.{length, take, drop}
use Prim.Native.Nat.{ℕ, ◌≤◌}
use native.Mathlib.Omega.{arith}
use Rattle.syntax.specs.Term.{Term}
use Rattle.syntax.specs.Tables.{Tables}
use Rattle.syntax.specs.Encoding.{encode, size}
use Rattle.typing.specs.Refusals.{Verdict, refused, accepted, TypedTerm, elaborate, normalize_limit}
use Rattle.reduction.specs.MayDrop.{may_drop}
use Rattle.reduction.specs.declared.Settings.{Settings}
use Rattle.reduction.specs.Reduction.{Counts, Progress, stopped, reached, reduce}
use Rattle.reduction.proofs.Exact.{Exact, reduce_exact, refusal_number_lem}
use Rattle.semantics.specs.Claim.{Claim}
use Rattle.outcomes.specs.Normalize.{Normalized, reduced_to, checked_to, normalize_within, max_capacity, Buffers, capacity_of, Outcome}
use Rattle.outcomes.specs.Normalize.{normalize_outcome}
use Rattle.outcomes.specs.Buffers.{overwrite}
use Rattle.outcomes.specs.Contract.{Normalizes}
use Rattle.outcomes.specs.declared.Answer.{Answer}
use Rattle.typing.proofs.Accepted.{Verdicts, refusal, Passed, elaborated}
use Rattle.theory.proofs.ClaimHolds.{claim}

pub take_front : (xs ys : List ℕ) → take (length xs) (xs ++ ys) ≡ xs
take_front [] ys = refl
take_front (x ∷ xs) ys = ap {B = List ℕ} (λ zs. x ∷ zs) (take_front xs ys)

pub capacity_bounded : (b : Buffers) → capacity_of b ≤ max_capacity
unfolding capacity_of
capacity_bounded b = omega arith

module _ (settings : Settings) (tables : Tables) (words : List ℕ) (before : Buffers) where
  abbrev pure : Term → Bool
  pure = may_drop tables.calls

  abbrev capacity : ℕ
  capacity = capacity_of before

  -- what holds of every reduction that came through holds of the type and the words that an accepted outcome hands back
  module _ (P : ℕ → List ℕ → Type 0)
      (came : (x : TypedTerm) (left : ℕ) (u : Term) (counts : Counts) → elaborate normalize_limit tables words ≡ accepted x
      → reduce pure capacity settings x.term ≡ reached left u counts → P x.type (encode u)) where
    -- of a result, where its refusal is 0
    abbrev Handed : Normalized → Type 0
    Handed r = r.answer.refusal ≡ 0 → P r.answer.ty (take r.answer.length (overwrite r.words before.output))

    reduced : (x : TypedTerm) → elaborate normalize_limit tables words ≡ accepted x → (p : Progress)
        → Exact pure capacity settings x.term p → reduce pure capacity settings x.term ≡ p
        → Handed (reduced_to x.type p)
    unfolding reduced_to overwrite size
    reduced x e (stopped n c) f r z = absurd (omega (arith, z, (refusal_number_lem pure capacity f).0))
    reduced x e (reached left u c) f r z =
        subst (P x.type) (sym (take_front (encode u) (drop (length (encode u)) before.output))) (came x left u c e r)

    checked : (v : Verdict TypedTerm) → Verdicts (Passed normalize_limit tables words) v → elaborate normalize_limit tables words ≡ v
        → Handed (checked_to pure capacity settings v)
    unfolding checked_to
    checked (refused n) (refusal m) e z = absurd (omega (arith, z))
    checked (accepted x) p e z =
        reduced x e (reduce pure capacity settings x.term) (reduce_exact pure capacity settings x.term) refl z

    pub handed_back : let o = normalize_outcome settings tables words before in
        o.answer.refusal ≡ 0 → P o.answer.ty (take o.answer.length o.buffers.output)
    unfolding normalize_outcome normalize_within
    handed_back = checked (elaborate normalize_limit tables words) (elaborated normalize_limit tables words) refl

  -- the contract, from its equation
  pub normalizes : (answer : Answer) (after : Buffers)
      → record { answer = answer; buffers = after } ≡ normalize_outcome settings tables words before
      → Normalizes settings tables words before answer after
  normalizes answer after e = record {
    outcome = e;
    claim = subst (λ (o : Outcome). o.answer.refusal ≡ 0
        → Claim tables words o.answer.ty (take o.answer.length o.buffers.output)) (sym e)
        (handed_back (Claim tables words) λ x left u c a r.
        claim tables words capacity settings x left u c (capacity_bounded before) a r);
  }
