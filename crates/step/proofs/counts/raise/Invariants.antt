-- Until the rule's place is met the counts are as they were, and behind it they are raised there.
use Rattle.std.proofs.Common.{◌≡◌, ℕ, ◌≤◌, ◌<◌, ◌+◌, List, get_or}
use Rattle.std.proofs.Math.ListN.{set}
use Rattle.step.proofs.counts.raise.Given as goal

abbrev pub raised : List ℕ → ℕ → List ℕ
raised counts i = set counts i (get_or counts i 0 + 1)

-- the counts when k places were looked at
pub record Passed (counts : List ℕ) (i : ℕ) (c : List ℕ) (k : ℕ) : Type 0 where
  pub before : k ≤ i → c ≡ counts
  pub behind : i < k → c ≡ raised counts i

abbrev pub invariant-loop-k : goal.invariant-loop-k
invariant-loop-k l = Passed l.initial.raised l.i l.raised l.k
