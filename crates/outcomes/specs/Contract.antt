-- What the public call `normalize` promises: its outcome by one equation (demands 1 and 2), and the claim (demand 3).
use Rattle.std.specs.Prelude.{ℕ, ◌≡◌, List, take}
use Rattle.syntax.specs.Tables.{Tables}
use Rattle.reduction.specs.declared.Settings.{Settings}
use Rattle.semantics.specs.Claim.{Claim}
use Rattle.outcomes.specs.Normalize.{Buffers, normalize_outcome}
use Rattle.outcomes.specs.declared.Answer.{Answer}

-- `before` and `after` are the buffers at entry and at exit
pub record Normalizes (settings : Settings) (tables : Tables) (words : List ℕ) (before : Buffers) (answer : Answer)
    (after : Buffers) : Type 0 where
  pub outcome : record { answer = answer; buffers = after } ≡ normalize_outcome settings tables words before
  pub claim : answer.refusal ≡ 0 → Claim tables words answer.ty (take answer.length after.output)
