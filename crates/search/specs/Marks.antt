-- Marks by depth: a buffer that holds, for each binder in scope by its depth (0 the outermost), how often it is used.
use Rattle.std.specs.Prelude.{◌≡◌, List, ℕ, ◌+◌, ◌-◌, ◌*◌, ◌^◌, ◌≤◌, ◌<◌, length, get_or}
use Rattle.syntax.specs.Term.{Term}
use Rattle.syntax.specs.Values.{uses}

-- each of the binders in scope is marked with its uses in t as well, each by so much
pub record Marked (by : ℕ) (t : Term) (depth : ℕ) (old new : List ℕ) : Type 0 where
  pub marks : (d : ℕ) → d < depth → get_or new d 0 ≡ get_or old d 0 + by * uses t (depth - 1 - d)

-- each of the binders in scope has a mark, which can be raised by so much
pub record Raisable (by : ℕ) (used : List ℕ) (depth : ℕ) : Type 0 where
  pub deep : depth ≤ length used
  pub low : (d : ℕ) → d < depth → get_or used d 0 + by ≤ 2 ^ 40

-- so many words more can be gone through: there is a mark for each binder in them, and no mark overflows if each word raises it by so much
pub record Space (by : ℕ) (used : List ℕ) (depth more : ℕ) : Type 0 where
  pub deep : depth + more ≤ length used
  pub small : length used ≤ 65536
  pub low : (d : ℕ) → d < depth → get_or used d 0 + by * more ≤ 2 ^ 40
