-- The depths of the parts still to come, as a buffer holds them: a part's stands at the index that counts the parts after it.
use Rattle.std.specs.Prelude.{ℕ, suc, ◌+◌, ◌-◌, ◌≤◌, ◌<◌, ◌≡◌, List, get_or}
use Rattle.syntax.specs.Words.{kind_of}
use Rattle.syntax.specs.Parts.{part_count}
use Rattle.words.specs.Reach.{outer_count}

-- from `last` on stand the depths of a node's n parts, the last part's first; the inner ones are all but the first o
pub record Opened (old new : List ℕ) (last n o depth : ℕ) : Type 0 where
  pub kept : (j : ℕ) → j < last → get_or new j 0 ≡ get_or old j 0
  pub inner : (j : ℕ) → j < n - o → get_or new (last + j) 0 ≡ suc depth
  pub outer : (j : ℕ) → n - o ≤ j → j < n → get_or new (last + j) 0 ≡ depth

-- of the node of a word
pub record OpensParts (calls : List ℕ) (w depth : ℕ) (old new : List ℕ) (last r : ℕ) : Type 0 where
  pub many : r ≡ last + part_count calls w
  pub opened : Opened old new last (part_count calls w) (outer_count (kind_of w) (part_count calls w)) depth
