-- A traversal and the uses of a variable by a node's parts, whatever its kind: each part stands under its own number of binders.
-- No public contract rests on this module: it serves proofs.
use Rattle.std.specs.Prelude.{ℕ, suc, ◌+◌}
use Rattle.syntax.specs.Kinds.{binders_at}
use Rattle.syntax.specs.Term.{Terms, done, arg}
use Rattle.syntax.specs.Substitution.{Kit, traverse}
use Rattle.syntax.specs.Under.{under_by}
use Rattle.syntax.specs.Values.{uses}

-- the parts of a node of kind k, from part j on, with every variable n replaced by f n
unfoldable pub traverse_parts : {X : Type 0} → Kit X → ℕ → ℕ → Terms → (ℕ → X) → Terms
traverse_parts kit k j done f = done
traverse_parts kit k j (arg t ts) f = arg (traverse kit t (under_by kit (binders_at k j) f)) (traverse_parts kit k (suc j) ts f)

-- how often the parts of a node of kind k, from part j on, use a variable
unfoldable pub uses_parts : ℕ → ℕ → Terms → ℕ → ℕ
uses_parts k j done n = 0
uses_parts k j (arg t ts) n = uses t (n + binders_at k j) + uses_parts k (suc j) ts n
