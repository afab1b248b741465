-- The types of the parts of a node, one after the other, each in the context that the node gives it.
use mathlib.Core.List.{List}
use mathlib.Core.Option.{Option, some}
use Prim.Native.Nat.{ℕ, suc}
use lib.ListN.{get_or, set}
use Rattle.syntax.specs.Maybe.{◌>>=◌}
use Rattle.syntax.specs.Kinds.{binders_at}
use Rattle.syntax.specs.Tables.{Tables}
use Rattle.syntax.specs.Term.{Terms, done, arg}
use Rattle.typing.specs.Infer.{Context, infer}
use Rattle.checker.specs.Nodes.{binder_type}
use Rattle.checker.proofs.Lookups.{extend}

module _ (tables : Tables) (k A : ℕ) (Γ : Context) where
  -- the context of a node's part j, the types F of the parts before it known
  abbrev pub inside : ℕ → List ℕ → Context
  inside j F = extend (binders_at k j) (binder_type tables.types k A j (get_or F 0 0)) Γ

  -- the types of a node's parts, from part j on
  unfoldable pub infer_parts : Terms → ℕ → List ℕ → Option (List ℕ)
  infer_parts done j F = some F
  infer_parts (arg t ts) j F = infer tables t (inside j F) >>= λ B. infer_parts ts (suc j) (set F j B)
