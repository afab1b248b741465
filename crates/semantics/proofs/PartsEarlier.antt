-- A part of a type has at most the type's number, over tables that pass check 2: an entry's parts are earlier entries. So what comes
-- later in the table is part of nothing before it, and a type that is part of every type would break this law.
use lib.Dec.{T}
use Prim.Native.Nat.{ℕ, ◌≤◌}
use native.Mathlib.Omega.{arith}
use Rattle.syntax.specs.Tables.{Tables}
use Rattle.typing.specs.TableChecks.{well_formed_types}
use Rattle.typing.proofs.Trees.{earlier, parts_below}
use Rattle.semantics.specs.TypeParts.{PartOf, itself, of_left, of_right}

module _ (tables : Tables) (checked : T (well_formed_types 0 tables.types)) where
  pub part_at_most : {D A : ℕ} → PartOf tables D A → D ≤ A
  part_at_most itself = omega arith
  part_at_most (of_left {A = A} {l = l} {r = r} k c e p) =
      omega (arith, (parts_below tables (earlier tables checked) k A l r c e).0, part_at_most p)
  part_at_most (of_right {A = A} {l = l} {r = r} k c e p) =
      omega (arith, (parts_below tables (earlier tables checked) k A l r c e).1, part_at_most p)
