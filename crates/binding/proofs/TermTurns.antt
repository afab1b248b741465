-- Writing a term node by node: what holds at each turn of the loop.
use Prim.Native.Nat.{ℕ, ◌+◌, ◌-◌, ◌≤◌}
use native.Mathlib.Omega.{arith}
use mathlib.Core.Path.{◌≡◌, refl}
use mathlib.Core.List.{List}
use lib.ListN.{length, get_or}
use Rattle.syntax.specs.Parts.{part_count}
use Rattle.syntax.specs.Substitution.{Kit}
use Rattle.words.proofs.RowAtDepths.{opens_room}
use Rattle.words.proofs.Rows.{march_inside, march_within}
use Rattle.binding.proofs.TermWritten.{Trace, trace_room}

module _ {X A : Type 0} (kit : Kit X) (f : A → ℕ → X) where
  -- the loop's invariant: while a term is owed there is a word to read, room for one to write, and space for the depths of its parts
  pub record Turn (calls words old : List ℕ) (d at m : ℕ) (p new : List ℕ) (owed i o : ℕ) : Type 0 where
    pub trace : Trace kit f calls words old d at m p new owed i o
    pub inside : i + owed ≤ length words
    pub spare : i + owed + m ≤ length p
    pub kept : length new ≡ length old
    pub room : 1 ≤ owed → at + o + 1 ≤ length new
    pub opens : 1 ≤ owed
        → (owed - 1 + 3 ≤ length p) × (owed - 1 + part_count calls (get_or words i 0) ≤ length p) × (get_or p (owed - 1) 0 ≤ 65536)

  pub turn : {calls words old : List ℕ} {d at m : ℕ} {p new : List ℕ} {owed i o : ℕ} → 2 ≤ m
      → Trace kit f calls words old d at m p new owed i o → Turn calls words old d at m p new owed i o
  turn {calls} {words} {d = d} {m = m} {p = p} two g = record {
    trace = g;
    inside = march_inside calls words g.going;
    spare = omega (arith, march_within calls words g.going, g.spare);
    kept = g.len;
    room = λ lt. trace_room kit f g lt _ _ refl refl;
    opens = λ lt. opens_room p d m g.going g.near g.spare two lt g.far;
  }
