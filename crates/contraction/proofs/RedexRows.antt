-- The parts of a redex stand in a row behind the words of its nodes, so each starts where the one before it ends.
use Prim.Native.Nat.{ℕ, ◌+◌, ◌≤◌}
use native.Mathlib.Omega.{arith}
use mathlib.Core.Path.{◌≡◌, refl, sym}
use mathlib.Core.Bool.{Bool}
use mathlib.Core.List.{List}
use mathlib.Core.Option.{some}
use lib.ListN.{length}
use Rattle.syntax.specs.Term.{Term, var, done, arg, node}
use Rattle.syntax.specs.Shaped.{count}
use Rattle.syntax.proofs.Options.{every_at}
use Rattle.syntax.proofs.Sizes.{size_var}
use Rattle.reduction.specs.MayDrop.{may_drop}
use Rattle.reduction.specs.Rules.{fire}
use Rattle.reduction.specs.declared.Rule.{Rule}
use Rattle.reduction.specs.declared.Rule.TheVariants.{LetOfLet, LetOfCase, Apply, First, Second, LeftCase, RightCase, LetValue, Drop}
use Rattle.reduction.proofs.Fires.{Fires, fires, f_let, f_case, f_apply, f_first, f_second, f_left, f_right, f_value, f_drop}
use Rattle.words.specs.Joined.{joined}
use Rattle.words.specs.Fronts.{Holds, from}
use Rattle.words.specs.Ends.{Sized}
use Rattle.words.proofs.Traversal.{from_length}
use Rattle.words.proofs.PartsAt.{PartsAt, parts_of_lem, parts_open, parts_past, Row, row_high, row_starts, row_next}
use Rattle.contraction.specs.Sizes.{StartsAt, StartsTwo, SizedTwo}
use Rattle.contraction.specs.Plans.{StartsRedex}

pub fired : {pure : Term → Bool} (r : Rule) (x y : Term) → fire pure r x ≡ some y → Fires pure r x y
fired {pure} r x y e = every_at y (fires pure r x) e

-- the rules whose redex is a node and its first part, and how many parts the two have
pub data TwoNodeRule : Rule → ℕ → Type 0 where
  of_let : TwoNodeRule LetOfLet 3
  of_apply : TwoNodeRule Apply 2
  of_first : TwoNodeRule First 2
  of_second : TwoNodeRule Second 2
  of_left : TwoNodeRule LeftCase 3
  of_right : TwoNodeRule RightCase 3

two_parts : {r : Rule} {n : ℕ} → TwoNodeRule r n → 2 ≤ n
two_parts of_let = omega arith
two_parts of_apply = omega arith
two_parts of_first = omega arith
two_parts of_second = omega arith
two_parts of_left = omega arith
two_parts of_right = omega arith

-- the rules whose redex is a let alone
pub data LetRule : Rule → Type 0 where
  of_value : LetRule LetValue
  of_drop : LetRule Drop

module _ {calls words : List ℕ} where
  two_node_row : {r : Rule} {n : ℕ} {x y : Term} {rest : List ℕ} → TwoNodeRule r n → Fires (may_drop calls) r x y → Holds calls words x rest
      → Row calls words 2 n
  unfolding node joined count
  two_node_row of_let (f_let q) h = record { parts = _; rest = _; at = parts_open calls words (parts_of_lem calls words h); many = refl }
  two_node_row of_apply (f_apply q) h = record { parts = _; rest = _; at = parts_open calls words (parts_of_lem calls words h); many = refl }
  two_node_row of_first (f_first p q) h = record { parts = _; rest = _; at = parts_open calls words (parts_of_lem calls words h); many = refl }
  two_node_row of_second (f_second p q) h =
      record { parts = _; rest = _; at = parts_open calls words (parts_of_lem calls words h); many = refl }
  two_node_row of_left (f_left q) h = record { parts = _; rest = _; at = parts_open calls words (parts_of_lem calls words h); many = refl }
  two_node_row of_right (f_right q) h = record { parts = _; rest = _; at = parts_open calls words (parts_of_lem calls words h); many = refl }

  -- the row of a redex at the front
  pub redex_row : {r : Rule} {n : ℕ} → TwoNodeRule r n → StartsRedex r calls words → Row calls words 2 n
  redex_row {r} i s = two_node_row i (fired r s.start.term s.contractum s.fires) s.start.holds

  -- of a let of a case, behind the subject's word
  branches : {x y : Term} {rest : List ℕ} → Fires (may_drop calls) LetOfCase x y → Holds calls words x rest → Row calls words 3 3
  unfolding node joined count
  branches {rest = rest} (f_case {n = z} {l = l} {r = r} {c = c}) h =
      let at : PartsAt calls words 2 (arg (var z) (arg l (arg r (arg c done)))) rest = parts_open calls words (parts_of_lem calls words h) in
      record { parts = _; rest = _; at = parts_past calls words at 1 (sym (size_var z)); many = refl }

  pub case_row : StartsRedex LetOfCase calls words → Row calls words 3 3
  case_row s = branches (fired LetOfCase s.start.term s.contractum s.fires) s.start.holds

  -- of a let
  bound_row : {r : Rule} {x y : Term} {rest : List ℕ} → LetRule r → Fires (may_drop calls) r x y → Holds calls words x rest
      → Row calls words 1 2
  unfolding node count
  bound_row of_value (f_value q) h = record { parts = _; rest = _; at = parts_of_lem calls words h; many = refl }
  bound_row of_drop (f_drop p q z) h = record { parts = _; rest = _; at = parts_of_lem calls words h; many = refl }

  pub let_row : {r : Rule} → LetRule r → StartsRedex r calls words → Row calls words 1 2
  let_row {r} o s = bound_row o (fired r s.start.term s.contractum s.fires) s.start.holds

  -- the first, the second and the third part of a row
  row_first : {i n : ℕ} → Row calls words i n → 1 ≤ n → StartsAt calls words i
  row_first r h = record { inside = row_high calls words r; start = row_starts calls words r h }

  pub row_two : {i n : ℕ} → Row calls words i n → 2 ≤ n → StartsTwo calls words i
  row_two r h = record {
    first = row_first r (omega (arith, h));
    second = λ a s. row_first (row_next calls words r (omega (arith, h)) a s) (omega (arith, h));
  }

  pub row_third : {i n a b : ℕ} → Row calls words i n → 3 ≤ n → SizedTwo calls words i a b → StartsAt calls words (i + a + b)
  row_third {a = a} {b = b} r h s =
      let behind = row_next calls words r (omega (arith, h)) a s.first in
      row_first (row_next calls words behind (omega (arith, h)) b s.second) (omega (arith, h))

  -- of a redex whose parts stand in such a row: its first two parts, and its third
  pub two_starts : {r : Rule} {n : ℕ} → TwoNodeRule r n → StartsRedex r calls words → StartsTwo calls words 2
  two_starts i s = row_two (redex_row i s) (two_parts i)

  pub third_starts : {r : Rule} {a b : ℕ} → TwoNodeRule r 3 → StartsRedex r calls words → SizedTwo calls words 2 a b
      → StartsAt calls words (2 + a + b)
  third_starts i s z = row_third (redex_row i s) (omega arith) z

  pub let_starts : {r : Rule} → LetRule r → StartsRedex r calls words → StartsTwo calls words 1
  let_starts o s = row_two (let_row o s) (omega arith)

  -- where a part ends
  pub sized_inside : {i n : ℕ} → StartsAt calls words i → Sized calls (from words i) n → i + n ≤ length words
  sized_inside {i} p s = omega (arith, s.within, from_length words i, p.inside)

  pub two_sized : {i n m : ℕ} → StartsTwo calls words i → Sized calls (from words i) n → Sized calls (from words (i + n)) m
      → SizedTwo calls words i n m
  two_sized {n = n} p s d = record { first = s; second = d; inside = sized_inside (p.second n s) d }
