-- To a node's typing the kinds past the last are all one: what it says of the least of a kind and 12 it says of the kind.
use Rattle.std.specs.Prelude.{ℕ, ◌≡◌, ◌<◌, List, [], false, eqb, leb, get_or, min, Some}
use Rattle.std.specs.declared.option.Option as code
use Rattle.std.proofs.Common.{rules}
use Rattle.syntax.specs.Maybe.{option_of}
use Rattle.syntax.specs.Tables.{Tables, over, components}
use Rattle.words.proofs.KindTests.{eqb-min}
use Rattle.checker.specs.Nodes.{form_of, subject_of, judge, node_type}

leb-min : (k c : ℕ) → c < 12 → leb (min k 12) c ≡ leb k c
leb-min k c h = search rules

pub form_min : (k : ℕ) → form_of (min k 12) ≡ form_of k
form_min k = search (rules, leb-min)

pub judge_min : (k A : ℕ) (F : List ℕ) (X Y : ℕ) → judge (min k 12) A F X Y ≡ judge k A F X Y
unfolding judge
judge_min k A F X Y = search (rules, eqb-min)

-- the type of a node that is neither a call nor a let, by the least
pub node_least : (tables : Tables) (k n A : ℕ) (F : List ℕ) {types : List ℕ} {c f s X Y : ℕ} {r : code.Option ℕ} → types ≡ tables.types
    → c ≡ min k 12 → eqb k 1 ≡ false → eqb k 4 ≡ false → f ≡ form_of c → s ≡ subject_of k A (get_or F 0 0)
    → Some (X, Y) ≡ option_of (components (over types [] []) f s) → r ≡ option_of (judge c A F X Y) → r ≡ option_of (node_type tables k n A F)
unfolding node_type
node_least tables k n A F t e h l f s p r = search (rules, form_min, judge_min)
