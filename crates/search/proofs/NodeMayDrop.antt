-- What may be dropped shows at the first node, and so at the first word.
use Prim.Native.Nat.{ℕ}
use mathlib.Core.Path.{◌≡◌, refl, ◌∙◌, ap₂}
use mathlib.Core.List.{List}
use lib.ListN.{get_or}
use Rattle.syntax.specs.Words.{kind_of, number_of}
use Rattle.syntax.specs.Term.{Term, var, call, lam, app, bind, pair, fst, snd, inl, inr, case, unit, node}
use Rattle.reduction.specs.MayDrop.{may_drop}
use Rattle.words.specs.Fronts.{Holds}
use Rattle.words.proofs.Traversal.{front_of}
use Rattle.search.specs.NodeMayDrop.{node_may_drop}

pub by_node : (calls : List ℕ) (e : Term) → node_may_drop calls (node e).kind (node e).number ≡ may_drop calls e
unfolding node_may_drop may_drop node
by_node calls (var n) = refl
by_node calls (call k ts) = refl
by_node calls (lam A b) = refl
by_node calls (app f a) = refl
by_node calls (bind e b) = refl
by_node calls (pair A a b) = refl
by_node calls (fst a) = refl
by_node calls (snd a) = refl
by_node calls (inl A a) = refl
by_node calls (inr A a) = refl
by_node calls (case s l r) = refl
by_node calls (unit A) = refl

-- of the term at the front
pub by_word : (calls words : List ℕ) (e : Term) (rest : List ℕ) → Holds calls words e rest
    → node_may_drop calls (kind_of (get_or words 0 0)) (number_of (get_or words 0 0)) ≡ may_drop calls e
by_word calls words e rest h =
    ap₂ (node_may_drop calls) (front_of h).kind (front_of h).number ∙ by_node calls e
