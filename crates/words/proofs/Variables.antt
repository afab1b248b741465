-- A first word of kind 0 is a variable's.
use Prim.Native.Nat.{ℕ}
use mathlib.Core.Path.{◌≡◌, refl, sym, ◌∙◌}
use mathlib.Core.List.{List}
use lib.ListN.{get_or}
use Rattle.syntax.specs.Words.{kind_of, number_of}
use Rattle.syntax.specs.Term.{Term, var, node}
use Rattle.syntax.proofs.ByKind.{by_kind}
use Rattle.words.specs.Fronts.{Holds}
use Rattle.words.proofs.Traversal.{front_of}

-- the term at the front of words whose first word is of kind 0, with the number that the word holds
pub variable_at : {calls words : List ℕ} {t : Term} {rest : List ℕ} → Holds calls words t rest → kind_of (get_or words 0 0) ≡ 0
    → (P : Term → Type 0) → ((v : ℕ) → number_of (get_or words 0 0) ≡ v → P (var v)) → P t
unfolding node
variable_at {t = t} h z P k =
    let f = front_of h in
    by_kind (λ u. (node t).number ≡ (node u).number → P u) 0 t (sym f.kind ∙ z) (λ v e. k v (f.number ∙ e)) refl
