-- Nodes of which a part is being typed, the innermost first: the type of the part that is being typed decides the type of the whole term.
use mathlib.Core.Path.{◌≡◌, refl}
use mathlib.Core.List.{List, [], ◌∷◌}
use mathlib.Core.Option.{Option, none}
use Prim.Native.Nat.{ℕ, suc}
use lib.ListN.{get_or, set}
use Rattle.syntax.specs.Maybe.{◌>>=◌}
use Rattle.syntax.specs.Words.{kind_of, number_of, type_of}
use Rattle.syntax.specs.Tables.{Tables}
use Rattle.syntax.specs.Term.{Terms, done}
use Rattle.words.specs.Joined.{joined}
use Rattle.typing.specs.Infer.{Context}
use Rattle.checker.specs.Nodes.{node_type}
use Rattle.checker.proofs.PartTypes.{infer_parts}

-- where the node's word is; which part is being typed; the types of the parts before it, with zeros up to three; the node's context;
-- the parts after it; where the node begins in the two buffers
pub record Open : Type 0 where
  pub place : ℕ
  pub part : ℕ
  pub found : List ℕ
  pub context : Context
  pub later : Terms
  pub base : ℕ
  pub depth : ℕ

-- the terms to come behind the one that is being typed
unfoldable pub behind : List Open → Terms
behind [] = done
behind (f ∷ fs) = joined f.later (behind fs)

module _ (tables : Tables) (words : List ℕ) where
  -- the type of a node of word w, if its part j is of type o
  abbrev pub with_part : ℕ → Context → Terms → ℕ → List ℕ → Option ℕ → Option ℕ
  with_part w Γ ts j F o = (o >>= λ B. infer_parts tables (kind_of w) (type_of w) Γ ts (suc j) (set F j B))
      >>= node_type tables (kind_of w) (number_of w) (type_of w)

  -- the type of the whole, from that of the part that is being typed
  unfoldable pub climb : List Open → Option ℕ → Option ℕ
  climb [] o = o
  climb (f ∷ fs) o = climb fs (with_part (get_or words f.place 0) f.context f.later f.part f.found o)

  pub climb_none : (fs : List Open) → climb fs none ≡ none
  unfolding climb
  climb_none [] = refl
  climb_none (f ∷ fs) = climb_none fs
