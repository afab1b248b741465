-- Typing of one node from the types of its parts, as the code does it; law: `infer_node`.
use Rattle.std.specs.Prelude.{ℕ, ◌+◌, ◌≡◌, cond, ◌&&◌, List, [], ◌∷◌, leb, eqb, get_or, set, take}
use Rattle.std.proofs.Math.Option.{Option, some}
use Rattle.std.proofs.Math.ListN.{get_elem?}
use Rattle.syntax.specs.Maybe.{◌>>=◌, given}
use Rattle.syntax.specs.Words.{left_of, right_of, kind_of, number_of, type_of}
use Rattle.syntax.specs.Tables.{Tables, arrow, product, sum, unit_type, components, signature, arity}
use Rattle.syntax.specs.Kinds.{uses_type, binders_at}
use Rattle.typing.specs.Infer.{Context, equal}

-- the type of the variable that a node binds in its part j: a function's argument, a let's bound part, the halves of a sum.
-- A is the node's type field, F the type of its first part.
unfoldable pub binder_type : List ℕ → ℕ → ℕ → ℕ → ℕ → ℕ
binder_type types k A j F =
    cond (eqb k 2) (left_of (get_or types A 0))
    (cond (eqb k 4) F
    (cond (leb j 1) (left_of (get_or types F 0)) (right_of (get_or types F 0))))

-- the kind of type that a node is about: function, product, sum or unit
abbrev pub form_of : ℕ → ℕ
form_of k = cond (leb k 3) arrow (cond (leb k 7) product (cond (leb k 10) sum unit_type))

-- the type that it is about: its own, or its first part's
abbrev pub subject_of : ℕ → ℕ → ℕ → ℕ
subject_of k A F = cond (uses_type k) A F

-- a node's type, from the components X and Y of the type that it is about and its parts' types F
unfoldable pub judge : ℕ → ℕ → List ℕ → ℕ → ℕ → Option ℕ
judge k A F X Y =
    cond (eqb k 2) (given (eqb (get_or F 0 0) Y) A)
    (cond (eqb k 3) (given (eqb (get_or F 1 0) X) Y)
    (cond (eqb k 5) (given (eqb (get_or F 0 0) X && eqb (get_or F 1 0) Y) A)
    (cond (eqb k 6) (some X)
    (cond (eqb k 7) (some Y)
    (cond (eqb k 8) (given (eqb (get_or F 0 0) X) A)
    (cond (eqb k 9) (given (eqb (get_or F 0 0) Y) A)
    (cond (eqb k 11) (some A)
    (given (eqb (get_or F 2 0) (get_or F 1 0)) (get_or F 1 0)))))))))

-- a call's type: its arguments have the listed types
unfoldable pub call_type : Tables → ℕ → List ℕ → Option ℕ
call_type tables n F = do
  s ← signature tables n
  given (equal (take (arity tables.calls n) F) s.arguments) s.result

-- a node's type, variables apart
unfoldable pub node_type : Tables → ℕ → ℕ → ℕ → List ℕ → Option ℕ
node_type tables k n A F =
    cond (eqb k 1) (call_type tables n F)
    (cond (eqb k 4) (some (get_or F 1 0))
    (components tables (form_of k) (subject_of k A (get_or F 0 0)) >>= λ (X, Y). judge k A F X Y))

-- the type of a node of word w that has no parts: a variable's in a context, or else that of a node with no types of parts to ask for
unfoldable pub leaf_type : Tables → Context → ℕ → Option ℕ
leaf_type tables Γ w =
    cond (eqb (kind_of w) 0) (get_elem? Γ (number_of w)) (node_type tables (kind_of w) (number_of w) (type_of w) (0 ∷ 0 ∷ 0 ∷ []))

-- the types of a node's parts up to part j, which stand from an index on, with zeros up to three
abbrev pub types_to : List ℕ → ℕ → ℕ → List ℕ
types_to nodes i j = get_or nodes i 0 ∷ cond (leb 1 j) (get_or nodes (i + 1) 0) 0 ∷ cond (leb 2 j) (get_or nodes (i + 2) 0) 0 ∷ []

-- the type of what a node of word w binds in its part j is put on a stack; r is the part's depth
pub record Enters (types : List ℕ) (w j F : ℕ) (before after : List ℕ) (depth r : ℕ) : Type 0 where
  pub deep : r ≡ depth + binders_at (kind_of w) j
  pub stacked : after ≡ set before depth (binder_type types (kind_of w) (type_of w) j F)
