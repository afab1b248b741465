-- The search of phase 3 by marks of binders: the mark of a let that binds a computation that may be dropped begins as the let's place, any
-- other as 65536, and each use adds 65536. So a mark is in the end below 65536 exactly for a let that can be dropped, and then its place.
use Rattle.std.specs.Prelude.{ℕ, ◌+◌, ◌*◌, ◌≤◌, ◌<◌, ◌≡◌, Bool, cond, ◌&&◌, List, eqb, length, get_or, Option}
use Rattle.syntax.specs.Lists.{any}
use Rattle.syntax.specs.Words.{kind_of}
use Rattle.syntax.specs.Term.{Term, var, call, lam, app, bind, pair, fst, snd, inl, inr, case, unit}
use Rattle.syntax.specs.Encoding.{encode, size}
use Rattle.syntax.specs.Shaped.{Shaped}
use Rattle.syntax.specs.Values.{is_computation, uses_all}
use Rattle.words.specs.Fronts.{Holds, from}
use Rattle.words.specs.Reach.{inner}
use Rattle.reduction.specs.declared.Phase.TheVariants.{Dropping}
use Rattle.reduction.specs.declared.Redex.{Redex}
use Rattle.reduction.specs.MayDrop.{may_drop}
use Rattle.reduction.specs.Redex.{first_redex}
use Rattle.search.specs.Marks.{Marked, Space}
use Rattle.search.specs.declared.unused.PartScan.{PartScan}

-- whether a word is a let's, and whether some word is
abbrev pub is_let : ℕ → Bool
is_let w = eqb (kind_of w) 4

abbrev pub has_let : List ℕ → Bool
has_let ws = any is_let ws

-- the mark of a node's binder before any use, over a call table
unfoldable pub open_mark : List ℕ → ℕ → Term → ℕ
open_mark calls p (var n) = 65536
open_mark calls p (call k ts) = 65536
open_mark calls p (lam A b) = 65536
open_mark calls p (app f a) = 65536
open_mark calls p (bind e b) = cond (is_computation e && may_drop calls e) p 65536
open_mark calls p (pair A a b) = 65536
open_mark calls p (fst a) = 65536
open_mark calls p (snd a) = 65536
open_mark calls p (inl A a) = 65536
open_mark calls p (inr A a) = 65536
open_mark calls p (case s l r) = 65536
open_mark calls p (unit A) = 65536

-- and after all uses, for a node at the place p
unfoldable pub final_mark : List ℕ → ℕ → Term → ℕ
final_mark calls p t = open_mark calls p t + 65536 * uses_all (inner t) 0

-- of the nodes at the first n words, none is a let before place x that can be dropped; places are counted from base
pub record NoUnusedBefore (calls words : List ℕ) (base x n : ℕ) : Type 0 where
  pub marks : (i : ℕ) (t : Term) (rest : List ℕ) → i < n → Holds calls (from words i) t rest → x ≤ final_mark calls (base + i) t

-- so many words more can be gone through
abbrev pub MarkSpace : List ℕ → ℕ → ℕ → Type 0
MarkSpace used depth more = Space 65536 used depth more

-- the mark of the binder of whatever term is at the front
pub record MarksBinder (calls words : List ℕ) (place r : ℕ) : Type 0 where
  pub small : r ≤ 65536
  pub told : (t : Term) (rest : List ℕ) → Holds calls words t rest → r ≡ open_mark calls place t

-- the least of a number and the marks of so many binders
pub record LeastMark (used : List ℕ) (start end first r : ℕ) : Type 0 where
  pub first_least : r ≤ first
  pub least : (d : ℕ) → start ≤ d → d < end → r ≤ get_or used d 0
  pub greatest : (x : ℕ) → x ≤ first → ((d : ℕ) → start ≤ d → d < end → x ≤ get_or used d 0) → x ≤ r

-- the part at the front is gone through: its end, the least place in it of a let that can be dropped, or 65536, and the marks of the
-- binders around it
pub record Scans (calls words : List ℕ) (base depth : ℕ) (old new : List ℕ) (r : PartScan) : Type 0 where
  pub within : r.end ≤ length words
  pub before : (x : ℕ) → x ≤ r.first → x ≤ 65536 → NoUnusedBefore calls words base x r.end
  pub greatest : (x : ℕ) → x ≤ 65536 → NoUnusedBefore calls words base x r.end → x ≤ r.first
  pub told : (t : Term) (rest : List ℕ) → Holds calls words t rest → (r.end ≡ size t) × Marked 65536 t depth old new

-- the first redex of phase 3 in whatever term the words are
pub record FindsUnused (calls words : List ℕ) (r : Option Redex) : Type 0 where
  pub told : (t : Term) → Shaped calls t → words ≡ encode t → r ≡ first_redex (may_drop calls) Dropping t
