-- Words marked by their residue, from the last to the first: only words of one residue have to be compared.
use mathlib.Core.Path.{◌≡◌, refl, sym, ◌∙◌, ap, ap₂, subst}
use mathlib.Core.Bool.{Bool, true, false, ◌&&◌, not, and-false}
use mathlib.Core.List.{List, [], ◌∷◌, ◌++◌, append_assoc, append-nil}
use Prim.Native.Nat.{ℕ, ◌+◌, ◌-◌, ◌<◌}
use native.Mathlib.Omega.{arith}
use native.Mathlib.Nat.{mod-lt}
use lib.Dec.{eqb}
use lib.ListN.{length, get_or, drop, take, set, length-set}
use lib.Seq.{drop-append-add, get_or-set_same, get_or-set_other}
use borrow.Author.Tests.{eqb-true, eqb-false, ne_eqb}
use Rattle.std.proofs.lemmas.Bool.Decides.{nat_tests}
use Rattle.std.specs.List.{list_any, push}
use Rattle.syntax.proofs.Nodes.{tail_part}
use Rattle.typing.specs.TableChecks.{every, distinct}
use Rattle.checker.specs.Residues.{residue_of, Noted, noted_none, noted_more}

abbrev absent : ℕ → List ℕ → Bool
absent w ws = every (λ x. not (eqb w x)) ws

every_same : (f g : ℕ → Bool) (ws : List ℕ) → ((x : ℕ) → f x ≡ g x) → every f ws ≡ every g ws
every_same f g [] h = refl
every_same f g (w ∷ ws) h = ap₂ {C = Bool} (λ a b. a && b) (h w) (every_same f g ws h)

-- a word whose residue r has no mark is none of those that have theirs
pub unmarked_absent : {marks ws : List ℕ} (w : ℕ) {r : ℕ} → Noted marks ws → r ≡ residue_of w → get_or marks r 0 ≡ 0 → true ≡ absent w ws
unmarked_absent w noted_none e z = refl
unmarked_absent {marks} w {r} (noted_more {w = x} {ws = ws} m n) e z =
    unmarked_absent w n e z ∙ ap (λ (b : Bool). not b && absent w ws) (sym (ne_eqb w x other))
  where
    other : w ≡ x → ⊥
    other q = let s : get_or marks (residue_of x) 0 ≡ 0 = subst (λ (k : ℕ). get_or marks k 0 ≡ 0) (e ∙ ap residue_of q) z in omega (arith, m, s)

-- as the code tells it of a test
module _ (ws : List ℕ) (test : ℕ → Bool) where
  pub unmarked_told : (w : ℕ) (marks : List ℕ) (r : ℕ) → r ≡ residue_of w → Noted marks ws → get_or marks r 0 ≡ 0
      → ((x : ℕ) → test x ≡ not (eqb w x)) → eqb (get_or marks r 0) 0 ≡ every test ws
  unmarked_told w marks r e n z same = rw z (unmarked_absent w n e z ∙ sym (every_same test _ ws same))

  pub contained_told : (hit : ℕ → Bool) (b : Bool) → b ≡ list_any hit ws → ((x : ℕ) → not (hit x) ≡ test x) → not b ≡ every test ws
  contained_told hit b e same = ap not e ∙ go ws
    where
      go : (xs : List ℕ) → not (list_any hit xs) ≡ every test xs
      go [] = refl
      go (x ∷ xs) = grind (arith, nat_tests, go xs, same x)

pub unequal_comm : (x w : ℕ) → not (eqb x w) ≡ not (eqb w x)
unequal_comm x w = grind (arith, nat_tests)

pub ruleset absent_told = (unmarked_told, contained_told, unequal_comm)

-- a further mark keeps the others
marked_set : (marks : List ℕ) (i j : ℕ) → 0 < get_or marks j 0 → j < length marks → 0 < get_or (set marks i 1) j 0
marked_set marks i j m h = go (eqb j i) refl
  where
    go : (b : Bool) → eqb j i ≡ b → 0 < get_or (set marks i 1) j 0
    go true e = let q = eqb-true j i e in rw (← q, get_or-set_same marks j 1 0 h) (omega arith)
    go false e = rw (get_or-set_other marks i j 1 0 (eqb-false j i e)) m

residue_below : (marks : List ℕ) (w : ℕ) → length marks ≡ 16381 → residue_of w < length marks
residue_below marks w l = rw l (mod-lt w (omega arith))

noted_set : {marks ws : List ℕ} (i : ℕ) → length marks ≡ 16381 → Noted marks ws → Noted (set marks i 1) ws
noted_set i l noted_none = noted_none
noted_set {marks} i l (noted_more {w = w} m n) = noted_more (marked_set marks i (residue_of w) m (residue_below marks w l)) (noted_set i l n)

-- a word that is duplicated in the words behind is duplicated in the whole
distinct_behind : (front ws : List ℕ) → distinct ws ≡ false → distinct (front ++ ws) ≡ false
unfolding distinct
distinct_behind [] ws e = e
distinct_behind (x ∷ xs) ws e = ap (λ (b : Bool). absent x (xs ++ ws) && b) (distinct_behind xs ws e) ∙ and-false (absent x (xs ++ ws))

-- the words behind those of the front are distinct, and their residues are marked
pub record Apart (types marks front : List ℕ) : Type 0 where
  pub behind : List ℕ
  pub split : types ≡ front ++ behind
  pub len : length marks ≡ 16381
  pub noted : Noted marks behind
  pub apart : distinct behind ≡ true

pub apart_start : {types marks front : List ℕ} → front ≡ types → length marks ≡ 16381 → Apart types marks front
unfolding distinct
apart_start {front = front} e l = record {
  behind = [];
  split = sym (append-nil front ∙ e);
  len = l;
  noted = noted_none;
  apart = refl;
}

pub apart_end : {types marks front : List ℕ} → Apart types marks front → length front ≡ 0 → true ≡ distinct types
apart_end {front = []} a z = sym (ap distinct a.split ∙ a.apart)
apart_end {front = x ∷ xs} a z = absurd (omega (arith, z))

-- the last word of the front
module _ {types marks front : List ℕ} (a : Apart types marks front) (rest : List ℕ) (w i n : ℕ) (se : front ≡ push rest w)
    (ne : i ≡ n + length rest) (z : n ≡ 0) where
  ie : i ≡ length rest
  ie = omega (arith, ne, z)

  split_last : types ≡ rest ++ (w ∷ a.behind)
  split_last = a.split ∙ ap (λ (l : List ℕ). l ++ a.behind) se ∙ append_assoc rest (w ∷ []) a.behind

  behind_is : drop (i + 1) types ≡ a.behind
  behind_is = ap (λ (n : ℕ). drop (n + 1) types) ie ∙ ap (drop (length rest + 1)) split_last ∙ drop-append-add rest (w ∷ a.behind) 1

  slice_is : take (length types - (i + 1)) (drop (i + 1) types) ≡ a.behind
  slice_is = tail_part types (i + 1) ∙ behind_is

  pub rest_noted : Noted marks (take (length types - (i + 1)) (drop (i + 1) types))
  rest_noted = subst (Noted marks) (sym slice_is) a.noted

  module _ {b : Bool} (e : b ≡ absent w (take (length types - (i + 1)) (drop (i + 1) types))) where
    told : absent w a.behind ≡ b
    told = sym (e ∙ ap (absent w) slice_is)

    pub apart_not : b ≡ false → false ≡ distinct types
    unfolding distinct
    apart_not f = sym (ap distinct split_last
        ∙ distinct_behind rest (w ∷ a.behind) (ap (λ (x : Bool). x && distinct a.behind) (told ∙ f)))

    pub apart_next : b ≡ true → {r : ℕ} → r ≡ residue_of w → Apart types (set marks r 1) rest
    unfolding distinct
    apart_next f {r} q = record {
      behind = w ∷ a.behind;
      split = split_last;
      len = length-set marks r 1 ∙ a.len;
      noted = noted_more fresh (noted_set r a.len a.noted);
      apart = ap (λ (x : Bool). x && distinct a.behind) (told ∙ f) ∙ a.apart;
    }
      where
        fresh : 0 < get_or (set marks r 1) (residue_of w) 0
        fresh = rw (q, get_or-set_same marks (residue_of w) 1 0 (residue_below marks w a.len)) (omega arith)
