-- A row in two, by its first term; and a node that has no inner parts.
use Prim.Native.Nat.{ℕ, ◌-◌, ◌≤◌}
use native.Mathlib.Omega.{arith}
use mathlib.Core.Path.{◌≡◌, refl, sym, ◌∙◌, ap, subst}
use mathlib.Core.List.{List}
use lib.ListN.{get_or}
use Rattle.syntax.specs.Words.{kind_of}
use Rattle.syntax.specs.Term.{Term, Terms, done, arg, node}
use Rattle.syntax.specs.Parts.{part_count}
use Rattle.syntax.specs.Shaped.{count}
use Rattle.syntax.specs.Values.{uses, uses_all}
use Rattle.words.specs.Fronts.{Holds, from}
use Rattle.words.specs.Joined.{joined}
use Rattle.words.specs.Reach.{outer, inner, outer_count}
use Rattle.words.proofs.Joined.{count_joined, none_left}
use Rattle.words.proofs.Reach.{node_parts, outer_many}
use Rattle.words.proofs.Traversal.{front_of}
use Rattle.words.proofs.PartsAt.{first_from}
use Rattle.words.proofs.Rows.{Cut}

-- no term uses no variable
pub uses-none : (ts : Terms) (d : ℕ) → count ts ≡ 0 → uses_all ts d ≡ 0
unfolding uses
uses-none ts d e = none_left (λ x. uses_all x d ≡ 0) ts e refl

pub no_terms : count done ≡ 0
unfolding count
no_terms = refl

-- a node of a kind without inner parts has none
pub flat_at : {calls : List ℕ} (words : List ℕ) (at : ℕ) {t : Term} {rest : List ℕ} → Holds calls (from words at) t rest
    → outer_count (kind_of (get_or words at 0)) (part_count calls (get_or words at 0)) ≡ part_count calls (get_or words at 0) → count (inner t) ≡ 0
flat_at {calls} words at {t} h e =
    let f = front_of h in
    let w = first_from words at in
    let k : kind_of (get_or words at 0) ≡ (node t).kind = ap kind_of (sym w) ∙ f.kind in
    let n : part_count calls (get_or words at 0) ≡ count (node t).parts = ap (part_count calls) (sym w) ∙ f.parts in
    let o : outer_count (kind_of (get_or words at 0)) (part_count calls (get_or words at 0)) ≡ count (outer t) =
    ap (λ (i : ℕ). outer_count i (part_count calls (get_or words at 0))) k ∙ ap (outer_count (node t).kind) n ∙ outer_many t in
    omega (arith, e, o, n, ap count (node_parts t), count_joined (outer t) (inner t))

-- a row with a term at its front, in two
pub record First (o : ℕ) (P : Terms → Terms → Type 0) (t : Term) (us : Terms) : Type 0 where
  pub others : Terms
  pub back : Terms
  pub is : us ≡ joined others back
  pub many : count others ≡ o
  pub facts : P (arg t others) back

abbrev head : Term → Terms → Term
head u done = u
head u (arg t ts) = t

abbrev rest_of : Terms → Terms
rest_of done = done
rest_of (arg t ts) = ts

pub cut_first : {o : ℕ} {P : Terms → Terms → Type 0} {t : Term} {us : Terms} → Cut o P (arg t us) → 1 ≤ o → First (o - 1) P t us
unfolding joined count
cut_first {o} {P} {t} {us} c le = go c.front c.is c.many c.facts
  where
    go : (front : Terms) → arg t us ≡ joined front c.later → count front ≡ o → P front c.later → First (o - 1) P t us
    go done e m f = absurd (omega (arith, m, le))
    go (arg u others) e m f = record {
      others = others;
      back = c.later;
      is = ap rest_of e;
      many = omega (arith, m);
      facts = subst (λ (x : Term). P (arg x others) c.later) (sym (ap (head t) e)) f;
    }
