-- Measuring a let insertion: the first computation that is found is the part that is bound, since the parts before either are values.
use Prim.Native.Nat.{ℕ, ◌+◌, ◌-◌, ◌≤◌}
use native.Mathlib.Omega.{arith}
use mathlib.Core.Path.{◌≡◌, refl, sym, ◌∙◌, ap, ap₂, subst}
use mathlib.Core.Bool.{true, false}
use mathlib.Core.List.{List, ◌++◌}
use lib.ListN.{length, get_or}
use Rattle.std.proofs.lemmas.Bool.{and_parts}
use Rattle.std.specs.Prelude.{Option, Some, IfSome, IsSome}
use Rattle.syntax.specs.Maybe.{is_some}
use Rattle.syntax.specs.Term.{Term, Terms, done, arg, node}
use Rattle.syntax.specs.Encoding.{encode_all, size}
use Rattle.syntax.specs.Parts.{part_count}
use Rattle.syntax.specs.Shaped.{count}
use Rattle.syntax.specs.Values.{is_value}
use Rattle.syntax.proofs.Sizes.{size_all, size_node, size_arg}
use Rattle.reduction.specs.MayDrop.{may_drop}
use Rattle.reduction.specs.Rules.{fire}
use Rattle.reduction.specs.declared.Rule.TheVariants.{LetInsertion}
use Rattle.reduction.proofs.Fires.{Fires, f_insertion}
use Rattle.reduction.proofs.NextSize.{size-let_insertion}
use Rattle.words.specs.Joined.{joined}
use Rattle.words.specs.Fronts.{Holds, HoldsAll, StartsAll, from}
use Rattle.words.specs.Ends.{Sized, SizedAll}
use Rattle.words.proofs.Joined.{size_joined, count_joined}
use Rattle.words.proofs.Traversal.{front_of, from_length}
use Rattle.words.proofs.PartsAt.{PartsAt, parts_of_lem, part_here, parts_past}
use Rattle.words.proofs.Rows.{row_holds, row_behind}
use Rattle.search.specs.Operands.{all_values, FirstComputation, FindsOperand}
use Rattle.search.specs.declared.fits.Operand.{Operand}
use Rattle.contraction.specs.declared.plan.Plan.TheVariants.{Insert as InsertPlan}
use Rattle.contraction.specs.Sizes.{StartsAt}
use Rattle.contraction.specs.Plans.{StartsRedex, PlanMakes, inserts, Inserted, part_size, MeasuredAs, Measures}
use Rattle.contraction.proofs.RedexRows.{fired}
use Rattle.contraction.proofs.NamedPart.{NamedPart, named_part}

-- the first computation of a list of terms, and what stands before it
same_first : (fs gs : Terms) (p q : Term) (ts us : Terms) → joined fs (arg p ts) ≡ joined gs (arg q us)
    → all_values fs ≡ true → all_values gs ≡ true → is_value p ≡ false → is_value q ≡ false → (fs ≡ gs) × (p ≡ q)
unfolding joined all_values
same_first done done p q ts us e f g pe qe = (refl, (cc))
same_first done (arg t gs) p q ts us e f g pe qe = let v = and_parts (is_value t) (all_values gs) g in absurd (cc)
same_first (arg t fs) done p q ts us e f g pe qe = let v = and_parts (is_value t) (all_values fs) f in absurd (cc)
same_first (arg t fs) (arg u gs) p q ts us e f g pe qe =
    let v = and_parts (is_value t) (all_values fs) f in
    let w = and_parts (is_value u) (all_values gs) g in
    let r = same_first fs gs p q ts us (cc) v.1 w.1 pe qe in
    let k : fs ≡ gs = r.0 in
    ((cc), r.1)

-- the size of a part, by the parts before it
size_behind : (fs ts : Terms) (p : Term) → part_size (joined fs (arg p ts)) (count fs) ≡ size p
unfolding joined count part_size
size_behind done ts p = refl
size_behind (arg t fs) ts p = size_behind fs ts p

-- let insertion fits, so there is such a part
pub operand_found : {calls words : List ℕ} {o : Option Operand} → FindsOperand calls words o → StartsRedex LetInsertion calls words → IsSome o
unfolding fire
operand_found f s = (f.told s.start.term s.start.rest s.start.holds).found_is ∙ ap is_some s.fires

module _ {calls words : List ℕ} {r : Operand} where
  module _ {x : Term} {rest : List ℕ} (h : Holds calls words x rest) (c : FirstComputation x r) where
    -- the part that is bound, and those behind it
    operand_at : PartsAt calls words r.start (arg c.part c.later) rest
    operand_at =
        let ts = arg c.part c.later in
        let all = subst (λ (us : Terms). PartsAt calls words 1 us rest) c.parts (parts_of_lem calls words h) in
        subst (λ (j : ℕ). PartsAt calls words j ts rest) (sym c.start_is)
        (row_behind calls words c.front ts all (size_all c.front) refl)

    -- how many parts the node has, by those behind
    count_by_later : part_count calls (get_or words 0 0) ≡ r.index + 1 + count c.later
    unfolding count
    count_by_later =
        omega (arith, (front_of h).parts, ap count c.parts, count_joined c.front (arg c.part c.later), c.index_is)

  -- a redex of let insertion at the front
  module _ {o : Option Operand} (f : FindsOperand calls words o) (found : o ≡ Some r) (s : StartsRedex LetInsertion calls words) where
    first : {x : Term} {rest : List ℕ} → Holds calls words x rest → FirstComputation x r
    first {x} {rest} h = subst (λ (o : Option Operand). IfSome o (λ r. FirstComputation x r)) found (f.told x rest h).first

    pub operand_starts : StartsAt calls words r.start
    operand_starts =
        let h = s.start.holds in
        let b = operand_at h (first h) in
        record { inside = omega (arith, b.inside); start = record { term = (first h).part; rest = _; holds = part_here calls words b } }

    -- it is one of the n parts
    pub index_in : {n : ℕ} → n ≡ part_count calls (get_or words 0 0) → r.index + 1 ≤ n
    index_in ne = let h = s.start.holds in omega (arith, ne, count_by_later h (first h))

    -- the part that is bound has m words
    module _ {m : ℕ} (z : Sized calls (from words r.start) m) where
      module _ {x : Term} {rest : List ℕ} (h : Holds calls words x rest) where
        size_is : m ≡ size (first h).part
        size_is = z.told _ _ (part_here calls words (operand_at h (first h)))

        found_size : m ≡ part_size (node x).parts r.index
        found_size =
            let c = first h in
            size_is ∙ sym (size_behind c.front c.later c.part) ∙ ap₂ part_size (sym c.parts) (sym c.index_is)

      module _ {x : Term} {rest : List ℕ} (h : Holds calls words x rest) where
        later_at : PartsAt calls words (r.start + m) (first h).later rest
        later_at = parts_past calls words (operand_at h (first h)) m (size_is h)

        -- the node's size, by the parts behind
        size_by_later : size x ≡ r.start + m + size_all (first h).later
        size_by_later =
            let c = first h in
            omega (
              arith,
              size_node x,
              ap (λ (ts : Terms). size_all ts) c.parts,
              size_joined c.front (arg c.part c.later),
              size_arg c.part c.later,
              c.start_is,
              size_is h,
            )

        makes : {y : Term} → NamedPart x y → PlanMakes calls words (InsertPlan r.index r.start m) y
        makes n =
            let c = first h in
            let e = same_first n.front c.front n.part c.part n.later c.later (sym n.parts ∙ c.parts) n.values
            c.values n.computation c.computation in
            let i : count n.front ≡ r.index = ap count e.0 ∙ sym c.index_is in
            let hp = subst (λ (t : Term). Holds calls (from words r.start) t (encode_all c.later ++ rest)) (sym e.1)
            (part_here calls words (operand_at h c)) in
            subst (PlanMakes calls words (InsertPlan r.index r.start m)) (sym n.is)
            (inserts h (subst (λ (j : ℕ). Inserted j x n.node_under) i n.inserted) hp (size_is h ∙ ap size (sym e.1))
            (record { told = λ t more g. found_size g }))

        inserted : {y : Term} (n : ℕ) → Fires (may_drop calls) LetInsertion x y → n ≡ size x
            → MeasuredAs calls words x y (record { plan = InsertPlan r.index r.start m; read = n; wrote = n + 2 })
        inserted n (f_insertion i) e = record {
          read_is = e;
          wrote_is = omega (arith, e, size-let_insertion i);
          makes = makes (named_part i);
        }

      pub operand_inside : r.start + m ≤ length words
      operand_inside = omega (arith, (later_at s.start.holds).inside)

      module _ {n : ℕ} (ne : n ≡ part_count calls (get_or words 0 0)) where
        later_holds : {x : Term} {rest : List ℕ} (h : Holds calls words x rest)
            → HoldsAll calls (from words (r.start + m)) (n - 1 - r.index) (first h).later rest
        later_holds h = row_holds calls words (later_at h) (n - 1 - r.index) (omega (arith, ne, count_by_later h (first h)))

        pub later_starts : StartsAll calls (from words (r.start + m)) (n - 1 - r.index)
        later_starts = let h = s.start.holds in record { terms = (first h).later; rest = s.start.rest; holds = later_holds h }

        -- the node ends where the l words of the parts behind do
        module _ {l : ℕ} (b : SizedAll calls (from words (r.start + m)) (n - 1 - r.index) l) where
          pub end_inside : r.start + m + l ≤ length words
          end_inside = omega (arith, b.within, from_length words (r.start + m), operand_inside)

          pub insertion_measures : Measures LetInsertion calls words (record {
            plan = InsertPlan r.index r.start m;
            read = r.start + m + l;
            wrote = r.start + m + l + 2;
          })
          insertion_measures = record {
            told = λ x y rest h e. inserted h (r.start + m + l) (fired LetInsertion x y e)
                (omega (arith, size_by_later h, b.told (first h).later rest (later_holds h)));
          }
