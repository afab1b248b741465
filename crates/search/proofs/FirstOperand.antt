-- The search for the first operand that is a computation: the parts passed are values, and their words end where the next part starts.
use Prim.Native.Nat.{ℕ, ◌+◌, ◌≤◌, ◌<◌}
use mathlib.Core.Path.{◌≡◌, refl, sym, ◌∙◌, ap}
use mathlib.Core.Bool.{Bool, true, ◌&&◌, not}
use mathlib.Core.List.{List, ◌++◌}
use native.Mathlib.Omega.{arith}
use lib.ListN.{length, get_or, length-append}
use Rattle.syntax.specs.Words.{kind_of}
use Rattle.syntax.specs.Term.{Term, Terms, done, arg, node}
use Rattle.syntax.specs.Encoding.{encode, encode_all, size}
use Rattle.syntax.specs.Parts.{part_count}
use Rattle.syntax.specs.Shaped.{count}
use Rattle.syntax.specs.Values.{is_value}
use Rattle.words.specs.Fronts.{Holds, Starts, from}
use Rattle.words.proofs.Traversal.{front_of, Going, enter, Does, reached, onward, next}
use Rattle.words.specs.Joined.{joined}
use Rattle.search.specs.ValueTest.{TestsValue}
use Rattle.search.specs.Operands.{all_values, FindsOperand}
use Rattle.words.specs.Shapes.{operand_count}
use Rattle.std.proofs.Common.{Some, None}
use Rattle.search.proofs.InsertionFits.{values_to, operands_of, inserts_is, operands_are_parts, behind, values_front, computation_next}

-- j parts of t are passed, all of them values; the words of ts start at `at`
pub record ValuesBefore (at j : ℕ) (t : Term) (ts : Terms) : Type 0 where
  pub front : Terms
  pub parts : (node t).parts ≡ joined front ts
  pub values : all_values front ≡ true
  pub many : count front ≡ j
  pub start : at ≡ 1 + length (encode_all front)

-- one value more
pass : (front : Terms) (t : Term) (later : Terms) → joined front (arg t later) ≡ joined (joined front (arg t done)) later
unfolding joined
pass done t later = refl
pass (arg u us) t later = ap (arg u) (pass us t later)

pass_values : (front : Terms) (t : Term) → all_values front ≡ true → is_value t ≡ true → all_values (joined front (arg t done)) ≡ true
unfolding joined all_values
pass_values done t e f = ap (λ (b : Bool). b && true) f
pass_values (arg u us) t e f = behind (is_value u) _ _ (λ d. pass_values us t d f) e

pass_many : (front : Terms) (t : Term) → count (joined front (arg t done)) ≡ count front + 1
unfolding joined count
pass_many done t = refl
pass_many (arg u us) t = omega (arith, pass_many us t)

pass_words : (front : Terms) (t : Term) → length (encode_all (joined front (arg t done))) ≡ length (encode_all front) + size t
unfolding joined encode size
pass_words done t = omega (arith, length-append (encode t) (encode_all done))
pass_words (arg u us) t = omega (
  arith,
  pass_words us t,
  length-append (encode u) (encode_all us),
  length-append (encode u) (encode_all (joined us (arg t done))),
)

-- the loop's invariant: m is the number of operands of whatever term is at the front
pub record Seeking (calls words : List ℕ) (n m at j : ℕ) : Type 0 where
  pub going : Going calls words (ValuesBefore at j) n at j
  pub parts : n ≡ part_count calls (get_or words 0 0)
  pub operands : (t : Term) (rest : List ℕ) → Holds calls words t rest → m ≡ operands_of t

-- before the first part
pub find_enter : (calls words : List ℕ) (k n m : ℕ) → Starts calls words → k ≡ kind_of (get_or words 0 0)
    → n ≡ part_count calls (get_or words 0 0) → m ≡ operand_count k n → Seeking calls words n m 1 0
unfolding joined all_values count encode
find_enter calls words k n m s ke ne me = record {
  going = enter calls words (ValuesBefore 1 0) n s ne λ t rest h.
      record { front = done; parts = refl; values = refl; many = refl; start = refl };
  parts = ne;
  operands = λ t rest h.
      let f = front_of h in
      me ∙ ap (λ (x : ℕ). operand_count x n) (ke ∙ f.kind) ∙ ap (operand_count (node t).kind) (ne ∙ f.parts);
}

module _ {calls words : List ℕ} {n m at j : ℕ} (g : Seeking calls words n m at j) where
  -- no operand is left
  pub find_none : m ≤ j → FindsOperand calls words None
  find_none le = record {
    told = λ t rest h.
        let s = g.going.stand t rest h in
        let p = s.to_do in
        let v = values_front (operands_of t) p.front s.parts (omega (arith, g.operands t rest h, p.many)) p.values in
        record {
          found_is = sym (inserts_is t ∙ ap (λ (ts : Terms). not (values_to (operands_of t) ts)) p.parts ∙ ap not v);
          first = tt;
        };
  }

  module _ (lt : j < m) where
    -- an operand is a part
    pub find_part : j < n
    find_part =
        let h = g.going.start.holds in
        omega (arith, g.operands _ _ h, operands_are_parts g.going.start.term, g.parts, (front_of h).parts)

    -- an operand that is no value
    pub find_first : TestsValue calls (from words at) None → FindsOperand calls words (Some (record { index = j; start = at }))
    find_first a = record {
      told = λ t rest h.
          let x = next calls words g.going find_part t rest h in
          let p = x.to_do in
          let c = sym (a.told x.part _ x.holds).value_is in
          let o = g.operands t rest h in
          let w = computation_next (operands_of t) p.front x.part x.later (omega (arith, p.many, o)) p.values c in
          record {
            found_is = sym (inserts_is t ∙ ap (λ (ts : Terms). not (values_to (operands_of t) ts)) p.parts ∙ ap not w);
            first = record {
              front = p.front;
              part = x.part;
              later = x.later;
              parts = p.parts;
              values = p.values;
              computation = c;
              operand = omega (arith, o);
              index_is = sym p.many;
              start_is = p.start;
            };
          };
    }

    -- a value of so many words
    module _ {size : ℕ} (a : TestsValue calls (from words at) (Some size)) where
      passes : Does calls words (ValuesBefore at j) (ValuesBefore (at + size) (j + 1)) at size
      passes t rest h part later holds p =
          let c = a.told part (encode_all later ++ rest) holds in (
            c.end_is,
            record {
              front = joined p.front (arg part done);
              parts = p.parts ∙ pass p.front part later;
              values = pass_values p.front part p.values (sym c.value_is);
              many = pass_many p.front part ∙ ap (λ (x : ℕ). x + 1) p.many;
              start = omega (arith, p.start, c.end_is, pass_words p.front part);
            },
          )

      pub find_reached : at + size ≤ length words
      find_reached = reached calls words (ValuesBefore (at + size) (j + 1)) size g.going find_part passes

      -- a turn of the loop
      pub find_next : Seeking calls words n m (at + size) (j + 1)
      find_next = record {
        going = onward calls words (ValuesBefore (at + size) (j + 1)) size g.going find_part passes;
        parts = g.parts;
        operands = g.operands;
      }
