-- Which inputs a term reads: cases of the public call `free_inputs`.
use Rattle.std.specs.Prelude.{ℕ, zero, suc, ◌+◌, ◌-◌, ◌^◌, List, [], ◌∷◌, replicate}
use Rattle.syntax.specs.Tables.{Tables}
use Rattle.syntax.specs.Term.{Term, var, lam, bind, pair, fst, inr, case}
use Rattle.syntax.specs.Encoding.{encode}
use Rattle.outcomes.specs.FreeInputs.{free_inputs_outcome}
use Rattle.outcomes.specs.declared.FreeInputs.{FreeInputs}
use Rattle.cases.specs.Table.{tables_with, c, d, v0, v1}

-- the words asked, and the answer expected
pub record Reading : Type 0 where
  pub tables : Tables
  pub words : List ℕ
  pub answer : FreeInputs

unfoldable pub asked : Reading → FreeInputs
asked x = free_inputs_outcome x.tables x.words

unfoldable pub told : Reading → FreeInputs
told x = x.answer

-- no input
abbrev pub none : List ℕ
none = 0 ∷ 0 ∷ 0 ∷ 0 ∷ []

-- a term over so many inputs of type 0: its four words of marks, and how many are marked
abbrev over : ℕ → Term → List ℕ → ℕ → Reading
over n t marks count = record {
  tables = tables_with (replicate n 0);
  words = encode t;
  answer = record { refusal = 0; marks = marks; count = count };
}

-- words that are refused
abbrev refuse : List ℕ → List ℕ → ℕ → Reading
refuse inputs words n = record {
  tables = tables_with inputs;
  words = words;
  answer = record { refusal = n; marks = none; count = 0 };
}

-- the marks of input 0 alone, and of inputs 0 and 1
abbrev pub first : List ℕ
first = 2 ^ 63 ∷ 0 ∷ 0 ∷ 0 ∷ []

abbrev two : List ℕ
two = (2 ^ 63 + 2 ^ 62) ∷ 0 ∷ 0 ∷ 0 ∷ []

-- n lets, each in the body of the one before, the first under d binders; the let under e binders binds input e
abbrev every : ℕ → ℕ → Term
every zero d = v0
every (suc n) d = bind (var (d + d)) (every n (suc d))

unfoldable pub inputs_read : List Reading
inputs_read =
    -- input 0 is the highest bit of the first word, input 64 that of the second, and input 255 the lowest of the last
    over 1 v0 first 1
    ∷ over 256 (var 63) (1 ∷ 0 ∷ 0 ∷ 0 ∷ []) 1
    ∷ over 256 (var 64) (0 ∷ 2 ^ 63 ∷ 0 ∷ 0 ∷ []) 1
    ∷ over 256 (var 255) (0 ∷ 0 ∷ 0 ∷ 1 ∷ []) 1
    -- all 256; none, with inputs and without
    ∷ over 256 (every 256 0) (replicate 4 (2 ^ 64 - 1)) 256
    ∷ over 2 c none 0
    ∷ over 0 c none 0
    -- an input that is used twice is marked once
    ∷ over 1 (pair 2 v0 v0) first 1
    -- under one binder variable 1 is input 0, and variable 0 is no input
    ∷ over 1 (lam 1 v1) first 1
    ∷ over 1 (lam 1 v0) none 0
    -- an unused let, and a branch that is never taken
    ∷ over 2 (bind (d v0) (var 2)) two 2
    ∷ over 2 (case (inr 3 v0) (var 2) v0) two 2
    -- refused: 9 with a variable that names an input, 8, no term word, 8,193 words
    ∷ refuse (0 ∷ []) (encode (fst v0)) 9
    ∷ refuse (0 ∷ []) (encode v1) 8
    ∷ refuse (0 ∷ []) [] 1
    ∷ refuse (0 ∷ []) (replicate 8193 0) 1
    ∷ []
