-- Ceilings: each rule by itself, the order of 10, 13 and 11, and which ceiling decides.
use Rattle.std.specs.Prelude.{ℕ, List, [], ◌∷◌, ◌++◌, map, set, replicate}
use Rattle.syntax.specs.Term.{Term, lam, app, bind, pair, fst, snd, inl, inr, case}
use Rattle.syntax.specs.Encoding.{encode}
use Rattle.reduction.specs.declared.Settings.{Settings}
use Rattle.reduction.specs.Reduction.{zero_counts, no_ceilings}
use Rattle.cases.specs.Table.{Case, lengths, roomy, under, c, d, v0, v1, A, A'}

-- a budget and ten ceilings
abbrev ceiled : ℕ → List ℕ → Settings
ceiled budget ceilings = record { budget = budget; ceilings = ceilings }

-- no rule allowed; all but one; and one alone, so often
abbrev none : List ℕ
none = replicate 10 0

abbrev all_but : ℕ → List ℕ
all_but i = set (no_ceilings 0).ceilings i 0

abbrev only : ℕ → ℕ → List ℕ
only i n = set none i n

-- a term over inputs that one step, by the rule of an index, takes to its normal form
pub record Single : Type 0 where
  pub index : ℕ
  pub inputs : List ℕ
  pub term : Term
  pub result : Term

abbrev single : ℕ → List ℕ → Term → Term → Single
single i inputs t u = record { index = i; inputs = inputs; term = t; result = u }

unfoldable pub singles : List Single
singles =
    single 0 [] (d c) (bind c (d v0))
    ∷ single 1 [] (bind (bind c (d v0)) (d v0)) (bind c (bind (d v0) (d v0)))
    ∷ single 2 (3 ∷ []) (bind (case v0 c c) (d v0)) (case v0 (bind c (d v0)) (bind c (d v0)))
    ∷ single 3 (0 ∷ []) (app (lam 1 (d v0)) v0) (d v0)
    ∷ single 4 (0 ∷ 0 ∷ []) (fst (pair 2 v0 v1)) v0
    ∷ single 5 (0 ∷ 0 ∷ []) (snd (pair 2 v0 v1)) v1
    ∷ single 6 (0 ∷ []) (case (inl 3 v0) v0 c) v0
    ∷ single 7 (0 ∷ []) (case (inr 3 v0) c v0) v0
    ∷ single 8 (0 ∷ []) (bind v0 (d v0)) (d v0)
    ∷ single 9 (0 ∷ []) (bind c v1) v0
    ∷ []

-- refused where its rule alone is not allowed; accepted where its rule alone is, once
unfoldable pub barred : Single → Case
barred x = under (ceiled 1000000 (all_but x.index)) roomy x.inputs x.term 13 zero_counts []

unfoldable pub admitted : Single → Case
admitted x = under (ceiled 1 (only x.index 1)) roomy x.inputs x.term 0 (set zero_counts x.index 1) (encode x.result)

unfoldable pub ordered : List Case
ordered =
    -- case A: let, then apply. Its second term has 7 words: with capacity 6, budget 0 and ceiling 0 all three are met; then 13 and 11;
    -- then 11
    under (ceiled 0 none) (lengths 6 7 8) [] A 10 zero_counts []
    ∷ under (ceiled 1 none) (lengths 8 6 7) [] A 13 zero_counts []
    ∷ under (ceiled 1 (only 0 1)) (lengths 7 8 6) [] A 11 zero_counts []
    -- at the second step: 10 before 13, 13 with a budget of 2, and accepted with a ceiling of 1 for each of the two
    ∷ under (ceiled 1 (only 0 1)) (lengths 7 7 7) [] A 10 (only 0 1) []
    ∷ under (ceiled 2 (only 0 1)) (lengths 7 7 7) [] A 13 (only 0 1) []
    ∷ under (ceiled 2 (set (only 0 1) 3 1)) (lengths 7 7 7) [] A 0 (set (only 0 1) 3 1) (encode A')
    -- a term that is longer than the capacity is refused before all
    ∷ under (ceiled 0 none) (lengths 9 4 9) [] A 11 zero_counts []
    -- the second use of a rule: let twice, then let of let, with ceilings 1 and 1; 2 and 0; 2 and 1
    ∷ under (ceiled 9 (set (only 0 1) 1 1)) roomy [] (d (d c)) 13 (only 0 1) []
    ∷ under (ceiled 9 (only 0 2)) roomy [] (d (d c)) 13 (only 0 2) []
    ∷ under (ceiled 9 (set (only 0 2) 1 1)) roomy [] (d (d c)) 0 (set (only 0 2) 1 1) (encode (bind c (bind (d v0) (d v0))))
    -- the third phase with one drop allowed: where one is taken, and where two would be
    ∷ under (ceiled 9 (set (all_but 9) 9 1)) roomy (0 ∷ []) (bind c (bind c v0)) 0 (only 9 1) (encode (bind c v0))
    ∷ under (ceiled 9 (set (all_but 9) 9 1)) roomy [] (bind c (bind c (bind c v0))) 13 (only 9 1) []
    -- a ceiling of 0 bars a rule and not a term: no rule fits, and neither a ceiling nor the budget is looked at
    ∷ under (ceiled 0 none) roomy [] A' 0 zero_counts (encode A')
    ∷ []

unfoldable pub ceiling_cases : List Case
ceiling_cases = map barred singles ++ (map admitted singles ++ ordered)
