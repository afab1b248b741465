-- Paper 01's proved table, cases A to L.
use Rattle.std.specs.Prelude.{ℕ, ◌-◌, List, [], ◌∷◌, ◌++◌, length, replicate}
use Rattle.syntax.specs.Words.{pack}
use Rattle.syntax.specs.Tables.{Tables}
use Rattle.syntax.specs.Term.{Term, var, call, lam, app, bind, pair, fst, inl, case, done, arg}
use Rattle.syntax.specs.Encoding.{encode}
use Rattle.reduction.specs.declared.Settings.{Settings}
use Rattle.reduction.specs.Reduction.{Counts, zero_counts, no_ceilings}
use Rattle.outcomes.specs.Normalize.{Buffers, Outcome, normalize_outcome}

-- the lengths of the three buffers; paper 01's room is the shortest
pub record BufferLengths : Type 0 where
  pub output : ℕ
  pub scratch₁ : ℕ
  pub scratch₂ : ℕ

abbrev pub lengths : ℕ → ℕ → ℕ → BufferLengths
lengths o s₁ s₂ = record { output = o; scratch₁ = s₁; scratch₂ = s₂ }

-- longer than any term of the table
abbrev pub roomy : BufferLengths
roomy = lengths 18 17 16

-- a case: tables, term words, settings and buffers, and the expected refusal, type, counts and words
pub record Case : Type 0 where
  pub tables : Tables
  pub words : List ℕ
  pub settings : Settings
  pub buffers : BufferLengths
  pub refusal : ℕ
  pub type : ℕ
  pub counts : Counts
  pub result : List ℕ

-- what a buffer holds before a call, and what a scratch buffer holds after it
abbrev pub nines : ℕ → List ℕ
nines n = replicate n 9

abbrev zeros : ℕ → List ℕ
zeros n = replicate n 0

-- the type table: a base type, and over it a function, a product and a sum type; the call table: c takes nothing, d one argument; every
-- type in it is the base type
abbrev pub tables_with : List ℕ → Tables
tables_with inputs = record { types = pack 0 0 0 ∷ pack 1 0 0 ∷ pack 2 0 0 ∷ pack 3 0 0 ∷ []; calls = 0 ∷ pack 1 0 0 ∷ []; inputs = inputs }

abbrev pub c : Term
c = call 0 done

abbrev pub d : Term → Term
d t = call 1 (arg t done)

abbrev pub v0 : Term
v0 = var 0

abbrev pub v1 : Term
v1 = var 1

-- accepted with a type; the counts, in the order of `Rule`
abbrev pub accepts_over : ℕ → Tables → Term → Term → Counts → Case
accepts_over type tables t u counts =
    record {
      tables = tables;
      words = encode t;
      settings = no_ceilings 1000000;
      buffers = roomy;
      refusal = 0;
      type = type;
      counts = counts;
      result = encode u;
    }

abbrev pub accepts : List ℕ → Term → Term → Counts → Case
accepts inputs t u counts = accepts_over 0 (tables_with inputs) t u counts

-- under settings, and under a budget alone
abbrev pub under : Settings → BufferLengths → List ℕ → Term → ℕ → Counts → List ℕ → Case
under settings buffers inputs t refusal counts result =
    record {
      tables = tables_with inputs;
      words = encode t;
      settings = settings;
      buffers = buffers;
      refusal = refusal;
      type = 0;
      counts = counts;
      result = result;
    }

abbrev pub limited : ℕ → BufferLengths → Term → ℕ → Counts → List ℕ → Case
limited budget buffers t refusal counts result = under (no_ceilings budget) buffers [] t refusal counts result

abbrev pub refuses : Tables → List ℕ → ℕ → Case
refuses tables words n = record {
  tables = tables;
  words = words;
  settings = no_ceilings 1000000;
  buffers = roomy;
  refusal = n;
  type = 0;
  counts = zero_counts;
  result = [];
}

abbrev pub A : Term
A = app (lam 1 (d v0)) c

abbrev pub A' : Term
A' = bind c (d v0)

-- buffers of 9s
abbrev pub holding : BufferLengths → Buffers
holding b = record { output = nines b.output; scratch₁ = nines b.scratch₁; scratch₂ = nines b.scratch₂ }

-- what the definitions make of a case: the outcome of the call
unfoldable pub computed : Case → Outcome
computed x = normalize_outcome x.settings x.tables x.words (holding x.buffers)

-- what paper 01 says of it: the answer, the result at the output's front and its rest unchanged, and scratch buffers of zeros
unfoldable pub expected : Case → Outcome
expected x = record {
  answer = record { refusal = x.refusal; ty = x.type; length = length x.result; counts = x.counts };
  buffers = record {
    output = x.result ++ nines (x.buffers.output - length x.result);
    scratch₁ = zeros x.buffers.scratch₁;
    scratch₂ = zeros x.buffers.scratch₂;
  };
}

unfoldable pub table : List Case
table =
    accepts [] A A' (1 ∷ 0 ∷ 0 ∷ 1 ∷ 0 ∷ 0 ∷ 0 ∷ 0 ∷ 0 ∷ 0 ∷ [])
    -- B, C, D, E
    ∷ accepts (0 ∷ []) v0 v0 zero_counts
    ∷ accepts (0 ∷ 0 ∷ []) (fst (pair 2 v0 v1)) v0 (0 ∷ 0 ∷ 0 ∷ 0 ∷ 1 ∷ 0 ∷ 0 ∷ 0 ∷ 0 ∷ 0 ∷ [])
    ∷ accepts (0 ∷ []) (bind c v1) v0 (0 ∷ 0 ∷ 0 ∷ 0 ∷ 0 ∷ 0 ∷ 0 ∷ 0 ∷ 0 ∷ 1 ∷ [])
    ∷ accepts (0 ∷ []) (case (inl 3 v0) v0 v0) v0 (0 ∷ 0 ∷ 0 ∷ 0 ∷ 0 ∷ 0 ∷ 1 ∷ 0 ∷ 0 ∷ 0 ∷ [])
    -- F, G
    ∷ accepts (3 ∷ []) (bind (case v0 v0 v0) (d v0)) (case v0 (d v0) (d v0)) (0 ∷ 0 ∷ 1 ∷ 0 ∷ 0 ∷ 0 ∷ 0 ∷ 0 ∷ 2 ∷ 0 ∷ [])
    ∷ accepts [] (d (d c)) (bind c (bind (d v0) (d v0))) (2 ∷ 1 ∷ 0 ∷ 0 ∷ 0 ∷ 0 ∷ 0 ∷ 0 ∷ 0 ∷ 0 ∷ [])
    -- H: budget 1, and 2
    ∷ limited 1 roomy A 10 (1 ∷ 0 ∷ 0 ∷ 0 ∷ 0 ∷ 0 ∷ 0 ∷ 0 ∷ 0 ∷ 0 ∷ []) []
    ∷ limited 2 roomy A 0 (1 ∷ 0 ∷ 0 ∷ 1 ∷ 0 ∷ 0 ∷ 0 ∷ 0 ∷ 0 ∷ 0 ∷ []) (encode A')
    -- I: capacity 6 by each of the buffers, and 7; J: capacity 6 and budget 0
    ∷ limited 1000000 (lengths 6 7 8) A 11 zero_counts []
    ∷ limited 1000000 (lengths 8 6 7) A 11 zero_counts []
    ∷ limited 1000000 (lengths 7 8 6) A 11 zero_counts []
    ∷ limited 1000000 (lengths 8 7 9) A 0 (1 ∷ 0 ∷ 0 ∷ 1 ∷ 0 ∷ 0 ∷ 0 ∷ 0 ∷ 0 ∷ 0 ∷ []) (encode A')
    ∷ limited 0 (lengths 6 6 6) A 10 zero_counts []
    -- K: two words v0, v0; L: a function type that is its own part
    ∷ refuses (tables_with (0 ∷ [])) (encode v0 ++ encode v0) 7
    ∷ refuses (record { types = pack 1 0 0 ∷ []; calls = []; inputs = 0 ∷ [] }) (encode v0) 2
    ∷ []
