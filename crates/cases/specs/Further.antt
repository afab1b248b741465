-- Cases beside paper 01's table: each refusal from 2 to 9, rules and traps that A to L leave out, the calls that do not normalize, and
-- bundles that are refused.
use Rattle.std.specs.Prelude.{ℕ, ◌+◌, ◌*◌, ◌^◌, Bool, true, false, List, [], ◌∷◌, ◌++◌, replicate, take}
use Rattle.syntax.specs.Words.{pack}
use Rattle.syntax.specs.Tables.{Tables, over}
use Rattle.syntax.specs.Term.{Term, var, lam, bind, pair, fst, snd, inr, case}
use Rattle.syntax.specs.Encoding.{encode}
use Rattle.reduction.specs.Reduction.{Counts, zero_counts}
use Rattle.outcomes.specs.Check.{Checked, check_outcome}
use Rattle.outcomes.specs.IsNormal.{Tested, is_normal_outcome}
use Rattle.outcomes.specs.ReadBundle.{Reading, unreadable}
use Rattle.outcomes.specs.Text.{ascii}
use Rattle.cases.specs.Table.{Case, nines, tables_with, c, d, v0, v1, A, A', accepts_over, accepts, refuses}
use Rattle.cases.specs.Sample.{bundle_of, bundle}

-- a call word: the count, the result type, the argument types
abbrev pub call_word : ℕ → ℕ → ℕ → ℕ → ℕ → ℕ
call_word n r a b c = n * 2 ^ 60 + (r * 2 ^ 45 + (a * 2 ^ 30 + (b * 2 ^ 15 + c)))

-- paper 01's types, with one call, and an input of type 0
abbrev pub calling : ℕ → Tables
calling w = over (tables_with []).types (w ∷ []) (0 ∷ [])

-- these types, no call, and an input of type 0
abbrev typing : List ℕ → Tables
typing types = over types [] (0 ∷ [])

-- accepted with a product as its type
abbrev pairs : List ℕ → Term → Term → Counts → Case
pairs inputs t u counts = accepts_over 2 (tables_with inputs) t u counts

abbrev pub v2 : Term
v2 = var 2

abbrev pub v3 : Term
v3 = var 3

unfoldable pub further : List Case
further =
    -- 2: a kind over 4, also after a duplicated word; a base type's unused field set. 3: a duplicated word
    refuses (typing (pack 0 0 0 ∷ pack 5 0 0 ∷ [])) (encode v0) 2
    ∷ refuses (typing (pack 0 0 0 ∷ pack 0 0 0 ∷ pack 5 0 0 ∷ [])) (encode v0) 2
    ∷ refuses (typing (pack 0 0 1 ∷ [])) (encode v0) 2
    ∷ refuses (typing (pack 0 0 0 ∷ pack 0 0 0 ∷ [])) (encode v0) 3
    -- 4: a count over 3, an unknown result, an unknown argument, an unused field set
    ∷ refuses (calling (call_word 4 0 0 0 0)) (encode v0) 4
    ∷ refuses (calling (call_word 0 4 0 0 0)) (encode v0) 4
    ∷ refuses (calling (call_word 1 0 4 0 0)) (encode v0) 4
    ∷ refuses (calling (call_word 1 0 0 1 0)) (encode v0) 4
    -- 5: an unknown type, also one whose low bits are a known type
    ∷ refuses (tables_with (4 ∷ [])) (encode v0) 5
    ∷ refuses (tables_with (2 ^ 60 ∷ [])) (encode v0) 5
    -- 6: a kind over 11, an unused type field and an unused number set, an unknown call, an unknown type
    ∷ refuses (tables_with (0 ∷ [])) (pack 12 0 0 ∷ []) 6
    ∷ refuses (tables_with (0 ∷ [])) (pack 0 0 1 ∷ []) 6
    ∷ refuses (tables_with (0 ∷ [])) (pack 2 1 1 ∷ encode v0) 6
    ∷ refuses (tables_with (0 ∷ [])) (pack 1 2 0 ∷ []) 6
    ∷ refuses (tables_with (0 ∷ [])) (pack 2 0 4 ∷ encode v0) 6
    -- 7: words end early. 8: past the last input, and past the last binder with no input
    ∷ refuses (tables_with (0 ∷ [])) (pack 6 0 0 ∷ []) 7
    ∷ refuses (tables_with (0 ∷ [])) (encode v1) 8
    ∷ refuses (tables_with []) (encode (lam 1 v1)) 8
    -- 9: first of a base type, an argument of another type, branches of two types
    ∷ refuses (tables_with (0 ∷ [])) (encode (fst v0)) 9
    ∷ refuses (tables_with (2 ∷ [])) (encode (d v0)) 9
    ∷ refuses (tables_with (3 ∷ [])) (encode (case v0 v0 v1)) 9
    -- second; right case, which leaves the left branch's call
    ∷ accepts (0 ∷ 0 ∷ []) (snd (pair 2 v0 v1)) v1 (0 ∷ 0 ∷ 0 ∷ 0 ∷ 0 ∷ 1 ∷ 0 ∷ 0 ∷ 0 ∷ 0 ∷ [])
    ∷ accepts (0 ∷ []) (case (inr 3 v0) c v0) v0 (0 ∷ 0 ∷ 0 ∷ 0 ∷ 0 ∷ 0 ∷ 0 ∷ 1 ∷ 0 ∷ 0 ∷ [])
    -- one call whose answer is used twice
    ∷ pairs [] (bind c (pair 2 v0 v0)) (bind c (pair 2 v0 v0)) zero_counts
    -- a let that moves outwards, and one that is copied into both branches: the variables past it are renumbered
    ∷ pairs (0 ∷ []) (bind (bind c (d v0)) (pair 2 v0 v1)) (bind c (bind (d v0) (pair 2 v0 v2)))
    (0 ∷ 1 ∷ 0 ∷ 0 ∷ 0 ∷ 0 ∷ 0 ∷ 0 ∷ 0 ∷ 0 ∷ [])
    ∷ pairs (3 ∷ 0 ∷ []) (bind (case v0 v0 c) (pair 2 v0 v2)) (case v0 (pair 2 v0 v2) (bind c (pair 2 v0 v3)))
    (0 ∷ 0 ∷ 1 ∷ 0 ∷ 0 ∷ 0 ∷ 0 ∷ 0 ∷ 1 ∷ 0 ∷ [])
    -- a let that binds a value is not moved
    ∷ accepts (0 ∷ []) (bind (bind v0 (d v0)) (d v0)) (bind (d v0) (d v0)) (0 ∷ 0 ∷ 0 ∷ 0 ∷ 0 ∷ 0 ∷ 0 ∷ 0 ∷ 1 ∷ 0 ∷ [])
    -- a drop that frees an earlier let: both are dropped
    ∷ accepts (0 ∷ []) (bind c (bind (d v0) v2)) v0 (0 ∷ 0 ∷ 0 ∷ 0 ∷ 0 ∷ 0 ∷ 0 ∷ 0 ∷ 0 ∷ 2 ∷ [])
    ∷ []

-- The type check and the test for normal forms, asked of the same words: the expected refusal, type, and whether it is normal.
pub record Question : Type 0 where
  pub tables : Tables
  pub words : List ℕ
  pub refusal : ℕ
  pub type : ℕ
  pub normal : Bool

pub record Replies : Type 0 where
  pub check : Checked
  pub is_normal : Tested

abbrev pub asks : Tables → List ℕ → ℕ → ℕ → Bool → Question
asks tables words refusal type normal =
    record { tables = tables; words = words; refusal = refusal; type = type; normal = normal }

unfoldable pub replied : Question → Replies
replied x = record { check = check_outcome x.tables x.words; is_normal = is_normal_outcome x.tables x.words }

unfoldable pub awaited : Question → Replies
awaited x = record {
  check = record { refusal = x.refusal; ty = x.type };
  is_normal = record { refusal = x.refusal; normal = x.normal };
}

unfoldable pub questions : List Question
questions =
    asks (tables_with []) (encode A) 0 0 false
    ∷ asks (tables_with []) (encode A') 0 0 true
    ∷ asks (tables_with []) (encode (bind c (pair 2 v0 v0))) 0 2 true
    ∷ asks (tables_with (0 ∷ [])) (encode (fst v0)) 9 0 false
    -- 8,192 term words are not too many, 8,193 are
    ∷ asks (tables_with (0 ∷ [])) (replicate 8192 0) 7 0 false
    ∷ asks (tables_with (0 ∷ [])) (replicate 8193 0) 1 0 false
    ∷ []

-- bundles that are refused: no byte, under 8, over 65,536 with the length that the header gives, the header's low bits set, a byte too
-- few, a word too many
unfoldable pub bad_bundles : List (List ℕ)
unfolding bundle_of bundle
bad_bundles =
    []
    ∷ replicate 7 0
    ∷ (bundle_of (0x0008000001fff000 ∷ []) ++ replicate 65536 0)
    ∷ bundle_of (0x0000000000000001 ∷ [])
    ∷ take 95 bundle
    ∷ (bundle ++ replicate 8 0)
    ∷ []

abbrev pub no12 : List ℕ → List ℕ
no12 bytes = ascii "no 12 0 0 0 0 0 0 0 0 0 0\n"

-- a bundle of 65,536 bytes is read: its 8,191 term words are too many
unfoldable pub largest : List ℕ
unfolding bundle_of
largest = bundle_of (0x0000000001fff000 ∷ []) ++ replicate 65528 0

-- the sample bundle, whose header is followed by 11 words, read into a slice of 10 words and into one of 12
unfoldable pub slices : List (List ℕ)
slices = nines 10 ∷ nines 12 ∷ []

unfoldable pub readings : List Reading
readings =
    record { lengths = unreadable; words = nines 10 }
    ∷ record {
      lengths = record { refusal = 0; types = 4; calls = 2; inputs = 0; words = 5 };
      words = (tables_with []).types ++ ((tables_with []).calls ++ (encode A ++ nines 1));
    }
    ∷ []
