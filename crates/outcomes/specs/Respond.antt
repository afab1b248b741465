-- The program as one function from the bytes it reads to the bytes it writes, and the outcome of the public call `respond`.
use Rattle.std.specs.Prelude.{ℕ, zero, suc, ◌+◌, List, [], take, drop, replicate}
use Rattle.syntax.specs.Tables.{Tables}
use Rattle.reduction.specs.declared.Settings.{Settings}
use Rattle.reduction.specs.Reduction.{no_ceilings, zero_counts}
use Rattle.outcomes.specs.declared.Answer.{Answer}
use Rattle.outcomes.specs.Normalize.{Normalized, normalize_within, max_capacity}
use Rattle.outcomes.specs.ReadBundle.{LengthsRead, Reading, read_bundle_outcome}
use Rattle.outcomes.specs.Listing.{listing_of, Written, written_to}

-- the program's settings: a budget and no ceilings
abbrev pub program_settings : Settings
program_settings = no_ceilings 1000000

-- as many words as a bundle of 65,536 bytes has
abbrev pub bundle_words : ℕ
bundle_words = 8192

-- the tables, and the term words, of words that are read
unfoldable pub tables_of : LengthsRead → List ℕ → Tables
tables_of l ws = record {
  types = take l.types ws;
  calls = take l.calls (drop l.types ws);
  inputs = take l.inputs (drop (l.types + l.calls) ws);
}

unfoldable pub term_of : LengthsRead → List ℕ → List ℕ
term_of l ws = take l.words (drop (l.types + (l.calls + l.inputs)) ws)

-- a bundle that is not readable
abbrev pub unread : ℕ → Answer
unread n = record { refusal = n; ty = 0; length = 0; counts = zero_counts }

abbrev pub listed : Normalized → List ℕ
listed r = listing_of r.answer r.words

-- what the program writes for a reading
unfoldable pub respond_to : Reading → List ℕ
respond_to r = elim r.lengths.refusal [
  | zero ↦ listed (normalize_within max_capacity program_settings (tables_of r.lengths r.words) (term_of r.lengths r.words))
  | suc n ↦ listing_of (unread (suc n)) []
]

-- what the program writes, from what it reads
unfoldable pub response : List ℕ → List ℕ
response bytes = respond_to (read_bundle_outcome bytes (replicate bundle_words 0))

-- the outcome, from the bytes read and the buffer of bytes at entry
unfoldable pub respond_outcome : List ℕ → List ℕ → Written
respond_outcome bytes buffer = written_to buffer (response bytes)
