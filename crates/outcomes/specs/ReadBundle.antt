-- Bundles (words most significant byte first, a header of four lengths, then the tables), and the outcome of the public call `read_bundle`.
use Rattle.std.specs.Prelude.{ℕ, zero, suc, ◌+◌, ◌*◌, ◌/◌, ◌%◌, ◌^◌, Bool, true, false, ◌&&◌, List, [], ◌∷◌, leb, eqb, length, take, drop}
use Rattle.std.specs.Prelude.{Result, Ok, Err}
use Rattle.outcomes.specs.Buffers.{overwrite}
use Rattle.outcomes.specs.declared.Lengths.{Lengths}
use Rattle.outcomes.specs.declared.Refusal.{Refusal}
use Rattle.outcomes.specs.Refusal.{number_of}

-- a number from its bytes, the most significant first, after the bytes read before
unfoldable pub from_bytes : ℕ → List ℕ → ℕ
from_bytes high [] = high
from_bytes high (b ∷ bs) = from_bytes (high * 256 + b) bs

-- the first n words of a list of bytes
unfoldable pub words_of : ℕ → List ℕ → List ℕ
words_of zero bytes = []
words_of (suc n) bytes = from_bytes 0 (take 8 bytes) ∷ words_of n (drop 8 bytes)

-- the answer: refusal 0 and the four lengths, or 12 and zeros
pub record LengthsRead : Type 0 where
  pub refusal : ℕ
  pub types : ℕ
  pub calls : ℕ
  pub inputs : ℕ
  pub words : ℕ

-- from what the call answers
abbrev pub lengths_read : Result Lengths Refusal → LengthsRead
lengths_read (Ok l) = record { refusal = 0; types = l.types; calls = l.calls; inputs = l.inputs; words = l.words }
lengths_read (Err r) = record { refusal = number_of r; types = 0; calls = 0; inputs = 0; words = 0 }

-- the four lengths that a header gives, 13 bits each
unfoldable pub lengths_of : ℕ → LengthsRead
lengths_of header = record {
  refusal = 0;
  types = header / 2 ^ 51;
  calls = header / 2 ^ 38 % 2 ^ 13;
  inputs = header / 2 ^ 25 % 2 ^ 13;
  words = header / 2 ^ 12 % 2 ^ 13;
}

-- how many words follow the header
abbrev pub total : LengthsRead → ℕ
total l = l.types + (l.calls + (l.inputs + l.words))

abbrev pub header_of : List ℕ → ℕ
header_of bytes = from_bytes 0 (take 8 bytes)

-- 12 unless: at most 65,536 bytes and at least 8, the header's low 12 bits zero, the length the header's, and words that the slice holds
unfoldable pub readable : List ℕ → ℕ → Bool
readable bytes capacity =
    leb (length bytes) 65536 && leb 8 (length bytes) && eqb (header_of bytes % 2 ^ 12) 0
    && eqb (length bytes) (8 * (1 + total (lengths_of (header_of bytes)))) && leb (total (lengths_of (header_of bytes))) capacity

-- the outcome: the four lengths, and the final words of the slice
pub record Reading : Type 0 where
  pub lengths : LengthsRead
  pub words : List ℕ

abbrev pub unreadable : LengthsRead
unreadable = record { refusal = 12; types = 0; calls = 0; inputs = 0; words = 0 }

-- the words after the header
unfoldable pub words_after : List ℕ → List ℕ
words_after bytes = words_of (total (lengths_of (header_of bytes))) (drop 8 bytes)

-- the outcome, from the bytes and the slice at entry: refused with 12 and the slice unchanged, or the words at its front
unfoldable pub read_bundle_outcome : List ℕ → List ℕ → Reading
read_bundle_outcome bytes slice = elim (readable bytes (length slice)) [
  | false ↦ record { lengths = unreadable; words = slice }
  | true ↦ record { lengths = lengths_of (header_of bytes); words = overwrite (words_after bytes) slice }
]
