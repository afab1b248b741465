-- The listing that the program writes, as ASCII bytes, and the outcome of the public call `listing`.
use Rattle.std.specs.Prelude.{ℕ, zero, suc, ◌+◌, ◌/◌, ◌%◌, ◌^◌, true, false, cond, List, [], ◌∷◌, ◌++◌, leb, take, length as len}
use Rattle.outcomes.specs.Text.{ascii}
use Rattle.outcomes.specs.Buffers.{overwrite}
use Rattle.outcomes.specs.declared.Answer.{Answer}

-- the first three bytes
abbrev pub okay : List ℕ
okay = ascii "ok "

abbrev pub nope : List ℕ
nope = ascii "no "

-- between two fields, and at the end of a line
abbrev pub space : ℕ
space = 32

abbrev pub newline : ℕ
newline = 10

-- a digit, hexadecimal ones in lower case
abbrev pub digit : ℕ → ℕ
digit d = cond (leb d 9) (48 + d) (87 + d)

-- the decimal digits of a number below 10 ^ 20, before what follows
unfoldable pub decimal_then : ℕ → ℕ → List ℕ → List ℕ
decimal_then zero n rest = rest
decimal_then (suc more) n rest = elim (n / 10) [
  | zero ↦ digit (n % 10) ∷ rest
  | suc m ↦ decimal_then more (n / 10) (digit (n % 10) ∷ rest)
]

unfoldable pub decimal : ℕ → List ℕ
decimal n = decimal_then 20 n []

-- the last k hexadecimal digits of a number
unfoldable pub hexadecimal : ℕ → ℕ → List ℕ
hexadecimal zero n = []
hexadecimal (suc k) n = digit (n / 16 ^ k % 16) ∷ hexadecimal k n

-- numbers with one space between
unfoldable pub fields : List ℕ → List ℕ
fields [] = []
fields (n ∷ []) = decimal n
fields (n ∷ m ∷ ns) = decimal n ++ space ∷ fields (m ∷ ns)

-- one word a line
unfoldable pub lines : List ℕ → List ℕ
lines [] = []
lines (w ∷ ws) = hexadecimal 16 w ++ newline ∷ lines ws

-- the bytes: accepted, type, length and counts and then the words; refused, the number and the counts
unfoldable pub listing_of : Answer → List ℕ → List ℕ
listing_of a ws = elim a.refusal [
  | zero ↦ okay ++ (fields (a.ty ∷ a.length ∷ a.counts) ++ newline ∷ lines ws)
  | suc n ↦ nope ++ (fields (suc n ∷ a.counts) ++ newline ∷ [])
]

-- what is written to a buffer of bytes: how many, and the buffer's final bytes
pub record Written : Type 0 where
  pub length : ℕ
  pub buffer : List ℕ

-- bytes written to a buffer's front; a buffer that is too short is unchanged, and length 0 tells so
unfoldable pub written_to : List ℕ → List ℕ → Written
written_to buffer bytes = elim (leb (len bytes) (len buffer)) [
  | false ↦ record { length = 0; buffer = buffer }
  | true ↦ record { length = len bytes; buffer = overwrite bytes buffer }
]

-- how many words an answer lists
abbrev pub words_listed : Answer → ℕ
words_listed a = elim a.refusal [ zero ↦ a.length | suc n ↦ 0 ]

-- The outcome, from an answer, the buffer whose leading words are the normal form, and the buffer of bytes at entry.
-- Where the words are fewer than the answer says, nothing is written and the length is 0.
unfoldable pub listing_outcome : Answer → List ℕ → List ℕ → Written
listing_outcome a output buffer = elim (leb (words_listed a) (len output)) [
  | false ↦ record { length = 0; buffer = buffer }
  | true ↦ written_to buffer (listing_of a (take a.length output))
]
