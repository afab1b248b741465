-- The listing of a normalization: the words that the answer counts are those at the output's front.
use Prim.Native.Nat.{ℕ, ◌≤◌}
use native.Mathlib.Omega.{arith}
use mathlib.Core.Path.{◌≡◌, refl, ◌∙◌, ap}
use mathlib.Core.List.{List, [], ◌++◌}
use lib.ListN.{length, drop, length-append}
use borrow.Author.Tests.{le-leb}
use Rattle.std.specs.Prelude.{Err}
use Rattle.syntax.specs.Tables.{Tables}
use Rattle.syntax.specs.Encoding.{size}
use Rattle.reduction.specs.declared.Settings.{Settings}
use Rattle.outcomes.specs.Buffers.{overwrite}
use Rattle.outcomes.specs.Listing.{listing_of, Written, written_to, words_listed, listing_outcome}
use Rattle.outcomes.specs.Normalize.{Normalized, reduced_to, checked_to, normalize_within, Buffers, capacity_of, max_capacity, Outcome}
use Rattle.outcomes.specs.Normalize.{normalize_outcome}
use Rattle.outcomes.specs.declared.Refusal.{Refusal}
use Rattle.outcomes.specs.Refusal.{number_of}
use Rattle.outcomes.specs.ReadBundle.{LengthsRead, lengths_read, total, lengths_of, header_of, words_after, read_bundle_outcome}
use Rattle.outcomes.specs.Respond.{program_settings, unread, listed, respond_to}
use Rattle.outcomes.specs.declared.Answer.{Answer}
use Rattle.outcomes.proofs.Numbers.{number_some}
use Rattle.theory.proofs.ContractHolds.{take_front}
use Rattle.bundles.proofs.Bytes.{length-words}

-- the answer's length is that of the words
abbrev WordsCounted : Normalized → Type 0
WordsCounted r = r.answer.length ≡ length r.words

normalized_counted : (capacity : ℕ) (settings : Settings) (tables : Tables) (words : List ℕ)
    → WordsCounted (normalize_within capacity settings tables words)
unfolding normalize_within checked_to reduced_to size
normalized_counted capacity settings tables words = grind arith

-- no more words are listed than counted
listed_at_most : (a : Answer) → words_listed a ≤ a.length
listed_at_most a = grind arith

-- listing from a buffer that starts with the words
front_listed : (r : Normalized) (output text : List ℕ) → WordsCounted r
    → listing_outcome r.answer (overwrite r.words output) text ≡ written_to text (listed r)
unfolding listing_outcome overwrite
front_listed r output text e =
    let rest = drop (length r.words) output in
    let within : words_listed r.answer ≤ length (r.words ++ rest) =
    omega (arith, listed_at_most r.answer, e, length-append r.words rest) in
    rw (le-leb (words_listed r.answer) (length (r.words ++ rest)) within, listing_outcome, e, take_front r.words rest)

-- an outcome of normalization with the program's settings, then listed
pub listing_normalized : (settings : Settings) (tables : Tables) (words : List ℕ) (before after : Buffers) (answer : Answer)
    (text : List ℕ) (told : Written) → settings ≡ program_settings → capacity_of before ≡ max_capacity
    → record { answer = answer; buffers = after } ≡ normalize_outcome settings tables words before
    → told ≡ listing_outcome answer after.output text
    → told ≡ written_to text (listed (normalize_within max_capacity program_settings tables words))
unfolding normalize_outcome
listing_normalized settings tables words before after answer text told s c e t =
    t ∙ ap (λ (o : Outcome). listing_outcome o.answer o.buffers.output text) e
    ∙ rw (c, s) (front_listed (normalize_within max_capacity program_settings tables words) before.output text
    (normalized_counted max_capacity program_settings tables words))

-- three buffers of the largest capacity
pub full_capacity : (output first second : List ℕ) → length output ≡ max_capacity → length first ≡ max_capacity → length second ≡ max_capacity
    → capacity_of (record { output = output; scratch₁ = first; scratch₂ = second }) ≡ max_capacity
unfolding capacity_of
full_capacity output first second o f s = rw (o, f, s)

-- a refusal alone, from any words
pub refusal_listed : (n : ℕ) (output text : List ℕ) (told : Written) → told ≡ listing_outcome (unread n) output text
    → told ≡ written_to text (listing_of (unread n) [])
unfolding overwrite
refusal_listed n output text told e = e ∙ front_listed (record { answer = unread n; words = [] }) output text refl

-- what is written for a reading that is refused
pub refused_response : (l : LengthsRead) (ws : List ℕ) → (l.refusal ≡ 0 → ⊥)
    → respond_to (record { lengths = l; words = ws }) ≡ listing_of (unread l.refusal) []
unfolding respond_to
refused_response l ws z = grind (arith, z)

-- with the number of a refusal
pub err_response : (why : Refusal) (ws : List ℕ)
    → respond_to (record { lengths = lengths_read (Err why); words = ws }) ≡ listing_of (unread (number_of why)) []
err_response why ws = refused_response (lengths_read (Err why)) ws (number_some why)

-- the words of a reading are all in the slice
pub reading_fits : (bytes slice : List ℕ) (l : LengthsRead) (ws : List ℕ)
    → record { lengths = l; words = ws } ≡ read_bundle_outcome bytes slice → total l ≤ length ws
unfolding read_bundle_outcome overwrite words_after
reading_fits bytes slice l ws e =
    let n = total (lengths_of (header_of bytes)) in
    grind (arith, length-words n (drop 8 bytes), length-append (words_after bytes) (drop (length (words_after bytes)) slice))
