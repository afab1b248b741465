-- Whatever the program reads, what it writes fits 139,393 bytes: a refusal is at most 13, a type number below 1,024, a normal form at most
-- 8,192 words, and each of the ten counts at most the budget. So a text of that length gets the whole response.
use Prim.Native.Nat.{ℕ, zero, suc, ◌≤◌, ◌<◌}
use native.Mathlib.Omega.{arith}
use mathlib.Core.Path.{◌≡◌, refl}
use mathlib.Core.Bool.{Bool}
use mathlib.Core.List.{List, []}
use lib.ListN.{length, get_or, replicate}
use borrow.Author.Tests.{le-leb}
use Rattle.syntax.specs.Tables.{Tables}
use Rattle.syntax.specs.Term.{Term}
use Rattle.syntax.specs.Encoding.{size}
use Rattle.syntax.proofs.Options.{Every, every_at}
use Rattle.typing.specs.Refusals.{Verdict, refused, accepted, TypedTerm, elaborate, normalize_limit}
use Rattle.typing.proofs.Accepted.{Verdicts, passed, Passed, elaborated}
use Rattle.typing.proofs.Order.{refusal_of, refusal_below}
use Rattle.reduction.specs.MayDrop.{may_drop}
use Rattle.reduction.specs.Reduction.{Progress, stopped, reached, reduce}
use Rattle.reduction.proofs.Exact.{Exact, reduce_exact, reached_fits, refusal_number_lem}
use Rattle.reduction.proofs.CountsBounded.{zeros, counts_of, ten_counts, count_budget}
use Rattle.outcomes.specs.Buffers.{overwrite}
use Rattle.outcomes.specs.Listing.{listing_of, written_to}
use Rattle.outcomes.specs.Normalize.{Normalized, reduced_to, checked_to, normalize_within, max_capacity}
use Rattle.outcomes.specs.ReadBundle.{Reading, read_bundle_outcome, lengths_of}
use Rattle.outcomes.specs.Respond.{program_settings, bundle_words, tables_of, term_of, unread, listed, respond_to, response, respond_outcome}
use Rattle.theory.proofs.KnownTypes.{type_below}
use Rattle.bundles.proofs.ListingBound.{listing_some, listing_fits}

-- the numbers that are listed
record BoundedAnswer (r : Normalized) : Type 0 where
  refusal : r.answer.refusal ≤ 13
  type : r.answer.ty < 1024
  length_answered : r.answer.length ≤ max_capacity
  words : length r.words ≤ max_capacity
  ten : length r.answer.counts ≡ 10
  each : (i : ℕ) → get_or r.answer.counts i 0 ≤ 1000000

bounded_fits : (r : Normalized) → BoundedAnswer r → length (listed r) ≤ 139393
bounded_fits r b = listing_fits r.answer r.words (omega (arith, b.refusal)) (omega (arith, b.type)) b.length_answered
    b.words b.ten (λ i. omega (arith, b.each i))

-- refused with counts of zero
refused_bounded : (n : ℕ) → n ≤ 13 → BoundedAnswer (record { answer = unread n; words = [] })
refused_bounded n h = record {
  refusal = h;
  type = omega arith;
  length_answered = omega arith;
  words = omega arith;
  ten = refl;
  each = λ i. omega (arith, zeros 10 i);
}

module _ (pure : Term → Bool) where
  -- reduced, to a refusal or to a normal form
  reduced_bounded : (A : ℕ) (t : Term) (p : Progress) → A < 1024 → Exact pure max_capacity program_settings t p
      → length (counts_of p) ≡ 10 → ((i : ℕ) → get_or (counts_of p) i 0 ≤ program_settings.budget) → BoundedAnswer (reduced_to A p)
  unfolding reduced_to size
  reduced_bounded A t (stopped n counts) h x ten each = record {
    refusal = omega (arith, (refusal_number_lem pure max_capacity x).1);
    type = omega arith;
    length_answered = omega arith;
    words = omega arith;
    ten = ten;
    each = each;
  }
  reduced_bounded A t (reached left u counts) h x ten each = record {
    refusal = omega arith;
    type = h;
    length_answered = reached_fits pure max_capacity x;
    words = reached_fits pure max_capacity x;
    ten = ten;
    each = each;
  }

  -- refused by a check, or reduced
  checked_bounded : (tables : Tables) (words : List ℕ) (v : Verdict TypedTerm) → Every (λ n. n ≤ 9) (refusal_of v)
      → Verdicts (Passed normalize_limit tables words) v → BoundedAnswer (checked_to pure max_capacity program_settings v)
  unfolding checked_to
  checked_bounded tables words (refused n) h v = refused_bounded n (omega (arith, every_at n h refl))
  checked_bounded tables words (accepted x) h (passed p) =
      let t = x.term in
      reduced_bounded x.type t (reduce pure max_capacity program_settings t) (type_below normalize_limit tables words x p)
      (reduce_exact pure max_capacity program_settings t) (ten_counts pure max_capacity program_settings t)
      (count_budget pure max_capacity program_settings t)

normalized_bounded : (tables : Tables) (words : List ℕ) → BoundedAnswer (normalize_within max_capacity program_settings tables words)
unfolding normalize_within
normalized_bounded tables words = checked_bounded (may_drop tables.calls) tables words (elaborate normalize_limit tables words)
    (refusal_below normalize_limit tables words) (elaborated normalize_limit tables words)

-- a reading is refused with 12 or not at all
reading_refusal : (bytes slice : List ℕ) → (read_bundle_outcome bytes slice).lengths.refusal ≤ 12
unfolding read_bundle_outcome lengths_of
reading_refusal bytes slice = grind arith

-- what is written is the listing of an answer with bounded numbers
record ListsAnswer (bytes : List ℕ) : Type 0 where
  result : Normalized
  bounded : BoundedAnswer result
  is : bytes ≡ listed result

reading_lists : (r : Reading) → r.lengths.refusal ≤ 12 → ListsAnswer (respond_to r)
unfolding respond_to
reading_lists r h = by_refusal r.lengths.refusal h
  where
    normalized : Normalized
    normalized = normalize_within max_capacity program_settings (tables_of r.lengths r.words) (term_of r.lengths r.words)

    by_refusal : (n : ℕ) → n ≤ 12 → ListsAnswer (elim n [ zero ↦ listed normalized | suc m ↦ listing_of (unread (suc m)) [] ])
    by_refusal zero k = record {
      result = normalized;
      bounded = normalized_bounded (tables_of r.lengths r.words) (term_of r.lengths r.words);
      is = refl;
    }
    by_refusal (suc m) k = record {
      result = record { answer = unread (suc m); words = [] };
      bounded = refused_bounded (suc m) (omega (arith, k));
      is = refl;
    }

response_lists : (bytes : List ℕ) → ListsAnswer (response bytes)
unfolding response
response_lists bytes = reading_lists (read_bundle_outcome bytes (replicate bundle_words 0)) (reading_refusal bytes (replicate bundle_words 0))

-- the response to any bytes is not empty and at most so long
pub response_fits : (bytes : List ℕ) → length (response bytes) ≤ 139393
response_fits bytes = let r = response_lists bytes in rw r.is (bounded_fits r.result r.bounded)

pub response_some : (bytes : List ℕ) → 0 < length (response bytes)
response_some bytes = let r = response_lists bytes in rw r.is (listing_some r.result.answer r.result.words)

-- A text of so many bytes gets all of the response; its length is above 0, so it is not the 0 of a text that is too short.
pub response_written : (bytes text : List ℕ) → 139393 ≤ length text
    → respond_outcome bytes text ≡ record { length = length (response bytes); buffer = overwrite (response bytes) text }
unfolding respond_outcome written_to
response_written bytes text h =
    let fits : length (response bytes) ≤ length text = omega (arith, response_fits bytes) in
    rw (le-leb (length (response bytes)) (length text) fits, written_to)
