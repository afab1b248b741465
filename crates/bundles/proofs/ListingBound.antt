-- How long a listing gets: each field by the size of its number, each word a line of seventeen bytes.
use Rattle.std.proofs.Common.{Bool, true, false, leb, leb-true}
use Prim.Native.Nat.{ℕ, zero, suc, ◌*◌, ◌^◌, ◌≤◌, ◌<◌}
use native.Mathlib.Omega.{arith}
use mathlib.Core.Path.{◌≡◌, refl}
use mathlib.Core.List.{List, [], ◌∷◌}
use lib.ListN.{length, get_or, length-append}
use Rattle.outcomes.specs.Text.{ascii}
use Rattle.outcomes.specs.declared.Answer.{Answer}
use Rattle.outcomes.specs.Listing.{space, decimal, lines, listing_of, Written, written_to}
use Rattle.outcomes.specs.Respond.{response, respond_outcome}
use Rattle.bundles.specs.FirstLine.{accepted_line}
use Rattle.bundles.proofs.Decimal.{decimal_short}
use Rattle.bundles.proofs.ListedFields.{spaced, fields_size}
use Rattle.bundles.proofs.Lines.{length_lines}
use Rattle.bundles.proofs.WholeListing.{length_refused, length_accepted}
use Rattle.bundles.proofs.ListingOutcome.{listing_refused, listing_accepted}

-- numbers of 32 bits have at most ten digits
sizes_short : (ns : List ℕ) → ((k : ℕ) → get_or ns k 0 < 2 ^ 32) → length (spaced ns) ≤ 11 * length ns
sizes_short [] h = omega arith
sizes_short (n ∷ ns) h =
    omega (
      arith,
      length-append (decimal n) (space ∷ spaced ns),
      decimal_short 10 n (omega arith) (omega (arith, h 0)) (omega (arith, h 0)),
      sizes_short ns (λ k. h (suc k)),
    )

-- a listing is never empty
pub listing_some : (a : Answer) (ws : List ℕ) → 0 < length (listing_of a ws)
unfolding ascii
listing_some a ws = by_refusal a.refusal refl where
  by_refusal : (m : ℕ) → a.refusal ≡ m → 0 < length (listing_of a ws)
  by_refusal zero e = rw (listing_accepted a ws (omega arith)) (omega arith)
  by_refusal (suc m) e = rw (listing_refused a ws (omega arith)) (omega arith)

-- the listing of an answer of the program fits
pub listing_fits : (a : Answer) (ws : List ℕ) → a.refusal < 2 ^ 32 → a.ty < 2 ^ 32 → a.length ≤ 8192 → length ws ≤ 8192
    → length a.counts ≡ 10 → ((k : ℕ) → get_or a.counts k 0 < 2 ^ 32) → length (listing_of a ws) ≤ 139393
listing_fits a ws r t n w c h = by_refusal a.refusal refl where
  some : 0 < length a.counts
  some = omega arith

  by_refusal : (m : ℕ) → a.refusal ≡ m → length (listing_of a ws) ≤ 139393
  by_refusal zero e =
      rw (listing_accepted a ws (omega arith)) (omega (
        arith,
        length-append (accepted_line a.ty a.length a.counts) (lines ws),
        length_lines ws,
        length_accepted a.counts some a.ty a.length,
        decimal_short 10 a.ty (omega arith) (omega arith) (omega arith),
        decimal_short 4 a.length (omega arith) (omega arith) (omega arith),
        fields_size a.counts some,
        sizes_short a.counts h,
      ))
  by_refusal (suc m) e =
      rw (listing_refused a ws (omega arith)) (omega (
        arith,
        length_refused a.counts some a.refusal,
        decimal_short 10 a.refusal (omega arith) (omega arith) (omega arith),
        fields_size a.counts some,
        sizes_short a.counts h,
      ))

-- the program writes no more than the text has room for
pub respond_within : (bytes text : List ℕ) (told : Written) → told ≡ respond_outcome bytes text → told.length ≤ length text
unfolding respond_outcome written_to
respond_within bytes text told t = rw t (by_test (leb (length (response bytes)) (length text)) refl) where
  by_test : (b : Bool) → leb (length (response bytes)) (length text) ≡ b → (written_to text (response bytes)).length ≤ length text
  by_test false e = rw (e, written_to) (omega arith)
  by_test true e = rw (e, written_to) (leb-true (length (response bytes)) (length text) e)
