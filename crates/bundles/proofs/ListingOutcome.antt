-- The outcome of `listing`, by the refusal: the first line alone, or the first line and the words, where there are enough.
use Prim.Native.Nat.{ℕ, zero, suc, ◌≤◌, ◌<◌}
use native.Mathlib.Omega.{arith}
use mathlib.Core.Path.{◌≡◌, refl, sym, ◌∙◌, ap}
use mathlib.Core.List.{List, ◌++◌, append_assoc}
use lib.ListN.{length, take}
use lib.Seq.{length-take-le}
use borrow.Author.Tests.{le-leb, lt-leb}
use Rattle.outcomes.specs.Text.{ascii}
use Rattle.outcomes.specs.declared.Answer.{Answer}
use Rattle.outcomes.specs.Listing.{lines, listing_of, Written, written_to, words_listed, listing_outcome}
use Rattle.bundles.specs.FirstLine.{refused_line, accepted_line}

module _ (a : Answer) where
  -- the bytes
  refused_at : (n : ℕ) (ws : List ℕ) → a.refusal ≡ n → 0 < n → listing_of a ws ≡ refused_line n a.counts
  unfolding listing_of
  refused_at zero ws e h = absurd (omega arith)
  refused_at (suc n) ws e h = rw (e, listing_of)

  pub listing_refused : (ws : List ℕ) → 0 < a.refusal → listing_of a ws ≡ refused_line a.refusal a.counts
  listing_refused ws h = refused_at a.refusal ws refl h

  pub listing_accepted : (ws : List ℕ) → a.refusal ≤ 0 → listing_of a ws ≡ accepted_line a.ty a.length a.counts ++ lines ws
  unfolding listing_of ascii
  listing_accepted ws h = let e : a.refusal ≡ 0 = omega arith in rw (e, listing_of) (simp append_assoc)

  -- how many words are listed
  none_listed : (n : ℕ) → a.refusal ≡ n → 0 < n → words_listed a ≡ 0
  none_listed zero e h = absurd (omega arith)
  none_listed (suc n) e h = rw e

  all_listed : a.refusal ≤ 0 → words_listed a ≡ a.length
  all_listed h = let e : a.refusal ≡ 0 = omega arith in rw e

  module _ (output buffer : List ℕ) where
    enough : words_listed a ≤ length output → listing_outcome a output buffer ≡ written_to buffer (listing_of a (take a.length output))
    unfolding listing_outcome
    enough h = rw (le-leb (words_listed a) (length output) h, listing_outcome)

    pub outcome_refused : (told : Written) → 0 < a.refusal → told ≡ written_to buffer (refused_line a.refusal a.counts)
        → told ≡ listing_outcome a output buffer
    outcome_refused told h e =
        let l : words_listed a ≤ length output = omega (arith, none_listed a.refusal refl h) in
        e ∙ ap (written_to buffer) (sym (listing_refused (take a.length output) h)) ∙ sym (enough l)

    pub outcome_accepted : (words : List ℕ) (told : Written) → a.refusal ≤ 0 → a.length ≤ length output → words ≡ take a.length output
        → told ≡ written_to buffer (accepted_line a.ty (length words) a.counts ++ lines words) → told ≡ listing_outcome a output buffer
    outcome_accepted words told h l w e =
        let m : words_listed a ≤ length output = omega (arith, all_listed h) in
        let n : length words ≡ a.length = ap (λ (l : List ℕ). length l) w ∙ length-take-le a.length output l in
        rw (n, w) at e ∙ ap (written_to buffer) (sym (listing_accepted (take a.length output) h)) ∙ sym (enough m)

    pub outcome_short : a.refusal ≤ 0 → length output < a.length
        → ◌≡◌ {A = Written} (record { length = 0; buffer = buffer }) (listing_outcome a output buffer)
    unfolding listing_outcome
    outcome_short h l =
        let m : length output < words_listed a = omega (arith, all_listed h) in
        rw (lt-leb (words_listed a) (length output) m, listing_outcome)
