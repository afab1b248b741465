-- Words read from bytes, and written one after the other.
use Rattle.std.proofs.Common.{◌≡◌, ℕ, zero, suc, ◌+◌, ◌*◌, ◌<◌, ◌≤◌, List, [], ◌∷◌, ◌++◌, length, get_or, take, drop, set, refl, ◌∙◌, ap, arith, w64, append_assoc, append-nil, add_comm, add-one}
use Rattle.std.proofs.Math.Nat.{mul-suc}
use Rattle.std.proofs.lemmas.List.{drop_all}
use Rattle.std.proofs.Math.Seq.{drop-cons, drop-drop, set_at}
use Rattle.std.specs.Int.{from_be_bytes}
use Rattle.outcomes.specs.ReadBundle.{from_bytes, words_of}
use Rattle.bundles.proofs.BytePairs.{word_of_eight}

-- the eight bytes from a place on
pub word_of_part : (bytes part : List ℕ) (at k : ℕ) → k ≡ 8 → at + 8 ≤ length bytes → part ≡ take k (drop at bytes)
    → from_be_bytes w64 part ≡ from_bytes 0 (take 8 (drop at bytes))
word_of_part bytes part at k e h p = rw (p, e) (word_of_eight bytes at h)

pub length-words : (n : ℕ) (bytes : List ℕ) → length (words_of n bytes) ≡ n
unfolding words_of
length-words zero bytes = refl
length-words (suc n) bytes = ap suc (length-words n (drop 8 bytes))

-- one word more
words_more : (n : ℕ) (bytes : List ℕ) → words_of (suc n) bytes ≡ words_of n bytes ++ (from_bytes 0 (take 8 (drop (8 * n) bytes)) ∷ [])
unfolding words_of
words_more zero bytes = refl
words_more (suc n) bytes = ap (◌∷◌ (from_bytes 0 (take 8 bytes))) (words_more n (drop 8 bytes) ∙ rw (drop-drop, mul-suc 8 n, add_comm 8 (8 * n)))

-- the first i words are written, and behind them stands what stood there
abbrev pub WordsCopied : List ℕ → List ℕ → List ℕ → ℕ → Type 0
WordsCopied bytes old new i = new ≡ words_of i bytes ++ drop i old

pub copy_none : (bytes old : List ℕ) → WordsCopied bytes old old 0
unfolding words_of
copy_none bytes old = refl

pub copy_word : (bytes old new : List ℕ) (i w : ℕ) → i < length old → w ≡ from_bytes 0 (take 8 (drop (8 * i) bytes))
    → WordsCopied bytes old new i → WordsCopied bytes old (set new i w) (i + 1)
copy_word bytes old new i w h e c =
    rw (
      c,
      drop-cons old i 0 h,
      set_at (words_of i bytes) (get_or old i 0) (drop (suc i) old) w i (length-words i bytes),
      add-one i,
      words_more i bytes,
      ← e,
      append_assoc,
    )

pub copy_all : (bytes old new : List ℕ) (i : ℕ) → i ≡ length old → WordsCopied bytes old new i → new ≡ words_of (length old) bytes
copy_all bytes old new i e c = rw (c, drop_all i old (omega arith), append-nil, e)
