-- The whole listing: its length as a sum, and its parts written one after the other.
use Prim.Native.Nat.{ℕ, ◌+◌, ◌*◌, ◌≤◌, ◌<◌}
use native.Mathlib.Omega.{arith}
use native.Mathlib.Nat.{zero-add}
use mathlib.Core.Path.{◌≡◌, sym, ◌∙◌, ap}
use mathlib.Core.List.{List, [], ◌∷◌, ◌++◌, append_assoc}
use lib.ListN.{length, drop, length-append}
use lib.Seq.{sets, sets-eq}
use borrow.Author.Tests.{le-leb, lt-leb}
use Rattle.outcomes.specs.Text.{ascii}
use Rattle.outcomes.specs.Buffers.{overwrite}
use Rattle.outcomes.specs.Listing.{okay, nope, space, newline, decimal, fields, lines, Written, written_to}
use Rattle.bundles.specs.FirstLine.{refused_line, accepted_line}
use Rattle.bundles.specs.BytesPut.{BytesPut}
use Rattle.bundles.proofs.FieldsWritten.{puts_more}
use Rattle.bundles.proofs.ListedFields.{field_length, line_length, fields_cons}
use Rattle.bundles.proofs.Lines.{length_lines}

module _ (counts : List ℕ) (some : 0 < length counts) where
  -- as they are written
  refused_parts : (n : ℕ) → refused_line n counts ≡ (nope ++ (decimal n ++ space ∷ [])) ++ (fields counts ++ newline ∷ [])
  unfolding ascii
  refused_parts n = rw (fields_cons n counts some) (simp append_assoc)

  accepted_parts : (ty n : ℕ) → accepted_line ty n counts
      ≡ ((okay ++ (decimal ty ++ space ∷ [])) ++ (decimal n ++ space ∷ [])) ++ (fields counts ++ newline ∷ [])
  unfolding ascii
  accepted_parts ty n = rw (fields_cons ty (n ∷ counts) (omega arith), fields_cons n counts some) (simp append_assoc)

  pub length_refused : (n : ℕ) → length (refused_line n counts) ≡ 3 + (length (decimal n) + 1) + (length (fields counts) + 1)
  unfolding ascii
  length_refused n = ap (λ (l : List ℕ). length l) (refused_parts n) ∙ simp length-append (omega arith)

  pub length_accepted : (ty n : ℕ) → length (accepted_line ty n counts)
      ≡ 3 + (length (decimal ty) + 1) + (length (decimal n) + 1) + (length (fields counts) + 1)
  unfolding ascii
  length_accepted ty n = ap (λ (l : List ℕ). length l) (accepted_parts ty n) ∙ simp length-append (omega arith)

-- what is told: how many bytes, and the text
abbrev pub Tells : List ℕ → List ℕ → ℕ → List ℕ → Type 0
Tells old bytes r new = ◌≡◌ {A = Written} (record { length = r; buffer = new }) (written_to old bytes)

pub no_room : (old bytes : List ℕ) → length old < length bytes → Tells old bytes 0 old
unfolding written_to
no_room old bytes h = rw (lt-leb (length bytes) (length old) h, written_to)

pub all_put : (old bytes new : List ℕ) (r : ℕ) → length bytes ≤ length old → BytesPut bytes old new 0 r → Tells old bytes r new
unfolding written_to overwrite
all_put old bytes new r h p =
    let e : new ≡ bytes ++ drop (length bytes) old =
    p.new_is ∙ sets-eq bytes old 0 (omega arith) ∙ ap (λ (i : ℕ). bytes ++ drop i old) (zero-add (length bytes)) in
    rw (le-leb (length bytes) (length old) h, written_to, p.size_is, e)

module _ (counts : List ℕ) (some : 0 < length counts) where
  -- the first line of a refused term, in its parts
  pub refused_put : (n : ℕ) {old a b c : List ℕ} {r s : ℕ} → BytesPut nope old a 0 3 → BytesPut (decimal n ++ space ∷ []) a b 3 r
      → BytesPut (fields counts ++ newline ∷ []) b c (3 + r) s → BytesPut (refused_line n counts) old c 0 (3 + r + s)
  refused_put n p q u =
      rw (refused_parts counts some n)
      (puts_more (fields counts ++ newline ∷ []) (omega arith) (puts_more (decimal n ++ space ∷ []) (omega arith) p q) u)

  -- that of an accepted term
  pub accepted_put : (ty n : ℕ) {old a b c d : List ℕ} {r s t : ℕ} → BytesPut okay old a 0 3 → BytesPut (decimal ty ++ space ∷ []) a b 3 r
      → BytesPut (decimal n ++ space ∷ []) b c (3 + r) s → BytesPut (fields counts ++ newline ∷ []) c d (3 + r + s) t
      → BytesPut (accepted_line ty n counts) old d 0 (3 + r + s + t)
  accepted_put ty n p q u v =
      rw (accepted_parts counts some ty n)
      (puts_more (fields counts ++ newline ∷ []) (omega arith)
      (puts_more (decimal n ++ space ∷ []) (omega arith) (puts_more (decimal ty ++ space ∷ []) (omega arith) p q) u) v)

-- the first line of an accepted term and the words after it: their size, and both written
module _ (counts words : List ℕ) (ty : ℕ) where
  abbrev first : List ℕ
  first = accepted_line ty (length words) counts

  abbrev pub accepted : List ℕ
  accepted = accepted_line ty (length words) counts ++ lines words

  pub listing_size : length accepted ≡ length first + 17 * length words
  listing_size = length-append first (lines words) ∙ ap (λ k. length first + k) (length_lines words)

  pub words_put : {old mid new : List ℕ} {size : ℕ} → size ≡ length first → mid ≡ sets old 0 first → new ≡ sets mid size (lines words)
      → BytesPut accepted old new 0 (size + 17 * length words)
  words_put s m e =
      puts_more (lines words) (omega arith) (record { new_is = m; size_is = s }) (record { new_is = e; size_is = sym (length_lines words) })

pub ruleset lengths = (field_length, line_length, length_refused, length_accepted)
