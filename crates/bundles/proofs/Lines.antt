-- The lines of words: seventeen bytes each, and one line more behind those written.
use Prim.Native.Nat.{ℕ, ◌+◌, ◌*◌, ◌<◌}
use native.Mathlib.Omega.{arith}
use native.Mathlib.Numerals.{add-one}
use mathlib.Core.Path.{◌≡◌, refl, sym, ◌∙◌, ap}
use mathlib.Core.List.{List, [], ◌∷◌, ◌++◌, append_assoc}
use lib.ListN.{length, get_or, take, length-append}
use lib.Seq.{sets, length-take-le, take-suc}
use Rattle.words.proofs.Stretches.{sets_append}
use Rattle.outcomes.specs.Listing.{hexadecimal, lines, newline}
use Rattle.bundles.proofs.Hexadecimal.{length_hexadecimal}

pub length_lines : (ws : List ℕ) → length (lines ws) ≡ 17 * length ws
unfolding lines
length_lines [] = refl
length_lines (w ∷ ws) = omega (arith, length-append (hexadecimal 16 w) (newline ∷ lines ws), length_hexadecimal w, length_lines ws)

lines_append : (ws : List ℕ) (w : ℕ) → lines (ws ++ w ∷ []) ≡ lines ws ++ (hexadecimal 16 w ++ newline ∷ [])
unfolding lines
lines_append [] w = refl
lines_append (v ∷ ws) w = ap (λ (l : List ℕ). hexadecimal 16 v ++ newline ∷ l) (lines_append ws w)
    ∙ sym (append_assoc (hexadecimal 16 v) (newline ∷ lines ws) (hexadecimal 16 w ++ newline ∷ []))

-- one line more
pub lines_put : (words old new : List ℕ) (at i : ℕ) → i < length words → new ≡ sets old at (lines (take i words))
    → sets new (at + 17 * i) (hexadecimal 16 (get_or words i 0) ++ newline ∷ []) ≡ sets old at (lines (take (i + 1) words))
lines_put words old new at i h e =
    let w : List ℕ = hexadecimal 16 (get_or words i 0) ++ newline ∷ [] in
    let k : 17 * i ≡ length (lines (take i words)) = omega (arith, length_lines (take i words), length-take-le i words (omega arith)) in
    rw (e, k, ← sets_append old at (lines (take i words)) w, add-one i, take-suc words i 0 h)
    (ap (sets old at) (sym (lines_append (take i words) (get_or words i 0))))
