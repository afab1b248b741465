-- The counts put one after the other, a space behind each but the last, which ends the line.
use Rattle.std.proofs.Common.{◌≡◌, ℕ, suc, ◌+◌, ◌<◌, List, [], ◌∷◌, ◌++◌, length, get_or, take, refl, arith}
use Rattle.std.proofs.lemmas.List.{take_all}
use Rattle.std.proofs.Math.Seq.{take-suc}
use Rattle.outcomes.specs.Listing.{decimal, fields, space, newline}
use Rattle.bundles.specs.BytesPut.{BytesPut}
use Rattle.bundles.proofs.FieldsWritten.{puts_more}
use Rattle.bundles.proofs.ListedFields.{spaced, spaced_more, line_is}

-- the first i numbers are put
abbrev pub FrontPut : List ℕ → List ℕ → List ℕ → ℕ → ℕ → ℕ → Type 0
FrontPut ns old new at size i = BytesPut (spaced (take i ns)) old new at size

pub next_put : (ns : List ℕ) (i n : ℕ) {old mid new : List ℕ} {at size r : ℕ} → n ≡ get_or ns i 0 → i < length ns → FrontPut ns old mid at size i
    → BytesPut (decimal n ++ space ∷ []) mid new (at + size) r → FrontPut ns old new at (size + r) (i + 1)
next_put ns i n e h p q = rw (spaced_more ns i h, ← e) (puts_more (decimal n ++ space ∷ []) refl p q)

pub last_put : (ns : List ℕ) (i n : ℕ) {old mid new : List ℕ} {at size r : ℕ} → n ≡ get_or ns i 0 → i + 1 ≡ length ns → FrontPut ns old mid at size i
    → BytesPut (decimal n ++ newline ∷ []) mid new (at + size) r → BytesPut (fields ns ++ newline ∷ []) old new at (size + r)
last_put ns i n e h p q =
    let l : i < length ns = omega arith in
    let s : take i ns ++ n ∷ [] ≡ ns = rw (e, ← take-suc ns i 0 l) (take_all (suc i) ns (omega arith)) in
    rw (← s, line_is (take i ns) n) (puts_more (decimal n ++ newline ∷ []) refl p q)
