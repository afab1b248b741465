-- The number's digits to the base 16 are the part counts of the kinds.
use Rattle.std.proofs.Common.{◌≡◌, refl, ℕ, ◌*◌, ◌/◌, ◌%◌, ◌^◌, ◌<◌, true, eqb, arith}
use Rattle.syntax.specs.Kinds.{parts_of_kind}
use Rattle.words.proofs.PartCounts.{of_kind, passes, kinds_agree}
use Rattle.words.proofs.shape.part_count.Goals as goal

-- a number's digits are the part counts if they are at each kind
agrees : (n : ℕ) → passes (λ j. eqb (n / 2 ^ (j * 4) % 16) (parts_of_kind 0 j)) 16 ≡ true → (k : ℕ) → k < 16
    → n / 2 ^ (k * 4) % 16 ≡ parts_of_kind 0 k
agrees n = kinds_agree (λ j. n / 2 ^ (j * 4) % 16) (parts_of_kind 0)

pub returns : goal.returns
returns c = of_kind _ _ _ _ c.kind-k.ensures c.if-k-eq1.false (agrees _ refl _ (omega (arith, c.kind-k.ensures)))
