-- Marks as binary digits: yes or no for each number, packed into words with the first mark as the highest digit.
use Rattle.std.specs.Prelude.{ℕ, zero, suc, ◌+◌, ◌*◌, ◌^◌, Bool, List, [], ◌∷◌}
use Rattle.syntax.specs.Values.{counts}

-- the marks of 0 up to n - 1 as a number of n binary digits; the mark of 0 is the highest
unfoldable pub mask : ℕ → (ℕ → Bool) → ℕ
mask zero f = 0
mask (suc n) f = counts (f 0) * 2 ^ n + mask n (λ i. f (suc i))

-- the marks of 0 up to 64 k - 1 as k words of 64 digits
unfoldable pub masks : ℕ → (ℕ → Bool) → List ℕ
masks zero f = []
masks (suc k) f = mask 64 f ∷ masks k (λ i. f (64 + i))

-- how many of 0 up to n - 1 are marked
unfoldable pub how_many : ℕ → (ℕ → Bool) → ℕ
how_many zero f = 0
how_many (suc n) f = counts (f 0) + how_many n (λ i. f (suc i))
