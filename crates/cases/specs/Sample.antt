-- Paper 01's sample bundle, and what the program writes for it.
use Rattle.std.specs.Prelude.{ℕ, zero, suc, ◌/◌, ◌%◌, ◌^◌, List, [], ◌∷◌, ◌++◌}
use Rattle.outcomes.specs.Text.{ascii}

-- the last k bytes of a word, the most significant first
unfoldable pub bytes_of : ℕ → ℕ → List ℕ
bytes_of zero w = []
bytes_of (suc k) w = w / 256 ^ k % 256 ∷ bytes_of k w

-- words as bytes
unfoldable pub bundle_of : List ℕ → List ℕ
bundle_of [] = []
bundle_of (w ∷ ws) = bytes_of 8 w ++ bundle_of ws

unfoldable pub bundle : List ℕ
unfolding bundle_of bytes_of
bundle =
    bundle_of
    (0x0020008000005000
    ∷ 0x0000000000000000
    ∷ 0x1000000000000000
    ∷ 0x2000000000000000
    ∷ 0x3000000000000000
    ∷ 0x0000000000000000
    ∷ 0x1000000000000000
    ∷ 0x3000000000000000
    ∷ 0x2000000000000001
    ∷ 0x1000000040000000
    ∷ 0x0000000000000000
    ∷ 0x1000000000000000
    ∷ [])

unfoldable pub written : List ℕ
unfolding ascii
written =
    ascii "ok 0 4 1 0 0 1 0 0 0 0 0 0\n"
    ++ ascii "4000000000000000\n"
    ++ ascii "1000000000000000\n"
    ++ ascii "1000000040000000\n"
    ++ ascii "0000000000000000\n"
