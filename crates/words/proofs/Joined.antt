-- One list of terms before another: what is said of all terms of the two is said of each.
use Prim.Native.Nat.{ℕ, ◌+◌}
use native.Mathlib.Omega.{arith}
use mathlib.Core.Path.{◌≡◌, refl, sym, ◌∙◌, ap}
use mathlib.Core.List.{List, ◌++◌, append_assoc}
use lib.ListN.{length, length-append}
use Rattle.syntax.specs.Term.{Terms, done, arg}
use Rattle.syntax.specs.Encoding.{encode, encode_all}
use Rattle.syntax.specs.Shaped.{count, Shaped, ShapedAll}
use Rattle.syntax.specs.Values.{uses, uses_all}
use Rattle.syntax.proofs.Sizes.{size_all}
use Rattle.words.specs.Joined.{joined}

pub encode_joined : (ts us : Terms) → encode_all (joined ts us) ≡ encode_all ts ++ encode_all us
unfolding joined encode
encode_joined done us = refl
encode_joined (arg t ts) us = ap (λ (l : List ℕ). encode t ++ l) (encode_joined ts us)
    ∙ sym (append_assoc (encode t) (encode_all ts) (encode_all us))

pub size_joined : (ts us : Terms) → size_all (joined ts us) ≡ size_all ts + size_all us
size_joined ts us = ap (λ (l : List ℕ). length l) (encode_joined ts us) ∙ length-append (encode_all ts) (encode_all us)

pub shaped_joined : (calls : List ℕ) (ts us : Terms) → ShapedAll calls ts → ShapedAll calls us → ShapedAll calls (joined ts us)
unfolding joined Shaped
shaped_joined calls done us p q = q
shaped_joined calls (arg t ts) us p q = (p.0, shaped_joined calls ts us p.1 q)

pub joined_shaped : (calls : List ℕ) (ts us : Terms) → ShapedAll calls (joined ts us) → ShapedAll calls ts × ShapedAll calls us
unfolding joined Shaped
joined_shaped calls done us p = (tt, p)
joined_shaped calls (arg t ts) us p = let q = joined_shaped calls ts us p.1 in ((p.0, q.0), q.1)

pub count_joined : (ts us : Terms) → count (joined ts us) ≡ count ts + count us
unfolding joined count
count_joined done us = omega arith
count_joined (arg t ts) us = omega (arith, count_joined ts us)

pub uses_joined : (ts us : Terms) (n : ℕ) → uses_all (joined ts us) n ≡ uses_all ts n + uses_all us n
unfolding joined uses
uses_joined done us n = omega arith
uses_joined (arg t ts) us n = omega (arith, uses_joined ts us n)

pub joined_assoc : (ts us vs : Terms) → joined (joined ts us) vs ≡ joined ts (joined us vs)
unfolding joined
joined_assoc done us vs = refl
joined_assoc (arg t ts) us vs = ap (arg t) (joined_assoc ts us vs)

pub joined_done : (ts : Terms) → joined ts done ≡ ts
unfolding joined
joined_done done = refl
joined_done (arg t ts) = ap (arg t) (joined_done ts)

-- there is no term in a list of none
pub none_left : (P : Terms → Type 0) (ts : Terms) → count ts ≡ 0 → P done → P ts
unfolding count
none_left P done e p = p
none_left P (arg t ts) e p = absurd (omega (arith, e))
