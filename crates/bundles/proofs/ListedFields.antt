-- The fields of a line: each number and the byte behind it, and how many bytes they take.
use Rattle.std.proofs.Common.{◌≡◌, ℕ, suc, ◌+◌, ◌*◌, ◌<◌, ◌≤◌, List, [], ◌∷◌, ◌++◌, length, get_or, take, drop, refl, sym, ◌∙◌, ap, arith, add-one, append_assoc, length-append, take-append-drop, drop-cons, drop_of_length-le}
use Rattle.std.proofs.lemmas.List.{take_all}
use Rattle.std.proofs.Math.Seq.{take-suc}
use Rattle.outcomes.specs.Listing.{decimal, fields, space, newline}

-- each number with a space behind it
abbrev pub spaced : List ℕ → List ℕ
spaced [] = []
spaced (n ∷ ns) = decimal n ++ space ∷ spaced ns

pub spaced-append : (ms ns : List ℕ) → spaced (ms ++ ns) ≡ spaced ms ++ spaced ns
spaced-append [] ns = refl
spaced-append (m ∷ ms) ns = ap (λ l. decimal m ++ space ∷ l) (spaced-append ms ns) ∙ sym (append_assoc (decimal m) (space ∷ spaced ms) (spaced ns))

-- one number more
pub spaced_more : (ns : List ℕ) (i : ℕ) → i < length ns → spaced (take (i + 1) ns) ≡ spaced (take i ns) ++ (decimal (get_or ns i 0) ++ space ∷ [])
spaced_more ns i h = rw (add-one i, take-suc ns i 0 h) (spaced-append (take i ns) (get_or ns i 0 ∷ []))

pub size_more : (ns : List ℕ) (i : ℕ) → i < length ns
    → length (spaced (take (i + 1) ns)) ≡ length (spaced (take i ns)) + (length (decimal (get_or ns i 0)) + 1)
size_more ns i h = ap length (spaced_more ns i h) ∙ simp length-append

pub size_all : (ns : List ℕ) (i : ℕ) → length ns ≤ i → length (spaced (take i ns)) ≡ length (spaced ns)
size_all ns i h = rw (take_all i ns h)

-- a number and the byte behind it
pub field_length : (n end : ℕ) → length (decimal n ++ end ∷ []) ≡ length (decimal n) + 1
field_length n end = length-append (decimal n) (end ∷ [])

-- a field that is not the last
pub fields_cons : (n : ℕ) (ns : List ℕ) → 0 < length ns → fields (n ∷ ns) ≡ decimal n ++ space ∷ fields ns
unfolding fields
fields_cons n [] h = absurd (omega arith)
fields_cons n (m ∷ ns) h = refl

-- in a line the last number has the line's end behind it
pub line_is : (ns : List ℕ) (n : ℕ) → fields (ns ++ n ∷ []) ++ newline ∷ [] ≡ spaced ns ++ (decimal n ++ newline ∷ [])
unfolding fields
line_is [] n = refl
line_is (m ∷ ns) n =
    rw (fields_cons m (ns ++ n ∷ []) (omega (arith, length-append ns (n ∷ []))), append_assoc)
    (ap (λ l. decimal m ++ space ∷ l) (line_is ns n) ∙ sym (append_assoc (decimal m) (space ∷ spaced ns) (decimal n ++ newline ∷ [])))

-- each number with the byte that ends it
pub fields_size : (ns : List ℕ) → 0 < length ns → length (fields ns) + 1 ≡ length (spaced ns)
unfolding fields
fields_size [] h = absurd (omega arith)
fields_size (n ∷ []) h = sym (length-append (decimal n) (space ∷ []))
fields_size (n ∷ m ∷ ns) h =
    omega (
      arith,
      ap length (fields_cons n (m ∷ ns) (omega arith)),
      length-append (decimal n) (space ∷ fields (m ∷ ns)),
      length-append (decimal n) (space ∷ spaced (m ∷ ns)),
      fields_size (m ∷ ns) (omega arith),
    )

-- the same summed from the first number on, as a loop does
unfoldable pub size_of : List ℕ → ℕ
size_of [] = 0
size_of (n ∷ ns) = length (decimal n) + 1 + size_of ns

size_of_is : (ns : List ℕ) → length (spaced ns) ≡ size_of ns
unfolding size_of
size_of_is [] = refl
size_of_is (n ∷ ns) = omega (arith, length-append (decimal n) (space ∷ spaced ns), size_of_is ns)

pub record Sizing (ns : List ℕ) (size i : ℕ) : Type 0 where
  pub within : i ≤ length ns
  pub same : size_of ns ≡ size + size_of (drop i ns)
  pub few : size ≤ 21 * i

pub size_none : (ns : List ℕ) → Sizing ns 0 0
size_none ns = record { within = omega arith; same = omega arith; few = omega arith }

pub sizing_more : {ns : List ℕ} {size i : ℕ} (v count : ℕ) → Sizing ns size i → i < length ns → v ≡ get_or ns i 0
    → (count ≡ length (decimal v)) × (count ≤ 20) → Sizing ns (size + (count + 1)) (i + 1)
unfolding size_of
sizing_more {ns} {size} {i} v count s h ve (e, l) =
    let t : size_of (drop i ns) ≡ length (decimal v) + 1 + size_of (drop (i + 1) ns) = rw (ve, drop-cons ns i 0 h, add-one i) in
    record { within = omega arith; same = omega (arith, s.same, t); few = omega (arith, s.few) }

-- after the last number
pub size_all_lem : {ns : List ℕ} {size i : ℕ} → Sizing ns size i → 0 < length ns → length ns ≤ i → (size ≡ length (fields ns) + 1)
    × (size ≤ 21 * length ns)
unfolding size_of
size_all_lem {ns} {size} {i} s p h =
    let t : size_of (drop i ns) ≡ 0 = rw (drop_of_length-le ns h) in
    let e : i ≡ length ns = omega (arith, s.within) in
    (omega (arith, s.same, fields_size ns p, size_of_is ns, t), omega (arith, s.few))

pub line_length : (ns : List ℕ) → length (fields ns ++ newline ∷ []) ≡ length (fields ns) + 1
line_length ns = length-append (fields ns) (newline ∷ [])

-- there is room in the line for the next number
pub size_within : (ns : List ℕ) (i : ℕ) → i < length ns
    → length (spaced (take i ns)) + (length (decimal (get_or ns i 0)) + 1) ≤ length (fields ns) + 1
size_within ns i h =
    let all : spaced ns ≡ spaced (take (i + 1) ns) ++ spaced (drop (i + 1) ns) =
    rw (← spaced-append (take (i + 1) ns) (drop (i + 1) ns), take-append-drop (i + 1) ns) in
    omega (
      arith,
      size_more ns i h,
      ap length all,
      length-append (spaced (take (i + 1) ns)) (spaced (drop (i + 1) ns)),
      fields_size ns (omega arith),
    )

pub ruleset sizes = (field_length, size_more, size_all, fields_size, size_within)
