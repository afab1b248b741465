-- What the kind of a term word decides (the table of kinds): fields used, number of parts, binders. Public contracts rest on the
-- fields used; the rest serves proofs.
use Rattle.std.specs.Prelude.{ℕ, Bool, cond, ◌||◌, leb, ltb, eqb}

-- the kinds whose number is used: variable and call
abbrev pub uses_number : ℕ → Bool
uses_number k = leb k 1

-- the kinds whose type field is used: function, pair, left and right injection, unit
abbrev pub uses_type : ℕ → Bool
uses_type k = eqb k 2 || eqb k 5 || eqb k 8 || eqb k 9 || eqb k 11

-- how many parts a node of a kind has, a call's given
abbrev pub parts_of_kind : ℕ → ℕ → ℕ
parts_of_kind of_call k =
    cond (leb k 0) 0
    (cond (leb k 1) of_call
    (cond (leb k 2) 1
    (cond (leb k 5) 2
    (cond (leb k 9) 1
    (cond (leb k 10) 3 0)))))

-- the kinds that bind a variable: function, let, case
abbrev pub binds_of : ℕ → Bool
binds_of k = eqb k 2 || eqb k 4 || eqb k 10

-- how many of their parts come before the first that the variable is bound in: a let's bound part, a case's subject
abbrev pub free_of : ℕ → ℕ
free_of k = cond (eqb k 4 || eqb k 10) 1 0

-- how many binders of a node its part j stands under: 0 or 1
unfoldable pub binders_at : ℕ → ℕ → ℕ
binders_at k j = cond (binds_of k) (cond (ltb j (free_of k)) 0 1) 0
