-- What the functions that write a term into a buffer ask and say, for whatever term is at the front.
use Rattle.std.specs.Prelude.{ℕ, ◌+◌, ◌-◌, ◌*◌, ◌^◌, ◌≤◌, cond, leb, ltb, ◌≡◌, List, length}
use Rattle.std.proofs.lemmas.List.Edits.{sets}
use Rattle.syntax.specs.Words.{number_of}
use Rattle.syntax.specs.Term.{Term}
use Rattle.syntax.specs.Encoding.{encode, size}
use Rattle.syntax.specs.Substitution.{rename, substitute}
use Rattle.syntax.specs.Under.{raise_at, lower_at, only_at}
use Rattle.words.specs.Fronts.{Holds, Starts, Whole}

-- a term starts here, and fits into len words from `at` on
pub record Room (calls src : List ℕ) (len at : ℕ) : Type 0 where
  pub start : Starts calls src
  pub room : at + size start.term ≤ len

-- t was read, and y written from `at` on
pub record WritesTerm (read : ℕ) (old new : List ℕ) (at : ℕ) (t y : Term) : Type 0 where
  pub read_is : read ≡ size t
  pub new_is : new ≡ sets old at (encode y)

-- the term at the front is written with its variables from `cut` on raised
pub record Renames (calls src old new : List ℕ) (at cut by r : ℕ) : Type 0 where
  pub told : (t : Term) (rest : List ℕ) → Holds calls src t rest → WritesTerm r old new at t (rename t (raise_at cut by))

-- the term at the front was written over, with its variables past variable 0 lowered by one
pub record Lowers (calls old new : List ℕ) : Type 0 where
  pub told : (t : Term) (rest : List ℕ) → Holds calls old t rest → new ≡ sets old 0 (encode (rename t (lower_at 0)))

-- a body starts here, the other words are a value, the body with the value in it fits into len words from `at` on, and there is space for
-- the depths of the parts of both
pub record RoomFor (calls body value : List ℕ) (len at depth space : ℕ) : Type 0 where
  pub start : Starts calls body
  pub whole : Whole calls value
  pub room : at + size (substitute start.term (only_at depth whole.term)) ≤ len
  pub spare : size start.term + length value + 2 ≤ space

-- the term at the front of body is written with the value for the variable `depth`
pub record Substitutes (calls body value old new : List ℕ) (at depth : ℕ) : Type 0 where
  pub told : (t : Term) (rest : List ℕ) → Holds calls body t rest → (v : Whole calls value)
      → new ≡ sets old at (encode (substitute t (only_at depth v.term)))

-- a variable's word, raised if it is that of one from `cut` on
abbrev pub raised_word : (cut by w : ℕ) → ℕ
raised_word cut by w = cond (leb cut (number_of w)) (w + by * 2 ^ 30) w

-- a variable's word, lowered by one if it is that of one past `depth`
abbrev pub lowered_word : (depth w : ℕ) → ℕ
lowered_word depth w = cond (ltb depth (number_of w)) (w - 2 ^ 30) w

-- the value was written from `at` on, its variables raised
pub record Raises (calls value old new : List ℕ) (at by r : ℕ) : Type 0 where
  pub told : (v : Whole calls value) → new ≡ sets old at (encode (rename v.term (raise_at 0 by)))
  pub size_is : r ≡ length value
