-- What the functions that write a node under a new binder ask and say.
use Rattle.std.specs.Prelude.{ℕ, ◌+◌, ◌≤◌, ◌≡◌, Option, is_some, IfSome, List}
use Rattle.std.proofs.lemmas.List.Edits.{sets}
use Rattle.syntax.specs.Term.{Term}
use Rattle.syntax.specs.Encoding.{encode, size}
use Rattle.words.specs.Fronts.{Holds, Starts}
use Rattle.words.specs.Ends.{Sized}
use Rattle.binding.specs.Writes.{WritesTerm}
use Rattle.contraction.specs.Plans.{insert_part, Inserted, PartSized}
use Rattle.contraction.specs.declared.insert.Moved.{Moved}

-- a part starts here, of so many words if the new variable stands for it, and what is written for it fits into len words from `at` on
pub record PartRoom (calls src : List ℕ) (bound : Option ℕ) (len at cut : ℕ) : Type 0 where
  pub start : Starts calls src
  pub sized : IfSome bound (λ n. Sized calls src n)
  pub room : at + size (insert_part (is_some bound) cut start.term) ≤ len

-- t was read, and y written from `at` on, so many words
pub record Placed (r : Moved) (old new : List ℕ) (at : ℕ) (t y : Term) : Type 0 where
  pub written : WritesTerm r.read old new at t y
  pub wrote_is : r.wrote ≡ size y

pub record InsertsPart (calls src : List ℕ) (bound : Option ℕ) (old new : List ℕ) (at cut : ℕ) (r : Moved) : Type 0 where
  pub told : (t : Term) (rest : List ℕ) → Holds calls src t rest → Placed r old new at t (insert_part (is_some bound) cut t)

-- a node starts here, its part i has n words, and with the new variable for that part it fits into len words from `at` on
pub record NodeRoom (calls src : List ℕ) (i n len at : ℕ) : Type 0 where
  pub start : Starts calls src
  pub sized : PartSized calls src i n
  pub node : Term
  pub inserted : Inserted i start.term node
  pub room : at + size node ≤ len

pub record InsertsNode (calls src : List ℕ) (i : ℕ) (old new : List ℕ) (at : ℕ) : Type 0 where
  pub told : (x z : Term) (rest : List ℕ) → Holds calls src x rest → Inserted i x z → new ≡ sets old at (encode z)
