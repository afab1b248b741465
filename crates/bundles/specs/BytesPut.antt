-- What the functions that write bytes say.
use Rattle.std.specs.Prelude.{ℕ, ◌≡◌, List, length}
use Rattle.std.proofs.lemmas.List.Edits.{sets}

-- these bytes are written from `at` on, so many
pub record BytesPut (bytes old new : List ℕ) (at size : ℕ) : Type 0 where
  pub new_is : new ≡ sets old at bytes
  pub size_is : size ≡ length bytes
