-- What the functions that write a contractum ask and say: the words of what the plan says.
use Rattle.std.specs.Prelude.{ℕ, ◌+◌, ◌≤◌, ◌≡◌, List}
use Rattle.std.proofs.lemmas.List.Edits.{sets}
use Rattle.syntax.specs.Term.{Term, bind}
use Rattle.syntax.specs.Encoding.{encode, size}
use Rattle.syntax.specs.Substitution.{weaken_body}
use Rattle.words.specs.Fronts.{Holds, from}
use Rattle.contraction.specs.declared.plan.Plan.{Plan}
use Rattle.contraction.specs.Plans.{PlanMakes}

-- y was written from `at` on, so many words
pub record WroteTerm (old new : List ℕ) (at : ℕ) (y : Term) (n : ℕ) : Type 0 where
  pub new_is : new ≡ sets old at (encode y)
  pub wrote_is : n ≡ size y

-- a part e from `start` to `end`, and a body c that stands under one binder
pub record LetParts (calls words : List ℕ) (start end body : ℕ) (e c : Term) : Type 0 where
  pub more : List ℕ
  pub bound : Holds calls (from words start) e more
  pub rest : List ℕ
  pub under : Holds calls (from words body) c rest
  pub end_is : end ≡ start + size e

-- the let of the two fits into len words from `at` on
pub record LetRoom (calls words : List ℕ) (start end body len at : ℕ) : Type 0 where
  pub bound : Term
  pub under : Term
  pub parts : LetParts calls words start end body bound under
  pub room : at + size (bind bound (weaken_body under)) ≤ len

pub record WritesLet (calls words : List ℕ) (start end body : ℕ) (old new : List ℕ) (at r : ℕ) : Type 0 where
  pub told : (e c : Term) → LetParts calls words start end body e c → WroteTerm old new at (bind e (weaken_body c)) r

-- what the plan says fits into len words
pub record PlanRoom (calls words : List ℕ) (plan : Plan) (len : ℕ) : Type 0 where
  pub term : Term
  pub makes : PlanMakes calls words plan term
  pub room : size term ≤ len

-- and has so many words
pub record SizedPlanRoom (calls words : List ℕ) (plan : Plan) (len wrote : ℕ) : Type 0 where
  pub plan_room : PlanRoom calls words plan len
  pub wrote_is : wrote ≡ size plan_room.term

pub record WritesPlan (calls words : List ℕ) (plan : Plan) (old new : List ℕ) : Type 0 where
  pub told : (y : Term) → PlanMakes calls words plan y → new ≡ sets old 0 (encode y)
