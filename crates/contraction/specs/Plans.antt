-- What a redex becomes by a plan, from which words it is put together, and what is measured of it.
use Rattle.std.specs.Prelude.{ℕ, zero, suc, ◌+◌, ◌≤◌, ◌≡◌, Bool, true, false, List, eqb, length}
use Rattle.std.proofs.Math.Option.{some}
use Rattle.syntax.specs.Kinds.{binders_at}
use Rattle.syntax.specs.Term.{Term, Terms, var, bind, case, done, arg, node}
use Rattle.syntax.specs.Encoding.{word_of, size}
use Rattle.syntax.specs.Substitution.{rename, weaken_body, ◌⟦◌⟧}
use Rattle.syntax.specs.Under.{raise_at}
use Rattle.reduction.specs.MayDrop.{may_drop}
use Rattle.reduction.specs.Rules.{lower, fire}
use Rattle.reduction.specs.declared.Rule.{Rule}
use Rattle.words.specs.Fronts.{Holds, Starts, from}
use Rattle.contraction.specs.declared.plan.Plan.{Plan}
use Rattle.contraction.specs.declared.plan.Plan.TheVariants.{Substitute, Copy, MoveLet, MoveCase, Insert}
use Rattle.contraction.specs.declared.plan.Measured.{Measured}
use Rattle.contraction.specs.declared.plan.Action.{Action}
use Rattle.contraction.specs.declared.plan.Action.TheVariants.{Rewrite, Lower}

-- a part under b binders of a node that moves under a new binder: the part moved too, or the new variable for it
abbrev pub insert_part : Bool → ℕ → Term → Term
insert_part true b t = var 0
insert_part false b t = rename t (raise_at b 1)

-- the parts of a node of kind k, from part j on, with the new variable for part i
unfoldable pub insert_parts : (k i j : ℕ) → Terms → Terms
insert_parts k i j done = done
insert_parts k i j (arg t ts) = arg (insert_part (eqb j i) (binders_at k j) t) (insert_parts k i (suc j) ts)

-- z is the node x moved under a new binder, with the new variable for part i
pub record Inserted (i : ℕ) (x z : Term) : Type 0 where
  pub word : word_of z ≡ word_of x
  pub parts : (node z).parts ≡ insert_parts (node x).kind i 0 (node x).parts

-- how many words part i of these has; 0 if there is no such part
unfoldable pub part_size : Terms → ℕ → ℕ
part_size done i = 0
part_size (arg t ts) zero = size t
part_size (arg t ts) (suc i) = part_size ts i

-- part i of the node at the front has n words
pub record PartSized (calls words : List ℕ) (i n : ℕ) : Type 0 where
  pub told : (x : Term) (rest : List ℕ) → Holds calls words x rest → n ≡ part_size (node x).parts i

-- the term that a plan makes: the parts stand where it says. A body and a value do not overlap, so they have no more words together than
-- there are.
pub data PlanMakes (calls words : List ℕ) : Plan → Term → Type 0 where
  substitutes : {body value n : ℕ} {b v : Term} {l m : List ℕ} → Holds calls (from words body) b l → Holds calls (from words value) v m
      → n ≡ size v → size b + n ≤ length words
      → PlanMakes calls words (Substitute body value n) (b ⟦ v ⟧)
  copies : {start : ℕ} {y : Term} {m : List ℕ} → Holds calls (from words start) y m → PlanMakes calls words (Copy start) y
  moves_let : {second third : ℕ} {p b c : Term} {l m n : List ℕ} → Holds calls (from words 2) p l → Holds calls (from words second) b m
      → Holds calls (from words third) c n → second ≡ 2 + size p → third ≡ second + size b
      → PlanMakes calls words (MoveLet second third) (bind p (bind b (weaken_body c)))
  moves_case : {right third z : ℕ} {l r c : Term} {k m n o : List ℕ} → Holds calls (from words 2) (var z) k
      → Holds calls (from words 3) l m → Holds calls (from words right) r n → Holds calls (from words third) c o
      → right ≡ 3 + size l → third ≡ right + size r
      → PlanMakes calls words (MoveCase right third) (case (var z) (bind l (weaken_body c)) (bind r (weaken_body c)))
  inserts : {index start n : ℕ} {x p z : Term} {m o : List ℕ} → Holds calls words x m → Inserted index x z
      → Holds calls (from words start) p o → n ≡ size p → PartSized calls words index n
      → PlanMakes calls words (Insert index start n) (bind p z)

-- what was measured of a node x that becomes y
pub record MeasuredAs (calls words : List ℕ) (x y : Term) (r : Measured) : Type 0 where
  pub read_is : r.read ≡ size x
  pub wrote_is : r.wrote ≡ size y
  pub makes : PlanMakes calls words r.plan y

-- the words begin with a redex of the rule
pub record StartsRedex (rule : Rule) (calls words : List ℕ) : Type 0 where
  pub start : Starts calls words
  pub contractum : Term
  pub fires : fire (may_drop calls) rule start.term ≡ some contractum

-- for whatever redex of the rule is at the front
pub record Measures (rule : Rule) (calls words : List ℕ) (r : Measured) : Type 0 where
  pub told : (x y : Term) (rest : List ℕ) → Holds calls words x rest → fire (may_drop calls) rule x ≡ some y → MeasuredAs calls words x y r

-- behind the first n words of a node x stands the rest of it, a body, and the node becomes that body, lowered
pub record UncoversBody (calls words : List ℕ) (x y : Term) (n : ℕ) : Type 0 where
  pub body : Term
  pub rest : List ℕ
  pub holds : Holds calls (from words n) body rest
  pub size_is : size x ≡ n + size body
  pub becomes : y ≡ rename body lower

-- for whatever redex of the rule is at the front
pub record Uncovers (rule : Rule) (calls words : List ℕ) (n : ℕ) : Type 0 where
  pub told : (x y : Term) (rest : List ℕ) → Holds calls words x rest → fire (may_drop calls) rule x ≡ some y → UncoversBody calls words x y n

-- what is done with the redex makes of it what the rule does
pub data Acts (rule : Rule) (calls words : List ℕ) : Action → Type 0 where
  is_rewritten : {m : Measured} → Measures rule calls words m → Acts rule calls words (Rewrite m)
  is_lowered : {n : ℕ} → Uncovers rule calls words n → Acts rule calls words (Lower n)
