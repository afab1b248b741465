-- The redex is measured, written to the second buffer, and copied in; or the next term is too long; or a let is dropped.
--
-- Why it is right: behind the words that a drop takes away stands the body (`acts_lower`), and lowered there it is what the redex becomes.
-- Of any other rule, the redex that stands behind the gap says what to measure (`acts_rewrite`), and it ends inside the buffer
-- (`read_inside`). If what it becomes is no longer than the redex and the gap together, the second buffer has room for it (`plan_fits`), and
-- so has the stretch that ends where the redex does.
use Rattle.std.proofs.Common.{ℕ, ◌+◌, ◌-◌, ◌≤◌, List, refl, arith, length}
use Rattle.reduction.specs.declared.Rule.{Rule}
use Rattle.words.specs.Fronts.{from}
use Rattle.words.proofs.Traversal.{from_length}
use Rattle.contraction.specs.Plans.{Acts}
use Rattle.contraction.specs.declared.plan.Action.TheVariants.{Lower}
use Rattle.step.specs.Rewrites.{Rewritable}
use Rattle.step.proofs.InPlace.{redex_starts, read_inside, wrote_small, plan_fits, rewrites_full, rewrites_next}
use Rattle.step.proofs.InPlace.{acts_rewrite, acts_lower, body_inside, body_starts, rewrites_lowered}
use Rattle.step.proofs.rewrite.rewrite.Goals as goal

pub measure-requires : goal.measure-requires
measure-requires c =
    (redex_starts c.requires.0, omega (arith, from_length c.args.current.now c.args.gap.end, c.requires.0.limit), c.requires.1)

-- a drop: the body stands behind the words that go
body_in : {rule : Rule} {calls current second : List ℕ} {start end gone : ℕ} → Acts rule calls (from current end) (Lower gone)
    → Rewritable rule calls current start end second → (end + gone ≤ length current) × (length current ≤ 8192)
body_in a w = (body_inside (acts_lower a) w, w.limit)

pub overflow_add-body : goal.overflow_add-body
overflow_add-body c = omega (arith, body_in c.in-Lower.ensures c.requires.0)

pub offset_bounds-current-body : goal.offset_bounds-current-body
offset_bounds-current-body c = omega (arith, body_in c.in-Lower.ensures c.requires.0)

pub slice_bounds-lower_part-count : goal.slice_bounds-lower_part-count
slice_bounds-lower_part-count c = omega (arith, body_in c.in-Lower.ensures c.requires.0)

pub slice_bounds-lower_part-start : goal.slice_bounds-lower_part-start
slice_bounds-lower_part-start c = omega (arith, body_in c.in-Lower.ensures c.requires.0)

pub lower_part-requires : goal.lower_part-requires
lower_part-requires c =
    let l = from_length c.args.current.now (c.args.gap.end + c.in-Lower.gone) in (
      body_starts (acts_lower c.in-Lower.ensures) c.requires.0,
      omega (arith, l, c.requires.0.limit),
      omega (arith, l, c.requires.0.limit, c.requires.1, c.measure.auto.pending),
    )

pub returns-in-Lower : goal.returns-in-Lower
returns-in-Lower c = rewrites_lowered (acts_lower c.in-Lower.ensures) refl c.lower_part.ensures refl

-- any other rule: what was measured
pub overflow_add-behind : goal.overflow_add-behind
overflow_add-behind c =
    omega (arith, read_inside (acts_rewrite c.in-Rewrite.ensures) c.requires.0, c.requires.0.limit)

pub returns-then-behind-gap : goal.returns-then-behind-gap
returns-then-behind-gap c = rewrites_full (acts_rewrite c.in-Rewrite.ensures) c.if-behind-gap.true

-- the next term is not too long
pub write-requires : goal.write-requires
write-requires c = (
  plan_fits (acts_rewrite c.in-Rewrite.ensures) c.requires.0 refl (omega (arith, c.if-behind-gap.false)),
  omega (arith, from_length c.args.current.now c.args.gap.end, c.requires.0.limit),
  omega (arith, c.requires.1, c.measure.auto.pending),
)

pub copy-requires : goal.copy-requires
copy-requires c =
    let m = acts_rewrite c.in-Rewrite.ensures in
    let room : c.in-Rewrite.field-0.wrote ≤ c.args.gap.end + c.in-Rewrite.field-0.read - c.args.gap.start = omega (arith, c.if-behind-gap.false) in
    let small : c.in-Rewrite.field-0.wrote ≤ length c.args.current.now = wrote_small m c.requires.0 room in (
      omega (arith, small, c.requires.0.scratch, c.write.auto.dst),
      omega (arith, room, read_inside m c.requires.0),
    )

pub returns-else-behind-gap : goal.returns-else-behind-gap
returns-else-behind-gap c =
    rewrites_next (acts_rewrite c.in-Rewrite.ensures) c.args.second.now c.write.auto.dst c.requires.0.scratch
    (omega (arith, c.if-behind-gap.false)) refl c.write.ensures c.copy.ensures
