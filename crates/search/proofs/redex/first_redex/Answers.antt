-- Why `first_redex` is right. Every word is the first of a node, and no rule fits a node before the word that the scan has reached
-- (`Scanned`). So the first node that a rule fits is the first redex, and at the end there is none.
use Rattle.std.proofs.Common.{arith, refl}
use Rattle.words.proofs.Traversal.{from_length}
use Rattle.search.proofs.ForwardScan.{forward_starts, forward_next, forward_found, forward_end}
use Rattle.search.proofs.redex.first_redex.Goals as goal

pub fit-requires : goal.fit-requires
fit-requires c = (
  forward_starts _ _ _ _ (omega arith) c.requires.0,
  omega (arith, from_length c.args.rest.now c.loop-place.place),
)

pub returns-in-Some : goal.returns-in-Some
returns-in-Some c = forward_found _ _ _ _ (omega arith) c.loop-place.invariant c.in-Some.ensures _ refl

pub loop-place-preserved : goal.loop-place-preserved
loop-place-preserved c = forward_next _ _ _ _ (omega arith) c.loop-place.invariant c.fit.ensures c.in_default.is

pub returns : goal.returns
returns c = forward_end _ _ _ _ c.loop-place.invariant (omega arith)
