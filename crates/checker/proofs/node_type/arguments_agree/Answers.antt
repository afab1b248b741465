use Rattle.std.proofs.Common.{arith}
use Rattle.syntax.specs.Words.{arity_of}
use Rattle.checker.proofs.ArgumentFields.{agrees_before}
use Rattle.checker.proofs.node_type.arguments_agree.Goals as goal

pub returns-else-b-argument : goal.returns-else-b-argument
returns-else-b-argument c = let a = c.args in grind (arith, agrees_before (arity_of a.w) a.w a.a a.b a.c)
