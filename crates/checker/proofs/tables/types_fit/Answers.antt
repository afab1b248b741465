use Rattle.std.proofs.Common.{rules, tests, sym, ◌∙◌}
use Rattle.std.proofs.lemmas.Iterator.{YieldsList-from_slice}
use Rattle.std.proofs.lemmas.Iterator.Consumers.{YieldsList-from_enumerate}
use Rattle.std.proofs.lemmas.Iterator.Search.{all_from_yields_List}
use Rattle.checker.proofs.Every.{types_by_list}
use Rattle.checker.proofs.tables.types_fit.Goals as goal

pub returns : goal.returns
returns c = all_from_yields_List _ _ _ _ c.all.ensures.ran (YieldsList-from_enumerate (YieldsList-from_slice c.args.types.now cc) cc) (λ x b q k. search (rules, tests))
    ∙ sym (types_by_list 0 c.args.types.now)
