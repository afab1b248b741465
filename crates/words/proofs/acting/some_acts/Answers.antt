-- Some call of the table acts where one of the list does.
use Rattle.std.proofs.Common.{sym, ◌∙◌, rules, tests}
use Rattle.std.proofs.lemmas.Iterator.{YieldsList-from_slice}
use Rattle.std.proofs.lemmas.Iterator.Search.{any_from_yields_List}
use Rattle.syntax.specs.Words.{acts_of}
use Rattle.words.proofs.AnyWord.{any_by_list}
use Rattle.words.proofs.acting.some_acts.Goals as goal

pub returns : goal.returns
returns c = any_from_yields_List acts_of _ _ _ c.any.ensures.ran (YieldsList-from_slice c.args.calls.now cc) (λ x b q k. search (rules, tests))
    ∙ sym (any_by_list acts_of c.args.calls.now)
