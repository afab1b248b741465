-- Some word is a let's where one of the list is.
use Rattle.std.proofs.Common.{sym, ◌∙◌, rules, tests}
use Rattle.std.proofs.lemmas.Iterator.{YieldsList-from_slice}
use Rattle.std.proofs.lemmas.Iterator.Search.{any_from_yields_List}
use Rattle.words.proofs.AnyWord.{any_by_list}
use Rattle.search.specs.Unused.{is_let}
use Rattle.search.proofs.unused.has_let.Goals as goal

pub returns : goal.returns
returns c = any_from_yields_List is_let _ _ _ c.any.ensures.ran (YieldsList-from_slice c.args.t.now cc) (λ x b q k. search (rules, tests))
    ∙ sym (any_by_list is_let c.args.t.now)
