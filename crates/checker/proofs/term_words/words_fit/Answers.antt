use Rattle.std.proofs.Common.{rules, tests, sym, ◌∙◌}
use Rattle.std.proofs.lemmas.Iterator.{YieldsList-from_slice}
use Rattle.std.proofs.lemmas.Iterator.Search.{all_from_yields_List}
use Rattle.typing.specs.TermChecks.{well_formed_words}
use Rattle.checker.proofs.Every.{every_by_list}
use Rattle.checker.proofs.term_words.words_fit.Goals as goal

pub returns : goal.returns
unfolding well_formed_words
returns c = all_from_yields_List _ _ _ _ c.all.ensures.ran (YieldsList-from_slice c.args.term.now cc) (λ x b q k. search (rules, tests))
    ∙ sym (every_by_list _ c.args.term.now)
