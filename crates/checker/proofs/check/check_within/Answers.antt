-- The lengths, known from place 1, and the term, known from 6 and 7, are what 8 and 9 ask for.
use Rattle.std.proofs.Common.{ap, sym, ◌∙◌, arith, []}
use Rattle.typing.specs.TermChecks.{well_formed_words}
use Rattle.typing.specs.Refusals.{elaborate}
use Rattle.checker.proofs.TermPlaces.{lengths_told, Decoded, starts, whole_decoded, not_whole}
use Rattle.checker.proofs.check.check_within.Goals as goal

pub is_whole-requires : goal.is_whole-requires
is_whole-requires c = omega (arith, (lengths_told c.lengths_fit.ensures c.if-not-lengths_fit.false).words')

pub returns-then-not-is_whole : goal.returns-then-not-is_whole
unfolding elaborate well_formed_words
returns-then-not-is_whole c =
    let a = c.args in
    let e = not_whole a.tables.now a.term.now (sym c.words_fit.ensures ∙ c.if-not-words_fit.false) (sym (rw (ap (λ t. t.calls) c.tables.view_is) at c.is_whole.ensures) ∙ c.if-not-is_whole.true) in
    grind (arith, e)

term : (c : goal.Else-not-is_whole) → let a = c.args in Decoded a.tables.now a.term.now
unfolding well_formed_words
term c = whole_decoded _ _ (sym c.words_fit.ensures ∙ c.if-not-words_fit.false) (sym (rw (ap (λ t. t.calls) c.tables.view_is) at c.is_whole.ensures) ∙ c.if-not-is_whole.false)

pub typed-requires-clause-starts : goal.typed-requires-clause-starts
typed-requires-clause-starts c = starts (term c)

pub typed-requires-clause-lengths : goal.typed-requires-clause-lengths
typed-requires-clause-lengths c =
    let l = lengths_told c.lengths_fit.ensures c.if-not-lengths_fit.false in
    (l.inputs, omega arith)

pub returns : goal.returns
unfolding elaborate well_formed_words
returns c =
    let a = c.args in
    let t : Decoded a.tables.now a.term.now = whole_decoded _ _ (sym c.words_fit.ensures ∙ c.if-not-words_fit.false) (sym (rw (ap (λ t. t.calls) c.tables.view_is) at c.is_whole.ensures) ∙ c.if-not-is_whole.false) in
    grind (arith, t.is, c.typed.ensures t.term [] t.holds)
