-- Nothing where there is no let, and else the least place in the whole term.
use Rattle.std.proofs.Common.{ℕ, ◌≡◌, ◌<◌, false, List, length, get_or, refl, rules, sym, ◌∙◌}
use borrow.Author.Tests.{eqb-false}
use Rattle.syntax.specs.Words.{kind_of}
use Rattle.syntax.proofs.AnyMember.{each_fails}
use Rattle.search.specs.Unused.{is_let, has_let}
use Rattle.search.proofs.FirstByMarks.{finds_none, finds_least}
use Rattle.search.proofs.unused.first_unused.Goals as goal

no_let : (words : List ℕ) → has_let words ≡ false → (i : ℕ) → i < length words → kind_of (get_or words i 0) ≡ 4 → ⊥
no_let words e i h = eqb-false _ 4 (each_fails is_let 0 refl words e i)

pub returns-then-not-has_let : goal.returns-then-not-has_let
returns-then-not-has_let c = finds_none (no_let _ (sym c.has_let.ensures ∙ c.if-not-has_let.true)) c.requires.starts.2

pub returns : goal.returns
returns c = search (rules, finds_least c.scan_part-first.ensures c.requires.starts.2)
