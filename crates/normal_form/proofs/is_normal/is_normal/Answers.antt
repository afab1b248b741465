-- Refused by the checks, or accepted and then decided by the grammar.
use Rattle.std.proofs.Common.{rules}
use Rattle.checker.proofs.Verdicts.{accepted_of, accepted_starts}
use Rattle.normal_form.proofs.IsNormal.{err_tested, accepted_tested}
use Rattle.normal_form.proofs.is_normal.is_normal.Goals as goal

pub returns-in_err-check_within : goal.returns-in_err-check_within
returns-in_err-check_within c = search (rules, err_tested)

pub is_normal_form-requires : goal.is_normal_form-requires
is_normal_form-requires c =
    let a = accepted_of _ _ _ c.in_ok-check_within.ensures in
    (accepted_starts a, a.short)

pub returns : goal.returns
returns c = accepted_tested _ _ (accepted_of _ _ _ c.in_ok-check_within.ensures) c.is_normal_form.ensures
