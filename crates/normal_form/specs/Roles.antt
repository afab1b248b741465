-- What each part of an operation, a let or a case has to be in a normal form, and the kinds of node that can be that.
use Rattle.std.specs.Prelude.{ℕ, Bool, true, cond, ◌||◌, not, eqb, leb}
use Rattle.reduction.specs.FitByKinds.{value_kind}
use Rattle.normal_form.specs.declared.normal.Role.{Role}
use Rattle.normal_form.specs.declared.normal.Role.TheVariants.{Variable, Value, Operation, Normal}

-- the first part: a call's argument is a value, a let's bound part an operation; an application's head, the operand of first and second
-- and a case's subject are variables
abbrev pub first_role : ℕ → Role
first_role k = cond (eqb k 1) Value (cond (eqb k 4) Operation Variable)

-- a later part: arguments and operands are values, a let's body and a case's branches normal forms
abbrev pub later_role : ℕ → Role
later_role k = cond (eqb k 1 || eqb k 3) Value Normal

unfoldable pub role_of : ℕ → ℕ → Role
role_of k j = cond (eqb j 0) (first_role k) (later_role k)

-- the kinds of operations: call, application, first, second
unfoldable pub operation_kind : ℕ → Bool
operation_kind k = eqb k 1 || eqb k 3 || eqb k 6 || eqb k 7

-- a part can be a normal form of its role only if its node is of one of these kinds
unfoldable pub suits : Role → ℕ → Bool
suits Variable h = eqb h 0
suits Value h = value_kind h
suits Operation h = operation_kind h
suits Normal h = true

-- a let's body, its second part, has to use the variable, if what the let binds may be dropped
unfoldable pub keeps_variable : ℕ → ℕ → Bool → ℕ → Bool
keeps_variable k j droppable uses = cond (eqb k 4) (cond (eqb j 0) true (leb 1 uses || not droppable)) true
