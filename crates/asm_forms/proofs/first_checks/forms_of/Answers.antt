use Rattle.std.proofs.Common.{arith}
use Rattle.asm_forms.proofs.Counted.{one_is_counted, two_are_counted}
use Rattle.asm_forms.proofs.first_checks.forms_of.Goals as goal

pub returns-in_err-span-in-One-clause-forms : goal.returns-in_err-span-in-One-clause-forms
returns-in_err-span-in-One-clause-forms c = grind (arith, one_is_counted)

pub returns-in_err-form-in-One-clause-forms : goal.returns-in_err-form-in-One-clause-forms
returns-in_err-form-in-One-clause-forms c = grind (arith, one_is_counted)

pub returns-in_err-first-in-Two-clause-forms : goal.returns-in_err-first-in-Two-clause-forms
returns-in_err-first-in-Two-clause-forms c = grind (arith, two_are_counted)

pub returns-in_ok-form-in-One-clause-forms : goal.returns-in_ok-form-in-One-clause-forms
returns-in_ok-form-in-One-clause-forms c = grind (arith, one_is_counted)

pub returns-in_ok-first-in-Two-clause-forms : goal.returns-in_ok-first-in-Two-clause-forms
returns-in_ok-first-in-Two-clause-forms c = grind (arith, two_are_counted)
