use Rattle.gpl_forms.proofs.TableLaws.{IsImage-none}
use Rattle.gpl_forms.proofs.image.GromImage.new.Goals as goal

pub returns : goal.returns
returns c =
    let none = IsImage-none c.in_ok-zeros.field-0.items c.in_ok-no_marks.field-0.items c.in_ok-zeros.ensures.size c.in_ok-no_marks.ensures.size
    (λ at _. c.in_ok-zeros.ensures.zeros at) c.in_ok-no_marks.ensures.each in
    none.1

pub invariant_of-result : goal.invariant_of-result
invariant_of-result c =
    let none = IsImage-none c.in_ok-zeros.field-0.items c.in_ok-no_marks.field-0.items c.in_ok-zeros.ensures.size c.in_ok-no_marks.ensures.size
    (λ at _. c.in_ok-zeros.ensures.zeros at) c.in_ok-no_marks.ensures.each in
    none.0
