use Rattle.std.proofs.Common.{refl, subst, ◌∙◌}
use Rattle.asm_defs.specs.Statements.{Statement, parse_line}
use Rattle.asm_checks.specs.Answers.{Fails}
use Rattle.asm_checks.specs.declared.failure.Failure.{Failure}
use Rattle.asm_list_defs.specs.Listed as listed
use Rattle.asm_list.specs.Adding.{Shows, known_to}
use Rattle.asm_list.proofs.ShownLaws.{nothing_parsed, nothing_text}
use Rattle.asm_list.proofs.shown.Lister.shown_line.Goals as goal

pub returns-in-Err-Refused : goal.returns-in-Err-Refused
returns-in-Err-Refused c =
    let line = c.args.line.now in
    let answer = parse_line line.text.items in
    let parsed = rw c.as_slice.ensures.value at c.in-Err-Refused.ensures.parsed in
    let is = nothing_parsed (known_to c.args.self.now) line.taken.at line.taken.origin c.in-Err-Refused.field-0-0 answer
    (subst (λ (failure : Failure). Fails {B = Statement} failure answer) c.in-Err-Refused.field-0-is parsed) in
    subst (λ (defined : listed.Shown). Shows (record { at = line.taken.at; placed = c.new.result }) defined) is
    (record { at = refl; placed = c.new.ensures.items ∙ nothing_text })
