use Rattle.std.proofs.Common.{◌∙◌, sym}
use Rattle.gpl_disasm.proofs.Listed.{refused_listed}
use Rattle.gpl_disasm.proofs.line.push_listed.Goals as goal

pub returns-in-Refused-clause-text : goal.returns-in-Refused-clause-text
returns-in-Refused-clause-text c =
    let read = sym c.read_instr.ensures.value ∙ c.in-Refused.is in
    rw (refused_listed c.args.image.now c.args.at c.args.end c.in-Refused.code read, c.in-Refused.ensures.means.there)
    c.push_byte_line.ensures.text

pub returns-in-Refused-clause-size : goal.returns-in-Refused-clause-size
returns-in-Refused-clause-size c =
    let read = sym c.read_instr.ensures.value ∙ c.in-Refused.is in
    rw (refused_listed c.args.image.now c.args.at c.args.end c.in-Refused.code read) c.push_byte_line.ensures.one
