use Rattle.std.proofs.Common.{ap, ◌∙◌, ◌++◌, arith}
use Rattle.std.specs.Prelude.{codes}
use Rattle.instruction_defs.specs.Printed.{printed}
use Rattle.instruction_defs.proofs.Windows.{printed_window}
use Rattle.reports.proofs.Listings.{three_words}
use Rattle.reports.proofs.listing_lines.make_front_line.Goals as goal
use Rattle.tms_defs.specs.Words.{words_of_bytes}

pub returns-clause-line : goal.returns-clause-line
returns-clause-line c =
    let words = words_of_bytes c.args.bytes.now in
    let front = three_words c.args.bytes.now _ _ _ _ (omega (arith, c.min.ensures)) c.word_at.ensures c.word_at-2.ensures c.word_at-3.ensures in
    let text =
    c.print_instr-text.ensures.text
    ∙ (ap (λ front. (printed front c.args.at).text) front ∙ ap (λ front. front.text) (printed_window words c.args.at)) in
    rw (← text, c.push.ensures.items, c.append-2.ensures.bytes, c.append.ensures.bytes, c.clear.ensures, c.as_bytes.ensures.value) (ap (λ t. codes "       " ++ (t ++ codes "\n")) c.deref.ensures.0)

pub returns-clause-count : goal.returns-clause-count
returns-clause-count c =
    let words = words_of_bytes c.args.bytes.now in
    let front = three_words c.args.bytes.now _ _ _ _ (omega (arith, c.min.ensures)) c.word_at.ensures c.word_at-2.ensures c.word_at-3.ensures in
    c.print_instr-text.ensures.count
    ∙ (ap (λ front. (printed front c.args.at).count) front ∙ ap (λ front. front.count) (printed_window words c.args.at))
