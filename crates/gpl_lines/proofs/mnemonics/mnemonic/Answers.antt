use Rattle.std.proofs.Common.{◌∙◌, Some, None}
use Rattle.gpl_lines.proofs.NameLaws.{by_number}
use Rattle.gpl_lines.proofs.mnemonics.mnemonic.Goals as goal

pub returns-in_err-word_key : goal.returns-in_err-word_key
returns-in_err-word_key c = c.from_residual.ensures ∙ by_number c.args.text.now None c.type_inv.text c.in_err-word_key.ensures

pub returns : goal.returns
returns c =
    c.instruction_named.ensures ∙ by_number c.args.text.now (Some c.in_ok-word_key.field-0) c.type_inv.text c.in_ok-word_key.ensures
