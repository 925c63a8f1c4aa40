use Rattle.std.proofs.Common.{◌≡◌, ap, ◌∙◌, Some, None, rules}
use Rattle.std.specs.Option.{option_map}
use Rattle.instruction_defs.specs.declared.mnemonic.Mnemonic.TheVariants.{Of}
use Rattle.asm_forms.proofs.MnemonicKeys.{by_number, is_nop, is_rt, is_named}
use Rattle.asm_forms.proofs.mnemonics.mnemonic.Goals as goal

pub returns-in_err-key : goal.returns-in_err-key
returns-in_err-key c = c.from_residual.ensures ∙ by_number c.args.text.now None c.type_inv.text c.in_err-key.ensures

pub returns-then-key-eq-NOP_KEY : goal.returns-then-key-eq-NOP_KEY
returns-then-key-eq-NOP_KEY c =
    is_nop c.in_ok-key.key c.if-key-eq-NOP_KEY.true
    ∙ by_number c.args.text.now (Some c.in_ok-key.key) c.type_inv.text c.in_ok-key.ensures

pub returns-then-key-eq-RT_KEY : goal.returns-then-key-eq-RT_KEY
returns-then-key-eq-RT_KEY c =
    is_rt c.in_ok-key.key c.if-key-eq-RT_KEY.true
    ∙ by_number c.args.text.now (Some c.in_ok-key.key) c.type_inv.text c.in_ok-key.ensures

pub returns : goal.returns
returns c =
    let key = c.in_ok-key.key in
    let reported = is_named key c.if-key-eq-NOP_KEY.false c.if-key-eq-RT_KEY.false
    ∙ by_number c.args.text.now (Some key) c.type_inv.text c.in_ok-key.ensures in
    let mapped : c.map.result ≡ option_map Of c.operation_named.result = search rules in
    mapped ∙ (ap (option_map Of) c.operation_named.ensures ∙ reported)
