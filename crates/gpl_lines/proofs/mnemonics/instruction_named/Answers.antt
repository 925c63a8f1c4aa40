use Rattle.std.proofs.Common.{◌∙◌, take, drop}
use Rattle.gpl_lines.specs.Named.{named}
use Rattle.gpl_lines.proofs.NameLaws.{in_first, in_other}
use Rattle.gpl_lines.proofs.mnemonics.instruction_named.Goals as goal

pub returns-in-Some-named_in-3 : goal.returns-in-Some-named_in-3
returns-in-Some-named_in-3 c =
    let key = c.args.key in
    in_first key (drop 65 named) (take 10 (drop 55 named)) c.in-Some-named_in-3.found c.in-Some-named_in-3.ensures
    ∙ (in_other key (drop 55 named) (take 17 (drop 38 named)) c.in_default-named_in-2.ensures
    ∙ (in_other key (drop 38 named) (take 19 (drop 19 named)) c.in_default-named_in.ensures
    ∙ in_other key (drop 19 named) (take 19 named) c.in_default.ensures))

pub returns : goal.returns
returns c =
    let key = c.args.key in
    c.named_in-5.ensures
    ∙ (in_other key (drop 65 named) (take 10 (drop 55 named)) c.in_default-named_in-3.ensures
    ∙ (in_other key (drop 55 named) (take 17 (drop 38 named)) c.in_default-named_in-2.ensures
    ∙ (in_other key (drop 38 named) (take 19 (drop 19 named)) c.in_default-named_in.ensures
    ∙ in_other key (drop 19 named) (take 19 named) c.in_default.ensures)))
