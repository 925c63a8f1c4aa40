use Rattle.std.proofs.Common.{ap, ◌∙◌}
use Rattle.source_defs.specs.Names.{is_kept_name}
use Rattle.line_table.proofs.Defined.{name_found, with_text, named_at, kept_at}
use Rattle.line_table.proofs.table.name_row.Goals as goal

pub named_row-requires : goal.named_row-requires
named_row-requires c =
    ap is_kept_name c.as_bytes.ensures.value
    ∙ kept_at c.names.result.now (λ name. name.0.now) (λ name. name.1) _ c.names.ensures c.args.index c.requires

pub returns : goal.returns
returns c =
    let here = named_at c.names.result.now (λ name. name.0.now) (λ name. name.1) _ c.names.ensures c.args.index c.requires in
    name_found c.args.index c.named_row.result (with_text c.as_bytes.ensures.value c.named_row.ensures here)
