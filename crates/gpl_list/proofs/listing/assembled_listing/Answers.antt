use Rattle.std.proofs.Common.{List, [], Err, map, sym, ap, subst}
use Rattle.expression_defs.specs.Symbols.{Names}
use Rattle.expression_defs.proofs.DefinedNames.{grown_not}
use Rattle.gpl_source_defs.specs.Locations.{Line}
use Rattle.gpl_source_defs.specs.FirstChecks.{names}
use Rattle.gpl_asm.specs.declared.error.GplError.{GplError}
use Rattle.gpl_asm.specs.declared.error.GplError.TheVariants.{At}
use Rattle.gpl_list.specs.Reading.{model_of_row, model_of_name, Describes, onto}
use Rattle.gpl_list.specs.SecondPass.{AssemblesRows}
use Rattle.gpl_list.proofs.ListingLaws.{listed_whole, listed_front}
use Rattle.gpl_list.proofs.listing.assembled_listing.Goals as goal

pub assemble_rows-requires-clause-described : goal.assemble_rows-requires-clause-described
assemble_rows-requires-clause-described c =
    let given = c.requires in
    let keeps = given.2 in
    let same = c.names.ensures given.1 keeps.after_lines in (
      given.0,
      keeps.rows.0,
      subst (λ (known : Names). Describes given.0 known [] keeps.rows.0 c.args.read.rows.items) (sym same)
          (keeps.rows.2 (names given.1) (grown_not (names given.1))),
    )

pub returns-in-Ok : goal.returns-in-Ok
returns-in-Ok c = λ texts lines keeps.
    let same = c.names.ensures lines keeps.after_lines in
    let rest = keeps.rows.0 in
    let describes = subst (λ (known : Names). Describes texts known [] rest c.args.read.rows.items) (sym same)
    (keeps.rows.2 (names lines) (grown_not (names lines))) in
    let s = rw keeps.rows.1 at (c.in-Ok.ensures {u = tt} texts rest describes) in
    listed_whole texts lines (map model_of_row c.assemble_rows.new.assembled_lines.items) (map model_of_name c.args.read.names.items) c.names.result.now s.0
    same s.1 s.2
    keeps.names

pub returns-in-Err-At : goal.returns-in-Err-At
returns-in-Err-At c = λ texts lines keeps.
    let same = c.names.ensures lines keeps.after_lines in
    let rest = keeps.rows.0 in
    let describes = subst (λ (known : Names). Describes texts known [] rest c.args.read.rows.items) (sym same)
    (keeps.rows.2 (names lines) (grown_not (names lines))) in
    let s = subst (λ (before : List Line). AssemblesRows {A = Unit {0}} texts c.names.result.now before (Err (At c.in-Err-At.line c.in-Err-At.cause))
    c.assemble_rows.new.assembled_lines.items)
    keeps.rows.1
    (subst (λ (error : GplError). AssemblesRows {A = Unit {0}} texts c.names.result.now (onto rest []) (Err error) c.assemble_rows.new.assembled_lines.items)
    c.in-Err-At.field-0-is
    (c.in-Err-At.ensures {u = tt} texts rest describes)) in
    listed_front texts lines (map model_of_row c.assemble_rows.new.assembled_lines.items) (map model_of_name c.new.result.items) c.names.result.now
    (record { line = c.in-Err-At.line; cause = c.in-Err-At.cause }) same s.0 s.1 (ap (map model_of_name) c.new.ensures.items)
