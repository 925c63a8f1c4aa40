use Rattle.std.proofs.Common.{subst}
use Rattle.std.specs.Prelude.{Option, IfSome}
use Rattle.source_defs.specs.declared.text.Span.{Span}
use Rattle.source_defs.specs.Lines.{IsInside}
use Rattle.source_defs.proofs.FieldPlaces.{fields_lie_inside}
use Rattle.asm_forms.proofs.parse.line_checks.Goals as goal

pub part-requires : goal.part-requires
part-requires c =
    let inside : Option Span → _ = λ operation. IfSome operation (IsInside c.args.line.now) in
    subst inside c.unwrap-operation.ensures (fields_lie_inside _ _ c.requires.read).operation
