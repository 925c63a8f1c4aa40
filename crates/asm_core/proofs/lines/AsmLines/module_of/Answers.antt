use Rattle.std.proofs.Common.{◌≡◌, ◌++◌, ℕ, refl, ap, ◌∙◌}
use Rattle.std.specs.Prelude.{map, Option}
use Rattle.expression_defs.specs.Symbols.{Names}
use Rattle.object_tags.specs.Seen.{model_of_ref, model_of_def}
use Rattle.asm_defs.specs.declared.content.Content.{Content}
use Rattle.asm_defs.specs.declared.location.Part.{Part}
use Rattle.asm_defs.specs.declared.location.Part.TheVariants as part
use Rattle.asm_defs.specs.FirstChecks.{refs, names, defs}
use Rattle.asm_defs.specs.Memory.{content_at, pieces_in, part_words}
use Rattle.asm_defs.specs.Modules.{unused, definition_in}
use Rattle.module_image.specs.Tables.{cell}
use Rattle.module_image.proofs.PieceLaws.{pieces_same}
use Rattle.asm_core.proofs.lines.AsmLines.module_of.Goals as goal

all_same : (f g : ℕ → Option Content) (at : Part) → ((p : ℕ) → f p ≡ g p) → pieces_in f at ≡ pieces_in g at
unfolding part_words
all_same f g at same = pieces_same f g at 0 32768 same

pub returns : goal.returns
returns c = λ lines assembled_lines is output.
    let references = map unused (refs lines) in
    let image = c.args.output.now.image in
    let relocatable = all_same _ (content_at references assembled_lines part.Relocatable) part.Relocatable output.bytes.image.relocatable in
    let absolute = all_same _ (content_at references assembled_lines part.Absolute) part.Absolute output.bytes.image.absolute in
    let pieces =
    c.in_ok-pieces.ensures
    ∙ (ap (λ pieces. pieces ++ pieces_in (cell image.absolute.cells.items) part.Absolute) relocatable
    ∙ ap (λ pieces. pieces_in (content_at references assembled_lines part.Relocatable) part.Relocatable ++ pieces) absolute) in
    let listed : map model_of_def c.in_ok-defs.field-0 ≡ map (definition_in (names lines)) (defs lines) =
    c.in_ok-defs.ensures
    ∙ (ap (map (definition_in c.args.self.now.symbols)) (c.as_slice.ensures.value ∙ is.defs)
    ∙ ap (λ (known : Names). map (definition_in known) (defs lines)) is.names) in
    let last = c.in_ok-refs.ensures ∙ (ap (map model_of_ref) c.as_slice-2.ensures.value ∙ output.bytes.references) in
    rw (is.title, is.reached, pieces, listed, last, output.entry) refl
