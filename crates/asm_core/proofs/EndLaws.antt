-- What a builder ends with.
use Rattle.std.proofs.Common.{◌≡◌, [], ◌∷◌, Ok, Some, None, List, sym, ap, subst, ◌∙◌, Vec, Global}
use Rattle.std.specs.Prelude.{Option}
use Rattle.source_defs.specs.Refusals.{◌>>=◌}
use Rattle.source_defs.specs.Orders.{onto}
use Rattle.expression_defs.specs.Symbols.{Names}
use Rattle.expression_defs.specs.Layout.{assembled_lines}
use Rattle.object_defs.specs.Modules.{Module, Reference}
use Rattle.asm_defs.specs.Locations.{Line}
use Rattle.asm_defs.specs.FirstChecks.{names}
use Rattle.asm_defs.specs.Memory.{AssembledLine}
use Rattle.asm_defs.specs.Modules.{assembled_line, module_by, module_after}
use Rattle.module_image.specs.ResolvedLines.{AreAllResolved}
use Rattle.module_image.specs.declared.image.Image.{Image}
use Rattle.asm_core.specs.declared.second_pass.Output.{Output}
use Rattle.asm_core.specs.declared.error.AsmError.{AsmError}
use Rattle.asm_core.specs.declared.lines.AsmLines.{AsmLines}
use Rattle.asm_core.specs.declared.pending.Pending.{Pending}
use Rattle.asm_core.specs.declared.pending.Refused.{Refused}
use Rattle.asm_core.specs.Building.{AreKnown, ImageOf, IsGoing, IsStopped, IsWorked, IsAfter}
use Rattle.asm_core.specs.Resolving.{IsOutput}
use Rattle.asm_core.specs.Finishing.{RefusesAt, AreResolved, StopsAfter, Knows, SameEnd}
use Rattle.asm_core.proofs.ResolveLaws.{assembled_stopped, refuses_on}

-- the lines before the one that is refused, or all
worked_refused : (lines : List Line) (known : Names) (image : Option Image) (waiting : List Pending) (refused : Option Refused)
    → IsWorked lines known image waiting refused
    → (error : AsmError)
    → ((order : List Line) (founds : List AssembledLine) → AreKnown known [] order founds waiting → AreAllResolved [] founds
    → RefusesAt error (assembled_lines (assembled_line known) (onto [] order)))
    → RefusesAt error (assembled_lines (assembled_line known) lines)
worked_refused lines known image waiting None is error refuses =
    refuses_on error (assembled_lines (assembled_line known) (onto [] is.order)) (assembled_lines (assembled_line known) lines)
    (λ refusal e. ap (assembled_lines (assembled_line known)) is.all ∙ e) (refuses is.order is.founds is.known is.resolved)
worked_refused lines known image waiting (Some refused) is error refuses =
    refuses_on error (assembled_lines (assembled_line known) (onto [] is.order)) (assembled_lines (assembled_line known) lines)
    (λ refusal e. ap (assembled_lines (assembled_line known)) is.all ∙ assembled_stopped known (is.line ∷ is.later) (onto [] is.order) refusal e)
    (refuses is.order is.founds is.known is.resolved)

module _ (lines : List Line) (old new : AsmLines) (is : IsAfter lines old) (same : SameEnd old new) where
  works : IsWorked lines new.symbols old.image new.waiting.items new.refused
  works = rw (same.symbols, ap (λ (waiting : Vec Pending Global). waiting.items) same.waiting, same.refused) is.worked

  names_are : new.symbols ≡ names lines
  names_are = same.symbols ∙ is.names

  whole : (error : AsmError) → RefusesAt error (assembled_lines (assembled_line new.symbols) lines) → RefusesAt error (module_after lines)
  whole error refuses =
      refuses_on error (assembled_lines (assembled_line new.symbols) lines) (module_after lines)
      (λ refusal e.
      ap (λ (known : Names). assembled_lines (assembled_line known) lines >>= λ found. Ok (module_by lines found)) (sym names_are)
      ∙ ap (λ answer. answer >>= λ found. Ok (module_by lines found)) e)
      refuses

  pub ends_refused : (error : AsmError)
      → ((order : List Line) (founds : List AssembledLine) → AreKnown new.symbols [] order founds new.waiting.items → AreAllResolved [] founds
      → RefusesAt error (assembled_lines (assembled_line new.symbols) (onto [] order)))
      → RefusesAt error (module_after lines)
  ends_refused error refuses = whole error (worked_refused lines new.symbols old.image new.waiting.items new.refused works error refuses)

  module _ (unused : List Reference) (first last : Output) (done : (order : List Line) (founds : List AssembledLine)
      → AreKnown new.symbols [] order founds new.waiting.items → AreAllResolved [] founds → AreResolved unused order founds new.symbols first last) where
    pub ends_stopped : (refused : Refused) → new.refused ≡ Some refused → (error : AsmError)
        → ((lines : List Line) (waiting : List Pending) (done : List AssembledLine) → (is : IsStopped refused lines new.symbols waiting)
        → StopsAfter new.symbols lines is.order is.founds done error)
        → RefusesAt error (module_after lines)
    ends_stopped refused some error stops =
        let stopped : IsStopped refused lines new.symbols new.waiting.items = subst (IsWorked lines new.symbols old.image new.waiting.items) some works in
        let before = done stopped.order stopped.founds stopped.known stopped.resolved in
        whole error (stops lines new.waiting.items before.done stopped before.assembled_lines before.places)

    pub ends_going : new.refused ≡ None → ((founds : List AssembledLine) → ImageOf (onto [] founds) old.image → IsOutput unused [] founds first) → (found : Module)
        → ((assembled_lines : List AssembledLine) → Knows lines new → IsOutput unused assembled_lines [] last → found ≡ module_by lines assembled_lines) → module_after lines ≡ Ok found
    ends_going none begun found makes =
        let going : IsGoing lines new.symbols old.image new.waiting.items = subst (IsWorked lines new.symbols old.image new.waiting.items) none works in
        let all = done going.order going.founds going.known going.resolved in
        let knows : Knows lines new = record {
          names = names_are;
          reached = same.reached ∙ is.reached;
          title = same.title ∙ is.title;
          defs = same.defs ∙ is.defs;
        } in
        let assembled_are : assembled_lines (assembled_line new.symbols) lines ≡ Ok all.done = ap (assembled_lines (assembled_line new.symbols)) going.all ∙ all.assembled_lines in
        ap (λ (known : Names). assembled_lines (assembled_line known) lines >>= λ found. Ok (module_by lines found)) (sym names_are)
        ∙ (ap (λ answer. answer >>= λ found. Ok (module_by lines found)) assembled_are
        ∙ ap Ok (sym (makes all.done knows (all.output (begun going.founds going.image)))))
