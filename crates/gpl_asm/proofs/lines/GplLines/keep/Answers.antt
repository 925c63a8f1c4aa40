use Rattle.std.proofs.Common.{◌≡◌, Ok, Err, List, sym, subst}
use Rattle.std.specs.Prelude.{Result, OnOk, OnErr}
use Rattle.expression_defs.specs.Symbols.{Names}
use Rattle.expression_defs.specs.Growing.{Grows}
use Rattle.expression_defs.specs.Layout.{with_names}
use Rattle.expression_defs.proofs.DefinedNames.{grown_on}
use Rattle.gpl_source_defs.specs.FirstChecks.{label_entry}
use Rattle.gpl_asm.specs.declared.pending.Pending.{Pending}
use Rattle.gpl_asm.specs.Room.{AllHaveRoom}
use Rattle.gpl_asm.proofs.lines.GplLines.keep.Goals as goal

-- names grow by a label or stay, so what waits has room by those that are still to come
has_room : {A E : Type 0} (result : Result A E) (known new more : Names) (waiting : List Pending) → OnOk result (new ≡ more) → OnErr result (new ≡ known)
    → Grows known more → AllHaveRoom known waiting → AllHaveRoom new waiting
has_room (Ok value) known new more waiting is same grows room = λ later on. room later (grown_on known new later (subst (Grows known) (sym is) grows) on)
has_room (Err error) known new more waiting is same grows room = subst (λ (known : Names). AllHaveRoom known waiting) (sym same) room

pub invariant_of-self-clause-room : goal.invariant_of-self-clause-room
invariant_of-self-clause-room c =
    let kept = c.wait.new.self in
    let entry = label_entry c.args.label c.args.number in
    has_room c.define.result kept.symbols c.define.new.symbols (with_names kept.symbols entry) kept.waiting.items c.define.ensures.defined
    c.define.ensures.unchanged (subst (λ (known : Names). Grows known (with_names known entry)) (sym c.wait.ensures.names) c.requires.fresh) kept.room
