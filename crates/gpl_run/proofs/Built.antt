-- What is built of the interpreter's module.
use Rattle.std.proofs.Common.{◌≡◌, [], ◌∷◌, Result, Ok, Err, subst}
use Rattle.std.specs.Prelude.{IfOk}
use Rattle.object_defs.specs.Modules.{Module}
use Rattle.asm_defs.specs.Modules.{module_of_source}
use Rattle.link_defs.specs.LinkedMemory.{LinkedMemory, linked}
use Rattle.native_interp.specs.Source.{source}
use Rattle.interp_build_defs.specs.Building.{Links}
use Rattle.interp_build_defs.specs.Interpreter.{IsInterpreter}
use Rattle.interp_build_defs.proofs.OneMemory.{module_linked, one_memory_links}
use Rattle.line_table.proofs.Joined.{source_gives_words}

module _ (unit : Module) (is : module_of_source source ≡ Ok unit) where
  -- it is linked
  pub unit_linked : (memory : LinkedMemory) × (linked (unit ∷ []) ≡ Ok memory)
  unit_linked =
      (source_gives_words.0, module_linked source unit source_gives_words.0 source_gives_words.1.links is)

  -- and what is linked of it is the interpreter
  pub interpreter_there : {T E : Type 0} (view : T → LinkedMemory) (result : Result T E)
      → IfOk result (λ found. linked (unit ∷ []) ≡ Ok (view found)) → IfOk result (λ found. IsInterpreter (view found))
  interpreter_there view (Ok found) e =
      let links : Links source (view found) = record { unit = unit; assembled = is; linked = e } in
      subst IsInterpreter
      (one_memory_links source source_gives_words.0 (view found) source_gives_words.1.links links) source_gives_words.1
  interpreter_there view (Err error) e = tt
