-- Why a source with the files that it copies is refused.
use Rattle.std.specs.Prelude.{Result, Ok, Err}
use Rattle.shelf_defs.specs.Copied as spec
use Rattle.shelf_defs.specs.Copied.{CopyRefusal}
use Rattle.bench_shelf.specs.CopyAnswers.{model_of_cause}
use Rattle.bench_shelf.specs.declared.copy_error.CopyError.{CopyError}
use Rattle.bench_shelf.specs.declared.copy_error.CopyError.TheVariants.{At, TooLarge, Fault, Memory}
use Rattle.report_defs.specs.declared.status.Status.{Status}
use Rattle.report_defs.specs.declared.status.Status.TheVariants as status

-- the refusal of the definitions; a shelf that failed and a lack of memory have none
abbrev pub copy_refusal : CopyError → Result CopyRefusal Status
copy_refusal (At file line cause) = Ok (spec.At (record { file = file; line = line }) (model_of_cause cause))
copy_refusal TooLarge = Ok spec.TooLarge
copy_refusal Fault = Err status.ReadFault
copy_refusal Memory = Err status.Memory
