-- What a line asks for, as the definitions see it.
use Rattle.shelf_defs.specs.CopyLines as spec
use Rattle.bench_shelf.specs.declared.copy_line.LineKind.{LineKind}
use Rattle.bench_shelf.specs.declared.copy_line.LineKind.TheVariants.{Itself, File, Bad}

abbrev pub model_of_asked : LineKind → spec.LineKind
model_of_asked Itself = spec.Itself
model_of_asked (File name) = spec.File name
model_of_asked Bad = spec.Bad
