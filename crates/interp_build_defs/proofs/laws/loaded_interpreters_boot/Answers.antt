use Rattle.interp_build_defs.proofs.Begins as begins
use Rattle.interp_build_defs.proofs.laws.loaded_interpreters_boot.Goals as goal

pub returns : goal.returns
returns c = begins.interpreters_boot
