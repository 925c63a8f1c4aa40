-- The interpreter as it is built.
use Rattle.link_defs.specs.LinkedMemory.{LinkedMemory}
use Rattle.native_interp.specs.Source.{source}
use Rattle.native_interp.specs.declared.words.TheConstants.{INTERP}
use Rattle.interp_build_defs.specs.Building.{Links, HasShipped}

-- The linked memory of the interpreter's source, which has the interpreter's words from >2000 up and no others.
pub record IsInterpreter (memory : LinkedMemory) : Type 0 where
  pub links : Links source memory
  pub words : HasShipped INTERP memory

-- The law, which is proved: the source has such a memory.
abbrev pub SourceGivesWords : Type 0
SourceGivesWords = (memory : LinkedMemory) × IsInterpreter memory
