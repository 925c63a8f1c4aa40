use Rattle.asm_list_defs.proofs.ModuleLaws.{listings_show_modules}
use Rattle.asm_list_defs.proofs.laws.listings_show_modules.Goals as goal

pub returns : goal.returns
returns c = listings_show_modules
