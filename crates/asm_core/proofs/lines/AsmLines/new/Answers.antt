use Rattle.std.proofs.Common.{[], refl}
use Rattle.asm_core.proofs.lines.AsmLines.new.Goals as goal

pub returns-clause-none : goal.returns-clause-none
returns-clause-none c = record {
  lines = [];
  line_layout = refl;
  all = refl;
  after_lines = record {
    names = c.new.ensures;
    location = refl;
    reached = refl;
    title = c.blank_title.ensures;
    defs = c.new-2.ensures.items;
    refs = c.new-3.ensures.items;
    taken = refl;
    ended = refl;
    worked = record { order = []; founds = []; all = refl; known = c.new-4.ensures.items; resolved = tt; image = refl };
  };
}
