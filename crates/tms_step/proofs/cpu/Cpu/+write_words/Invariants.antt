use Rattle.std.specs.Prelude.{length}
use Rattle.tms_step.proofs.cpu.Cpu.+write_words.Given as goal

abbrev pub decreases-write_words : goal.decreases-write_words
decreases-write_words l = length l.writes.now
