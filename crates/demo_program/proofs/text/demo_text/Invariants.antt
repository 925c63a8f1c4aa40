use Rattle.std.proofs.Common.{◌≡◌, ◌≤◌, ◌*◌, length}
use Rattle.std.specs.List.{flat_map, range_with_len}
use Rattle.report_defs.specs.DemoText.{number_of_block, block_at}
use Rattle.demo_program.proofs.text.demo_text.Given as goal

-- the blocks so far are in the text, and the number of the next is known
abbrev pub invariant-loop-index : goal.invariant-loop-index
invariant-loop-index l = record {
  text : l.text.items ≡ flat_map (block_at l.fn.number) (range_with_len 0 l.index);
  block : l.block_number ≡ number_of_block l.fn.number l.index;
  size : length l.text.items ≤ 34 * l.index;
}
