use Rattle.std.proofs.Common.{◌≡◌, ℕ, List, ◌++◌, length, ap, sym, ◌∙◌, length-append, arith}
use Rattle.std.specs.List.{flat_map, range_with_len}
use Rattle.report_defs.specs.DemoText.{demo_text, block_at, block_line, next_number, last_lines}
use Rattle.demo_program.proofs.Blocks.{more_blocks, number_after}
use Rattle.demo_program.proofs.text.demo_text.Goals as goal

pub loop-index-preserved : goal.loop-index-preserved
loop-index-preserved c =
    let number = c.args.number in
    let n = c.loop-index.index in
    let i = c.loop-index.invariant in
    let grown = c.in_ok-extend_from_slice.ensures in
    let line = c.as_slice.ensures.value ∙ (c.block_line.ensures.text ∙ ap (block_line n) i.block) in
    let text = c.loop-index.text.items in
    let size = length-append text c.as_slice.result.now in
    let short = c.block_line.ensures.size in
    let same = ap length c.as_slice.ensures.value in
    let whole = ap length grown.items in
    let before = i.size in
    record {
      text =
          grown.items
          ∙ (ap (λ (t : List ℕ). text ++ t) line
          ∙ (ap (λ (t : List ℕ). t ++ block_at number n) i.text ∙ sym (more_blocks number n)));
      block = c.next_number-block_number-in-loop-index.ensures ∙ (ap next_number (c.from.ensures ∙ i.block) ∙ sym (number_after number n));
      size = omega (arith, size, short, same, whole, before);
    }

pub returns-clause-text : goal.returns-clause-text
unfolding demo_text
returns-clause-text c =
    let number = c.args.number in
    let i = c.loop-index.invariant in
    let all : c.loop-index.index ≡ number = omega (arith, c.loop-index-test.false, c.loop-index.auto.index-end) in
    let grown = c.in_ok-extend_from_slice-2.ensures in
    grown.items
    ∙ (ap (λ (t : List ℕ). c.loop-index.text.items ++ t) c.last_lines.ensures.text
    ∙ (ap (λ (t : List ℕ). t ++ last_lines) i.text
    ∙ ap (λ (k : ℕ). flat_map (block_at number) (range_with_len 0 k) ++ last_lines) all))
