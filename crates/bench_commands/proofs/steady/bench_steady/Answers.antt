use Rattle.bench_commands.proofs.Steadily.{answers_steadily, ends_steadily, no_read_fault, no_write_fault}
use Rattle.bench_commands.proofs.steady.bench_steady.Goals as goal

pub returns-clause-answers : goal.returns-clause-answers
returns-clause-answers c =
    answers_steadily c.args.words.now c.args.input.now c.bench.new.input c.bench.result
    (ends_steadily c.args.words.now c.args.input.now c.bench.new.input c.new-out.result c.bench.new.out c.new-err.result c.bench.new.err c.bench.result c.new-out.ensures c.new-err.ensures c.bench.ensures.ends)

pub returns-clause-ends : goal.returns-clause-ends
returns-clause-ends c =
    ends_steadily c.args.words.now c.args.input.now c.bench.new.input c.new-out.result c.bench.new.out c.new-err.result c.bench.new.err c.bench.result c.new-out.ensures c.new-err.ensures c.bench.ensures.ends

pub returns-clause-no_read_fault : goal.returns-clause-no_read_fault
returns-clause-no_read_fault c =
    no_read_fault c.args.words.now c.args.input.now c.bench.new.input c.bench.result (returns-clause-ends c)

pub returns-clause-no_write_fault : goal.returns-clause-no_write_fault
returns-clause-no_write_fault c =
    no_write_fault c.args.words.now c.args.input.now c.bench.new.input c.bench.result (returns-clause-ends c)
