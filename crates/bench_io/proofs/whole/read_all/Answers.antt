use Rattle.std.proofs.Common.{◌≡◌, ◌≤◌, [], length, take, drop, ◌++◌, ap, ◌∙◌, refl, arith, rules, length-append, length-take}
use Rattle.std.proofs.lemmas.Result.{err_from_is_err_and}
use Rattle.std.proofs.lemmas.List.{take-append-le}
use Rattle.bench_io.proofs.TakeCalls.{consumed_then, consumed_more, consumed_last, largest_last, rose_since, few_calls}
use Rattle.bench_io.proofs.whole.read_all.Goals as goal

pub loop-bytes-preserved : goal.loop-bytes-preserved
loop-bytes-preserved g c =
    let count = c.in_ok-count.count in
    let le : count ≤ length c.take_once.new.buffer = omega (arith, c.in_ok-count.ensures.within, c.take_once.auto.buffer) in
    let piece = take-append-le count c.take_once.new.buffer (drop c.min-room.result c.loop-bytes.buffer) le in
    let items = c.in_ok-extend_from_slice.ensures.items ∙ ap (λ x. c.loop-bytes.bytes.items ++ x) piece in
    let len : length (take count c.take_once.new.buffer) ≡ count = simp length-take (omega arith) in
    let size = length-append c.loop-bytes.bytes.items (take count c.take_once.new.buffer) in
    record {
      consumed = rw items (consumed_more _ _ _ _ _ _ (omega arith) c.loop-bytes.invariant.consumed c.in_ok-count.ensures.consumed);
      within = omega (arith, ap length items, size, len, c.loop-bytes.bytes.ok.0);
      piece = search rules;
      kept = c.take_once.ensures.kept ∙ c.loop-bytes.invariant.kept;
    }

pub returns-then-count-eq0-clause-ok : goal.returns-then-count-eq0-clause-ok
returns-then-count-eq0-clause-ok g c =
    let none = c.if-count-eq0.true in
    let nothing : take c.in_ok-count.count c.take_once.new.buffer ≡ [] = rw none refl in
    record {
      consumed = consumed_last _ _ _ _ _ _ nothing (omega arith) c.loop-bytes.invariant.consumed c.in_ok-count.ensures.consumed;
      within = c.loop-bytes.invariant.within;
      end = c.in_ok-count.ensures.end none;
      largest = largest_last _ _ _ _ _ _ c.loop-bytes.invariant.consumed c.in_ok-count.ensures.given;
    }

pub returns-in_err-count-clause-err : goal.returns-in_err-count-clause-err
returns-in_err-count-clause-err g c =
    let p = err_from_is_err_and c.from_residual.result c.from_residual.ensures.1 in
    rw (p.1, p.2) (
      c.loop-bytes.bytes.items,
      c.loop-bytes.invariant.within,
      consumed_last _ _ _ _ _ _ refl refl c.loop-bytes.invariant.consumed c.in_err-count.ensures.failed,
      rose_since _ _ _ c.loop-bytes.invariant.consumed.faults c.in_err-count.ensures.cause,
    )

pub returns-then-limit-len-clause-err : goal.returns-then-limit-len-clause-err
returns-then-limit-len-clause-err g c =
    let count = c.in_ok-count.count in
    let le : count ≤ length c.take_once.new.buffer = omega (arith, c.in_ok-count.ensures.within, c.take_once.auto.buffer) in
    let len : length (take count c.take_once.new.buffer) ≡ count = simp length-take (omega arith) in (
      c.loop-bytes.bytes.items ++ take count c.take_once.new.buffer,
      omega (
        arith,
        length-append c.loop-bytes.bytes.items (take count c.take_once.new.buffer),
        len,
        c.in_ok-count.ensures.within,
        length-take c.min-room.result c.loop-bytes.buffer,
        c.if-limit-len.true,
        c.len.ensures,
        c.len-in-loop-bytes.ensures,
        c.min-room.ensures,
        c.loop-bytes.bytes.ok.0,
      ),
      consumed_more _ _ _ _ _ _ (omega arith) c.loop-bytes.invariant.consumed c.in_ok-count.ensures.consumed,
      largest_last _ _ _ _ _ _ c.loop-bytes.invariant.consumed c.in_ok-count.ensures.given,
    )

pub returns-in_err-extend_from_slice-clause-err : goal.returns-in_err-extend_from_slice-clause-err
returns-in_err-extend_from_slice-clause-err g c =
    let p = err_from_is_err_and c.from_residual-in_err-extend_from_slice.result c.from_residual-in_err-extend_from_slice.ensures.1 in
    let count = c.in_ok-count.count in
    let le : count ≤ length c.take_once.new.buffer = omega (arith, c.in_ok-count.ensures.within, c.take_once.auto.buffer) in
    let len : length (take count c.take_once.new.buffer) ≡ count = simp length-take (omega arith) in
    rw (p.1, p.2) (
      c.loop-bytes.bytes.items ++ take count c.take_once.new.buffer,
      simp length-append (omega (arith, len, c.loop-bytes.bytes.ok.0)),
      consumed_more _ _ _ _ _ _ (omega arith) c.loop-bytes.invariant.consumed c.in_ok-count.ensures.consumed,
    )

pub returns-in_err-count-clause-calls : goal.returns-in_err-count-clause-calls
returns-in_err-count-clause-calls g c =
    let consumed = consumed_last _ _ _ _ _ _ refl refl c.loop-bytes.invariant.consumed c.in_err-count.ensures.failed in
    few_calls _ _ _ _ _ consumed (omega (arith, c.loop-bytes.invariant.within))

pub returns-then-count-eq0-clause-calls : goal.returns-then-count-eq0-clause-calls
returns-then-count-eq0-clause-calls g c =
    let nothing : take c.in_ok-count.count c.take_once.new.buffer ≡ [] = rw c.if-count-eq0.true refl in
    let consumed = consumed_last _ _ _ _ _ _ nothing (omega arith) c.loop-bytes.invariant.consumed c.in_ok-count.ensures.consumed in
    few_calls _ _ _ _ _ consumed (omega (arith, c.loop-bytes.invariant.within))

pub returns-then-limit-len-clause-calls : goal.returns-then-limit-len-clause-calls
returns-then-limit-len-clause-calls g c =
    let count = c.in_ok-count.count in
    let consumed = consumed_then _ _ _ _ _ _ _ c.loop-bytes.invariant.consumed c.in_ok-count.ensures.consumed in
    few_calls _ _ _ _ _ consumed (simp (length-append, length-take) (omega (
      arith,
      c.in_ok-count.ensures.within,
      length-take c.min-room.result c.loop-bytes.buffer,
      c.min-room.ensures,
      c.loop-bytes.bytes.ok.0,
    )))

pub returns-in_err-extend_from_slice-clause-calls : goal.returns-in_err-extend_from_slice-clause-calls
returns-in_err-extend_from_slice-clause-calls g c =
    let consumed = consumed_then _ _ _ _ _ _ _ c.loop-bytes.invariant.consumed c.in_ok-count.ensures.consumed in
    few_calls _ _ _ _ _ consumed (simp (length-append, length-take) (omega (
      arith,
      c.in_ok-count.ensures.within,
      length-take c.min-room.result c.loop-bytes.buffer,
      c.min-room.ensures,
      c.loop-bytes.bytes.ok.0,
    )))
