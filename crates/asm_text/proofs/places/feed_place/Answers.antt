use Rattle.std.proofs.Common.{◌≡◌, ◌+◌, ◌<◌, ◌≤◌, length, sym, ap, ◌∙◌, arith}
use lib.Count.{count_trailing_zeros}
use Rattle.asm_text.proofs.Feeds.{feeds, first_feed, no_feed}
use Rattle.asm_text.proofs.places.feed_place.Goals as goal

pub returns-then-feeds-ne0 : goal.returns-then-feeds-ne0
returns-then-feeds-ne0 c =
    let text = c.args.text.now in
    let from = c.loop-from.from in
    let room : from + 32 ≤ length text = omega arith in
    let mask = c.feeds_from-feeds.ensures in
    let some : 0 < feeds text from room = omega (arith, mask) in
    ap (λ n. from + count_trailing_zeros 64 n) mask ∙ (sym (first_feed text from room some) ∙ c.loop-from.invariant.none_before)

pub loop-from-preserved : goal.loop-from-preserved
loop-from-preserved c =
    let text = c.args.text.now in
    let from = c.loop-from.from in
    let room : from + 32 ≤ length text = omega arith in
    let mask = c.feeds_from-feeds.ensures in
    let none : feeds text from room ≡ 0 = omega (arith, mask) in
    record { within = room; none_before = sym (no_feed text from room none) ∙ c.loop-from.invariant.none_before }
