use Rattle.sim_rows.proofs.Common.{off, on}
use Rattle.sim_move.proofs.Copies
use Rattle.sim_move.proofs.family.decode_move.Goals as goal

pub returns-then-pc-ne-MOVEL : goal.returns-then-pc-ne-MOVEL
returns-then-pc-ne-MOVEL g c =
    Copies.no_length c.requires.is_at c.requires.dispatched c.find_length.ensures (off c.pc.ensures.value c.if-pc-ne-MOVEL.true)

pub returns-then-pc-ne-MOVES : goal.returns-then-pc-ne-MOVES
returns-then-pc-ne-MOVES g c =
    Copies.no_target c.requires.is_at c.requires.dispatched c.find_length.ensures (on c.pc.ensures.value c.if-pc-ne-MOVEL.false)
    c.find_places.ensures (off c.pc-2.ensures.value c.if-pc-ne-MOVES.true)

pub returns-then-pc-eq-GSTOP : goal.returns-then-pc-eq-GSTOP
returns-then-pc-eq-GSTOP g c =
    Copies.no_source c.requires.is_at c.requires.dispatched c.find_length.ensures (on c.pc.ensures.value c.if-pc-ne-MOVEL.false)
    c.find_places.ensures (on c.pc-2.ensures.value c.if-pc-ne-MOVES.false) c.index_source.ensures
    (on c.pc-3.ensures.value c.if-pc-eq-GSTOP.true)

pub turn_to_source-requires : goal.turn_to_source-requires
turn_to_source-requires g c =
    Copies.at_turn c.requires.is_at c.requires.dispatched c.find_length.ensures (on c.pc.ensures.value c.if-pc-ne-MOVEL.false)
    c.find_places.ensures (on c.pc-2.ensures.value c.if-pc-ne-MOVES.false) c.index_source.ensures
    (off c.pc-3.ensures.value c.if-pc-eq-GSTOP.false)

pub returns : goal.returns
returns g c =
    Copies.from_source c.requires.is_at c.requires.dispatched c.find_length.ensures (on c.pc.ensures.value c.if-pc-ne-MOVEL.false)
    c.find_places.ensures (on c.pc-2.ensures.value c.if-pc-ne-MOVES.false) c.index_source.ensures
    (off c.pc-3.ensures.value c.if-pc-eq-GSTOP.false) c.turn_to_source.ensures
