use Rattle.sim_move.proofs.CopiedBytes
use Rattle.sim_move.proofs.Routines
use Rattle.sim_move.proofs.copy.copy_by_routines.Goals as goal

pub run_load-requires-clause-idle : goal.run_load-requires-clause-idle
run_load-requires-clause-idle g c = Routines.idle_asked c.requires.at c.requires.left c.next_byte.ensures

pub run_load-requires-clause-visible : goal.run_load-requires-clause-visible
run_load-requires-clause-visible g c = Routines.visible_asked c.requires.at c.requires.left c.next_byte.ensures

pub store_byte-requires : goal.store_byte-requires
store_byte-requires g c =
    let l = c.run_load.ensures in
    Routines.at_read c.requires.at c.requires.left c.next_byte.ensures l.value l.stream

pub run_store-requires-clause-idle : goal.run_store-requires-clause-idle
run_store-requires-clause-idle g c =
    let l = c.run_load.ensures in
    Routines.idle_storing c.requires.at c.requires.left c.next_byte.ensures l.value l.stream c.store_byte.ensures

pub run_store-requires-clause-visible : goal.run_store-requires-clause-visible
run_store-requires-clause-visible g c =
    let l = c.run_load.ensures in
    Routines.visible_storing c.requires.at c.requires.left c.next_byte.ensures l.value l.stream c.store_byte.ensures

pub count_byte-requires : goal.count_byte-requires
count_byte-requires g c =
    let l = c.run_load.ensures in
    let s = c.run_store.ensures in
    let q = c.requires in
    Routines.at_stored q.at q.left c.next_byte.ensures l.value l.stream c.store_byte.ensures s.register

pub returns : goal.returns
returns g c =
    let q = c.requires in
    let l = c.run_load.ensures in
    let s = c.run_store.ensures in
    CopiedBytes.copies q.at q.is_at.pc q.left
    (Routines.goes q.at q.left c.next_byte.ensures l.value l.stream c.store_byte.ensures s.register
    c.count_byte.ensures)
    (Routines.place_is q.at q.left c.next_byte.ensures l.value l.stream c.store_byte.ensures s.register
    c.count_byte.ensures)
