use Rattle.std.proofs.Common.{◌≡◌, arith}
use Rattle.sim_move.proofs.CopyPaths
use Rattle.sim_move.specs.CopyPieces.{CellsToCells, CellsToVideo, GromToCells, GromToVideo, VideoToCells, VideoToVideo}
use Rattle.sim_move.proofs.copy.copy_byte.Goals as goal
use Rattle.sim_rows.specs.native_interp.declared.addresses.TheConstants.{COPYCC, COPYCV, COPYGC, COPYGV, COPYVC, COPYVV}

pub returns-then-place-eq-COPYCC : goal.returns-then-place-eq-COPYCC
returns-then-place-eq-COPYCC g c =
    let here : c.args.machine.now.cpu.pc ≡ COPYCC = let p = c.pc-place.ensures.value in let r = c.if-place-eq-COPYCC.true in omega arith in
    CopyPaths.copies c.requires.at CellsToCells here c.copy_cell.ensures

pub returns-then-place-eq-COPYVC : goal.returns-then-place-eq-COPYVC
returns-then-place-eq-COPYVC g c =
    let here : c.args.machine.now.cpu.pc ≡ COPYVC = let p = c.pc-place.ensures.value in let r = c.if-place-eq-COPYVC.true in omega arith in
    CopyPaths.copies c.requires.at VideoToCells here c.copy_video.ensures

pub returns-then-place-eq-COPYGC : goal.returns-then-place-eq-COPYGC
returns-then-place-eq-COPYGC g c =
    let here : c.args.machine.now.cpu.pc ≡ COPYGC = let p = c.pc-place.ensures.value in let r = c.if-place-eq-COPYGC.true in omega arith in
    CopyPaths.copies c.requires.at GromToCells here c.copy_grom.ensures

pub returns-then-place-eq-COPYCV : goal.returns-then-place-eq-COPYCV
returns-then-place-eq-COPYCV g c =
    let here : c.args.machine.now.cpu.pc ≡ COPYCV = let p = c.pc-place.ensures.value in let r = c.if-place-eq-COPYCV.true in omega arith in
    CopyPaths.copies c.requires.at CellsToVideo here c.copy_cell_to_video.ensures

pub returns-then-place-eq-COPYGV : goal.returns-then-place-eq-COPYGV
returns-then-place-eq-COPYGV g c =
    let here : c.args.machine.now.cpu.pc ≡ COPYGV = let p = c.pc-place.ensures.value in let r = c.if-place-eq-COPYGV.true in omega arith in
    CopyPaths.copies c.requires.at GromToVideo here c.copy_grom_to_video.ensures

pub returns-then-place-eq-COPYVV : goal.returns-then-place-eq-COPYVV
returns-then-place-eq-COPYVV g c =
    let p = c.pc-place.ensures.value in
    let r = c.if-place-eq-COPYVV.true in
    let here : c.args.machine.now.cpu.pc ≡ COPYVV = omega arith in
    CopyPaths.copies c.requires.at VideoToVideo here c.copy_in_video.ensures
