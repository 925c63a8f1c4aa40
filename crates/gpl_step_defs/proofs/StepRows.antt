-- Worked rows of the step, of runs, and of the bound on the processor's instructions.
use Rattle.std.proofs.Common.{◌≡◌, List, [], ◌∷◌, Some, None, refl}
use Rattle.std.specs.Prelude.{ℕ, map, Ok, Err}
use Rattle.gpl_defs.specs.Reading.{operand_at, reading}
use Rattle.gpl_step_defs.specs.declared.reason.Reason.TheVariants.{Exit, Opcode}
use Rattle.gpl_step_defs.specs.State.{GplState, zeros}
use Rattle.gpl_step_defs.specs.Step.{step, after}
use Rattle.gpl_step_defs.specs.Run.{run, turns, bound, bound_at}
use Rattle.gpl_step_defs.proofs.Rows.{program, cells_of}

-- ST @>8300,5; then EXIT
abbrev stored : GplState
stored = program (0xBE ∷ 0 ∷ 5 ∷ 0x0B ∷ [])

-- ST @>8300,5; B >1234; EXIT; BACK 0; >0F, which is no instruction's
pub steps_of_a_program : map (λ bytes. cells_of (0 ∷ []) (step (program bytes))) ((0xBE ∷ 0 ∷ 5 ∷ []) ∷ (5 ∷ 0x12 ∷ 0x34 ∷ []) ∷ (0x0B ∷ []) ∷ (4 ∷ 0 ∷ []) ∷ (0x0F ∷ []) ∷ [])
    ≡ Ok (3 ∷ 5 ∷ []) ∷ Ok (0x1234 ∷ 0 ∷ []) ∷ Err Exit ∷ Ok (2 ∷ 0 ∷ []) ∷ Err Opcode ∷ []
unfolding zeros reading operand_at after
steps_of_a_program = refl

-- the steps that were done up to a limit, the pc, and the turns
pub steps_up_to_a_limit : map (λ limit. (run limit stored).done ∷ (run limit stored).last.pc ∷ turns limit stored ∷ []) (0 ∷ 1 ∷ 2 ∷ 5 ∷ [])
    ≡ (0 ∷ 0 ∷ 0 ∷ []) ∷ (1 ∷ 3 ∷ 1 ∷ []) ∷ (1 ∷ 3 ∷ 2 ∷ []) ∷ (1 ∷ 3 ∷ 2 ∷ []) ∷ []
unfolding zeros reading operand_at after
steps_up_to_a_limit = refl

pub stop_within_a_limit : map (λ limit. (run limit stored).stop) (1 ∷ 2 ∷ []) ≡ None ∷ Some Exit ∷ []
unfolding zeros reading operand_at after
stop_within_a_limit = refl

-- ST; EXIT; BACK
pub bounds : map (λ bytes. bound (program bytes)) ((0xBE ∷ 0 ∷ 5 ∷ []) ∷ (0x0B ∷ []) ∷ (4 ∷ 0 ∷ []) ∷ []) ≡ 440 ∷ 400 ∷ 440 ∷ []
unfolding zeros reading operand_at after
bounds = refl

abbrev bound_made : List ℕ → ℕ
bound_made bytes = bound_at (reading (program bytes).image 0) (program bytes)

-- MOVE 3,V@0,G@0 and ALL >20
pub bounds_of_copies : map bound_made ((0x31 ∷ 0 ∷ 3 ∷ 0xA0 ∷ 0 ∷ 0 ∷ 0 ∷ []) ∷ (7 ∷ 0x20 ∷ []) ∷ []) ≡ 632 ∷ 6584 ∷ []
unfolding zeros reading operand_at after
bounds_of_copies = refl
