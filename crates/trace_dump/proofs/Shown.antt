-- What is seen of a machine on which a program runs, or has ended.
use Rattle.std.proofs.Common.{◌≡◌, ℕ, List, Option, Some, None, refl, sym, ap, ◌∙◌, lit<}
use Rattle.std.proofs.lemmas.List.{take-append-drop}
use Rattle.console_defs.specs.Memory.{IsMemory}
use Rattle.console_defs.specs.Machine.{MachineState}
use Rattle.gpl_step_defs.specs.declared.reason.Reason.{Reason}
use Rattle.gpl_step_defs.specs.State.{GplState}
use Rattle.interp_defs.specs.Match.{IsHalted}
use Rattle.interp_defs.specs.Programs.{EndsAs}
use Rattle.sim_view.proofs.Bridge.{register_is, reg_word}
use Rattle.gpl_run.specs.Sessions.{SessionState, gpl_state_of, address_in}
use Rattle.report_defs.specs.Program.{showing, state_text, state_line, state_lines}

-- A machine shows the state that is seen in it.
pub showing_seen : (t : SessionState) → showing (gpl_state_of t) t.machine ≡ t.machine
showing_seen t =
    let x = t.machine in
    ap (λ (cells : List ℕ). record x { cpu = record x.cpu { memory = record x.cpu.memory { scratchpad = cells } } })
    (take-append-drop 194 x.cpu.memory.scratchpad)

-- what is seen of a machine whose program has ended so
abbrev pub seen_by : Option Reason → MachineState → GplState
seen_by stop x = gpl_state_of (record { machine = x; ended = stop })

-- States that look alike have the same lines.
same_lines : (a b : GplState) (x : MachineState) → a.cells ≡ b.cells → a.vdp ≡ b.vdp → a.registers ≡ b.registers
    → a.pc ≡ b.pc → state_lines a x ≡ state_lines b x
unfolding state_line state_text
same_lines a b x cells vdp registers pc =
    ap (λ (c : List ℕ). state_lines (record a { cells = c }) x) cells
    ∙ ap (λ (v : List ℕ). state_lines (record a { cells = b.cells; vdp = v }) x) vdp
    ∙ ap (λ (r : List ℕ). state_lines (record a { cells = b.cells; vdp = b.vdp; registers = r }) x) registers
    ∙ ap (λ (p : ℕ). state_lines (record b { pc = p; image = a.image }) x) pc

-- Register 1 of a halted machine has the address of the instruction that ended the program.
address_is : (s : GplState) (reason : Reason) (x : MachineState) → IsMemory x.cpu.memory → IsHalted s reason x
    → address_in (Some reason) x ≡ s.pc
address_is s reason x memory halted =
    let m = x.cpu.memory in
    sym (register_is m 0x83E0 1 s.pc memory refl (lit< tt) (sym halted.address) ∙ reg_word m 1 memory (lit< tt))

-- What is seen at the end of a run is its last state.
module _ (last : GplState) (x : MachineState) (memory : IsMemory x.cpu.memory) where
  pub same_pc : (stop : Option Reason) → EndsAs stop last x → (seen_by stop x).pc ≡ last.pc
  same_pc None matches = ap (λ (s : GplState). s.pc) matches.shows
  same_pc (Some reason) halted = address_is last reason x memory halted

  pub same_state : (stop : Option Reason) → EndsAs stop last x → state_lines (seen_by stop x) x ≡ state_lines last x
  same_state None matches = ap (λ (s : GplState). state_lines s x) matches.shows
  same_state (Some reason) halted =
      same_lines (seen_by (Some reason) x) last x halted.cells halted.vdp halted.registers
      (address_is last reason x memory halted)
