-- What instructions on words and jumps leave.
use Rattle.std.proofs.Common.{◌≡◌, ℕ, ◌∙◌, sym, ap, subst, refl, false}
use Rattle.tms_defs.specs.Words.{even}
use Rattle.tms_defs.specs.Instructions.{instr_at}
use Rattle.tms_defs.specs.declared.step_end.StepEnd.TheVariants.{Done}
use Rattle.console_defs.specs.Memory.{Memory, console, Region, PortOf, region}
use Rattle.console_defs.proofs.MemoryLaws.{word_written_in, write_is_by_region}
use Rattle.console_defs.specs.Machine.{MachineState, machine_step}
use Rattle.machine_change_defs.proofs.Keeping.{Holds, holds, Allowed, step_keeps, IsJump, jump_leaves}

one_word : (a b : ℕ) → Done a ≡ Done b → a ≡ b
one_word a b e = cc

-- what comes after the ports is that of a memory
abbrev pub SamePorts : Memory → Memory → Type 0
SamePorts first m = (m.vdp ≡ first.vdp) × (m.grom ≡ first.grom)

written : (first m : Memory) → SamePorts first m → (r : Region) (a w : ℕ) → Holds (SamePorts first) (word_written_in r m a w)
written first m k (PortOf port) a w = record { by = λ n e. absurd (cc) }
written first m k _ a w = holds _ k

module _ (x : MachineState) (word : ℕ) (done : (machine_step x).0 ≡ Done word) where
  same_word : (w : ℕ) → (machine_step x).0 ≡ Done w → instr_at w ≡ instr_at word
  same_word w e = ap instr_at (one_word w word (sym e ∙ done))

  -- an instruction on words
  pub words_leave : Allowed false (instr_at word) → SamePorts x.cpu.memory (machine_step x).1.cpu.memory
  words_leave allowed =
      step_keeps Memory console (SamePorts x.cpu.memory) false
      (λ m a w h.
      subst (Holds (SamePorts x.cpu.memory)) (sym (write_is_by_region m a w))
      (written x.cpu.memory m h (region (even a)) (even a) w))
      (λ never m a h. absurd (cc))
      (λ never m a b h. absurd (cc))
      x.cpu (refl, refl) (λ w e. rw (same_word w e) allowed)

  -- a jump
  pub jumps_leave : IsJump Memory console word → (machine_step x).1.cpu.memory ≡ x.cpu.memory
  jumps_leave (o, d, is) = jump_leaves Memory console x.cpu (λ w e. (o, d, same_word w e ∙ is))
