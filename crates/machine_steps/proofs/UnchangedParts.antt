-- What is the same before and after an instruction is not shown.
use Rattle.std.proofs.Common.{◌≡◌, ℕ, zero, suc, ◌+◌, ◌-◌, ◌*◌, Bool, true, false, cond, ◌&&◌, List, [], ◌∷◌, ◌++◌, take, get_or}
use Rattle.std.proofs.Common.{Option, Some, None, refl, sym, ap, ap₂, ◌∙◌, subst, arith}
use Rattle.std.specs.List.{flat_map, range_with_len}
use Rattle.std.specs.Option.{option_map}
use Rattle.std.specs.Prelude.{◌==◌, slice_range}
use Rattle.std.proofs.lemmas.Bool.{eq-eqb}
use Rattle.std.proofs.lemmas.List.{take-append-drop}
use Rattle.std.proofs.lemmas.List.Folds.{drop_split}
use Rattle.tms_defs.specs.Instructions.{instr_at}
use Rattle.tms_defs.specs.declared.instruction.Instr.{Instr}
use Rattle.tms_defs.specs.declared.instruction.Instr.TheVariants as instr
use Rattle.tms_defs.specs.declared.step_end.StepEnd.{StepEnd}
use Rattle.tms_defs.specs.declared.step_end.StepEnd.TheVariants.{Done}
use Rattle.console_defs.specs.Vdp.{VdpState}
use Rattle.console_defs.specs.Grom.{GromState}
use Rattle.console_defs.specs.Memory.{Memory}
use Rattle.console_defs.specs.Machine.{MachineState, machine_step, workspace_base}
use Rattle.step_changes.proofs.Neighbours.{none}
use Rattle.change_defs.specs.Changes.{changes}
use Rattle.machine_change_defs.specs.declared.area.Area.{Area}
use Rattle.machine_change_defs.specs.declared.area.Area.TheVariants.{Scratchpad, LowExpansion, HighExpansion, Video, Registers}
use Rattle.machine_change_defs.specs.declared.latches.Latches.{Latches}
use Rattle.machine_change_defs.specs.Seen.{SeenMemory, seen_memory, area_bytes, area_from, with_bytes, workspace_place, workspace_at, replaced, with_workspace}
use Rattle.machine_change_defs.specs.Changes.{RegisterChange, register_change, held_if_changed, mark_if_changed, latch_changes, other_changes, changes_at, memory_changes}
use Rattle.machine_change_defs.specs.Text.{area_text, latches_text, bytes_text, ports_text, changes_text}
use Rattle.machine_change_defs.proofs.Leaves.{SamePorts, words_leave, jumps_leave}
use Rattle.machine_steps.specs.declared.reach.Reach.{Reach}
use Rattle.machine_steps.specs.declared.reach.Reach.TheVariants.{Words}
use Rattle.machine_steps.specs.Reach.{reach_of, Stays}

-- ---- lists and latches that are the same
area_none : (area : Area) (bytes : List ℕ) → area_text area (changes bytes bytes) ≡ []
unfolding area_text
area_none area bytes = ap (area_text area) (none bytes 0)

register_none : (ws : List ℕ) (n : ℕ) → register_change ws ws n ≡ []
register_none ws n =
    let high = get_or ws (2 * n) 0 in
    let low = get_or ws (2 * n + 1) 0 in
    ap (λ (s : Bool). cond s [] (record { number = n; high = high; low = low } ∷ []))
    (ap₂ (λ (s t : Bool). s && t) (eq-eqb high high refl) (eq-eqb low low refl))

registers_none : (ws : List ℕ) (from n : ℕ) → flat_map (register_change ws ws) (range_with_len from n) ≡ []
registers_none ws from zero = refl
registers_none ws from (suc n) =
    ap (λ (cs : List RegisterChange). cs ++ flat_map (register_change ws ws) (range_with_len (from + 1) n)) (register_none ws from)
    ∙ registers_none ws (from + 1) n

held_none : (held : Option ℕ) → held_if_changed held held ≡ None
held_none None = refl
held_none (Some byte) = rw (eq-eqb byte byte refl) refl

mark_none : (mark : Bool) → mark_if_changed mark mark ≡ None
mark_none true = refl
mark_none false = refl

latches_none : (t : Latches) → latches_text (latch_changes t t) ≡ []
unfolding latches_text
latches_none t =
    rw (
      eq-eqb t.video_address t.video_address refl,
      eq-eqb t.video_fetched t.video_fetched refl,
      held_none t.video_held,
      eq-eqb t.grom_counter t.grom_counter refl,
      eq-eqb t.grom_fetched t.grom_fetched refl,
      mark_none t.grom_half_written,
    ) refl

-- ---- what comes after the ports
pub ports_none : (m n : SeenMemory) → n.video ≡ m.video → n.registers ≡ m.registers → n.latches ≡ m.latches → ports_text (other_changes m n) ≡ []
unfolding ports_text
ports_none m n video registers latches =
    rw (video, registers, latches, area_none Video m.video, area_none Registers m.registers, latches_none m.latches) refl

bytes_none : (m : SeenMemory) → bytes_text (other_changes m m) ≡ []
unfolding bytes_text
bytes_none m =
    rw (area_none Scratchpad m.scratchpad, area_none LowExpansion m.low_expansion, area_none HighExpansion m.high_expansion) refl

-- ---- the workspace
replaced_same : (at : ℕ) (bytes : List ℕ) → replaced at (slice_range bytes at (at + 32)) bytes ≡ bytes
replaced_same at bytes =
    ap (λ rest. take at bytes ++ rest) (sym (drop_split bytes at (at + 32) (omega arith))) ∙ take-append-drop at bytes

with_same : (area : Area) (m : SeenMemory) → with_bytes area (area_bytes area m) m ≡ m
with_same Scratchpad m = refl
with_same LowExpansion m = refl
with_same HighExpansion m = refl
with_same Video m = refl
with_same Registers m = refl

workspace_same : (place : Option (Area × ℕ)) (m : SeenMemory) → with_workspace place (workspace_at place m) m ≡ m
workspace_same None m = refl
workspace_same (Some (area, at)) m =
    ap (λ bytes. with_bytes area bytes m) (replaced_same at (area_bytes area m)) ∙ with_same area m

-- nothing is shown of a memory that is the same
same_text : (place : Option (Area × ℕ)) (m : SeenMemory) → changes_text (changes_at place m m) ≡ []
unfolding changes_text
same_text place m =
    rw (registers_none (workspace_at place m) 0 16, workspace_same place m, bytes_none m, ports_none m m refl refl refl) refl

pub nothing_shown : (wp : ℕ) (m n : SeenMemory) → n ≡ m → changes_text (memory_changes wp m n) ≡ []
nothing_shown wp m n same = ap (λ k. changes_text (memory_changes wp m k)) same ∙ same_text (workspace_place wp) m

-- a workspace is in bytes that the processor addresses
pub record KeepsPorts (m n : SeenMemory) : Type 0 where
  pub video : n.video ≡ m.video
  pub registers : n.registers ≡ m.registers
  pub latches : n.latches ≡ m.latches

pub workspace_keeps : (wp : ℕ) (ws : List ℕ) (m : SeenMemory) → KeepsPorts m (with_workspace (workspace_place wp) ws m)
workspace_keeps wp ws m = by (workspace_base wp)
  where
    by_area : (base : ℕ) (low high : Bool) →
        KeepsPorts m (with_workspace (Some (cond low Scratchpad (cond high LowExpansion HighExpansion), wp - base)) ws m)
    by_area base true high = record { video = refl; registers = refl; latches = refl }
    by_area base false true = record { video = refl; registers = refl; latches = refl }
    by_area base false false = record { video = refl; registers = refl; latches = refl }

    by : (base : Option ℕ) → KeepsPorts m (with_workspace (option_map (λ base. (area_from base, wp - base)) base) ws m)
    by None = record { video = refl; registers = refl; latches = refl }
    by (Some base) = by_area base (base == 0x8300) (base == 0x2000)

-- ---- instructions
ports_stay : (m n : Memory) → SamePorts m n → Stays Words (seen_memory m) (seen_memory n)
ports_stay m n (vdp, grom) = (
  ap (λ (v : VdpState). v.memory) vdp,
  ap (λ (v : VdpState). v.registers) vdp,
  ap₂ (λ (v : VdpState) (g : GromState). latches v g) vdp grom,
)
  where
    latches : VdpState → GromState → Latches
    latches v g = record { video_address = v.address; video_fetched = v.fetched; video_held = v.held; grom_counter = g.counter; grom_fetched = g.fetched; grom_half_written = g.half_written }

pub stays : (x : MachineState) (word : ℕ) → (machine_step x).0 ≡ Done word
    → Stays (reach_of (instr_at word)) (seen_memory x.cpu.memory) (seen_memory (machine_step x).1.cpu.memory)
stays x word done = by (instr_at word) refl
  where
    by : (i : Option Instr) → instr_at word ≡ i → Stays (reach_of i) (seen_memory x.cpu.memory) (seen_memory (machine_step x).1.cpu.memory)
    by None is = tt
    by (Some (instr.Two o true d s)) is = tt
    by (Some (instr.Two o false d s)) is = ports_stay x.cpu.memory (machine_step x).1.cpu.memory (words_leave x word done (rw is tt))
    by (Some (instr.Reg o d s)) is = ports_stay x.cpu.memory (machine_step x).1.cpu.memory (words_leave x word done (rw is tt))
    by (Some (instr.Shift o c w)) is = ports_stay x.cpu.memory (machine_step x).1.cpu.memory (words_leave x word done (rw is tt))
    by (Some (instr.One o s)) is = ports_stay x.cpu.memory (machine_step x).1.cpu.memory (words_leave x word done (rw is tt))
    by (Some (instr.Jump o d)) is = ap seen_memory (jumps_leave x word done (o, d, is))
    by (Some (instr.Imm o w)) is = ports_stay x.cpu.memory (machine_step x).1.cpu.memory (words_leave x word done (rw is tt))
    by (Some (instr.Bare o)) is = ports_stay x.cpu.memory (machine_step x).1.cpu.memory (words_leave x word done (rw is tt))

-- the same of what is kept and what is seen
module _ (x z : MachineState) (end : StepEnd) (word : ℕ) (stepped : (end, z) ≡ machine_step x) (done : end ≡ Done word)
    (reach : Reach) (reaches : reach ≡ reach_of (instr_at word)) (kept : SeenMemory) (is : kept ≡ seen_memory x.cpu.memory)
    (m : Memory) (now : m ≡ z.cpu.memory) where
  abbrev far : Reach
  far = reach_of (instr_at word)

  abbrev before : SeenMemory
  before = seen_memory x.cpu.memory

  end_is : (machine_step x).0 ≡ Done word
  end_is = sym (ap (λ (s : StepEnd × MachineState). s.0) stepped) ∙ done

  next_is : (machine_step x).1 ≡ z
  next_is = sym (ap (λ (s : StepEnd × MachineState). s.1) stepped)

  after_step : Stays far before (seen_memory z.cpu.memory)
  after_step = subst (λ (w : MachineState). Stays far before (seen_memory w.cpu.memory)) next_is (stays x word end_is)

  seen_now : Stays far before (seen_memory m)
  seen_now = subst (λ (n : Memory). Stays far before (seen_memory n)) (sym now) after_step

  pub stays_at : Stays reach kept (seen_memory m)
  stays_at =
      subst (λ (r : Reach). Stays r kept (seen_memory m)) (sym reaches)
      (subst (λ (k : SeenMemory). Stays far k (seen_memory m)) (sym is) seen_now)
