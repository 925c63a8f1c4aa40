-- What the view does, the machine does.
use Rattle.std.proofs.Common.{◌≡◌, ℕ, suc, ◌+◌, ◌-◌, ◌*◌, ◌<◌, List, [], ◌∷◌, ◌++◌, length-append, Bool, true, false, length, refl, sym}
use Rattle.std.proofs.Common.{ap, subst, ◌∙◌, arith, eqb, Option, Some, None, get_or}
use Rattle.std.proofs.Math.ListN.{set}
use Rattle.std.specs.Prelude.{nat_lt, ℤ}
use Rattle.std.proofs.lemmas.Bool.{ltb-true}
use Rattle.std.proofs.lemmas.List.{get_or-append_right, get_or_append_left, set-append_right, set-append_left, length-set}
use Rattle.sim_view.specs.Prelude.{even, Flags, GromState, high, join, low, plus, ShiftOp, VdpState, with_word_in, word_in}
use Rattle.tms_defs.specs.Flags.{Width, size_of, Byte, Word, byte_or_word}
use Rattle.tms_defs.specs.Status.{with_result, with_order, with_extension, with_mask, status_word, status_at}
use Rattle.tms_defs.specs.Logic.{swapped, by_ones, by_zeros}
use Rattle.tms_defs.specs.MultiplyDivide.{product_of, division_of, by_division}
use Rattle.tms_defs.specs.Instructions.{instr_at}
use Rattle.tms_defs.specs.declared.instruction.TwoOp.{TwoOp}
use Rattle.tms_defs.specs.declared.instruction.TwoOp.TheVariants.{SZC, S, C, A, MOV, SOC}
use Rattle.tms_defs.specs.declared.instruction.RegOp.{RegOp}
use Rattle.tms_defs.specs.declared.instruction.RegOp.TheVariants.{COC, CZC, XOR, XOP, LDCR, STCR, MPY, DIV}
use Rattle.tms_defs.specs.declared.instruction.OneOp.{OneOp}
use Rattle.tms_defs.specs.declared.instruction.OneOp.TheVariants.{BLWP, B, X, CLR, NEG, INV, INC, INCT, DEC, DECT, BL, SWPB, SETO, ABS}
use Rattle.tms_defs.specs.declared.instruction.ImmOp.{ImmOp}
use Rattle.tms_defs.specs.declared.instruction.ImmOp.TheVariants.{LI, AI, ANDI, ORI, CI, STWP, STST}
use Rattle.tms_defs.specs.declared.instruction.BareOp.{BareOp}
use Rattle.tms_defs.specs.declared.instruction.BareOp.TheVariants.{LWPI, LIMI, IDLE, RSET, RTWP, CKON, CKOF, LREX}
use Rattle.tms_defs.specs.declared.instruction.Instr.{Instr}
use Rattle.tms_defs.specs.declared.instruction.Instr.TheVariants as instr
use Rattle.tms_defs.specs.Accesses.{Answer, Gives, AtPort, NoInstruction, ◌>>=◌}
use Rattle.tms_defs.specs.Operand.{Cpu, Mode, Register, Indirect, Symbolic, Increment, mode_of, register_in, register}
use Rattle.tms_defs.specs.Jumps.{jump_target, condition}
use Rattle.tms_defs.specs.Shifts.{count_in}
use Rattle.tms_defs.specs.Step.{with_word, with_words, next_word, index_of, operand, value_at, with_value, with_flags}
use Rattle.tms_defs.specs.Step.{stored, kept_in, vector_at, kept_of, two, two_words_from, values_at, with_division, reg}
use Rattle.tms_defs.specs.Step.{count_of, shift, one, jump_where, immediate, imm, bare, executed, executed_where}
use Rattle.tms_defs.specs.Step.{execution, is_unsupported}
use Rattle.console_defs.specs.Memory.{Memory, console, Port, VdpDataRead, VdpStatusRead, VdpDataWrite, VdpAddressWrite, GromDataRead, GromAddressRead}
use Rattle.console_defs.proofs.MemoryLaws.{word_read_in, word_written_in, read_is_by_region, write_is_by_region}
use Rattle.console_defs.specs.Memory.{GromDataWrite, GromAddressWrite, Region, region, word_read, byte_read_in}
use Rattle.console_defs.specs.Memory.{byte_written_in, port_read, port_written}
use Rattle.sim_view.specs.View.{View, Registers, listed, relisted}
use Rattle.interp_defs.specs.Interpreter.{HoldsInterpreter}
use Rattle.sim_view.proofs.Answers.{given}
use Rattle.sim_view.proofs.Lists.{join-bytes, get-spell_high, get-spell_low, set-spell, set-spell_high, set-spell_low, listed-relisted}
use Rattle.sim_view.proofs.Seen.{shown, spell, Spot, spot, Reg, RegLow, Code, Cell, Spare, AtThePort, Unknown, word_on, with_word_on, byte_on, with_byte_on}
use Rattle.sim_view.proofs.Seen.{port_seen, port_put}
use Rattle.sim_view.proofs.Places.{Agrees, agrees, pick}

-- The memory is as the view says.
pub record Shows (m : Memory) (v : View) : Type 0 where
  pub pad : m.scratchpad ≡ v.cells ++ spell (v.spare ++ listed v.r)
  pub cells : length v.cells ≡ 194
  pub spare : length v.spare ≡ 15
  pub low_part : m.low_expansion ≡ v.low_memory
  pub high_part : m.high_expansion ≡ v.high_memory
  pub rom : m.rom ≡ v.rom
  pub code : HoldsInterpreter m.low_expansion
  pub vdp : m.vdp ≡ v.vdp
  pub grom : m.grom ≡ v.grom

abbrev pub carry : Memory → Cpu View → Cpu Memory
carry m y = record { memory = m; pc = y.pc; wp = y.wp; status = y.status }

-- The answer of the view is that of the machine.
pub record Sim {X Y : Type 0} (lift : Memory → Y → X) (see : Y → View) (ox : Answer X) (oy : Answer Y) : Type 0 where
  pub by : (y : Y) → oy ≡ Gives y → (m : Memory) × (ox ≡ Gives (lift m y)) × Shows m (see y)

-- A value that leaves the memory.
pub record SimNum {A : Type 0} (ox oy : Answer A) : Type 0 where
  pub by : (n : A) → oy ≡ Gives n → ox ≡ Gives n

sim_gives : {X Y : Type 0} {lift : Memory → Y → X} {see : Y → View} (m : Memory) (y : Y) → Shows m (see y) → Sim lift see (Gives (lift m y)) (Gives y)
sim_gives {lift = lift} {see = see} m y h =
    record {
      by = λ z e. let P : _ → Type 0 = λ z. (m' : Memory) × (Gives (lift m y) ≡ Gives (lift m' z)) × Shows m' (see z) in
          subst P (given y z e) (m, refl, h);
    }

sim_then : {X Y X' Y' : Type 0} {lift : Memory → Y → X} {see : Y → View} {lift' : Memory → Y' → X'} {see' : Y' → View} (ox : Answer X) (oy : Answer Y)
    (f : X → Answer X') (g : Y → Answer Y') →
    Sim lift see ox oy → ((y : Y) (m : Memory) → Shows m (see y) → Sim lift' see' (f (lift m y)) (g y)) → Sim lift' see' (ox >>= f) (oy >>= g)
sim_then ox (Gives y) f g h k = let a = h.by y refl in rw a.1 (k y a.0 a.2)
sim_then ox (AtPort p) f g h k = record { by = λ z e. absurd (cc) }
sim_then ox NoInstruction f g h k = record { by = λ z e. absurd (cc) }

sim_num : {A X Y : Type 0} {lift : Memory → Y → X} {see : Y → View} (ox oy : Answer A) (f : A → Answer X) (g : A → Answer Y) →
    SimNum ox oy → ((n : A) → Sim lift see (f n) (g n)) → Sim lift see (ox >>= f) (oy >>= g)
sim_num ox (Gives n) f g h k = rw (h.by n refl) (k n)
sim_num ox (AtPort p) f g h k = record { by = λ z e. absurd (cc) }
sim_num ox NoInstruction f g h k = record { by = λ z e. absurd (cc) }

num_gives : {A : Type 0} (n : A) → SimNum (Gives n) (Gives n)
num_gives n = record { by = λ k e. e }

num_then : {A A' : Type 0} (ox oy : Answer A) (f g : A → Answer A') → SimNum ox oy → ((n : A) → SimNum (f n) (g n)) → SimNum (ox >>= f) (oy >>= g)
num_then ox (Gives n) f g h k = rw (h.by n refl) (k n)
num_then ox (AtPort p) f g h k = record { by = λ z e. absurd (cc) }
num_then ox NoInstruction f g h k = record { by = λ z e. absurd (cc) }

-- ---- the four accesses
module _ (m : Memory) (v : View) (h : Shows m v) where
  abbrev held : List ℕ
  held = v.spare ++ listed v.r

  held_length : length held ≡ 31
  held_length = let d = h.spare in omega (arith, length-append v.spare (listed v.r))

  high_at : (k : ℕ) → k < 31 → get_or m.scratchpad (194 + 2 * k) 0 ≡ high (get_or held k 0)
  high_at k b =
      let e : 194 + 2 * k - 194 ≡ 2 * k = omega arith in
      rw (h.pad, get_or-append_right v.cells (spell held) 194 (194 + 2 * k) 0 h.cells (omega arith), e)
      (get-spell_high held k (let n = held_length in omega arith))

  low_at : (k : ℕ) → k < 31 → get_or m.scratchpad (194 + 2 * k + 1) 0 ≡ low (get_or held k 0)
  low_at k b =
      let e : 194 + 2 * k + 1 - 194 ≡ suc (2 * k) = omega arith in
      rw (h.pad, get_or-append_right v.cells (spell held) 194 (194 + 2 * k + 1) 0 h.cells (omega arith), e)
      (get-spell_low held k (let n = held_length in omega arith))

  reg_held : (k : ℕ) → get_or held (15 + k) 0 ≡ get_or (listed v.r) k 0
  reg_held k = let e : 15 + k - 15 ≡ k =
      omega arith in get_or-append_right v.spare (listed v.r) 15 (15 + k) 0 h.spare (omega arith) ∙ ap (λ (i : ℕ). get_or (listed v.r) i 0) e

  spare_held : (k : ℕ) → k < 15 → get_or held k 0 ≡ get_or v.spare k 0
  spare_held k b = let d = h.spare in get_or_append_left v.spare (listed v.r) 0 k (omega arith)

  cell_held : (i : ℕ) → i < 194 → get_or m.scratchpad i 0 ≡ get_or v.cells i 0
  cell_held i b = let c = h.cells in rw h.pad (get_or_append_left v.cells (spell held) 0 i (omega arith))

  word_held : (k : ℕ) → k < 31 → word_in m.scratchpad (194 + 2 * k) ≡ get_or held k 0
  word_held k b = rw (high_at k b, low_at k b) (join-bytes (get_or held k 0))

  word_in_reg : (k : ℕ) → k < 16 → word_in m.scratchpad (224 + 2 * k) ≡ get_or (listed v.r) k 0
  word_in_reg k b = let e : 224 + 2 * k ≡ 194 + 2 * (15 + k) = omega arith in rw e (word_held (15 + k) (omega arith) ∙ reg_held k)

  low_in_reg : (k : ℕ) → k < 16 → get_or m.scratchpad (224 + 2 * k + 1) 0 ≡ low (get_or (listed v.r) k 0)
  low_in_reg k b = let e : 224 + 2 * k + 1 ≡ 194 + 2 * (15 + k) + 1 = omega arith in rw e (low_at (15 + k) (omega arith) ∙ ap low (reg_held k))

  high_in_reg : (k : ℕ) → k < 16 → get_or m.scratchpad (224 + 2 * k) 0 ≡ high (get_or (listed v.r) k 0)
  high_in_reg k b = let e : 224 + 2 * k ≡ 194 + 2 * (15 + k) = omega arith in rw e (high_at (15 + k) (omega arith) ∙ ap high (reg_held k))

  word_on_sim : (s : Spot) (r : Region) (a : ℕ) → Agrees s r → SimNum (word_read_in r m a) (word_on s v)
  word_on_sim (Reg k) r a g = record { by = λ n e. rw (g.1, word_in_reg k g.0) e }
  word_on_sim (RegLow k) r a g = record { by = λ n e. absurd (cc) }
  word_on_sim (Code k) r a g = record { by = λ n e. rw (g.1, h.code k g.0) e }
  word_on_sim (Cell i) r a g = record { by = λ n e. absurd (cc) }
  word_on_sim (Spare k) r a g = record { by = λ n e. rw (g.1, word_held k (omega arith), spare_held k g.0) e }
  word_on_sim (AtThePort p) r a g = record { by = λ n e. absurd (cc) }
  word_on_sim Unknown r a g = record { by = λ n e. absurd (cc) }

  set_held : (k w : ℕ) → with_word_in m.scratchpad (194 + 2 * k) w ≡ v.cells ++ spell (set held k w)
  set_held k w =
      let e : 194 + 2 * k - 194 ≡ 2 * k = omega arith in let f : 194 + 2 * k + 1 - 194 ≡ suc (2 * k) = omega arith in
      rw (
        h.pad,
        set-append_right v.cells (spell held) 194 (194 + 2 * k) (high w) h.cells (omega arith),
        e,
        set-append_right v.cells (set (spell held) (2 * k) (high w)) 194 (194 + 2 * k + 1) (low w) h.cells (omega arith),
        f,
        set-spell held k w,
      )

  byte_held : (k b : ℕ) → set m.scratchpad (194 + 2 * k) b ≡ v.cells ++ spell (set held k (join b (low (get_or held k 0))))
  byte_held k b =
      let e : 194 + 2 * k - 194 ≡ 2 * k = omega arith in
      rw (h.pad, set-append_right v.cells (spell held) 194 (194 + 2 * k) b h.cells (omega arith), e, set-spell_high held k b)

  low_held : (k b : ℕ) → b < 256 → set m.scratchpad (194 + 2 * k + 1) b ≡ v.cells ++ spell (set held k (join (high (get_or held k 0)) b))
  low_held k b f =
      let e : 194 + 2 * k + 1 - 194 ≡ suc (2 * k) = omega arith in
      rw (h.pad, set-append_right v.cells (spell held) 194 (194 + 2 * k + 1) b h.cells (omega arith), e, set-spell_low held k b f)

  reg_set : (k w : ℕ) → set held (15 + k) w ≡ v.spare ++ set (listed v.r) k w
  reg_set k w =
      let e : 15 + k - 15 ≡ k = omega arith in set-append_right v.spare (listed v.r) 15 (15 + k) w h.spare (omega arith)
      ∙ ap (λ (i : ℕ). v.spare ++ set (listed v.r) i w) e

  spare_set : (k w : ℕ) → k < 15 → set held k w ≡ set v.spare k w ++ listed v.r
  spare_set k w b = let d = h.spare in set-append_left v.spare (listed v.r) k w (omega arith)

  word_to_reg : (k w : ℕ) → with_word_in m.scratchpad (224 + 2 * k) w ≡ v.cells ++ spell (v.spare ++ set (listed v.r) k w)
  word_to_reg k w = let e : 224 + 2 * k ≡ 194 + 2 * (15 + k) = omega arith in rw e (set_held (15 + k) w ∙ ap (λ (l : List ℕ). v.cells ++ spell l) (reg_set k w))

  byte_to_reg : (k b : ℕ) → k < 16 →
      set m.scratchpad (224 + 2 * k) b ≡ v.cells ++ spell (v.spare ++ set (listed v.r) k (join b (low (get_or (listed v.r) k 0))))
  byte_to_reg k b l =
      let e : 224 + 2 * k ≡ 194 + 2 * (15 + k) = omega arith in
      rw e (byte_held (15 + k) b ∙ ap (λ (l : List ℕ). v.cells ++ spell l) (reg_set k _) ∙ ap
      (λ (n : ℕ). v.cells ++ spell (v.spare ++ set (listed v.r) k (join b (low n)))) (reg_held k))

  low_to_reg : (k b : ℕ) → b < 256 →
      set m.scratchpad (224 + 2 * k + 1) b ≡ v.cells ++ spell (v.spare ++ set (listed v.r) k (join (high (get_or (listed v.r) k 0)) b))
  low_to_reg k b f =
      let e : 224 + 2 * k + 1 ≡ 194 + 2 * (15 + k) + 1 = omega arith in
      rw e (low_held (15 + k) b f ∙ ap (λ (l : List ℕ). v.cells ++ spell l) (reg_set k _) ∙ ap
      (λ (n : ℕ). v.cells ++ spell (v.spare ++ set (listed v.r) k (join (high n) b))) (reg_held k))

  pad_shows : {pad cells spare : List ℕ} {r : Registers} → pad ≡ cells ++ spell (spare ++ listed r) → length cells ≡ 194 → length spare ≡ 15 →
      Shows (record m { scratchpad = pad }) (record v { cells = cells; spare = spare; r = r })
  pad_shows e c s =
      record { pad = e; cells = c; spare = s; low_part = h.low_part; high_part = h.high_part; rom = h.rom; code = h.code; vdp = h.vdp; grom = h.grom }

  -- a register is set
  reg_shows : (l : List ℕ) → length l ≡ 16 → Shows (record m { scratchpad = v.cells ++ spell (v.spare ++ l) }) (record v { r = relisted l })
  reg_shows l n = pad_shows (ap (λ (k : List ℕ). v.cells ++ spell (v.spare ++ k)) (sym (listed-relisted l n))) h.cells h.spare

  spare_shows : (l : List ℕ) → length l ≡ 15 → Shows (record m { scratchpad = v.cells ++ spell (l ++ listed v.r) }) (record v { spare = l })
  spare_shows l n = pad_shows refl h.cells n

  with_word_sim : (s : Spot) (r : Region) (a w : ℕ) → Agrees s r → Sim (λ m v. m) (λ (v : View). v) (word_written_in r m a w) (with_word_on s v w)
  with_word_sim (Reg k) r a w g =
      rw (g.1, word_to_reg k w) (sim_gives _ (record v { r = relisted (set (listed v.r) k w) })
      (reg_shows (set (listed v.r) k w) (length-set (listed v.r) k _)))
  with_word_sim (RegLow k) r a w g = record { by = λ n e. absurd (cc) }
  with_word_sim (Code k) r a w g = record { by = λ n e. absurd (cc) }
  with_word_sim (Cell i) r a w g = record { by = λ n e. absurd (cc) }
  with_word_sim (Spare k) r a w g =
      rw (g.1, set_held k w, spare_set k w g.0) (sim_gives _ (record v { spare = set v.spare k w })
      (spare_shows (set v.spare k w) (length-set v.spare k w ∙ h.spare)))
  with_word_sim (AtThePort p) r a w g = record { by = λ n e. absurd (cc) }
  with_word_sim Unknown r a w g = record { by = λ n e. absurd (cc) }

  -- a port is read or written
  ports_show : {vdp vdp' : VdpState} {grom grom' : GromState} → vdp ≡ vdp' → grom ≡ grom' →
      Shows (record m { vdp = vdp; grom = grom }) (record v { vdp = vdp'; grom = grom' })
  ports_show d g =
      record { pad = h.pad; cells = h.cells; spare = h.spare; low_part = h.low_part; high_part = h.high_part; rom = h.rom; code = h.code; vdp = d; grom = g }

  port_sim : (p : Port) → Sim (λ m p. (p.0, m)) (λ (p : ℕ × View). p.1) (Gives (port_read p m)) (Gives (port_seen p v))
  port_sim VdpDataRead = rw h.vdp (sim_gives _ (port_seen VdpDataRead v) (ports_show refl h.grom))
  port_sim VdpStatusRead = rw h.vdp (sim_gives _ (port_seen VdpStatusRead v) (ports_show refl h.grom))
  port_sim VdpDataWrite = sim_gives m (0, v) h
  port_sim VdpAddressWrite = sim_gives m (0, v) h
  port_sim GromDataRead = rw h.grom (sim_gives _ (port_seen GromDataRead v) (ports_show h.vdp refl))
  port_sim GromAddressRead = rw h.grom (sim_gives _ (port_seen GromAddressRead v) (ports_show h.vdp refl))
  port_sim GromDataWrite = sim_gives m (0, v) h
  port_sim GromAddressWrite = sim_gives m (0, v) h

  byte_sim : (s : Spot) (r : Region) → Agrees s r → Sim (λ m p. (p.0, m)) (λ (p : ℕ × View). p.1) (Gives (byte_read_in r m)) (byte_on s v)
  byte_sim (Reg k) r g = rw (g.1, high_in_reg k g.0) (sim_gives m (high (get_or (listed v.r) k 0), v) h)
  byte_sim (RegLow k) r g = rw (g.1, low_in_reg k g.0) (sim_gives m (low (get_or (listed v.r) k 0), v) h)
  byte_sim (Code k) r g = record { by = λ n e. absurd (cc) }
  byte_sim (Cell i) r g = rw (g.1, cell_held i g.0) (sim_gives m (get_or v.cells i 0, v) h)
  byte_sim (Spare k) r g = rw (g.1, high_at k (omega arith), spare_held k g.0) (sim_gives m (high (get_or v.spare k 0), v) h)
  byte_sim (AtThePort p) r g = rw g (port_sim p)
  byte_sim Unknown r g = record { by = λ n e. absurd (cc) }

  put_sim : (p : Port) (b : ℕ) → Sim (λ m v. m) (λ (v : View). v) (Gives (port_written p m b)) (Gives (port_put p v b))
  put_sim VdpDataRead b = sim_gives m v h
  put_sim VdpStatusRead b = sim_gives m v h
  put_sim VdpDataWrite b = rw h.vdp (sim_gives _ (port_put VdpDataWrite v b) (ports_show refl h.grom))
  put_sim VdpAddressWrite b = rw h.vdp (sim_gives _ (port_put VdpAddressWrite v b) (ports_show refl h.grom))
  put_sim GromDataRead b = sim_gives m v h
  put_sim GromAddressRead b = sim_gives m v h
  put_sim GromDataWrite b = sim_gives m v h
  put_sim GromAddressWrite b = rw h.grom (sim_gives _ (port_put GromAddressWrite v b) (ports_show h.vdp refl))

  with_byte_sim : (s : Spot) (r : Region) (b : ℕ) → Agrees s r → Sim (λ m v. m) (λ (v : View). v) (Gives (byte_written_in r m b)) (with_byte_on s v b)
  with_byte_sim (Reg k) r b g =
      let w = join b (low (get_or (listed v.r) k 0)) in
      rw (g.1, byte_to_reg k b g.0) (sim_gives _ (record v { r = relisted (set (listed v.r) k w) })
      (reg_shows (set (listed v.r) k w) (length-set (listed v.r) k _)))
  with_byte_sim (RegLow k) r b g =
      let w = join (high (get_or (listed v.r) k 0)) b in
      pick (nat_lt b 256)
      (λ c. rw (c, g.1, low_to_reg k b (ltb-true b 256 c)) (sim_gives _ (record v { r = relisted (set (listed v.r) k w) })
      (reg_shows (set (listed v.r) k w) (length-set (listed v.r) k _))))
      (λ c. rw c (record { by = λ n e. absurd (cc) }))
  with_byte_sim (Code k) r b g = record { by = λ n e. absurd (cc) }
  with_byte_sim (Cell i) r b g =
      let c = h.cells in
      rw (g.1, h.pad, set-append_left v.cells (spell held) i b (omega arith)) (sim_gives (record m { scratchpad = set v.cells i b ++ spell held })
      (record v { cells = set v.cells i b }) (pad_shows refl (length-set v.cells i b ∙ h.cells) h.spare))
  with_byte_sim (Spare k) r b g =
      let w = join b (low (get_or v.spare k 0)) in
      rw (g.1, byte_held k b, spare_held k g.0, spare_set k w g.0) (sim_gives _ (record v { spare = set v.spare k w })
      (spare_shows (set v.spare k w) (length-set v.spare k w ∙ h.spare)))
  with_byte_sim (AtThePort p) r b g = rw g (put_sim p b)
  with_byte_sim Unknown r b g = record { by = λ n e. absurd (cc) }

-- ---- the processor
abbrev SimCpu : Answer (Cpu Memory) → Answer (Cpu View) → Type 0
SimCpu ox oy = Sim carry (λ (y : Cpu View). y.memory) ox oy

abbrev carry_pair : {T : Type 0} → Memory → T × Cpu View → T × Cpu Memory
carry_pair m p = (p.0, carry m p.1)

abbrev SimPair : {T : Type 0} → Answer (T × Cpu Memory) → Answer (T × Cpu View) → Type 0
SimPair {T = T} ox oy = Sim carry_pair (λ (p : T × Cpu View). p.1.memory) ox oy

abbrev carry_triple : Memory → ℕ × ℕ × Cpu View → ℕ × ℕ × Cpu Memory
carry_triple m p = (p.0, p.1, carry m p.2)

abbrev SimTriple : Answer (ℕ × ℕ × Cpu Memory) → Answer (ℕ × ℕ × Cpu View) → Type 0
SimTriple ox oy = Sim carry_triple (λ (p : ℕ × ℕ × Cpu View). p.2.memory) ox oy

module _ (y : Cpu View) (m : Memory) (h : Shows m y.memory) where
  at_word : (a : ℕ) → SimNum (word_read m a) (word_on (spot (even a)) y.memory)
  at_word a =
      subst (λ found. SimNum found (word_on (spot (even a)) y.memory)) (sym (read_is_by_region m a))
      (word_on_sim m y.memory h (spot (even a)) (region (even a)) (even a) (agrees (even a)))

  to_word : (a w : ℕ) → SimCpu (with_word Memory console (carry m y) a w) (with_word View shown y a w)
  to_word a w =
      sim_then _ _ _ _
      (subst (λ left. Sim (λ m v. m) (λ (v : View). v) left (with_word_on (spot (even a)) y.memory w)) (sym (write_is_by_region m a w))
      (with_word_sim m y.memory h (spot (even a)) (region (even a)) (even a) w (agrees (even a))))
      (λ v n k. sim_gives n (record y { memory = v }) k)

  at_pc : SimPair (next_word Memory console (carry m y)) (next_word View shown y)
  at_pc = sim_num _ _ _ _ (at_word y.pc) (λ w. sim_gives m (w, record y { pc = plus y.pc 2 }) h)

  at_index : (n : ℕ) → SimNum (index_of Memory console (carry m y) n) (index_of View shown y n)
  at_index n = pick (eqb n 0) (λ e. rw (e, index_of) (num_gives 0)) (λ e. rw (e, index_of) (at_word (register n y)))

module _ (y : Cpu View) (m : Memory) (h : Shows m y.memory) where
  at_operand : (o : Mode) (w : Width) (n : ℕ) → SimPair (operand Memory console o w n (carry m y)) (operand View shown o w n y)
  at_operand Register w n = sim_gives m (register n y, y) h
  at_operand Indirect w n = sim_num _ _ _ _ (at_word y m h (register n y)) (λ a. sim_gives m (a, y) h)
  at_operand Symbolic w n =
      sim_then _ _ _ _ (at_pc y m h) (λ b n1 k. sim_num _ _ _ _ (at_index b.1 n1 k n) (λ i. sim_gives n1 (plus b.0 i, b.1) k))
  at_operand Increment w n =
      sim_num _ _ _ _ (at_word y m h (register n y)) (λ a. sim_then _ _ (λ x. Gives (a, x)) _
      (to_word y m h (register n y) (plus a (size_of w))) (λ z n k. sim_gives n (a, z) k))

  at_value : (b : Width) (a : ℕ) → SimPair (value_at Memory console b a (carry m y)) (value_at View shown b a y)
  at_value Byte a =
      sim_then _ _ (λ r. Gives (r.0, record (carry m y) { memory = r.1 })) _ (byte_sim m y.memory h (spot a) (region a) (agrees a))
      (λ r n k. sim_gives n (r.0, record y { memory = r.1 }) k)
  at_value Word a = sim_num _ _ _ _ (at_word y m h a) (λ v. sim_gives m (v, y) h)

  to_value : (b : Width) (a v : ℕ) → SimCpu (with_value Memory console b a v (carry m y)) (with_value View shown b a v y)
  to_value Byte a v =
      sim_then _ _ (λ n. Gives (record (carry m y) { memory = n })) _ (with_byte_sim m y.memory h (spot a) (region a) v (agrees a))
      (λ r n k. sim_gives n (record y { memory = r }) k)
  to_value Word a v = to_word y m h a v

  to_stored : (b : Width) (a r : ℕ) (f : Flags) → SimCpu (stored Memory console b a r f (carry m y)) (stored View shown b a r f y)
  to_stored b a r f =
      sim_then _ _ _ _ (to_value b a r) (λ z n k. sim_gives n (record z { status = with_result b r f z.status }) k)

to_words : (y : Cpu View) (m : Memory) → Shows m y.memory → (writes : List (ℕ × ℕ)) → SimCpu (with_words Memory console (carry m y) writes)
    (with_words View shown y writes)
to_words y m h [] = sim_gives m y h
to_words y m h (write ∷ rest) = sim_then _ _ _ _ (to_word y m h write.0 write.1) (λ z n k. to_words z n k rest)

-- ---- every form
module _ (y : Cpu View) (m : Memory) (h : Shows m y.memory) where
  do_two : (o : TwoOp) (b : Width) (v d : ℕ) → SimCpu (two Memory console o b v d (carry m y)) (two View shown o b v d y)
  do_two MOV b v d = to_stored y m h b d v _
  do_two C b v d = sim_then _ _ _ _ (at_value y m h b d) (λ u n k. sim_gives n (record u.1 { status = with_order b v u.0 u.1.status }) k)
  do_two A b v d = sim_then _ _ _ _ (at_value y m h b d) (λ u n k. to_stored u.1 n k b d _ _)
  do_two S b v d = sim_then _ _ _ _ (at_value y m h b d) (λ u n k. to_stored u.1 n k b d _ _)
  do_two SOC b v d = sim_then _ _ _ _ (at_value y m h b d) (λ u n k. to_stored u.1 n k b d _ _)
  do_two SZC b v d = sim_then _ _ _ _ (at_value y m h b d) (λ u n k. to_stored u.1 n k b d _ _)

  do_vector : (a : ℕ) → SimNum (vector_at Memory console a (carry m y)) (vector_at View shown a y)
  do_vector a = num_then _ _ _ _ (at_word y m h a) (λ w. num_then _ _ _ _ (at_word y m h (plus a 2)) (λ p. num_gives (even w, even p)))

  do_kept : SimNum (kept_of Memory console (carry m y)) (kept_of View shown y)
  do_kept =
      num_then _ _ _ _ (at_word y m h (register 13 y)) (λ w. num_then _ _ _ _ (at_word y m h (register 14 y))
      (λ p. num_then _ _ _ _ (at_word y m h (register 15 y)) (λ s. num_gives (w, p, s))))

  do_values : (a b : ℕ) → SimNum (values_at Memory console a b (carry m y)) (values_at View shown a b y)
  do_values a b = num_then _ _ _ _ (at_word y m h a) (λ w. num_then _ _ _ _ (at_word y m h b) (λ p. num_gives (w, p)))

  do_division : (o : Option (ℕ × ℕ)) (a : ℕ) → SimCpu (with_division Memory console o a (carry m y)) (with_division View shown o a y)
  do_division (Some q) a = to_words y m h (two_words_from a q)
  do_division None a = sim_gives m y h

  do_one : (o : OneOp) (a : ℕ) → SimCpu (one Memory console o a (carry m y)) (one View shown o a y)
  do_one BLWP a =
      sim_num _ _ _ _ (do_vector a) (λ v. sim_then _ _ _ _ (to_words y m h (kept_in v.0 y)) (λ z n k. sim_gives n (record z { wp = v.0; pc = v.1 }) k))
  do_one B a = sim_gives m (record y { pc = even a }) h
  do_one X a = record { by = λ z e. absurd (cc) }
  do_one CLR a = to_word y m h a 0
  do_one NEG a = sim_num _ _ _ _ (at_word y m h a) (λ v. to_stored y m h Word a _ _)
  do_one INV a = sim_num _ _ _ _ (at_word y m h a) (λ v. to_stored y m h Word a _ _)
  do_one INC a = sim_num _ _ _ _ (at_word y m h a) (λ v. to_stored y m h Word a _ _)
  do_one INCT a = sim_num _ _ _ _ (at_word y m h a) (λ v. to_stored y m h Word a _ _)
  do_one DEC a = sim_num _ _ _ _ (at_word y m h a) (λ v. to_stored y m h Word a _ _)
  do_one DECT a = sim_num _ _ _ _ (at_word y m h a) (λ v. to_stored y m h Word a _ _)
  do_one BL a = sim_then _ _ _ _ (to_word y m h (register 11 y) y.pc) (λ z n k. sim_gives n (record z { pc = even a }) k)
  do_one SWPB a = sim_num _ _ _ _ (at_word y m h a) (λ v. to_word y m h a (swapped v))
  do_one SETO a = to_word y m h a 0xFFFF
  do_one ABS a = sim_num _ _ _ _ (at_word y m h a) (λ v. to_stored y m h Word a _ _)

  do_reg : (o : RegOp) (n s : ℕ) → SimCpu (reg Memory console o n s (carry m y)) (reg View shown o n s y)
  do_reg COC n s = sim_num _ _ _ _ (do_values s (register n y)) (λ v. sim_gives m (with_flags y (by_ones v.1 v.0 y.status.flags)) h)
  do_reg CZC n s = sim_num _ _ _ _ (do_values s (register n y)) (λ v. sim_gives m (with_flags y (by_zeros v.1 v.0 y.status.flags)) h)
  do_reg XOR n s = sim_num _ _ _ _ (do_values s (register n y)) (λ v. to_stored y m h Word (register n y) _ _)
  do_reg XOP n s =
      sim_num _ _ _ _ (do_vector (0x0040 + 4 * n)) (λ v. sim_then _ _ _ _ (to_words y m h (kept_in v.0 y ++ ((register_in v.0 11, s) ∷ [])))
      (λ z n1 k. sim_gives n1 (record z { wp = v.0; pc = v.1; status = with_extension z.status }) k))
  do_reg MPY n s =
      sim_num _ _ _ _ (do_values s (register n y)) (λ v. to_words y m h (two_words_from (register n y) (product_of v.1 v.0)))
  do_reg DIV n s =
      sim_num _ _ _ _ (do_values s (register n y)) (λ v. sim_num _ _ _ _ (at_word y m h (plus (register n y) 2))
      (λ l. sim_then _ _ _ _ (do_division (division_of v.1 l v.0) (register n y))
      (λ z n1 k. sim_gives n1 (with_flags z (by_division v.1 l v.0 z.status.flags)) k)))
  do_reg LDCR n s = record { by = λ z e. absurd (cc) }
  do_reg STCR n s = record { by = λ z e. absurd (cc) }

  do_count : (c : ℕ) → SimNum (count_of Memory console c (carry m y)) (count_of View shown c y)
  do_count c =
      pick (eqb c 0) (λ e. rw (e, count_of) (num_then _ _ _ _ (at_word y m h (register 0 y)) (λ w. num_gives (count_in w))))
      (λ e. rw (e, count_of) (num_gives c))

  do_shift : (o : ShiftOp) (c n : ℕ) → SimCpu (shift Memory console o c n (carry m y)) (shift View shown o c n y)
  do_shift o c n =
      sim_num _ _ _ _ (at_word y m h (register n y)) (λ v. sim_num _ _ _ _ (do_count c)
      (λ p. to_stored y m h Word (register n y) _ _))

  do_jump : (o : Option Bool) (d : ℤ) → SimCpu (jump_where o d (carry m y)) (jump_where o d y)
  do_jump (Some true) d = sim_gives m (record y { pc = jump_target y.pc d }) h
  do_jump (Some false) d = sim_gives m y h
  do_jump None d = record { by = λ z e. absurd (cc) }

  do_immediate : (n : ℕ) → SimTriple (immediate Memory console n (carry m y)) (immediate View shown n y)
  do_immediate n =
      sim_then _ _ _ _ (at_pc y m h) (λ w n1 k. sim_num _ _ _ _ (at_word w.1 n1 k (register n w.1)) (λ f. sim_gives n1 (w.0, f, w.1) k))

  do_imm : (o : ImmOp) (n : ℕ) → SimCpu (imm Memory console o n (carry m y)) (imm View shown o n y)
  do_imm LI n = sim_then _ _ _ _ (at_pc y m h) (λ w n1 k. to_stored w.1 n1 k Word (register n w.1) _ _)
  do_imm AI n = sim_then _ _ _ _ (do_immediate n) (λ w n1 k. to_stored w.2 n1 k Word (register n w.2) _ _)
  do_imm ANDI n = sim_then _ _ _ _ (do_immediate n) (λ w n1 k. to_stored w.2 n1 k Word (register n w.2) _ _)
  do_imm ORI n = sim_then _ _ _ _ (do_immediate n) (λ w n1 k. to_stored w.2 n1 k Word (register n w.2) _ _)
  do_imm CI n = sim_then _ _ _ _ (do_immediate n) (λ w n1 k. sim_gives n1 (record w.2 { status = with_order Word w.1 w.0 w.2.status }) k)
  do_imm STWP n = to_word y m h (register n y) y.wp
  do_imm STST n = to_word y m h (register n y) (status_word y.status)

  do_bare : (o : BareOp) → SimCpu (bare Memory console o (carry m y)) (bare View shown o y)
  do_bare LWPI = sim_then _ _ _ _ (at_pc y m h) (λ w n k. sim_gives n (record w.1 { wp = even w.0 }) k)
  do_bare LIMI = sim_then _ _ _ _ (at_pc y m h) (λ w n k. sim_gives n (record w.1 { status = with_mask w.0 w.1.status }) k)
  do_bare RTWP = sim_num _ _ _ _ do_kept (λ w. sim_gives m (record y { wp = even w.0; pc = even w.1; status = status_at w.2 }) h)
  do_bare IDLE = record { by = λ z e. absurd (cc) }
  do_bare RSET = record { by = λ z e. absurd (cc) }
  do_bare CKON = record { by = λ z e. absurd (cc) }
  do_bare CKOF = record { by = λ z e. absurd (cc) }
  do_bare LREX = record { by = λ z e. absurd (cc) }

module _ (y : Cpu View) (m : Memory) (h : Shows m y.memory) where
  do_instr : (i : Instr) → SimCpu (executed Memory console i (carry m y)) (executed View shown i y)
  do_instr (instr.Two o b d s) =
      sim_then _ _ _ _ (at_operand y m h (mode_of s.mode) (byte_or_word b) s.reg) (λ a n k.
      sim_then _ _ _ _ (at_value a.1 n k (byte_or_word b) a.0) (λ v n2 k2.
      sim_then _ _ _ _ (at_operand v.1 n2 k2 (mode_of d.mode) (byte_or_word b) d.reg) (λ p n3 k3. do_two p.1 n3 k3 o (byte_or_word b) v.0 p.0)))
  do_instr (instr.Reg o d s) =
      sim_then _ _ _ _ (at_operand y m h (mode_of s.mode) Word s.reg) (λ a n k. do_reg a.1 n k o d a.0)
  do_instr (instr.Shift o c n) = do_shift y m h o c n
  do_instr (instr.One o s) =
      sim_then _ _ _ _ (at_operand y m h (mode_of s.mode) Word s.reg) (λ a n k. do_one a.1 n k o a.0)
  do_instr (instr.Jump o d) = do_jump y m h (condition o y.status) d
  do_instr (instr.Imm o n) = do_imm y m h o n
  do_instr (instr.Bare o) = do_bare y m h o

  do_where : (i : Option Instr) → SimCpu (executed_where Memory console i (carry m y)) (executed_where View shown i y)
  do_where (Some i) = pick (is_unsupported i) (λ e. rw e (record { by = λ z e. absurd (cc) })) (λ e. rw e (do_instr i))
  do_where None = record { by = λ z e. absurd (cc) }

module _ (y : Cpu View) (m : Memory) (h : Shows m y.memory) where
  pub do_execution : SimPair (execution Memory console (carry m y)) (execution View shown y)
  do_execution =
      sim_then _ _ _ _ (at_pc y m h) (λ w n k. sim_then _ _ _ _ (do_where w.1 n k (instr_at w.0)) (λ z n2 k2. sim_gives n2 (w.0, z) k2))
