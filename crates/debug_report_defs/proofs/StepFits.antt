-- A step leaves words and bytes that fit, if each access does.
use Rattle.std.proofs.Common.{◌≡◌, ℕ, zero, suc, ◌+◌, ◌*◌, ◌/◌, ◌%◌, ◌<◌, ◌≤◌, List, [], ◌∷◌, ◌++◌, Bool, true, false, cond, refl, Option, Some, None, arith}
use Rattle.std.specs.Prelude.{ℤ, nat_lt, bit_and, bit_or, unsigned_abs}
use Rattle.std.specs.Int.Bits.{and_lt}
use Rattle.std.proofs.lemmas.Nat.{or_lt, xor_lt}
use Rattle.std.proofs.lemmas.Int.{ints}
use Rattle.std.proofs.lemmas.Bool.Decides.{nat_tests}
use Rattle.std.proofs.Math.Nat.{div-lt_iff_lt-mul}
use Rattle.tms_defs.specs.Words.{even, plus}
use Rattle.tms_defs.specs.Flags.{Width, Byte, Word, byte_or_word, size_of, modulus, half, absolute_of}
use Rattle.tms_defs.specs.Status.{IsStatus, bit_of, with_result, with_order, with_extension, with_mask, status_word, status_at}
use Rattle.tms_defs.specs.Logic.{swapped, complement_of, by_ones, by_zeros}
use Rattle.tms_defs.specs.MultiplyDivide.{double_word, product_of, division_of, by_division}
use Rattle.tms_defs.specs.Operand.{Cpu, Mode, Register, Indirect, Symbolic, Increment, mode_of, register_in, register}
use Rattle.tms_defs.specs.Jumps.{jump_target, condition}
use Rattle.tms_defs.specs.Shifts.{shifted}
use Rattle.tms_defs.specs.Step.{with_word, with_words, next_word, operand, value_at, with_value, with_flags, stored}
use Rattle.tms_defs.specs.Step.{kept_in, vector_at, kept_of, two, two_words_from, values_at, with_division, reg, count_of}
use Rattle.tms_defs.specs.Step.{shift, one, jump_where, immediate, imm, bare, executed, executed_where, execution}
use Rattle.tms_defs.specs.Step.{is_unsupported, step, step_end}
use Rattle.tms_defs.specs.Instructions.{instr_at}
use Rattle.tms_defs.specs.declared.status.Status.{Status}
use Rattle.tms_defs.specs.declared.flags.Flags.{Flags}
use Rattle.tms_defs.specs.declared.instruction.TwoOp.{TwoOp}
use Rattle.tms_defs.specs.declared.instruction.TwoOp.TheVariants.{SZC, S, C, A, MOV, SOC}
use Rattle.tms_defs.specs.declared.instruction.RegOp.{RegOp}
use Rattle.tms_defs.specs.declared.instruction.RegOp.TheVariants.{COC, CZC, XOR, XOP, LDCR, STCR, MPY, DIV}
use Rattle.tms_defs.specs.declared.instruction.ShiftOp.{ShiftOp}
use Rattle.tms_defs.specs.declared.instruction.ShiftOp.TheVariants.{SRA}
use Rattle.tms_defs.specs.declared.instruction.OneOp.{OneOp}
use Rattle.tms_defs.specs.declared.instruction.OneOp.TheVariants.{BLWP, B, X, CLR, NEG, INV, INC, INCT, DEC, DECT, BL, SWPB, SETO, ABS}
use Rattle.tms_defs.specs.declared.instruction.ImmOp.{ImmOp}
use Rattle.tms_defs.specs.declared.instruction.ImmOp.TheVariants.{LI, AI, ANDI, ORI, CI, STWP, STST}
use Rattle.tms_defs.specs.declared.instruction.BareOp.{BareOp}
use Rattle.tms_defs.specs.declared.instruction.BareOp.TheVariants.{LWPI, LIMI, RTWP}
use Rattle.tms_defs.specs.declared.instruction.Instr.{Instr}
use Rattle.tms_defs.specs.declared.instruction.Instr.TheVariants as instr
use Rattle.tms_defs.specs.Accesses.{Answer, Gives, NoInstruction, Accesses}
use Rattle.tms_defs.proofs.WordLaws.{join-fits, plus-fits, high-fits, low-fits}
use Rattle.tms_defs.proofs.StatusLaws.{status_at-IsStatus}
use Rattle.gpl_step_defs.proofs.Kept.{sum_fits, difference_fits, negation_fits, complement_fits}
use Rattle.machine_change_defs.proofs.Keeping.{Holds, holds, none, holds_then, holds_num}
use Rattle.debug_report_defs.proofs.Digits.{cond_both}

-- ---- numbers

and_fits : (width : Width) (x y : ℕ) → x < modulus width → y < modulus width → bit_and x y < modulus width
and_fits Byte x y p q = and_lt 8 x y p q
and_fits Word x y p q = and_lt 16 x y p q

or_fits : (width : Width) (x y : ℕ) → x < modulus width → y < modulus width → bit_or x y < modulus width
or_fits Byte x y p q = or_lt 8 x y p q
or_fits Word x y p q = or_lt 16 x y p q

absolute_fits : (x : ℕ) → x < 65536 → absolute_of Word x < 65536
absolute_fits zero lt = lt
absolute_fits (suc x) lt =
    cond_both (λ number. unsigned_abs number < 65536) (nat_lt (suc x) (half Word)) _ _ lt (omega (arith, ints))

shifted_fits : (op : ShiftOp) (word count : ℕ) → shifted op word count < 65536
shifted_fits SRA word count = omega arith
shifted_fits _ word count = omega arith

product_high : (x y : ℕ) → x < 65536 → y < 65536 → x * y / 65536 < 65536
product_high x y p q = let less : x * y < 65536 * 65536 = grind arith in omega arith

-- two words, if there are any
abbrev BothFit : Option (ℕ × ℕ) → Type 0
BothFit None = Unit {0}
BothFit (Some q) = (q.0 < 65536) × (q.1 < 65536)

division_fits : (more less divisor : ℕ) → less < 65536 → divisor < 65536 → BothFit (division_of more less divisor)
division_fits more less divisor p q = by (nat_lt more divisor) refl
  where
    by : (b : Bool) → nat_lt more divisor ≡ b → BothFit (cond b (Some (double_word more less / divisor, double_word more less % divisor)) None)
    by true e =
        let above : more < divisor = grind (arith, nat_tests) in
        let some : 0 < divisor = omega arith in
        let quotient : double_word more less / divisor < 65536 =
        (div-lt_iff_lt-mul some).1 (let below : double_word more less < 65536 * divisor = omega arith in below) in
        (quotient, omega arith)
    by false e = tt

bit_most : (b : Bool) (weight : ℕ) → bit_of b weight ≤ weight
bit_most true weight = omega arith
bit_most false weight = omega arith

pub status_fits : (s : Status) → IsStatus s → status_word s < 65536
status_fits s is =
    omega (
      arith,
      is,
      bit_most s.flags.lgt 0x8000,
      bit_most s.flags.agt 0x4000,
      bit_most s.flags.eq 0x2000,
      bit_most s.flags.c 0x1000,
      bit_most s.flags.ov 0x0800,
      bit_most s.op 0x0400,
    )

result_status : (width : Width) (number : ℕ) (flags : Flags) (s : Status) → IsStatus s → IsStatus (with_result width number flags s)
result_status Byte number flags s is = is
result_status Word number flags s is = is

order_status : (width : Width) (first second : ℕ) (s : Status) → IsStatus s → IsStatus (with_order width first second s)
order_status Byte first second s is = is
order_status Word first second s is = is

-- ---- the processor

-- the words of the processor fit, and of its memory this holds
pub record Fit {M : Type 0} (P : M → Type 0) (x : Cpu M) : Type 0 where
  pub memory : P x.memory
  pub pc : x.pc < 65536
  pub wp : x.wp < 65536
  pub status : IsStatus x.status

-- the words that are written fit
abbrev WordsFit : List (ℕ × ℕ) → Type 0
WordsFit [] = Unit {0}
WordsFit (write ∷ rest) = (write.1 < 65536) × WordsFit rest

module _ (M : Type 0) (access : Accesses M) (P : M → Type 0)
    (word_fits : (m : M) (a : ℕ) → P m → Holds (λ (w : ℕ). w < 65536) (access.word m a))
    (word_keeps : (m : M) (a w : ℕ) → w < 65536 → P m → Holds P (access.with_word m a w))
    (byte_fits : (m : M) (a : ℕ) → P m → Holds (λ (r : ℕ × M). (r.0 < 256) × P r.1) (access.byte m a))
    (byte_keeps : (m : M) (a b : ℕ) → b < 256 → P m → Holds P (access.with_byte m a b)) where
  abbrev Kept : Answer (Cpu M) → Type 0
  Kept a = Holds (Fit P) a

  abbrev KeptPair : ℕ → Answer (ℕ × Cpu M) → Type 0
  KeptPair most a = Holds (λ (r : ℕ × Cpu M). (r.0 < most) × Fit P r.1) a

  abbrev KeptTriple : Answer (ℕ × ℕ × Cpu M) → Type 0
  KeptTriple a = Holds (λ (r : ℕ × ℕ × Cpu M). (r.0 < 65536) × (r.1 < 65536) × Fit P r.2) a

  abbrev TwoWords : Answer (ℕ × ℕ) → Type 0
  TwoWords a = Holds (λ (r : ℕ × ℕ). (r.0 < 65536) × (r.1 < 65536)) a

  with_memory : (x : Cpu M) → Fit P x → (m : M) → P m → Fit P (record x { memory = m })
  with_memory x h m k = record { memory = k; pc = h.pc; wp = h.wp; status = h.status }

  with_pc : (x : Cpu M) → Fit P x → (pc : ℕ) → pc < 65536 → Fit P (record x { pc = pc })
  with_pc x h pc lt = record { memory = h.memory; pc = lt; wp = h.wp; status = h.status }

  with_status : (x : Cpu M) → Fit P x → (s : Status) → IsStatus s → Fit P (record x { status = s })
  with_status x h s is = record { memory = h.memory; pc = h.pc; wp = h.wp; status = is }

  to_word : (x : Cpu M) → Fit P x → (a w : ℕ) → w < 65536 → Kept (with_word M access x a w)
  to_word x h a w lt = holds_then _ _ (word_keeps x.memory a w lt h.memory) (λ m k. holds (record x { memory = m }) (with_memory x h m k))

  at_pc : (x : Cpu M) → Fit P x → KeptPair 65536 (next_word M access x)
  at_pc x h =
      holds_then _ _ (word_fits x.memory x.pc h.memory)
      (λ w lt. holds (w, record x { pc = plus x.pc 2 }) (lt, with_pc x h (plus x.pc 2) (plus-fits x.pc 2)))

  at_operand : (x : Cpu M) → Fit P x → (o : Mode) (w : Width) (n : ℕ) → KeptPair 65536 (operand M access o w n x)
  at_operand x h Register w n = holds (register n x, x) (plus-fits x.wp (2 * n), h)
  at_operand x h Indirect w n = holds_then _ _ (word_fits x.memory (register n x) h.memory) (λ a lt. holds (a, x) (lt, h))
  at_operand x h Symbolic w n =
      holds_then _ _ (at_pc x h) (λ b k. holds_num {X = ℕ} _ _ (λ i. holds (plus b.0 i, b.1) (plus-fits b.0 i, k.1)))
  at_operand x h Increment w n =
      holds_then _ _ (word_fits x.memory (register n x) h.memory) (λ a lt.
      holds_then _ (λ (z : Cpu M). Gives (a, z))
      (to_word x h (register n x) (plus a (size_of w)) (plus-fits a (size_of w))) (λ z k. holds (a, z) (lt, k)))

  at_value : (x : Cpu M) → Fit P x → (b : Width) (a : ℕ) → KeptPair (modulus b) (value_at M access b a x)
  at_value x h Byte a =
      holds_then _ (λ (r : ℕ × M). Gives (r.0, record x { memory = r.1 })) (byte_fits x.memory a h.memory)
      (λ r k. holds (r.0, record x { memory = r.1 }) (k.0, with_memory x h r.1 k.1))
  at_value x h Word a = holds_then _ _ (word_fits x.memory a h.memory) (λ v lt. holds (v, x) (lt, h))

  to_value : (x : Cpu M) → Fit P x → (b : Width) (a v : ℕ) → v < modulus b → Kept (with_value M access b a v x)
  to_value x h Byte a v lt =
      holds_then _ (λ (m : M). Gives (record x { memory = m })) (byte_keeps x.memory a v lt h.memory)
      (λ m k. holds (record x { memory = m }) (with_memory x h m k))
  to_value x h Word a v lt = to_word x h a v lt

  to_stored : (x : Cpu M) → Fit P x → (b : Width) (a r : ℕ) (f : Flags) → r < modulus b → Kept (stored M access b a r f x)
  to_stored x h b a r f lt =
      holds_then _ _ (to_value x h b a r lt)
      (λ z k. holds (record z { status = with_result b r f z.status }) (with_status z k _ (result_status b r f z.status k.status)))

  to_words : (x : Cpu M) → Fit P x → (writes : List (ℕ × ℕ)) → WordsFit writes → Kept (with_words M access x writes)
  to_words x h [] fits = holds x h
  to_words x h (write ∷ rest) fits = holds_then _ _ (to_word x h write.0 write.1 fits.0) (λ z k. to_words z k rest fits.1)

  -- ---- every form
  do_two : (x : Cpu M) → Fit P x → (o : TwoOp) (b : Width) (v d : ℕ) → v < modulus b → Kept (two M access o b v d x)
  do_two x h MOV b v d lt = to_stored x h b d v _ lt
  do_two x h C b v d lt =
      holds_then _ _ (at_value x h b d)
      (λ u k. holds (record u.1 { status = with_order b v u.0 u.1.status }) (with_status u.1 k.1 _ (order_status b v u.0 u.1.status k.1.status)))
  do_two x h A b v d lt = holds_then _ _ (at_value x h b d) (λ u k. to_stored u.1 k.1 b d _ _ (sum_fits b u.0 v))
  do_two x h S b v d lt = holds_then _ _ (at_value x h b d) (λ u k. to_stored u.1 k.1 b d _ _ (difference_fits b u.0 v))
  do_two x h SOC b v d lt = holds_then _ _ (at_value x h b d) (λ u k. to_stored u.1 k.1 b d _ _ (or_fits b u.0 v k.0 lt))
  do_two x h SZC b v d lt =
      holds_then _ _ (at_value x h b d) (λ u k. to_stored u.1 k.1 b d _ _ (and_fits b u.0 (complement_of b v) k.0 (complement_fits b v)))

  vector_fits : (x : Cpu M) → Fit P x → (a : ℕ) → TwoWords (vector_at M access a x)
  vector_fits x h a =
      holds_then _ _ (word_fits x.memory a h.memory) (λ wp p.
      holds_then _ _ (word_fits x.memory (plus a 2) h.memory) (λ pc q. holds (even wp, even pc) (omega arith, omega arith)))

  do_one : (x : Cpu M) → Fit P x → (o : OneOp) (a : ℕ) → a < 65536 → Kept (one M access o a x)
  do_one x h BLWP a lt =
      holds_then _ _ (vector_fits x h a) (λ v w.
      holds_then _ _ (to_words x h (kept_in v.0 x) (h.wp, (h.pc, (status_fits x.status h.status, tt))))
      (λ z k. holds (record z { wp = v.0; pc = v.1 }) (record { memory = k.memory; pc = w.1; wp = w.0; status = k.status })))
  do_one x h B a lt = holds (record x { pc = even a }) (with_pc x h (even a) (omega arith))
  do_one x h X a lt = none
  do_one x h CLR a lt = to_word x h a 0 (omega arith)
  do_one x h NEG a lt = holds_num {X = ℕ} _ _ (λ v. to_stored x h Word a _ _ (negation_fits Word v))
  do_one x h INV a lt = holds_num {X = ℕ} _ _ (λ v. to_stored x h Word a _ _ (complement_fits Word v))
  do_one x h INC a lt = holds_num {X = ℕ} _ _ (λ v. to_stored x h Word a _ _ (sum_fits Word v 1))
  do_one x h INCT a lt = holds_num {X = ℕ} _ _ (λ v. to_stored x h Word a _ _ (sum_fits Word v 2))
  do_one x h DEC a lt = holds_num {X = ℕ} _ _ (λ v. to_stored x h Word a _ _ (difference_fits Word v 1))
  do_one x h DECT a lt = holds_num {X = ℕ} _ _ (λ v. to_stored x h Word a _ _ (difference_fits Word v 2))
  do_one x h BL a lt =
      holds_then _ _ (to_word x h (register 11 x) x.pc h.pc) (λ z k. holds (record z { pc = even a }) (with_pc z k (even a) (omega arith)))
  do_one x h SWPB a lt =
      holds_then _ _ (word_fits x.memory a h.memory)
      (λ v fits. to_word x h a (swapped v) (join-fits _ _ (low-fits v) (high-fits v fits)))
  do_one x h SETO a lt = to_word x h a 0xFFFF (omega arith)
  do_one x h ABS a lt = holds_then _ _ (word_fits x.memory a h.memory) (λ v fits. to_stored x h Word a _ _ (absolute_fits v fits))

  do_division : (x : Cpu M) → Fit P x → (o : Option (ℕ × ℕ)) (a : ℕ) → BothFit o → Kept (with_division M access o a x)
  do_division x h (Some q) a fits = to_words x h (two_words_from a q) (fits.0, (fits.1, tt))
  do_division x h None a fits = holds x h

  values_fit : (x : Cpu M) → Fit P x → (s r : ℕ) → TwoWords (values_at M access s r x)
  values_fit x h s r =
      holds_then _ _ (word_fits x.memory s h.memory) (λ v p. holds_then _ _ (word_fits x.memory r h.memory) (λ f q. holds (v, f) (p, q)))

  do_reg : (x : Cpu M) → Fit P x → (o : RegOp) (n s : ℕ) → s < 65536 → Kept (reg M access o n s x)
  do_reg x h COC n s lt = holds_num {X = ℕ × ℕ} _ _ (λ v. holds (with_flags x (by_ones v.1 v.0 x.status.flags)) (with_status x h _ h.status))
  do_reg x h CZC n s lt = holds_num {X = ℕ × ℕ} _ _ (λ v. holds (with_flags x (by_zeros v.1 v.0 x.status.flags)) (with_status x h _ h.status))
  do_reg x h XOR n s lt =
      holds_then _ _ (values_fit x h s (register n x))
      (λ v k. to_stored x h Word (register n x) _ _ (xor_lt 16 v.1 v.0 k.1 k.0))
  do_reg x h XOP n s lt =
      holds_then _ _ (vector_fits x h (0x0040 + 4 * n)) (λ v w.
      holds_then _ _ (to_words x h (kept_in v.0 x ++ ((register_in v.0 11, s) ∷ [])) (h.wp, (h.pc, (status_fits x.status h.status, (lt, tt)))))
      (λ z k. holds (record z { wp = v.0; pc = v.1; status = with_extension z.status })
      (record { memory = k.memory; pc = w.1; wp = w.0; status = omega arith })))
  do_reg x h MPY n s lt =
      holds_then _ _ (values_fit x h s (register n x))
      (λ v k. to_words x h (two_words_from (register n x) (product_of v.1 v.0)) (product_high v.1 v.0 k.1 k.0, (omega arith, tt)))
  do_reg x h DIV n s lt =
      holds_then _ _ (values_fit x h s (register n x)) (λ v k.
      holds_then _ _ (word_fits x.memory (plus (register n x) 2) h.memory) (λ l fits.
      holds_then _ _ (do_division x h (division_of v.1 l v.0) (register n x) (division_fits v.1 l v.0 fits k.0))
      (λ z q. holds (with_flags z (by_division v.1 l v.0 z.status.flags)) (with_status z q _ q.status))))
  do_reg x h LDCR n s lt = none
  do_reg x h STCR n s lt = none

  do_shift : (x : Cpu M) → Fit P x → (o : ShiftOp) (c n : ℕ) → Kept (shift M access o c n x)
  do_shift x h o c n =
      holds_num {X = ℕ} (access.word x.memory (register n x)) _ (λ v.
      holds_num {X = ℕ} (count_of M access c x) _ (λ p. to_stored x h Word (register n x) _ _ (shifted_fits o v p)))

  do_jump : (x : Cpu M) → Fit P x → (o : Option Bool) (d : ℤ) → Kept (jump_where o d x)
  do_jump x h (Some true) d = holds (record x { pc = jump_target x.pc d }) (with_pc x h _ (plus-fits x.pc _))
  do_jump x h (Some false) d = holds x h
  do_jump x h None d = none

  do_immediate : (x : Cpu M) → Fit P x → (n : ℕ) → KeptTriple (immediate M access n x)
  do_immediate x h n =
      holds_then _ _ (at_pc x h) (λ w k.
      holds_then _ _ (word_fits w.1.memory (register n w.1) k.1.memory) (λ f lt. holds (w.0, f, w.1) (k.0, lt, k.1)))

  do_imm : (x : Cpu M) → Fit P x → (o : ImmOp) (n : ℕ) → Kept (imm M access o n x)
  do_imm x h LI n = holds_then _ _ (at_pc x h) (λ w k. to_stored w.1 k.1 Word (register n w.1) _ _ k.0)
  do_imm x h AI n = holds_then _ _ (do_immediate x h n) (λ w k. to_stored w.2 k.2 Word (register n w.2) _ _ (sum_fits Word w.1 w.0))
  do_imm x h ANDI n =
      holds_then _ _ (do_immediate x h n) (λ w k. to_stored w.2 k.2 Word (register n w.2) _ _ (and_lt 16 w.1 w.0 k.1 k.0))
  do_imm x h ORI n =
      holds_then _ _ (do_immediate x h n) (λ w k. to_stored w.2 k.2 Word (register n w.2) _ _ (or_lt 16 w.1 w.0 k.1 k.0))
  do_imm x h CI n =
      holds_then _ _ (do_immediate x h n)
      (λ w k. holds (record w.2 { status = with_order Word w.1 w.0 w.2.status }) (with_status w.2 k.2 _ k.2.status))
  do_imm x h STWP n = to_word x h (register n x) x.wp h.wp
  do_imm x h STST n = to_word x h (register n x) (status_word x.status) (status_fits x.status h.status)

  kept_fits : (x : Cpu M) → Fit P x → Holds (λ (r : ℕ × ℕ × ℕ). (r.0 < 65536) × (r.1 < 65536)) (kept_of M access x)
  kept_fits x h =
      holds_then _ _ (word_fits x.memory (register 13 x) h.memory) (λ wp p.
      holds_then _ _ (word_fits x.memory (register 14 x) h.memory) (λ pc q.
      holds_num {X = ℕ} _ _ (λ s. holds (wp, pc, s) (p, q))))

  do_bare : (x : Cpu M) → Fit P x → (o : BareOp) → Kept (bare M access o x)
  do_bare x h LWPI =
      holds_then _ _ (at_pc x h) (λ w k.
      holds (record w.1 { wp = even w.0 }) (record { memory = k.1.memory; pc = k.1.pc; wp = (let lt = k.0 in omega arith); status = k.1.status }))
  do_bare x h LIMI =
      holds_then _ _ (at_pc x h)
      (λ w k. holds (record w.1 { status = with_mask w.0 w.1.status }) (with_status w.1 k.1 _ (let is = k.1.status in omega arith)))
  do_bare x h RTWP =
      holds_then _ _ (kept_fits x h) (λ w k.
      holds (record x { wp = even w.0; pc = even w.1; status = status_at w.2 })
      (record { memory = h.memory; pc = (let lt = k.1 in omega arith); wp = (let lt = k.0 in omega arith); status = status_at-IsStatus w.2 }))
  do_bare x h _ = none

  do_instr : (x : Cpu M) → Fit P x → (i : Instr) → Kept (executed M access i x)
  do_instr x h (instr.Two o b d s) =
      holds_then _ _ (at_operand x h (mode_of s.mode) (byte_or_word b) s.reg) (λ a k.
      holds_then _ _ (at_value a.1 k.1 (byte_or_word b) a.0) (λ v k2.
      holds_then _ _ (at_operand v.1 k2.1 (mode_of d.mode) (byte_or_word b) d.reg) (λ p k3. do_two p.1 k3.1 o (byte_or_word b) v.0 p.0 k2.0)))
  do_instr x h (instr.Reg o d s) = holds_then _ _ (at_operand x h (mode_of s.mode) Word s.reg) (λ a k. do_reg a.1 k.1 o d a.0 k.0)
  do_instr x h (instr.Shift o c n) = do_shift x h o c n
  do_instr x h (instr.One o s) = holds_then _ _ (at_operand x h (mode_of s.mode) Word s.reg) (λ a k. do_one a.1 k.1 o a.0 k.0)
  do_instr x h (instr.Jump o d) = do_jump x h (condition o x.status) d
  do_instr x h (instr.Imm o n) = do_imm x h o n
  do_instr x h (instr.Bare o) = do_bare x h o

  do_where : (x : Cpu M) → Fit P x → (i : Option Instr) → Kept (executed_where M access i x)
  do_where x h None = none
  do_where x h (Some i) = cond_both Kept (is_unsupported i) NoInstruction _ none (do_instr x h i)

  do_execution : (x : Cpu M) → Fit P x → Holds (λ (r : ℕ × Cpu M). Fit P r.1) (execution M access x)
  do_execution x h =
      holds_then _ _ (at_pc x h) (λ w k. holds_then _ _ (do_where w.1 k.1 (instr_at w.0)) (λ z k2. holds (w.0, z) k2))

  ended : (x : Cpu M) → Fit P x → (a : Answer (ℕ × Cpu M)) → Holds (λ (r : ℕ × Cpu M). Fit P r.1) a → Fit P (step_end M access x a).1
  ended x h (Gives r) k = k.by r refl
  ended x h _ k = h

  -- a step leaves what fits
  pub step_fits : (x : Cpu M) → Fit P x → Fit P (step M access x).1
  step_fits x h = ended x h (execution M access x) (do_execution x h)
