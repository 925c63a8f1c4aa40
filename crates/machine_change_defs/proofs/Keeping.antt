-- What holds of every memory that an instruction leaves, if it holds of the one before it and each access keeps it.
use Rattle.std.proofs.Common.{◌≡◌, ℕ, List, [], ◌∷◌, ◌++◌, Bool, true, false, refl, sym, ap, ◌∙◌, Option, Some, None}
use Rattle.std.specs.Prelude.{ℤ}
use Rattle.tms_defs.specs.Words.{even, plus}
use Rattle.tms_defs.specs.Flags.{Width, size_of, Byte, Word, byte_or_word}
use Rattle.tms_defs.specs.Status.{with_result, with_order, with_extension, with_mask, status_word, status_at}
use Rattle.tms_defs.specs.Logic.{swapped, by_ones, by_zeros}
use Rattle.tms_defs.specs.MultiplyDivide.{product_of, division_of, by_division}
use Rattle.tms_defs.specs.Instructions.{instr_at}
use Rattle.tms_defs.specs.declared.flags.Flags.{Flags}
use Rattle.tms_defs.specs.declared.instruction.TwoOp.{TwoOp}
use Rattle.tms_defs.specs.declared.instruction.TwoOp.TheVariants.{C, MOV}
use Rattle.tms_defs.specs.declared.instruction.RegOp.{RegOp}
use Rattle.tms_defs.specs.declared.instruction.RegOp.TheVariants.{COC, CZC, XOR, XOP, LDCR, STCR, MPY, DIV}
use Rattle.tms_defs.specs.declared.instruction.ShiftOp.{ShiftOp}
use Rattle.tms_defs.specs.declared.instruction.OneOp.{OneOp}
use Rattle.tms_defs.specs.declared.instruction.OneOp.TheVariants.{BLWP, B, X, CLR, BL, SWPB, SETO}
use Rattle.tms_defs.specs.declared.instruction.ImmOp.{ImmOp}
use Rattle.tms_defs.specs.declared.instruction.ImmOp.TheVariants.{LI, CI, STWP, STST}
use Rattle.tms_defs.specs.declared.instruction.BareOp.{BareOp}
use Rattle.tms_defs.specs.declared.instruction.BareOp.TheVariants.{LWPI, LIMI, RTWP}
use Rattle.tms_defs.specs.declared.instruction.Instr.{Instr}
use Rattle.tms_defs.specs.declared.instruction.Instr.TheVariants as instr
use Rattle.tms_defs.specs.declared.step_end.StepEnd.TheVariants.{Done}
use Rattle.tms_defs.specs.declared.instruction.JumpOp.{JumpOp}
use Rattle.tms_defs.specs.Accesses.{Answer, Gives, AtPort, NoInstruction, ◌>>=◌, Accesses}
use Rattle.tms_defs.specs.Operand.{Cpu, Mode, Register, Indirect, Symbolic, Increment, mode_of, register_in, register}
use Rattle.tms_defs.specs.Jumps.{jump_target, condition}
use Rattle.tms_defs.specs.Step.{with_word, with_words, next_word, operand, value_at, with_value, with_flags, stored}
use Rattle.tms_defs.specs.Step.{kept_in, two, two_words_from, values_at, with_division, reg, count_of, shift, one, jump_where}
use Rattle.tms_defs.specs.Step.{immediate, imm, bare, executed, executed_where, execution, is_unsupported, step}
use Rattle.tms_defs.specs.Step.{step_end}

given : {X : Type 0} (a b : X) → Gives a ≡ Gives b → a ≡ b
given a b e = cc

-- by both outcomes of a test
pub pick : {R : Type 0} (b : Bool) → (b ≡ true → R) → (b ≡ false → R) → R
pick true t f = t refl
pick false t f = f refl

-- An answer that gives a value gives one of which it holds.
pub record Holds {X : Type 0} (Q : X → Type 0) (a : Answer X) : Type 0 where
  pub by : (x : X) → a ≡ Gives x → Q x

pub holds : {X : Type 0} {Q : X → Type 0} (x : X) → Q x → Holds Q (Gives x)
holds {Q = Q} x q = record { by = λ y e. rw (← given x y e) q }

pub none : {X : Type 0} {Q : X → Type 0} → Holds Q NoInstruction
none = record { by = λ x e. absurd (cc) }

pub holds_then : {X Y : Type 0} {Q : X → Type 0} {R : Y → Type 0} (a : Answer X) (f : X → Answer Y) → Holds Q a
    → ((x : X) → Q x → Holds R (f x)) → Holds R (a >>= f)
holds_then (Gives x) f h k = k x (h.by x refl)
holds_then (AtPort p) f h k = record { by = λ x e. absurd (cc) }
holds_then NoInstruction f h k = none

pub holds_num : {X Y : Type 0} {R : Y → Type 0} (a : Answer X) (f : X → Answer Y) → ((x : X) → Holds R (f x))
    → Holds R (a >>= f)
holds_num (Gives x) f k = k x
holds_num (AtPort p) f k = record { by = λ x e. absurd (cc) }
holds_num NoInstruction f k = none

-- A word stands for an operation that is not one on bytes, unless operations on bytes are allowed.
abbrev pub FitsWidth : Bool → Width → Type 0
FitsWidth bytes Byte = bytes ≡ true
FitsWidth bytes Word = Unit {0}

abbrev pub Allowed : Bool → Option Instr → Type 0
Allowed bytes (Some (instr.Two o b d s)) = FitsWidth bytes (byte_or_word b)
Allowed bytes _ = Unit {0}

module _ (M : Type 0) (access : Accesses M) (P : M → Type 0) (bytes : Bool)
    (word_keeps : (m : M) (a w : ℕ) → P m → Holds P (access.with_word m a w))
    (read_keeps : bytes ≡ true → (m : M) (a : ℕ) → P m → Holds (λ (r : ℕ × M). P r.1) (access.byte m a))
    (byte_keeps : bytes ≡ true → (m : M) (a b : ℕ) → P m → Holds P (access.with_byte m a b)) where
  abbrev Kept : Answer (Cpu M) → Type 0
  Kept a = Holds (λ (x : Cpu M). P x.memory) a

  abbrev KeptPair : Answer (ℕ × Cpu M) → Type 0
  KeptPair a = Holds (λ (r : ℕ × Cpu M). P r.1.memory) a

  abbrev KeptTriple : Answer (ℕ × ℕ × Cpu M) → Type 0
  KeptTriple a = Holds (λ (r : ℕ × ℕ × Cpu M). P r.2.memory) a

  to_word : (x : Cpu M) → P x.memory → (a w : ℕ) → Kept (with_word M access x a w)
  to_word x h a w = holds_then _ _ (word_keeps x.memory a w h) (λ m k. holds (record x { memory = m }) k)

  at_pc : (x : Cpu M) → P x.memory → KeptPair (next_word M access x)
  at_pc x h = holds_num _ _ (λ w. holds (w, record x { pc = plus x.pc 2 }) h)

  at_operand : (x : Cpu M) → P x.memory → (o : Mode) (w : Width) (n : ℕ) → KeptPair (operand M access o w n x)
  at_operand x h Register w n = holds (register n x, x) h
  at_operand x h Indirect w n = holds_num _ _ (λ a. holds (a, x) h)
  at_operand x h Symbolic w n = holds_then _ _ (at_pc x h) (λ b k. holds_num _ _ (λ i. holds (plus b.0 i, b.1) k))
  at_operand x h Increment w n =
      holds_num _ _ (λ a. holds_then _ (λ (z : Cpu M). Gives (a, z)) (to_word x h (register n x) (plus a (size_of w))) (λ z k. holds (a, z) k))

  at_value : (x : Cpu M) → P x.memory → (b : Width) → FitsWidth bytes b → (a : ℕ) → KeptPair (value_at M access b a x)
  at_value x h Byte f a =
      holds_then _ (λ (r : ℕ × M). Gives (r.0, record x { memory = r.1 })) (read_keeps f x.memory a h) (λ r k. holds (r.0, record x { memory = r.1 }) k)
  at_value x h Word f a = holds_num _ _ (λ v. holds (v, x) h)

  to_value : (x : Cpu M) → P x.memory → (b : Width) → FitsWidth bytes b → (a v : ℕ) → Kept (with_value M access b a v x)
  to_value x h Byte f a v =
      holds_then _ (λ (m : M). Gives (record x { memory = m })) (byte_keeps f x.memory a v h) (λ m k. holds (record x { memory = m }) k)
  to_value x h Word f a v = to_word x h a v

  to_stored : (x : Cpu M) → P x.memory → (b : Width) → FitsWidth bytes b → (a r : ℕ) (f : Flags) → Kept (stored M access b a r f x)
  to_stored x h b fits a r f =
      holds_then _ _ (to_value x h b fits a r) (λ z k. holds (record z { status = with_result b r f z.status }) k)

  to_words : (x : Cpu M) → P x.memory → (writes : List (ℕ × ℕ)) → Kept (with_words M access x writes)
  to_words x h [] = holds x h
  to_words x h (write ∷ rest) = holds_then _ _ (to_word x h write.0 write.1) (λ z k. to_words z k rest)

  -- ---- every form
  do_two : (x : Cpu M) → P x.memory → (o : TwoOp) (b : Width) → FitsWidth bytes b → (v d : ℕ) → Kept (two M access o b v d x)
  do_two x h MOV b f v d = to_stored x h b f d v _
  do_two x h C b f v d = holds_then _ _ (at_value x h b f d) (λ u k. holds (record u.1 { status = with_order b v u.0 u.1.status }) k)
  do_two x h _ b f v d = holds_then _ _ (at_value x h b f d) (λ u k. to_stored u.1 k b f d _ _)

  do_division : (x : Cpu M) → P x.memory → (o : Option (ℕ × ℕ)) (a : ℕ) → Kept (with_division M access o a x)
  do_division x h (Some q) a = to_words x h (two_words_from a q)
  do_division x h None a = holds x h

  do_one : (x : Cpu M) → P x.memory → (o : OneOp) (a : ℕ) → Kept (one M access o a x)
  do_one x h BLWP a =
      holds_num _ _ (λ v. holds_then _ _ (to_words x h (kept_in v.0 x)) (λ z k. holds (record z { wp = v.0; pc = v.1 }) k))
  do_one x h B a = holds (record x { pc = even a }) h
  do_one x h X a = none
  do_one x h CLR a = to_word x h a 0
  do_one x h BL a = holds_then _ _ (to_word x h (register 11 x) x.pc) (λ z k. holds (record z { pc = even a }) k)
  do_one x h SWPB a = holds_num _ _ (λ v. to_word x h a (swapped v))
  do_one x h SETO a = to_word x h a 0xFFFF
  do_one x h _ a = holds_num _ _ (λ v. to_stored x h Word tt a _ _)

  do_reg : (x : Cpu M) → P x.memory → (o : RegOp) (n s : ℕ) → Kept (reg M access o n s x)
  do_reg x h COC n s = holds_num _ _ (λ v. holds (with_flags x (by_ones v.1 v.0 x.status.flags)) h)
  do_reg x h CZC n s = holds_num _ _ (λ v. holds (with_flags x (by_zeros v.1 v.0 x.status.flags)) h)
  do_reg x h XOR n s = holds_num _ _ (λ v. to_stored x h Word tt (register n x) _ _)
  do_reg x h XOP n s =
      holds_num _ _ (λ v. holds_then _ _ (to_words x h (kept_in v.0 x ++ ((register_in v.0 11, s) ∷ [])))
      (λ z k. holds (record z { wp = v.0; pc = v.1; status = with_extension z.status }) k))
  do_reg x h MPY n s = holds_num _ _ (λ v. to_words x h (two_words_from (register n x) (product_of v.1 v.0)))
  do_reg x h DIV n s =
      holds_num {X = ℕ × ℕ} (values_at M access s (register n x) x) _ (λ v.
      holds_num {X = ℕ} (access.word x.memory (plus (register n x) 2)) _ (λ l. holds_then _ _ (do_division x h (division_of v.1 l v.0) (register n x))
      (λ z k. holds (with_flags z (by_division v.1 l v.0 z.status.flags)) k)))
  do_reg x h LDCR n s = none
  do_reg x h STCR n s = none

  do_shift : (x : Cpu M) → P x.memory → (o : ShiftOp) (c n : ℕ) → Kept (shift M access o c n x)
  do_shift x h o c n =
      holds_num {X = ℕ} (access.word x.memory (register n x)) _ (λ v.
      holds_num {X = ℕ} (count_of M access c x) _ (λ p. to_stored x h Word tt (register n x) _ _))

  do_jump : (x : Cpu M) → P x.memory → (o : Option Bool) (d : ℤ) → Kept (jump_where o d x)
  do_jump x h (Some true) d = holds (record x { pc = jump_target x.pc d }) h
  do_jump x h (Some false) d = holds x h
  do_jump x h None d = none

  do_immediate : (x : Cpu M) → P x.memory → (n : ℕ) → KeptTriple (immediate M access n x)
  do_immediate x h n = holds_then _ _ (at_pc x h) (λ w k. holds_num _ _ (λ f. holds (w.0, f, w.1) k))

  do_imm : (x : Cpu M) → P x.memory → (o : ImmOp) (n : ℕ) → Kept (imm M access o n x)
  do_imm x h LI n = holds_then _ _ (at_pc x h) (λ w k. to_stored w.1 k Word tt (register n w.1) _ _)
  do_imm x h CI n = holds_then _ _ (do_immediate x h n) (λ w k. holds (record w.2 { status = with_order Word w.1 w.0 w.2.status }) k)
  do_imm x h STWP n = to_word x h (register n x) x.wp
  do_imm x h STST n = to_word x h (register n x) (status_word x.status)
  do_imm x h _ n = holds_then _ _ (do_immediate x h n) (λ w k. to_stored w.2 k Word tt (register n w.2) _ _)

  do_bare : (x : Cpu M) → P x.memory → (o : BareOp) → Kept (bare M access o x)
  do_bare x h LWPI = holds_then _ _ (at_pc x h) (λ w k. holds (record w.1 { wp = even w.0 }) k)
  do_bare x h LIMI = holds_then _ _ (at_pc x h) (λ w k. holds (record w.1 { status = with_mask w.0 w.1.status }) k)
  do_bare x h RTWP = holds_num _ _ (λ w. holds (record x { wp = even w.0; pc = even w.1; status = status_at w.2 }) h)
  do_bare x h _ = none

  do_instr : (x : Cpu M) → P x.memory → (i : Instr) → Allowed bytes (Some i) → Kept (executed M access i x)
  do_instr x h (instr.Two o b d s) f =
      holds_then _ _ (at_operand x h (mode_of s.mode) (byte_or_word b) s.reg) (λ a k.
      holds_then _ _ (at_value a.1 k (byte_or_word b) f a.0) (λ v k2.
      holds_then _ _ (at_operand v.1 k2 (mode_of d.mode) (byte_or_word b) d.reg) (λ p k3. do_two p.1 k3 o (byte_or_word b) f v.0 p.0)))
  do_instr x h (instr.Reg o d s) f = holds_then _ _ (at_operand x h (mode_of s.mode) Word s.reg) (λ a k. do_reg a.1 k o d a.0)
  do_instr x h (instr.Shift o c n) f = do_shift x h o c n
  do_instr x h (instr.One o s) f = holds_then _ _ (at_operand x h (mode_of s.mode) Word s.reg) (λ a k. do_one a.1 k o a.0)
  do_instr x h (instr.Jump o d) f = do_jump x h (condition o x.status) d
  do_instr x h (instr.Imm o n) f = do_imm x h o n
  do_instr x h (instr.Bare o) f = do_bare x h o

  do_where : (x : Cpu M) → P x.memory → (i : Option Instr) → Allowed bytes i → Kept (executed_where M access i x)
  do_where x h (Some i) f = pick (is_unsupported i) (λ e. rw e none) (λ e. rw e (do_instr x h i f))
  do_where x h None f = none

  -- an instruction that is allowed keeps it
  abbrev KeptIf : Answer (ℕ × Cpu M) → Type 0
  KeptIf a = Holds (λ (r : ℕ × Cpu M). Allowed bytes (instr_at r.0) → P r.1.memory) a

  do_execution : (x : Cpu M) → P x.memory → KeptIf (execution M access x)
  do_execution x h =
      holds_then _ _ (at_pc x h) (λ w k.
      holds_then {Q = λ (z : Cpu M). Allowed bytes (instr_at w.0) → P z.memory} _ _ (record { by = λ z e f. (do_where w.1 k (instr_at w.0) f).by z e })
      (λ z k2. holds (w.0, z) k2))

  ended : (x : Cpu M) → P x.memory → (a : Answer (ℕ × Cpu M)) → KeptIf a
      → ((word : ℕ) → (step_end M access x a).0 ≡ Done word → Allowed bytes (instr_at word)) → P (step_end M access x a).1.memory
  ended x h (Gives r) k allowed = k.by r refl (allowed r.0 refl)
  ended x h _ k allowed = h

  -- a step of an instruction that is allowed keeps it
  pub step_keeps : (x : Cpu M) → P x.memory → ((word : ℕ) → (step M access x).0 ≡ Done word → Allowed bytes (instr_at word))
      → P (step M access x).1.memory
  step_keeps x h allowed = ended x h (execution M access x) (do_execution x h) allowed

-- all instructions are allowed
pub all_allowed : (i : Option Instr) → Allowed true i
all_allowed (Some (instr.Two o b d s)) = by (byte_or_word b)
  where
    by : (w : Width) → FitsWidth true w
    by Byte = refl
    by Word = tt
all_allowed _ = tt

-- ---- jumps
module _ (M : Type 0) (access : Accesses M) where
  abbrev Same : Cpu M → Cpu M → Type 0
  Same x y = y.memory ≡ x.memory

  jumped_by : (x : Cpu M) (o : Option Bool) (d : ℤ) → Holds (Same x) (jump_where o d x)
  jumped_by x (Some true) d = holds (record x { pc = jump_target x.pc d }) refl
  jumped_by x (Some false) d = holds x refl
  jumped_by x None d = none

  jumped : (x : Cpu M) (o : JumpOp) (d : ℤ) → Holds (Same x) (executed_where M access (Some (instr.Jump o d)) x)
  jumped x o d = pick (is_unsupported (instr.Jump o d)) (λ e. rw e none) (λ e. rw e (jumped_by x (condition o x.status) d))

  abbrev pub IsJump : ℕ → Type 0
  IsJump word = (o : JumpOp) × (d : ℤ) × (instr_at word ≡ Some (instr.Jump o d))

  jump_where_is : (x : Cpu M) (word : ℕ) (z : Cpu M) → IsJump word → executed_where M access (instr_at word) x ≡ Gives z → z.memory ≡ x.memory
  jump_where_is x word z (o, d, is) e = (jumped x o d).by z (ap (λ i. executed_where M access i x) (sym is) ∙ e)

  pc_leaves : (x : Cpu M) → Holds (λ (r : ℕ × Cpu M). r.1.memory ≡ x.memory) (next_word M access x)
  pc_leaves x = holds_num _ _ (λ w. holds (w, record x { pc = plus x.pc 2 }) refl)

  jump_execution : (x : Cpu M) → Holds (λ (r : ℕ × Cpu M). IsJump r.0 → r.1.memory ≡ x.memory) (execution M access x)
  jump_execution x =
      holds_then _ _ (pc_leaves x) (λ w k.
      holds_then {Q = λ (z : Cpu M). IsJump w.0 → z.memory ≡ x.memory} _ _ (record { by = λ z e jump. jump_where_is w.1 w.0 z jump e ∙ k })
      (λ z k2. holds (w.0, z) k2))

  jump_ended : (x : Cpu M) (a : Answer (ℕ × Cpu M)) → Holds (λ (r : ℕ × Cpu M). IsJump r.0 → r.1.memory ≡ x.memory) a
      → ((word : ℕ) → (step_end M access x a).0 ≡ Done word → IsJump word) → (step_end M access x a).1.memory ≡ x.memory
  jump_ended x (Gives r) k jump = k.by r refl (jump r.0 refl)
  jump_ended x _ k jump = refl

  -- a jump leaves the memory
  pub jump_leaves : (x : Cpu M) → ((word : ℕ) → (step M access x).0 ≡ Done word → IsJump word) → (step M access x).1.memory ≡ x.memory
  jump_leaves x jump = jump_ended x (execution M access x) (jump_execution x) jump
