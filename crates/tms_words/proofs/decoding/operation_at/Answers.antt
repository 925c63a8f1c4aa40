use Rattle.std.proofs.Common.{ℕ, ◌≡◌, ◌/◌, ◌%◌, Bool, Some, eqb, ap, sym, ◌∙◌, arith}
use Rattle.std.specs.Prelude.{bit_and}
use Rattle.std.proofs.lemmas.Nat.{and_mask}
use Rattle.tms_defs.specs.declared.instruction.Operation.TheVariants.{Two, Reg, Jump, Shift, One}
use Rattle.tms_defs.proofs.InstructionLaws.{operation_at-between, operation_at-has_code}
use Rattle.tms_words.proofs.decoding.operation_at.Goals as goal

pub returns-then-word-ge16384 : goal.returns-then-word-ge16384
returns-then-word-ge16384 c =
    let odd : eqb (bit_and (c.args.word / 4096) 1) 1 ≡ eqb (c.args.word / 4096 % 2) 1 =
    ap (λ (bit : ℕ). eqb bit 1) (and_mask (c.args.word / 4096) 1) in
    ap (λ (b : Bool). Some (Two c.two_at.result b)) odd
    ∙ sym (operation_at-has_code (Two c.two_at.result (eqb (c.args.word / 4096 % 2) 1)) c.args.word (omega arith) c.two_at.ensures)

pub returns-then-word-ge8192 : goal.returns-then-word-ge8192
returns-then-word-ge8192 c = sym (operation_at-has_code (Reg c.reg_at.result) c.args.word (omega arith) c.reg_at.ensures)

pub returns-then-word-ge4096 : goal.returns-then-word-ge4096
returns-then-word-ge4096 c = sym (operation_at-has_code (Jump c.jump_at.result) c.args.word (omega arith) c.jump_at.ensures)

pub returns-then-word-ge3072 : goal.returns-then-word-ge3072
returns-then-word-ge3072 c = sym (operation_at-between c.args.word (omega arith) (λ h. omega arith) (λ h. omega arith))

pub returns-then-word-ge2048 : goal.returns-then-word-ge2048
returns-then-word-ge2048 c = sym (operation_at-has_code (Shift c.shift_at.result) c.args.word (omega arith) c.shift_at.ensures)

pub returns-then-word-ge1920 : goal.returns-then-word-ge1920
returns-then-word-ge1920 c = sym (operation_at-between c.args.word (omega arith) (λ h. omega arith) (λ h. omega arith))

pub returns-then-word-ge1024 : goal.returns-then-word-ge1024
returns-then-word-ge1024 c = sym (operation_at-has_code (One c.one_at.result) c.args.word (omega arith) c.one_at.ensures)

pub returns-else-word-ge512 : goal.returns-else-word-ge512
returns-else-word-ge512 c = sym (operation_at-between c.args.word (omega arith) (λ h. omega arith) (λ h. omega arith))
