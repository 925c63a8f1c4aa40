-- No operation but EXIT stops the program by EXIT.
use Rattle.std.proofs.Common.{ℕ, ◌+◌, ◌∙◌, ◌≡◌, Bool, Err, false, None, Ok, Option, refl, Result, Some, subst, sym, true}
use Rattle.std.specs.Prelude.{nat_le, nat_lt}
use Rattle.sim_rows.specs.Prelude.{◌>>=◌, after, after_code, Changes, code_byte, destination_size, GoOp, GplInstr, GplOperand, GplOperation, GplSource}
use Rattle.sim_rows.specs.Prelude.{GplState, grown_by, indexed, is_row, is_visible, length_of, move_found, MoveLength, MoveSource, MoveTarget}
use Rattle.sim_rows.specs.Prelude.{on_stack, one, OneName, operation_in, origin_of, Place, place_of, plain, PlainOp, Reason, RETURN_STACK, size_of, jump}
use Rattle.sim_rows.specs.Prelude.{source_of, step, target_of, unchanged, value_at, VALUE_STACK, Width, within_limit, word_or_byte}
use Rattle.sim_view.specs.gpl_defs.Reading.{instr_at}
use Rattle.sim_view.specs.gpl_defs.declared.instruction.GoOp.TheVariants as go
use Rattle.sim_view.specs.gpl_defs.declared.instruction.GplInstr.TheVariants as instruction
use Rattle.sim_view.specs.gpl_defs.declared.instruction.GplOperation.TheVariants as operation
use Rattle.sim_view.specs.gpl_defs.declared.instruction.GplSource.TheVariants as source
use Rattle.sim_view.specs.gpl_defs.declared.instruction.MoveLength.TheVariants as counted
use Rattle.sim_view.specs.gpl_defs.declared.instruction.MoveSource.TheVariants as from
use Rattle.sim_view.specs.gpl_defs.declared.instruction.MoveTarget.TheVariants as to
use Rattle.sim_view.specs.gpl_defs.declared.instruction.OneName.TheVariants.{FETCH, PUSH}
use Rattle.sim_view.specs.gpl_defs.declared.instruction.PlainOp.TheVariants.{EXIT, RTN, RTNC}
use Rattle.sim_view.specs.gpl_step_defs.declared.reason.Reason.TheVariants.{Exit}
use Rattle.sim_view.specs.gpl_step_defs.Flow.{top_of}
use Rattle.sim_view.specs.gpl_step_defs.Step.{changes_of}
use Rattle.sim_view.proofs.Common.{pick}
use Rattle.sim_rows.proofs.Places.{FoundVisible, place_found_visible}
use Rattle.sim_rows.proofs.Steps.{by_operation, step_is}

-- whether an operation is EXIT, and whether an instruction is
abbrev pub is_exit : Option GplOperation → Bool
is_exit (Some (operation.Plain EXIT)) = true
is_exit _ = false

abbrev exits : GplInstr → Bool
exits (instruction.Plain EXIT) = true
exits _ = false

pub row_stays : (o : Option GplOperation) → is_row o ≡ true → is_exit o ≡ false
row_stays (Some (operation.Plain op)) row = absurd (cc)
row_stays _ row = refl

-- no stop by EXIT
abbrev Never : {X : Type 0} → Result X Reason → Type 0
Never (Ok x) = Unit {0}
Never (Err reason) = reason ≡ Exit → ⊥

then_never : {X Y : Type 0} (r : Result X Reason) (f : X → Result Y Reason) → Never r → ((x : X) → Never (f x)) → Never (r >>= f)
then_never (Ok x) f n h = h x
then_never (Err reason) f n h = n

place_never : (s : GplState) (bytes : ℕ) (operand : GplOperand) → Never (place_of s bytes operand)
place_never s bytes operand = by (place_of s bytes operand) (place_found_visible s bytes operand)
  where
    by : (r : Result Place Reason) → FoundVisible bytes r → Never r
    by (Ok place) h = tt
    by (Err reason) h = λ e. absurd (cc)

stack_never : {Y : Type 0} (bytes top : ℕ) (f : ℕ → Result Y Reason) → ((n : ℕ) → Never (f n)) → Never (on_stack bytes top >>= f)
stack_never bytes top f h = pick (is_visible bytes top) (λ e. rw e (h top)) (λ e. rw e (λ e. absurd (cc)))

plain_never : (op : PlainOp) (c : Changes) → exits (instruction.Plain op) ≡ false → Never (plain op c)
plain_never RTN c stays =
    then_never (plain RTNC c) _ (stack_never 2 (top_of RETURN_STACK c.state) _ (λ top. tt)) (λ c. tt)
plain_never RTNC c stays = stack_never 2 (top_of RETURN_STACK c.state) _ (λ top. tt)
plain_never EXIT c stays = absurd (cc)
plain_never _ c stays = tt

jump_never : (op : GoOp) (to : ℕ) (c : Changes) → Never (jump op to c)
jump_never go.B to c = tt
jump_never go.CALL to c = stack_never 2 (grown_by 2 (top_of RETURN_STACK c.state)) _ (λ top. tt)

one_never : (op : OneName) (width : Width) (at : Place) (x : ℕ) (c : Changes) → Never (one op width at x c)
one_never FETCH width at x c = stack_never 2 (top_of RETURN_STACK c.state) _ (λ top. tt)
one_never PUSH width at x c = stack_never 1 (grown_by 1 (top_of VALUE_STACK c.state)) _ (λ top. tt)
one_never _ width at x c = tt

module _ (s : GplState) where
  source_never : (width : Width) (src : GplSource) → Never (source_of s width src)
  source_never width (source.At operand) = then_never (place_of s (size_of width) operand) _ (place_never s (size_of width) operand) (λ p. tt)
  source_never width (source.Immediate value) = tt

  -- MOVE
  length_never : (l : MoveLength) → Never (length_of s l)
  length_never (counted.At operand) = then_never (place_of s 2 operand) _ (place_never s 2 operand) (λ p. tt)
  length_never (counted.Immediate count) = tt

  limit_never : (count : ℕ) → Never (within_limit count)
  limit_never count = pick (nat_lt 16384 count) (λ e. rw e (λ f. absurd (cc))) (λ e. rw e tt)

  target_never : (bytes : ℕ) (t : MoveTarget) → Never (target_of s bytes t)
  target_never bytes (to.At operand) = then_never (place_of s bytes operand) _ (place_never s bytes operand) (λ p. tt)
  target_never bytes (to.Register number) = pick (nat_le (number + bytes) 8) (λ e. rw e tt) (λ e. rw e (λ f. absurd (cc)))

  indexed_never : (index address : ℕ) → Never (indexed s (Some index) address)
  indexed_never index address = pick (is_visible 2 index) (λ e. rw e tt) (λ e. rw e (λ f. absurd (cc)))

  origin_never : (bytes : ℕ) (o : MoveSource) → Never (origin_of s bytes o)
  origin_never bytes (from.At operand) = then_never (place_of s bytes operand) _ (place_never s bytes operand) (λ p. tt)
  origin_never bytes (from.Grom address) = tt
  origin_never bytes (from.GromIndexed address index) = then_never (indexed s (Some index) address) _ (indexed_never index address) (λ a. tt)

  move_never : (l : MoveLength) (t : MoveTarget) (o : MoveSource) → Never (move_found l t o s)
  move_never l t o =
      then_never (length_of s l) _ (length_never l) (λ count.
      then_never (within_limit count) _ (limit_never count) (λ bytes.
      then_never (target_of s bytes t) _ (target_never bytes t) (λ to.
      then_never (origin_of s bytes o) _ (origin_never bytes o) (λ from. tt))))

changes_never : (instr : GplInstr) (at : ℕ) (c : Changes) → exits instr ≡ false → Never (changes_of instr at c)
changes_never (instruction.Plain op) at c stays = plain_never op c stays
changes_never (instruction.Byte op value) at c stays = tt
changes_never (instruction.Jump op to) at c stays = jump_never op to c
changes_never (instruction.Branch on offset) at c stays = tt
changes_never (instruction.One op word operand) at c stays =
    let w = word_or_byte word in
    then_never (place_of c.state (size_of w) operand) _ (place_never c.state (size_of w) operand)
    (λ p. one_never op w p (value_at c.state w p) c)
changes_never (instruction.Two op word dst src) at c stays =
    let w = word_or_byte word in
    then_never (place_of c.state (destination_size op w) dst) _ (place_never c.state (destination_size op w) dst)
    (λ p. then_never (source_of c.state w src) _ (source_never c.state w src) (λ source. tt))
changes_never (instruction.Move l t o) at c stays = then_never (move_found l t o c.state) _ (move_never c.state l t o) (λ found. tt)

module _ (s : GplState) where
  read_stays : (op : GplOperation) → is_exit (Some op) ≡ false → exits (instr_at op (code_byte s) s.image (after_code s)).0 ≡ false
  read_stays (operation.Plain EXIT) stays = stays
  read_stays _ stays = refl

  operation_never : (o : Option GplOperation) → is_exit o ≡ false → Never (by_operation s o)
  unfolding after
  operation_never None stays = λ e. absurd (cc)
  operation_never (Some op) stays =
      let read = instr_at op (code_byte s) s.image (after_code s) in
      let c : Changes = unchanged (record s { pc = read.1 }) in
      then_never (changes_of read.0 s.pc c) _ (changes_never read.0 s.pc c (read_stays op stays)) (λ c. tt)

  pub never_exits : (reason : Reason) → is_exit (operation_in s) ≡ false → step s ≡ Err reason → reason ≡ Exit → ⊥
  never_exits reason stays e = subst Never (sym (step_is s (operation_in s) refl) ∙ e) (operation_never (operation_in s) stays)
