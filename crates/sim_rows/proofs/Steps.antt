-- The step of GPL by the operation of its code byte.
use Rattle.std.proofs.Common.{ℕ, ◌%◌, ◌&&◌, ◌<◌, ◌==◌, ◌∙◌, ◌≡◌, ap, Bool, Err, false, if◌then◌else◌, List, nat_lt, None, not, Ok, Option, refl, Result}
use Rattle.std.proofs.Common.{slice_index, Some, sym, true}
use Rattle.std.proofs.lemmas.Bool.{not_from_true}
use Rattle.sim_rows.specs.Prelude.{◌>>=◌, after, after_code, after_first, bound, bound_at, bound_by, branched, ByteOp, bytes_by, Cell, Changes, code_byte}
use Rattle.sim_rows.specs.Prelude.{destination_bytes, destination_size, executed, finished, first_of, from_at, gone_on, GoOp, GplOperand}
use Rattle.sim_rows.specs.Prelude.{GplOperation, GplRead, GplState, has_source, in_grom_of, indexed, is_row, is_visible, join, jump, length_at, moved}
use Rattle.sim_rows.specs.Prelude.{MoveKind, MoveLength, MoveSource, MoveTarget, next_in_grom, next_of, one, OneName, Opcode, operand_at, operands_of}
use Rattle.sim_rows.specs.Prelude.{operation_at, operation_in, Place, place_of, plain, PlainOp, plus, pointed, ranged, read_by, reading, Reason, result_of}
use Rattle.sim_rows.specs.Prelude.{row_width, second_by, second_of, size_of, Source, source_of, source_read, step, target_at, two, TwoName, unchanged, unit}
use Rattle.sim_rows.specs.Prelude.{value_at, with_immediate, word_at, word_in}
use Rattle.sim_view.specs.gpl_defs.declared.instruction.GplOperation.TheVariants as operation
use Rattle.sim_rows.proofs.Codes.{one_below, two_above}

pub reading_is : (s : GplState) → reading s.image s.pc ≡ read_by (operation_at (code_byte s)) (code_byte s) s.image (after_code s)
unfolding reading
reading_is s = refl

-- the step, and the bound of one that is made, by an operation
abbrev pub by_operation : GplState → Option GplOperation → Result GplState Reason
by_operation s o = executed (read_by o (code_byte s) s.image (after_code s)) s

abbrev bound_by_operation : GplState → Option GplOperation → ℕ
bound_by_operation s o = bound_at (read_by o (code_byte s) s.image (after_code s)) s

pub step_is : (s : GplState) (o : Option GplOperation) → operation_at (code_byte s) ≡ o → step s ≡ by_operation s o
step_is s o e =
    let run : GplRead → Result GplState Reason = λ r. executed r s in
    let read : Option GplOperation → GplRead = λ o. read_by o (code_byte s) s.image (after_code s) in
    ap run (reading_is s ∙ ap read e)

pub step_none : (s : GplState) → operation_at (code_byte s) ≡ None → step s ≡ Err Opcode
step_none s e = step_is s None e

-- ---- what is not a row

-- an operation without operand
pub step_plain : (s : GplState) (op : PlainOp) → operation_in s ≡ Some (operation.Plain op) →
    step s ≡ (plain op (unchanged (record s { pc = after_code s })) >>= λ (c : Changes). Ok (finished c))
unfolding after
step_plain s op e = step_is s (Some (operation.Plain op)) e

-- RAND, BACK and ALL, by their byte
pub step_byte : (s : GplState) (op : ByteOp) → operation_in s ≡ Some (operation.Byte op) →
    step s ≡ Ok (finished (with_immediate op (slice_index s.image (after_code s)) (unchanged (record s { pc = next_in_grom (after_code s) }))))
unfolding after
step_byte s op e = step_is s (Some (operation.Byte op)) e

-- MOVE, by its length, its target and its source
abbrev pub move_length : GplState → MoveLength × ℕ
move_length s = length_at (code_byte s % 2 == 1) s.image (after_code s)

abbrev pub move_target : MoveKind → GplState → MoveTarget × ℕ
move_target kind s = target_at kind s.image (move_length s).1

abbrev pub move_source : MoveKind → GplState → MoveSource × ℕ
move_source kind s = from_at kind s.image (move_target kind s).1

pub step_move : (s : GplState) (kind : MoveKind) → operation_in s ≡ Some (operation.Move kind) →
    step s ≡ (moved (move_length s).0 (move_target kind s).0 (move_source kind s).0 (unchanged (record s { pc = (move_source kind s).1 }))
    >>= λ (c : Changes). Ok (finished c))
unfolding after
step_move s kind e = step_is s (Some (operation.Move kind)) e

-- B and CALL, by the address that follows
pub step_jump : (s : GplState) (op : GoOp) → operation_in s ≡ Some (operation.Jump op) →
    step s ≡ (let to = word_at s.image (after_code s) in jump op to.0 (unchanged (record s { pc = to.1 })) >>= λ (c : Changes). Ok (finished c))
unfolding after
step_jump s op e = step_is s (Some (operation.Jump op)) e

-- BR and BS, by the thirteen bits of their target
pub step_branch : (s : GplState) (on : Bool) → operation_in s ≡ Some (operation.Branch on) →
    step s ≡ Ok (finished (branched on (in_grom_of s.pc (join (code_byte s % 32) (slice_index s.image (after_code s))))
    (unchanged (record s { pc = next_in_grom (after_code s) }))))
unfolding after
step_branch s on e = step_is s (Some (operation.Branch on)) e

-- ---- rows

-- a step of two operands, by the address after it, the bytes of its destination, and its source
abbrev two_from : GplState → TwoName → ℕ → ℕ → Result Source Reason → Result GplState Reason
two_from s op next bytes second =
    let t : GplState = record s { pc = next } in
    place_of t bytes (operand_at s.image (after_code s)).0 >>= λ place. (second >>= λ source. Ok
    (finished (two op (row_width s) place (value_at t (row_width s) place) source (unchanged t))))

two_after : (s : GplState) (op : TwoName) → by_operation s (Some (operation.Two op)) ≡
    two_from s op (source_read s).1 (destination_size op (row_width s)) (source_of (record s { pc = (source_read s).1 }) (row_width s) (source_read s).0)
unfolding after
two_after s op = let t : GplState = record s { pc = (source_read s).1 } in
    by t (place_of t (destination_size op (row_width s)) (operand_at s.image (after_code s)).0) (source_of t (row_width s) (source_read s).0)
  where
    then_ok : (r : Result Source Reason) (f : Source → Changes) → ((r >>= λ source. Ok (f source)) >>= λ (c : Changes). Ok (finished c)) ≡
        (r >>= λ source. Ok (finished (f source)))
    then_ok (Ok source) f = refl
    then_ok (Err reason) f = refl

    by : (t : GplState) (first : Result Place Reason) (second : Result Source Reason) →
        ((first >>= λ place. (second >>= λ source. Ok (two op (row_width s) place (value_at t (row_width s) place) source (unchanged t))))
        >>= λ (c : Changes). Ok (finished c))
        ≡ (first >>= λ place. (second >>= λ source. Ok (finished (two op (row_width s) place (value_at t (row_width s) place) source (unchanged t)))))
    by t (Ok place) second = then_ok second (λ source. two op (row_width s) place (value_at t (row_width s) place) source (unchanged t))
    by t (Err reason) second = refl

-- both operands, and then what is made of them
pub together : {X : Type 0} (first : Result Place Reason) (second : Result Source Reason) (f : Place → Source → Result X Reason) →
    (first >>= λ place. (second >>= λ source. f place source)) ≡ ((first >>= λ place. (second >>= λ source. Ok (place, source))) >>= λ (o : Place × Source). f
    o.0 o.1)
together (Ok place) (Ok source) f = refl
together _ _ f = refl

abbrev pub row_after : GplState → GplOperation → Place × Source → Result GplState Reason
row_after s op o = result_of op (row_width s) o.0 (value_at (gone_on s) (row_width s) o.0) o.1 (unchanged (gone_on s)) >>= λ (c : Changes). Ok (finished c)

abbrev next_by : GplState → Bool → ℕ
next_by s b = if b then (source_read s).1 else after_first s

pub step_two : (s : GplState) (op : TwoName) → operation_in s ≡ Some (operation.Two op) → has_source s ≡ true →
    step s ≡ (operands_of s >>= row_after s (operation.Two op))
step_two s op e has =
    let next : next_of s ≡ (source_read s).1 = ap (next_by s) has in
    let bytes : destination_bytes s ≡ destination_size op (row_width s) = ap (λ (o : Option GplOperation). bytes_by o (row_width s)) e in
    let second : second_of s ≡ source_of (record s { pc = (source_read s).1 }) (row_width s) (source_read s).0 =
    ap (λ (b : Bool). second_by b s) has ∙ ap (λ (n : ℕ). source_of (record s { pc = n }) (row_width s) (source_read s).0) next in
    step_is s (Some (operation.Two op)) e
    ∙ two_after s op
    ∙ ap (λ (n : ℕ). two_from s op n (destination_size op (row_width s)) (source_of (record s { pc = (source_read s).1 }) (row_width s) (source_read s).0))
    (sym next)
    ∙ ap (λ (n : ℕ). two_from s op (next_of s) n (source_of (record s { pc = (source_read s).1 }) (row_width s) (source_read s).0)) (sym bytes)
    ∙ ap (λ (r : Result Source Reason). two_from s op (next_of s) (destination_bytes s) r) (sym second)
    ∙ together (first_of s) (second_of s)
    (λ place source. Ok (finished (two op (row_width s) place (value_at (gone_on s) (row_width s) place) source (unchanged (gone_on s)))))

-- a step of one operand, by the address after it
abbrev one_from : GplState → OneName → ℕ → ℕ → Result Source Reason → Result GplState Reason
one_from s op next bytes second =
    let t : GplState = record s { pc = next } in
    place_of t bytes (operand_at s.image (after_code s)).0
    >>= λ place. (second >>= λ (source : Source). (one op (row_width s) place (value_at t (row_width s) place) (unchanged t) >>= λ (c : Changes). Ok
    (finished c)))

one_after : (s : GplState) (op : OneName) → by_operation s (Some (operation.One op)) ≡ one_from s op (after_first s) (size_of (row_width s)) (Ok unit)
unfolding after
one_after s op =
    let t : GplState = record s { pc = after_first s } in
    by t (place_of t (size_of (row_width s)) (operand_at s.image (after_code s)).0)
  where
    by : (t : GplState) (first : Result Place Reason) →
        ((first >>= λ place. one op (row_width s) place (value_at t (row_width s) place) (unchanged t)) >>= λ (c : Changes). Ok (finished c))
        ≡ (first >>= λ place. (one op (row_width s) place (value_at t (row_width s) place) (unchanged t) >>= λ (c : Changes). Ok (finished c)))
    by t (Ok place) = refl
    by t (Err reason) = refl

pub step_one : (s : GplState) (op : OneName) → operation_in s ≡ Some (operation.One op) → has_source s ≡ false →
    step s ≡ (operands_of s >>= row_after s (operation.One op))
step_one s op e has =
    let next : next_of s ≡ after_first s = ap (next_by s) has in
    let bytes : destination_bytes s ≡ size_of (row_width s) = ap (λ (o : Option GplOperation). bytes_by o (row_width s)) e in
    let second : second_of s ≡ Ok unit = ap (λ (b : Bool). second_by b s) has in
    step_is s (Some (operation.One op)) e
    ∙ one_after s op
    ∙ ap (λ (n : ℕ). one_from s op n (size_of (row_width s)) (Ok unit)) (sym next)
    ∙ ap (λ (n : ℕ). one_from s op (next_of s) n (Ok unit)) (sym bytes)
    ∙ ap (λ (r : Result Source Reason). one_from s op (next_of s) (destination_bytes s) r) (sym second)
    ∙ together (first_of s) (second_of s)
    (λ place source. (one op (row_width s) place (value_at (gone_on s) (row_width s) place) (unchanged (gone_on s)) >>= λ (c : Changes). Ok (finished c)))

-- The step of a row: its operands are found, and then it does what its operation does with them.
pub step_row : (s : GplState) (op : GplOperation) → code_byte s < 256 → operation_in s ≡ Some op → is_row (Some op) ≡ true →
    step s ≡ (operands_of s >>= row_after s op)
step_row s (operation.One op) fits e row = step_one s op e (not_from_true (nat_lt (code_byte s) 0xA0) (one_below (code_byte s) fits op e))
step_row s (operation.Two op) fits e row = step_two s op e (two_above (code_byte s) fits op e)
step_row s _ fits e row = absurd (cc)

-- The bound of a step: 400 where it stops, and else that of its instruction.
pub bound_stop : (s : GplState) (reason : Reason) → step s ≡ Err reason → bound s ≡ 400
bound_stop s reason e = ap (λ (r : Result GplState Reason). bound_by r s) e

pub bound_made : (s next : GplState) (o : Option GplOperation) → operation_at (code_byte s) ≡ o → step s ≡ Ok next → bound s ≡ bound_by_operation s o
bound_made s next o e f =
    let read : Option GplOperation → GplRead = λ o. read_by o (code_byte s) s.image (after_code s) in
    ap (λ (r : Result GplState Reason). bound_by r s) f ∙ ap (λ (r : GplRead). bound_at r s) (reading_is s ∙ ap read e)

-- ---- a place is one of the cells alone

pointed_same : (s t : GplState) (indirect : Bool) (address : ℕ) → s.cells ≡ t.cells → pointed s indirect address ≡ pointed t indirect address
pointed_same s t false address e = refl
pointed_same s t true address e =
    let at : List ℕ → Result ℕ Reason = λ cells. if is_visible 2 address && not (address == 0x7C) then Ok (word_in cells address) else Err Cell in
    ap at e

indexed_same : (s t : GplState) (index : Option ℕ) (address : ℕ) → s.cells ≡ t.cells → indexed s index address ≡ indexed t index address
indexed_same s t None address e = refl
indexed_same s t (Some offset) address e =
    let at : List ℕ → Result ℕ Reason = λ cells. if is_visible 2 offset then Ok (plus address (word_in cells offset)) else Err Cell in
    ap at e

pub bind_same : {X Y : Type 0} (a b : Result X Reason) (f g : X → Result Y Reason) → a ≡ b → ((x : X) → f x ≡ g x) → (a >>= f) ≡ (b >>= g)
bind_same a (Ok x) f g e h = ap (λ r. r >>= f) e ∙ h x
bind_same a (Err reason) f g e h = ap (λ r. r >>= f) e

pub place_same : (s t : GplState) (bytes : ℕ) (operand : GplOperand) → s.cells ≡ t.cells → place_of s bytes operand ≡ place_of t bytes operand
place_same s t bytes operand e =
    bind_same (pointed s operand.indirect operand.address) (pointed t operand.indirect operand.address)
    (λ base. (indexed s operand.index base >>= λ address. ranged bytes operand.space address))
    (λ base. (indexed t operand.index base >>= λ address. ranged bytes operand.space address))
    (pointed_same s t operand.indirect operand.address e)
    (λ base. ap (λ r. r >>= λ address. ranged bytes operand.space address) (indexed_same s t operand.index base e))
