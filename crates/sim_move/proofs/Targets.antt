-- The target of MOVE, and a source in memory, on views alone.
use Rattle.std.proofs.Common.{ℕ, ◌+◌, ◌≡◌, ◌≤◌, ap, arith, Err, false, nat_lt, Ok, refl, Result, slice_index, subst, sym, true}
use Rattle.std.proofs.lemmas.Bool.{le-leb, lt-leb, ltb-false, ltb-true}
use Rattle.sim_rows.proofs.Common.{◌>>=◌, ADDR, code_byte, exit, From, FromMemory, Goes, goes_in, GplOperand, grom_at, GplState}
use Rattle.sim_rows.proofs.Common.{GromIndexedToMemory, GromToMemory, GromToRegisters, Length, MemoryToMemory, MOVEB, MOVED, MoveKind, MOVER, MOVES, Moving}
use Rattle.sim_rows.proofs.Common.{next_in_grom, number_of_space, operand_at, pick, Place, place_of, Reason}
use Rattle.sim_rows.proofs.Common.{StoppedBy, sum_of, target_of, To, ToMemory, View, Word}
use Rattle.sim_rows.specs.sim_view.Prelude.{HoldsBytes}
use Rattle.sim_rows.specs.gpl_defs.declared.instruction.MoveSource.TheVariants as source
use Rattle.sim_rows.specs.gpl_defs.declared.instruction.MoveTarget.TheVariants as target
use Rattle.sim_move.specs.Moves.{BeforeCopy, length_read, source_read, target_read}
use Rattle.sim_move.proofs.Found.{found_after_length, target_in, with_from, with_source}
use Rattle.sim_rows.specs.sim_operands.Routines.{find_operand}
use Rattle.sim_rows.proofs.sim_operands.Ends.{after, EndsBy, ends_into, ends_within, then_ends}
use Rattle.sim_move.specs.Rows.{find_in_memory, find_places, find_source}
use Rattle.sim_move.proofs.Codes.{from_grom, Encodes}
use Rattle.sim_move.proofs.Seen.{halted, operand_found, seen, TargetFound}
use Rattle.sim_move.specs.Pieces as pieces

-- the length in registers 3 and 12, the place of the target in registers 2 and 5, where it was found
abbrev kept : ℕ → View → View
kept count u = record u { r = record u.r { r3 = count; r12 = count } }

module _ (s : GplState) (count next : ℕ) (u : View) where
  abbrev here : View
  here = seen s next (kept count u)

  -- ---- a place in memory

  abbrev asked : View
  asked = record here { r = record here.r { r11 = MOVED } }

  abbrev operand : GplOperand × ℕ
  operand = operand_at s.image next

  -- where the place was found
  abbrev at_target : Place → ℕ → ℕ → View
  at_target place r4 r6 = seen s operand.1 (record asked {
    r = record asked.r { r2 = place.address; r4 = r4; r5 = number_of_space place.space; r6 = r6 };
  })

  -- it is in memory
  abbrev read : GplOperand × ℕ
  read = operand_at s.image operand.1

  joined : (r : Result Place Reason) →
      (((r >>= λ place. Ok (ToMemory place)) >>= λ to. Ok (count, to)) >>= with_source s (source.At read.0))
      ≡ (r >>= λ place. with_source s (source.At read.0) (count, ToMemory place))
  joined (Ok place) = refl
  joined (Err reason) = refl

  module _ (bytes : HoldsBytes 65536 s.image) (few : count ≤ 16384) where
    -- ---- registers

    registers : u.r.r6 ≡ count →
        (let number = slice_index s.image next in
        EndsBy (pieces.check_registers here) 9 MOVES (TargetFound s (next_in_grom next)) (StoppedBy s)
        (target_of s count (target.Register number) >>= λ to. Ok (count, to)))
    registers is =
        let number = slice_index s.image next in
        let small = bytes.fits next in
        let sum : sum_of Word number u.r.r6 ≡ number + count = omega arith in
        pick (nat_lt 8 (number + count))
        (λ more. let l = ltb-true 8 (number + count) more in
        rw (sum, more, lt-leb (number + count) 8 l) (record {
          by = goes_in (omega arith) (record {
            ended = record { cells = refl; vdp = refl; registers = refl; image = refl; address = refl };
            reason_is = refl;
          });
        }))
        (λ within. let l = ltb-false 8 (number + count) within in
        rw (sum, within, le-leb (number + count) 8 l) (record { by = goes_in (omega arith) refl }))

    -- the source is in GROM
    pub to_grom : nat_lt (code_byte s) 0x34 ≡ true →
        EndsBy (find_in_memory asked) 42 MOVES (TargetFound s operand.1) (StoppedBy s)
        (target_of s count (target.At operand.0) >>= λ to. Ok (count, to))
    unfolding find_in_memory find_source
    to_grom low =
        let found = place_of s count operand.0 in
        let to : Place → Result To Reason = λ place. Ok (ToMemory place) in
        ends_into (found >>= to) (λ to. (count, to))
        (then_ends MOVED (find_operand asked) find_source found to refl (operand_found s next asked bytes few)
        (λ place known p.
        record {
          by = subst (λ (w : View). Goes (find_source w) 4 MOVES (TargetFound s operand.1 (count, ToMemory place))) (sym p.is)
              (rw low (goes_in (omega arith) refl));
        }))
        (λ to w found. found)

    from_memory : (place : Place) (r4 r6 : ℕ) → nat_lt (code_byte s) 0x34 ≡ false →
        (source_read MemoryToMemory s).1 ≡ read.1 →
        EndsBy (find_source (at_target place r4 r6)) 43 MOVEB (BeforeCopy MemoryToMemory s) (StoppedBy s)
        (with_source s (source.At read.0) (count, ToMemory place))
    unfolding find_source
    from_memory place r4 r6 high next_is =
        let w = at_target place r4 r6 in
        let q = record w { r = record w.r { r7 = w.r.r2; r8 = w.r.r5; r11 = MOVEB } } in
        let found = place_of s count read.0 in
        let moving : From → Moving = with_from (count, ToMemory place) in
        let result = with_source s (source.At read.0) (count, ToMemory place) in
        rw high (after (exit 5 ADDR q) find_operand 5 result (omega arith)
        (ends_into (found >>= λ p. Ok (FromMemory p)) moving
        (ends_into found FromMemory (operand_found s operand.1 q bytes few)
        (λ p w at_source. subst (BeforeCopy MemoryToMemory s (moving (FromMemory p))) (sym at_source.is) (record {
          cells = refl;
          vdp = refl;
          registers = refl;
          held = refl;
          mark = refl;
          holds_source = record { loads_from = record { address = refl; space = refl }; grom = ap (grom_at s.image) (sym next_is) };
          holds_target = record { address = refl; space = refl };
          left = refl;
        })))
        (λ from w found. found)))

    pub to_memory_source : nat_lt (code_byte s) 0x34 ≡ false → (source_read MemoryToMemory s).1 ≡ read.1 →
        EndsBy (find_in_memory asked) 81 MOVEB (BeforeCopy MemoryToMemory s) (StoppedBy s)
        ((target_of s count (target.At operand.0) >>= λ to. Ok (count, to)) >>= with_source s (source.At read.0))
    unfolding find_in_memory
    to_memory_source high next_is =
        let found = place_of s count operand.0 in
        let by : Result Moving Reason → Type 0 =
        EndsBy (find_in_memory asked) 81 MOVEB (BeforeCopy MemoryToMemory s) (StoppedBy s) in
        subst by (sym (joined found))
        (then_ends MOVED (find_operand asked) find_source found (λ place. with_source s (source.At read.0) (count, ToMemory place)) refl
        (operand_found s next asked bytes few)
        (λ place known p.
        subst (λ (w : View). EndsBy (find_source w) 43 MOVEB (BeforeCopy MemoryToMemory s) (StoppedBy s)
        (with_source s (source.At read.0) (count, ToMemory place)))
        (sym p.is) (from_memory place p.r4 p.r6 high next_is)))

-- ---- from MOVEL on

module _ (s : GplState) (count : ℕ) (u : View) (bytes : HoldsBytes 65536 s.image) where
  abbrev next : ℕ
  next = (length_read s).1

  abbrev counted : View
  counted = record u { r = record u.r { r6 = count } }

  abbrev Finds : {X : Type 0} → ℕ → ℕ → (X → View → Type 0) → Result X Reason → Type 0
  Finds most to Shows r = EndsBy (find_places (seen s next counted)) most to Shows (StoppedBy s) r

  -- the source is in GROM
  abbrev ToGrom : MoveKind → Type 0
  ToGrom kind = Finds 50 MOVES (TargetFound s (target_read kind s).1) (target_in s count (target_read kind s).0)

  grom_after_place : nat_lt (code_byte s) 0x38 ≡ true → nat_lt (code_byte s) 0x34 ≡ true →
      (let operand = operand_at s.image next in
      Finds 50 MOVES (TargetFound s operand.1) (target_in s count (target.At operand.0)))
  unfolding find_places
  grom_after_place memory low =
      let q : Result (ℕ × To) Reason = target_of s count (target.At (operand_at s.image next).0) >>= λ to. Ok (count, to) in
      pick (nat_lt 0x4000 count)
      (λ above. rw above (record { by = goes_in (omega arith) (halted s next Length counted) }))
      (λ few. rw (few, memory)
      (ends_within q (after (exit 7 ADDR (asked s count next counted)) find_in_memory 7 q (omega arith)
      (to_grom s count next counted bytes (ltb-false 0x4000 count few) low)) (omega arith)))

  pub places_to_grom : (kind : MoveKind) → Encodes (code_byte s) kind → from_grom kind ≡ true → ToGrom kind
  unfolding find_places
  places_to_grom GromToRegisters k other =
      let q : Result (ℕ × To) Reason = target_of s count (target.Register (slice_index s.image next)) >>= λ to. Ok (count, to) in
      pick (nat_lt 0x4000 count)
      (λ above. rw above (record { by = goes_in (omega arith) (halted s next Length counted) }))
      (λ few. rw (few, k.memory)
      (ends_within q (after (exit 6 MOVER (here s count next counted)) pieces.check_registers 6 q (omega arith)
      (registers s count next counted bytes (ltb-false 0x4000 count few) refl)) (omega arith)))
  places_to_grom MemoryToMemory k other = absurd (cc)
  places_to_grom GromToMemory k other = grom_after_place k.memory k.low
  places_to_grom GromIndexedToMemory k other = grom_after_place k.memory k.low

  -- the source is in memory
  pub places_in_memory : Encodes (code_byte s) MemoryToMemory →
      Finds 99 MOVEB (BeforeCopy MemoryToMemory s) (found_after_length MemoryToMemory s count)
  unfolding find_places
  places_in_memory k =
      let to : Result (ℕ × To) Reason = target_of s count (target_read MemoryToMemory s).0 >>= λ to. Ok (count, to) in
      let q : Result Moving Reason = to >>= with_source s (source_read MemoryToMemory s).0 in
      pick (nat_lt 0x4000 count)
      (λ above. rw above (record { by = goes_in (omega arith) (halted s next Length counted) }))
      (λ few. rw (few, k.memory)
      (ends_within q (after (exit 7 ADDR (asked s count next counted)) find_in_memory 7 q (omega arith)
      (to_memory_source s count next counted bytes (ltb-false 0x4000 count few) k.low refl)) (omega arith)))
