-- The operands of a row, and views of the machine up to the row's entry.
use Rattle.std.specs.Prelude.{ℕ, ◌%◌, ◌/◌, ◌==◌, ◌≡◌, Bool, Err, false, if◌then◌else◌, nat_lt, ◌<◌, None, not, Ok}
use Rattle.std.specs.Prelude.{Option, Result, Some, true, IsFalse, IsTrue}
use Rattle.sim_view.specs.Prelude.{◌>>=◌, ReachesWithin, destination_size, GO, GplOperation, GplSource, GplState, GSTOP}
use Rattle.sim_view.specs.Prelude.{IsFetched, MachineState, One, operand_at, Place, place_of, PortsAreIdle}
use Rattle.sim_view.specs.Prelude.{Reason, row_entry, size_of, Source, source_at, source_of, IsAt, Two, value_at}
use Rattle.sim_view.specs.Prelude.{View, view, Width, word_or_byte}
use Rattle.sim_view.specs.gpl_defs.declared.instruction.TwoName.TheVariants.{DIV, MUL, ST}
use Rattle.sim_operands.specs.Values.{in_register, IsVisible, number_of_space, width_in}
use Rattle.sim_rows.specs.States.{after_code, code_byte, operation_in, ShowsState, StoppedBy}
use Rattle.sim_view.specs.native_interp.declared.addresses.TheConstants.{OPSDST, OPSTWO, STDST, WIDDST}
use Rattle.sim_view.specs.Bounds.{bound_of_operands, bound_of_second_operand, bound_to_first_stop, bound_to_row_of_one}
use Rattle.sim_view.specs.Bounds.{bound_to_row_stop, bound_to_second_operand, bound_to_second_stop}

-- The operations whose operands are loaded in one way, before a second table leads on to the row of each.
abbrev pub is_row : Option GplOperation → Bool
is_row (Some (One op)) = true
is_row (Some (Two op)) = true
is_row _ = false

-- An odd code byte is the form of words; below >A0 it is the form of one operand; and 2 more is an immediate source.
abbrev pub word_of : GplState → Bool
word_of s = code_byte s % 2 == 1

abbrev pub row_width : GplState → Width
row_width s = word_or_byte (word_of s)

abbrev pub has_source : GplState → Bool
has_source s = not (nat_lt (code_byte s) 0xA0)

abbrev pub is_immediate : GplState → Bool
is_immediate s = code_byte s / 2 % 2 == 1

-- the address after the first operand; the source with the address after it; and the address after the instruction
abbrev pub after_first : GplState → ℕ
after_first s = (operand_at s.image (after_code s)).1

abbrev pub source_read : GplState → GplSource × ℕ
source_read s = source_at (is_immediate s) (word_of s) s.image (after_first s)

abbrev pub next_of : GplState → ℕ
next_of s = if has_source s then (source_read s).1 else after_first s

-- the state whose next instruction is the one after
abbrev pub gone_on : GplState → GplState
gone_on s = record s { pc = next_of s }

-- how many bytes the destination takes
abbrev pub bytes_by : Option GplOperation → Width → ℕ
bytes_by (Some (Two op)) width = destination_size op width
bytes_by _ width = size_of width

abbrev pub destination_bytes : GplState → ℕ
destination_bytes s = bytes_by (operation_in s) (row_width s)

-- The place of the destination, and the source: a row of one operand has 1 for its source's value.
abbrev pub first_of : GplState → Result Place Reason
first_of s = place_of (gone_on s) (destination_bytes s) (operand_at s.image (after_code s)).0

abbrev pub unit : Source
unit = record { number = 1; place = None }

abbrev pub second_by : Bool → GplState → Result Source Reason
second_by true s = source_of (gone_on s) (row_width s) (source_read s).0
second_by false s = Ok unit

abbrev pub second_of : GplState → Result Source Reason
second_of s = second_by (has_source s) s

abbrev pub operands_of : GplState → Result (Place × Source) Reason
operands_of s = do
  place ← first_of s
  source ← second_of s
  Ok (place, source)

-- What stays from the dispatch on: the state, the code byte and its address, and that nothing was marked.
-- Register 3 has a number of bytes.
pub record Holds (s : GplState) (bytes next : ℕ) (w : View) : Type 0 where
  pub sees : ShowsState s next w
  pub code : w.r.r0 ≡ code_byte s
  pub address : w.r.r1 ≡ s.pc
  pub bytes_are : w.r.r3 ≡ bytes
  pub mark : w.r.r13 ≡ 0

-- a place to store to
pub record StoresTo (place : Place) (w : View) : Type 0 where
  pub address : w.r.r7 ≡ place.address
  pub space : w.r.r8 ≡ number_of_space place.space

-- a place to load from
pub record LoadsFrom (place : Place) (w : View) : Type 0 where
  pub address : w.r.r2 ≡ place.address
  pub space : w.r.r5 ≡ number_of_space place.space

abbrev pub LoadsFromSource : Option Place → View → Type 0
LoadsFromSource None w = Unit {0}
LoadsFromSource (Some place) w = LoadsFrom place w

-- The value of the destination that is loaded: its first word, where it is longer than a byte.
abbrev pub loaded_of : GplState → Place → ℕ
loaded_of s place =
    let width = width_in (destination_bytes s) in in_register width (value_at s width place)

-- ADDR is asked for the place of an operand of a number of bytes, and returns to an address.
pub record Asking (s : GplState) (bytes at to : ℕ) (w : View) : Type 0 where
  pub holds : Holds s bytes at w
  pub link : w.r.r11 ≡ to

-- where it returns to with the place of the destination
abbrev pub return_of_destination : Option GplOperation → ℕ
return_of_destination (Some (Two MUL)) = WIDDST
return_of_destination (Some (Two DIV)) = WIDDST
return_of_destination (Some (Two ST)) = STDST
return_of_destination _ = OPSDST

-- ST alone asks nothing of its destination's value.
abbrev pub reads_destination : Option GplOperation → Bool
reads_destination (Some (Two ST)) = false
reads_destination _ = true

abbrev pub KeepsValue : GplState → Place → View → Type 0
KeepsValue s place w = IsTrue (reads_destination (operation_in s)) → w.r.r9 ≡ loaded_of s place

-- At OPSTWO: the destination's place is in registers 7 and 8, and its value in register 9.
pub record Kept (s : GplState) (place : Place) (next : ℕ) (w : View) : Type 0 where
  pub holds : Holds s (size_of (row_width s)) next w
  pub to_place : StoresTo place w
  pub destination : KeepsValue s place w

-- So, and the source's place, if it has one, is in registers 2 and 5, and its value in register 6.
pub record Sourced (s : GplState) (place : Place) (source : Source) (next : ℕ) (w : View) : Type 0 where
  pub holds : Holds s (size_of (row_width s)) next w
  pub to_place : StoresTo place w
  pub destination : KeepsValue s place w
  pub from_source : LoadsFromSource source.place w
  pub value : w.r.r6 ≡ in_register (row_width s) source.number

-- At the entry of a row GROM is after the instruction.
abbrev pub AtRow : GplState → Place → Source → View → Type 0
AtRow s place source w = Sourced s place source (next_of s) w

-- The destination is found and kept, or the program stops. A row of one operand goes on at GO.
abbrev pub KeepsDestination : GplState → Place → MachineState → MachineState → ℕ → ℕ → Bool → Type 0
KeepsDestination s place x y before after true =
    ReachesWithin bound_to_second_operand x y before after OPSTWO (Kept s place (after_first s))
KeepsDestination s place x y before after false =
    ReachesWithin bound_to_row_of_one x y before after GO (Sourced s place unit (after_first s))

abbrev pub LoadsDestination : GplState → MachineState → MachineState → ℕ → ℕ → Bool → Result Place Reason → Type 0
LoadsDestination s x y before after went (Ok place) =
    IsTrue went × KeepsDestination s place x y before after (has_source s)
LoadsDestination s x y before after went (Err reason) =
    IsFalse went × ReachesWithin bound_to_first_stop x y before after GSTOP (StoppedBy s reason)

-- From OPSTWO the value of the source is loaded, or the program stops.
abbrev pub LoadsBy : GplState → Place → MachineState → MachineState → ℕ → ℕ → Bool → Result Source Reason → Type 0
LoadsBy s place x y before after went (Ok source) =
    IsTrue went × ReachesWithin bound_of_second_operand x y before after GO (Sourced s place source (next_of s))
LoadsBy s place x y before after went (Err reason) =
    IsFalse went × ReachesWithin bound_to_second_stop x y before after GSTOP (StoppedBy s reason)

abbrev pub LoadsSource : MachineState → MachineState → ℕ → ℕ → Bool → Type 0
LoadsSource x y before after went =
    (s : GplState) → (place : Place) → IsTrue (has_source s) → Kept s place (after_first s) (view x)
    → LoadsBy s place x y before after went (second_of s)

-- Both operands are there, or the program stops.
abbrev pub LoadsOperands : GplState → MachineState → MachineState → ℕ → ℕ → Bool
    → Result (Place × Source) Reason → Type 0
LoadsOperands s x y before after went (Ok operands) =
    IsTrue went × ReachesWithin bound_of_operands x y before after GO (AtRow s operands.0 operands.1)
LoadsOperands s x y before after went (Err reason) =
    IsFalse went × ReachesWithin bound_to_row_stop x y before after GSTOP (StoppedBy s reason)

-- A machine at the entry of the row of an operation, which is one of a family: the operands are loaded, the ports are
-- idle, and a value may be stored at the destination.
pub record AtEntry (belongs : Option GplOperation → Bool) (operation : GplOperation) (x : MachineState) : Type 0 where
  pub is_at : IsAt x (row_entry (Some operation))
  pub family : IsTrue (belongs (Some operation))
  pub idle : PortsAreIdle x.cpu.memory
  pub fetched : IsFetched x.cpu.memory.grom
  pub space : (view x).r.r8 < 2
  pub visible : IsVisible (view x).r.r8 (view x).r.r7 (view x).r.r3
