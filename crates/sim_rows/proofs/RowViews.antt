-- The view at the entry of a row, and one that asks STORE for a value, written out: so what the registers of a row
-- hold is known without a proof.
use Rattle.std.proofs.Common.{ℕ, ◌≡◌, None, refl, true}
use Rattle.sim_rows.specs.Prelude.{AtRow, Changes, GplState, grom_at, in_register, loaded_of, marked_by, next_of}
use Rattle.sim_rows.specs.Prelude.{number_of_space, of_register, operation_in, Place, reads_destination, row_width}
use Rattle.sim_rows.specs.Prelude.{size_of, Source, Storing, View, Width}

-- Registers that are not named, and the address of the video processor with the byte there, are any.
abbrev pub row_view : GplState → Place → (source loaded : ℕ) → Width → View → View
row_view s place source loaded width v = record v {
  r = record v.r {
    r3 = size_of width;
    r6 = in_register width source;
    r7 = place.address;
    r8 = number_of_space place.space;
    r9 = loaded;
    r13 = 0;
  };
  cells = s.cells;
  vdp = record v.vdp { memory = s.vdp; registers = s.registers; held = None };
  grom = grom_at s.image (next_of s);
}

pub row_is : (s : GplState) (place : Place) (source : Source) (v : View) → reads_destination (operation_in s) ≡ true →
    AtRow s place source v → v ≡ row_view s place source.number (loaded_of s place) (row_width s) v
row_is s place source v reads h = λ i. record v {
  r = record v.r {
    r3 = h.holds.bytes_are i;
    r6 = h.value i;
    r7 = h.to_place.address i;
    r8 = h.to_place.space i;
    r9 = h.destination reads i;
    r13 = h.holds.mark i;
  };
  cells = h.holds.sees.cells i;
  vdp = record v.vdp {
    memory = h.holds.sees.vdp i;
    registers = h.holds.sees.registers i;
    held = h.holds.sees.held i;
  };
  grom = h.holds.sees.grom i;
}

-- A view with some changes, whose place for STORE is given. The value is in register 9.
abbrev pub asking : Changes → Width → Place → View → View
asking c width place w = record w {
  r = record w.r {
    r3 = size_of width;
    r7 = place.address;
    r8 = number_of_space place.space;
    r13 = marked_by c.shows 0;
  };
  cells = c.state.cells;
  vdp = record w.vdp { memory = c.state.vdp; registers = c.state.registers; held = None };
  grom = grom_at c.state.image c.state.pc;
}

pub asks : (c : Changes) (width : Width) (place : Place) {number : ℕ} (w : View) → of_register width w.r.r9 ≡ number →
    Storing c width place number (asking c width place w)
asks c width place w value = record {
  changed = record { cells = refl; vdp = refl; registers = refl; held = refl; grom = refl; mark = refl };
  bytes_are = refl;
  to_place = record { address = refl; space = refl };
  value = value;
}

-- A view with some changes: register 4, and the address of the video processor with the byte there, are any.
abbrev pub seen_with : Changes → View → ℕ → ℕ → ℕ → View
seen_with c v r4 address byte = record v {
  r = record v.r { r4 = r4; r13 = marked_by c.shows 0 };
  cells = c.state.cells;
  vdp = record {
    memory = c.state.vdp;
    registers = c.state.registers;
    address = address;
    fetched = byte;
    held = None;
  };
  grom = grom_at c.state.image c.state.pc;
}
