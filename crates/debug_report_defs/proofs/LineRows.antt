-- Lines that are read by hand: some of docs/REPORTS, and one with a change of each kind.
use Rattle.std.proofs.Common.{◌≡◌, ℕ, true, List, [], ◌∷◌, ◌++◌, Some, None, refl}
use Rattle.std.specs.Prelude.{codes, drop}
use Rattle.tms_defs.specs.Status.{status_at}
use Rattle.change_defs.specs.Changes.{Change}
use Rattle.debug_report_defs.specs.LineParts.{front_part, changes_part}
use Rattle.debug_report_defs.specs.LineFronts.{machine_front, gpl_front}
use Rattle.debug_report_defs.specs.Reader.{changes_of_line}
use Rattle.debug_report_defs.specs.MachineReader.{no_changes, machine_changes}
use Rattle.debug_report_defs.specs.ListingReader.{column_bytes, address_columns, is_name_line, name_in, texts_read}

abbrev change : ℕ → ℕ → ℕ → Change
change at byte count = record { at = at; byte = byte; count = count }

-- ---- `steps`

pub loads_front : machine_front (codes "     1 >A000 WP83E0 ST0000 LI R1,>FFFF R1=FFFF\n")
    ≡ record { number = 1; pc = 0xA000; wp = 0x83E0; status = status_at 0; instruction = codes "LI R1,>FFFF" }
loads_front = refl

pub loads : (machine_changes (codes "     1 >A000 WP83E0 ST0000 LI R1,>FFFF R1=FFFF\n")).workspace
    ≡ record { number = 1; high = 0xFF; low = 0xFF } ∷ []
loads = refl

pub moves : (machine_changes (codes "    11 >A00E WP83E0 STC000 MOV R1,@>8302 >8303=01\n")).others.scratchpad ≡ change 3 1 1 ∷ []
moves = refl

pub adds_nothing : machine_changes (codes "     5 >A00C WP83E0 ST3000 A R2,R3\n") ≡ no_changes
adds_nothing = refl

pub adds_front : front_part (codes "     5 >A00C WP83E0 ST3000 A R2,R3\n") ≡ codes "     5 >A00C WP83E0 ST3000 A R2,R3"
adds_front = refl

-- a line with a change of each kind, which no instruction makes
abbrev line_of_all : List ℕ
line_of_all =
    codes "1234567 >FFFE WP8300 STFFFF MOVB *R11+,@>2000(R10) R9=000A R15=FF00 >8310=01 >2000=01,02*3 >A001=FF"
    ++ codes " V>0000=20*768,00 W7=E0 VA=0001 VF=AF VH=- GA=6001 GF=0C GH=1\n"

pub reads_front : machine_front line_of_all
    ≡ record {
      number = 1234567;
      pc = 0xFFFE;
      wp = 0x8300;
      status = status_at 0xFFFF;
      instruction = codes "MOVB *R11+,@>2000(R10)";
    }
reads_front = refl

pub reads_all : machine_changes line_of_all
    ≡ record {
      workspace = record { number = 9; high = 0; low = 10 } ∷ record { number = 15; high = 255; low = 0 } ∷ [];
      others =
          record {
            scratchpad = change 0x10 1 1 ∷ [];
            low_expansion = change 0 1 1 ∷ change 1 2 3 ∷ [];
            high_expansion = change 1 0xFF 1 ∷ [];
            video = change 0 0x20 768 ∷ change 768 0 1 ∷ [];
            registers = change 7 0xE0 1 ∷ [];
            latches =
                record {
                  video_address = Some 1;
                  video_fetched = Some 0xAF;
                  video_held = Some None;
                  grom_counter = Some 0x6001;
                  grom_fetched = Some 0x0C;
                  grom_half_written = Some true;
                };
          };
    }
reads_all = refl

-- ---- `gsteps`

pub copies_front : gpl_front (codes "     1 >601E S00 D9F R7E MOVE >0008,R@>00,G@>6016 W1=E0 W3=0E,01,06 W7=07\n")
    ≡ record { number = 1; pc = 0x601E; instruction = codes "MOVE >0008,R@>00,G@>6016" }
copies_front = refl

pub copies : (changes_of_line (codes "     1 >601E S00 D9F R7E MOVE >0008,R@>00,G@>6016 W1=E0 W3=0E,01,06 W7=07\n")).registers
    ≡ change 1 0xE0 1 ∷ change 3 0x0E 1 ∷ change 4 1 1 ∷ change 5 6 1 ∷ change 7 7 1 ∷ []
copies = refl

pub selects_nothing : changes_part (codes "     6 >6035 S00 D9F R80 CASE @>8300\n") ≡ codes "\n"
selects_nothing = refl

-- ---- `glist`

abbrev few_bytes : List ℕ
few_bytes = codes "      2 >6000 AA 01 01 00                    BYTE >AA,1,1,0\n"

pub few_after_number : address_columns few_bytes ≡ codes ">6000 AA 01 01 00                    BYTE >AA,1,1,0\n"
few_after_number = refl

pub few_in_columns : column_bytes 8 (drop 5 (address_columns few_bytes)) ≡ 0xAA ∷ 1 ∷ 1 ∷ 0 ∷ []
few_in_columns = refl

-- eight bytes are followed by the text of the line, whatever it looks like
pub eight_in_columns : column_bytes 8 (drop 5 (address_columns (codes "     14 >6104 01 02 03 04 05 06 07 08 AB     BYTE 1,2,3\n")))
    ≡ 1 ∷ 2 ∷ 3 ∷ 4 ∷ 5 ∷ 6 ∷ 7 ∷ 8 ∷ []
eight_in_columns = refl

pub ninth_in_columns : column_bytes 8 (drop 5 (address_columns (codes "        >610C 09\n"))) ≡ 9 ∷ []
ninth_in_columns = refl

pub names_line : is_name_line (codes "name >600C       4 MENU\n") ≡ true
names_line = refl

pub named : name_in (codes "name >600C       4 MENU\n") ≡ codes "MENU"
named = refl

-- a line has its text; one of further bytes and one of a name have none
pub text_of_line : texts_read (few_bytes ∷ codes "        >610C 09\n" ∷ codes "name >600C       4 MENU\n" ∷ []) ≡ codes "       BYTE >AA,1,1,0" ∷ []
text_of_line = refl
