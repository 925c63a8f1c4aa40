-- The text of the changes of an instruction determines them.
use Rattle.std.proofs.Common.{◌≡◌, ℕ, ◌+◌, ◌/◌, ◌^◌, ◌<◌, Bool, true, false, not, eqb, cond, nat_eq, ◌&&◌}
use Rattle.std.proofs.Common.{List, [], ◌∷◌, ◌++◌, Option, Some, None, refl, sym, ap, ap₂, ◌∙◌, subst, append_assoc, append-nil, arith}
use Rattle.std.specs.Prelude.{◌==◌, codes, nat_lt}
use Rattle.std.specs.List.{flat_map, list_all}
use Rattle.std.specs.Fmt.{decimal}
use Rattle.std.proofs.lemmas.Bool.{agree_below_at}
use Rattle.std.proofs.lemmas.Bool.Decides.{nat_tests}
use Rattle.source_defs.specs.Digits.{byte_digits, word_digits}
use Rattle.listed_lines.proofs.DigitLaws.{digit_passes, eqb_same}
use Rattle.listed_lines.proofs.Scans.{and_left, and_right, not_true}
use Rattle.change_defs.specs.Changes.{Change}
use Rattle.change_defs.specs.Text.{repeated_text}
use Rattle.machine_change_defs.specs.declared.area.Area.{Area}
use Rattle.machine_change_defs.specs.declared.area.Area.TheVariants.{Scratchpad, LowExpansion, HighExpansion, Video, Registers}
use Rattle.machine_change_defs.specs.Seen.{size_of}
use Rattle.machine_change_defs.specs.Changes.{RegisterChange, LatchChanges, MemoryChanges}
use Rattle.machine_change_defs.specs.Text.{register_text, place_text, area_text}
use Rattle.change_defs.specs.Text.{change_text, change_texts}
use Rattle.machine_change_defs.specs.Text.{latch_text, held_text, mark_text, latches_text, bytes_text, ports_text}
use Rattle.machine_change_defs.specs.Text.{changes_text}
use Rattle.debug_report_defs.specs.LineFronts.{hexadecimal_value}
use Rattle.debug_report_defs.specs.MachineReader.{begins_piece, cut, Bytes, named_by, run_at, held_value, with_run}
use Rattle.debug_report_defs.specs.MachineReader.{with_latches, Reading, reading, with_bytes_of, with_value}
use Rattle.debug_report_defs.specs.MachineReader.{with_more, after_piece, after_pieces, no_latch_changes, no_changes}
use Rattle.debug_report_defs.proofs.Opening.{plain, all_plain}
use Rattle.debug_report_defs.proofs.Fitting.{Inside, AllInside}
use Rattle.debug_report_defs.proofs.Digits.{cond_both, decimal_passes, word_digits_pass, byte_digits_pass, decimal_back}
use Rattle.debug_report_defs.proofs.Digits.{word_back, byte_back, bytes_back}

-- ---- pieces

abbrev Ends : List ℕ → Type 0
Ends text = (cut text).0 ≡ []

-- what is read of a text
abbrev read : Reading → List ℕ → Reading
read r text = after_pieces (cut text).1 r

cut_plain : (body rest : List ℕ) → list_all plain body ≡ true → cut (body ++ rest) ≡ (body ++ (cut rest).0, (cut rest).1)
cut_plain [] rest e = refl
cut_plain (byte ∷ body) rest e =
    let own = not_true (begins_piece byte) (and_left (plain byte) (list_all plain body) e) in
    rw (own, cut_plain body rest (and_right (plain byte) (list_all plain body) e)) refl

piece_read : (sign : ℕ) (body rest : List ℕ) (r : Reading) → begins_piece sign ≡ true → list_all plain body ≡ true → Ends rest
    → read r (sign ∷ (body ++ rest)) ≡ read (after_piece (record { sign = sign; text = body }) r) rest
piece_read sign body rest r is e ends = rw (is, cut_plain body rest e, ends, append-nil body) refl

-- ---- texts

-- whatever follows the text, the text is read first, and leaves these changes
record Reads (made : MemoryChanges) (text : List ℕ) (left : MemoryChanges) : Type 0 where
  by : (next : Option (Area × ℕ)) (rest : List ℕ) → Ends rest
      → Ends (text ++ rest) × (n : Option (Area × ℕ)) × (read (reading made next) (text ++ rest) ≡ read (reading left n) rest)

reads_none : (made : MemoryChanges) → Reads made [] made
reads_none made = record { by = λ next rest ends. (ends, next, refl) }

reads_then : (a b c : MemoryChanges) (t u : List ℕ) → Reads a t b → Reads b u c → Reads a (t ++ u) c
reads_then a b c t u first second = record {
  by = λ next rest ends.
      let ahead = first.by next (u ++ rest) (second.by None rest ends).0 in
      let later = second.by ahead.1 rest ends in
      let same = append_assoc t u rest in
      (ap (λ l. (cut l).0) same ∙ ahead.0, later.1, ap (read (reading a next)) same ∙ ahead.2 ∙ later.2);
}

-- a blank, a name, an equals sign and a value
named_read : (made left : MemoryChanges) (n : Option (Area × ℕ)) (name value : List ℕ) → list_all plain name ≡ true → list_all plain value ≡ true
    → with_value (named_by name) value made ≡ reading left n → (next : Option (Area × ℕ)) (rest : List ℕ) → Ends rest
    → read (reading made next) ((0x20 ∷ (name ++ 0x3D ∷ value)) ++ rest) ≡ read (reading left n) rest
named_read made left n name value p q is next rest ends =
    ap (λ l. read (reading made next) (0x20 ∷ l)) (append_assoc name (0x3D ∷ value) rest)
    ∙ piece_read 0x20 name (0x3D ∷ (value ++ rest)) (reading made next) refl p refl
    ∙ piece_read 0x3D value rest (record { made = made; name = name; next = None }) refl q ends
    ∙ ap (λ r. read r rest) is

one_named : (made left : MemoryChanges) (n : Option (Area × ℕ)) (name value : List ℕ) → list_all plain name ≡ true → list_all plain value ≡ true
    → with_value (named_by name) value made ≡ reading left n → Reads made (0x20 ∷ (name ++ 0x3D ∷ value)) left
one_named made left n name value p q is = record {
  by = λ next rest ends. (refl, n, named_read made left n name value p q is next rest ends);
}

-- ---- registers of the workspace

pub record RegisterFits (c : RegisterChange) : Type 0 where
  pub number : c.number < 16
  pub high : c.high < 256
  pub low : c.low < 256

abbrev pub AllRegistersFit : List RegisterChange → Type 0
AllRegistersFit [] = Unit {0}
AllRegistersFit (c ∷ cs) = RegisterFits c × AllRegistersFit cs

abbrev with_registers : List RegisterChange → MemoryChanges → MemoryChanges
with_registers cs made = record made { workspace = made.workspace ++ cs }

one_register : (made : MemoryChanges) (c : RegisterChange) → RegisterFits c → Reads made (register_text c) (with_registers (c ∷ []) made)
unfolding register_text
one_register made c f =
    let name : list_all plain (0x52 ∷ decimal c.number) ≡ true = decimal_passes plain c.number refl in
    let value = all_plain (byte_digits c.high) (byte_digits c.low) (byte_digits_pass plain c.high refl) (byte_digits_pass plain c.low refl) in
    let number = c.number in
    one_named made (with_registers (c ∷ []) made) None (0x52 ∷ decimal c.number) (byte_digits c.high ++ byte_digits c.low) name value
    (rw (decimal_back c.number (let lt = f.number in omega arith), bytes_back c.high c.low f.high f.low)
    (ap₂ (λ (h l : ℕ). reading (with_registers (record { number = c.number; high = h; low = l } ∷ []) made) None) (let l = f.low in omega arith)
    (let l = f.low in omega arith)))

registers_read : (made : MemoryChanges) (cs : List RegisterChange) → AllRegistersFit cs → Reads made (flat_map register_text cs) (with_registers cs made)
registers_read made [] all = rw append-nil (reads_none made)
registers_read made (c ∷ cs) all =
    rw (← append_assoc made.workspace (c ∷ []) cs)
    (reads_then made (with_registers (c ∷ []) made) (with_registers cs (with_registers (c ∷ []) made)) (register_text c) (flat_map register_text cs)
    (one_register made c all.0) (registers_read (with_registers (c ∷ []) made) cs all.1))

-- ---- bytes of an area

pub place_plain : (area : Area) (at : ℕ) → at < size_of area → list_all plain (place_text area at) ≡ true
place_plain Scratchpad at lt = word_digits_pass plain (0x8300 + at) refl
place_plain LowExpansion at lt = word_digits_pass plain (0x2000 + at) refl
place_plain HighExpansion at lt = word_digits_pass plain (0xA000 + at) refl
place_plain Video at lt = word_digits_pass plain at refl
place_plain Registers at lt = rw (agree_below_at (λ d. plain (0x30 + d)) (λ d. true) 8 at refl lt) refl

place_named : (area : Area) (at : ℕ) → at < size_of area → named_by (place_text area at) ≡ Bytes area at
place_named Scratchpad at lt =
    let past : nat_lt (0x8300 + at) 0x4000 ≡ false = grind (arith, nat_tests) in
    let below : nat_lt (0x8300 + at) 0xA000 ≡ true = grind (arith, nat_tests) in
    rw (word_back (0x8300 + at) (omega arith), past, below) (ap (Bytes Scratchpad) (omega arith))
place_named LowExpansion at lt =
    let below : nat_lt (0x2000 + at) 0x4000 ≡ true = grind (arith, nat_tests) in
    rw (word_back (0x2000 + at) (omega arith), below) (ap (Bytes LowExpansion) (omega arith))
place_named HighExpansion at lt =
    let past : nat_lt (0xA000 + at) 0x4000 ≡ false = grind (arith, nat_tests) in
    let also : nat_lt (0xA000 + at) 0xA000 ≡ false = grind (arith, nat_tests) in
    rw (word_back (0xA000 + at) (omega arith), past, also) (ap (Bytes HighExpansion) (omega arith))
place_named Video at lt = rw (word_back at (omega arith)) refl
place_named Registers at lt =
    ap (Bytes Registers) (eqb_same _ _ (agree_below_at (λ d. eqb (hexadecimal_value ((0x30 + d) ∷ [])) d) (λ d. true) 8 at refl lt))

run_plain : (byte count : ℕ) → list_all plain (repeated_text byte count) ≡ true
unfolding repeated_text
run_plain byte count =
    all_plain (byte_digits byte) _ (byte_digits_pass plain byte refl)
    (cond_both (λ text. list_all plain text ≡ true) (nat_eq count 1) _ _ refl (decimal_passes plain count refl))

run_back : (at byte count : ℕ) → byte < 256 → count < 2 ^ 64 → run_at at (repeated_text byte count) ≡ record { at = at; byte = byte; count = count }
unfolding repeated_text byte_digits
run_back at byte count p q = by (nat_eq count 1) refl
  where
    by : (one : Bool) → nat_eq count 1 ≡ one
        → run_at at (byte_digits byte ++ cond one [] (codes "*" ++ decimal count)) ≡ record { at = at; byte = byte; count = count }
    by true e =
        let is : count ≡ 1 = grind (arith, nat_tests) in
        ap₂ (λ (b n : ℕ). record { at = at; byte = b; count = n }) (byte_back byte p) (sym is)
    by false e = ap₂ (λ (b n : ℕ). record { at = at; byte = b; count = n }) (byte_back byte p) (decimal_back count q)

record ReadsChange (made : MemoryChanges) (next : Option (Area × ℕ)) (text : List ℕ) (area : Area) (c : Change) : Type 0 where
  by : (rest : List ℕ) → Ends rest → Ends (text ++ rest) × (read (reading made next) (text ++ rest) ≡ read (with_bytes_of area c made) rest)

change_read : (made : MemoryChanges) (next : Option (Area × ℕ)) (area : Area) (end : ℕ) (c : Change)
    → ((end == 0) ≡ false → next ≡ Some (area, end)) → Inside (size_of area) c → size_of area < 2 ^ 64 → ReadsChange made next (change_text (place_text area) end c) area c
unfolding change_text
change_read made next area end c goes f small = by (nat_eq c.at end) (nat_eq end 0) refl refl
  where
    value : List ℕ
    value = repeated_text c.byte c.count

    at : c.at < size_of area
    at = let some = f.some in let end = f.end in omega arith

    count : c.count < 2 ^ 64
    count = let end = f.end in omega arith

    new : ReadsChange made next ((codes " " ++ (place_text area c.at ++ codes "=")) ++ value) area c
    new = record {
      by = λ rest ends.
          let same = append_assoc (place_text area c.at) (codes "=") value in (
            refl,
            ap (λ l. read (reading made next) ((0x20 ∷ l) ++ rest)) same
                ∙ named_read made (with_run area c made) (Some (area, c.at + c.count)) (place_text area c.at) value (place_plain area c.at at)
                (run_plain c.byte c.count)
                (rw (place_named area c.at at, run_back c.at c.byte c.count f.byte count) refl) next rest ends,
          );
    }

    by : (same zero_end : Bool) → nat_eq c.at end ≡ same → nat_eq end 0 ≡ zero_end
        → ReadsChange made next (cond (same && not zero_end) (codes ",") (codes " " ++ (place_text area c.at ++ codes "=")) ++ value) area c
    by true false e z = record {
      by = λ rest ends.
          let is : c.at ≡ end = grind (arith, nat_tests) in
          let on : next ≡ Some (area, c.at) = goes z ∙ ap (λ (k : ℕ). Some (area, k)) (sym is) in (
            refl,
            piece_read 0x2C value rest (reading made next) refl (run_plain c.byte c.count) ends
                ∙ ap (λ (n : Option (Area × ℕ)). read (with_more n value made) rest) on
                ∙ ap (λ (d : Change). read (with_bytes_of area d made) rest) (run_back c.at c.byte c.count f.byte count),
          );
    }
    by _ _ e z = new

abbrev with_runs : Area → List Change → MemoryChanges → MemoryChanges
with_runs Scratchpad cs made = record made { others = record made.others { scratchpad = made.others.scratchpad ++ cs } }
with_runs LowExpansion cs made = record made { others = record made.others { low_expansion = made.others.low_expansion ++ cs } }
with_runs HighExpansion cs made = record made { others = record made.others { high_expansion = made.others.high_expansion ++ cs } }
with_runs Video cs made = record made { others = record made.others { video = made.others.video ++ cs } }
with_runs Registers cs made = record made { others = record made.others { registers = made.others.registers ++ cs } }

one_more : (area : Area) (c : Change) (cs : List Change) (made : MemoryChanges) → with_runs area cs (with_run area c made) ≡ with_runs area (c ∷ cs) made
one_more Scratchpad c cs made = rw append_assoc refl
one_more _ c cs made = rw append_assoc refl

none_more : (area : Area) (made : MemoryChanges) → with_runs area [] made ≡ made
none_more Scratchpad made = rw append-nil refl
none_more _ made = rw append-nil refl

small : (area : Area) → size_of area < 2 ^ 64
small Scratchpad = omega arith
small _ = omega arith

-- after a place where the last bytes may go on
record ReadsFrom (made : MemoryChanges) (next : Option (Area × ℕ)) (text : List ℕ) (left : MemoryChanges) : Type 0 where
  by : (rest : List ℕ) → Ends rest → Ends (text ++ rest) × (n : Option (Area × ℕ)) × (read (reading made next) (text ++ rest) ≡ read (reading left n) rest)

changes_read : (area : Area) (cs : List Change) (made : MemoryChanges) (next : Option (Area × ℕ)) (end : ℕ)
    → ((end == 0) ≡ false → next ≡ Some (area, end)) → AllInside (size_of area) cs → ReadsFrom made next (change_texts (place_text area) end cs) (with_runs area cs made)
changes_read area [] made next end goes all = record {
  by = λ rest ends.
      (ends, next, ap (λ (m : MemoryChanges). read (reading m next) rest) (sym (none_more area made)));
}
changes_read area (c ∷ cs) made next end goes all =
    let text = change_text (place_text area) end c in
    let others = change_texts (place_text area) (c.at + c.count) cs in
    let first = change_read made next area end c goes all.0 (small area) in
    let after = changes_read area cs (with_run area c made) (Some (area, c.at + c.count)) (c.at + c.count) (λ e. refl) all.1 in
    subst (λ (m : MemoryChanges). ReadsFrom made next (text ++ others) m) (one_more area c cs made)
    (record {
      by = λ rest ends.
          let later = after.by rest ends in
          let ahead = first.by (others ++ rest) later.0 in
          let same = append_assoc text others rest in
          (ap (λ l. (cut l).0) same ∙ ahead.0, later.1, ap (read (reading made next)) same ∙ ahead.1 ∙ later.2);
    })

area_read : (area : Area) (cs : List Change) (made : MemoryChanges) → AllInside (size_of area) cs → Reads made (area_text area cs) (with_runs area cs made)
unfolding area_text
area_read area cs made all = record { by = λ next. (changes_read area cs made next 0 (λ e. absurd (cc)) all).by }

-- ---- what the ports hold

abbrev pub FitsBelow : ℕ → Option ℕ → Type 0
FitsBelow most None = Unit {0}
FitsBelow most (Some new) = new < most

abbrev pub HeldFits : Option (Option ℕ) → Type 0
HeldFits None = Unit {0}
HeldFits (Some held) = FitsBelow 256 held

pub record LatchesFit (made : LatchChanges) : Type 0 where
  pub video_address : FitsBelow 65536 made.video_address
  pub video_fetched : FitsBelow 256 made.video_fetched
  pub video_held : HeldFits made.video_held
  pub grom_counter : FitsBelow 65536 made.grom_counter
  pub grom_fetched : FitsBelow 256 made.grom_fetched

-- changes with what the ports hold
abbrev latched : MemoryChanges → Option ℕ → Option ℕ → Option (Option ℕ) → Option ℕ → Option ℕ → Option Bool → MemoryChanges
latched made a f h c g w =
    with_latches (record { video_address = a; video_fetched = f; video_held = h; grom_counter = c; grom_fetched = g; grom_half_written = w }) made

held_back : (h : ℕ) → h < 256 → held_value (byte_digits h) ≡ Some h
unfolding byte_digits
held_back h lt = rw (not_true _ (digit_passes (λ byte. not (byte == 0x2D)) (h / 16) refl)) (ap Some (byte_back h lt))

module _ (made : MemoryChanges) where
  address_read : (a : Option ℕ) → FitsBelow 65536 a → Reads (latched made None None None None None None) (latch_text (codes "VA") word_digits a)
      (latched made a None None None None None)
  address_read None fits = reads_none _
  address_read (Some a) fits = one_named _ _ None (codes "VA") (word_digits a) refl (word_digits_pass plain a refl) (rw (word_back a fits) refl)

  fetched_read : (a f : Option ℕ) → FitsBelow 256 f → Reads (latched made a None None None None None) (latch_text (codes "VF") byte_digits f)
      (latched made a f None None None None)
  fetched_read a None fits = reads_none _
  fetched_read a (Some f) fits = one_named _ _ None (codes "VF") (byte_digits f) refl (byte_digits_pass plain f refl) (rw (byte_back f fits) refl)

  held_read : (a f : Option ℕ) (h : Option (Option ℕ)) → HeldFits h → Reads (latched made a f None None None None) (latch_text (codes "VH") held_text h)
      (latched made a f h None None None)
  held_read a f None fits = reads_none _
  held_read a f (Some None) fits = one_named _ _ None (codes "VH") (codes "-") refl refl refl
  held_read a f (Some (Some h)) fits = one_named _ _ None (codes "VH") (byte_digits h) refl (byte_digits_pass plain h refl)
      (ap (λ (o : Option ℕ). reading (latched made a f (Some o) None None None) None) (held_back h fits))

  counter_read : (a f : Option ℕ) (h : Option (Option ℕ)) (c : Option ℕ) → FitsBelow 65536 c
      → Reads (latched made a f h None None None) (latch_text (codes "GA") word_digits c) (latched made a f h c None None)
  counter_read a f h None fits = reads_none _
  counter_read a f h (Some c) fits = one_named _ _ None (codes "GA") (word_digits c) refl (word_digits_pass plain c refl) (rw (word_back c fits) refl)

  grom_read : (a f : Option ℕ) (h : Option (Option ℕ)) (c g : Option ℕ) → FitsBelow 256 g
      → Reads (latched made a f h c None None) (latch_text (codes "GF") byte_digits g) (latched made a f h c g None)
  grom_read a f h c None fits = reads_none _
  grom_read a f h c (Some g) fits = one_named _ _ None (codes "GF") (byte_digits g) refl (byte_digits_pass plain g refl) (rw (byte_back g fits) refl)

  half_read : (a f : Option ℕ) (h : Option (Option ℕ)) (c g : Option ℕ) (w : Option Bool)
      → Reads (latched made a f h c g None) (latch_text (codes "GH") mark_text w) (latched made a f h c g w)
  half_read a f h c g None = reads_none _
  half_read a f h c g (Some true) = one_named _ _ None (codes "GH") (codes "1") refl refl refl
  half_read a f h c g (Some false) = one_named _ _ None (codes "GH") (codes "0") refl refl refl

  latches_read : (l : LatchChanges) → LatchesFit l → Reads (latched made None None None None None None) (latches_text l) (with_latches l made)
  unfolding latches_text
  latches_read l fit =
      reads_then _ _ _ _ _ (address_read l.video_address fit.video_address)
      (reads_then _ _ _ _ _ (fetched_read l.video_address l.video_fetched fit.video_fetched)
      (reads_then _ _ _ _ _ (held_read l.video_address l.video_fetched l.video_held fit.video_held)
      (reads_then _ _ _ _ _ (counter_read l.video_address l.video_fetched l.video_held l.grom_counter fit.grom_counter)
      (reads_then _ _ _ _ _ (grom_read l.video_address l.video_fetched l.video_held l.grom_counter l.grom_fetched fit.grom_fetched)
      (half_read l.video_address l.video_fetched l.video_held l.grom_counter l.grom_fetched l.grom_half_written)))))

-- ---- all of it

pub record ChangesFit (made : MemoryChanges) : Type 0 where
  pub workspace : AllRegistersFit made.workspace
  pub scratchpad : AllInside 256 made.others.scratchpad
  pub low_expansion : AllInside 8192 made.others.low_expansion
  pub high_expansion : AllInside 24576 made.others.high_expansion
  pub video : AllInside 16384 made.others.video
  pub registers : AllInside 8 made.others.registers
  pub latches : LatchesFit made.others.latches

abbrev of_all : List RegisterChange → List Change → List Change → List Change → List Change → List Change → LatchChanges → MemoryChanges
of_all w s l h v r t =
    record {
      workspace = w;
      others = record { scratchpad = s; low_expansion = l; high_expansion = h; video = v; registers = r; latches = t };
    }

changes_text_read : (made : MemoryChanges) → ChangesFit made → Reads no_changes (changes_text made) made
unfolding changes_text bytes_text ports_text
changes_text_read made fit =
    let w = made.workspace in
    let o = made.others in
    let z = no_latch_changes in
    reads_then _ (of_all w [] [] [] [] [] z) _ _ _ (registers_read no_changes w fit.workspace)
    (reads_then _ (of_all w o.scratchpad o.low_expansion o.high_expansion [] [] z) _ _ _
    (reads_then _ (of_all w o.scratchpad [] [] [] [] z) _ _ _ (area_read Scratchpad o.scratchpad (of_all w [] [] [] [] [] z) fit.scratchpad)
    (reads_then _ (of_all w o.scratchpad o.low_expansion [] [] [] z) _ _ _
    (area_read LowExpansion o.low_expansion (of_all w o.scratchpad [] [] [] [] z) fit.low_expansion)
    (area_read HighExpansion o.high_expansion (of_all w o.scratchpad o.low_expansion [] [] [] z) fit.high_expansion)))
    (reads_then _ (of_all w o.scratchpad o.low_expansion o.high_expansion o.video [] z) _ _ _
    (area_read Video o.video (of_all w o.scratchpad o.low_expansion o.high_expansion [] [] z) fit.video)
    (reads_then _ (of_all w o.scratchpad o.low_expansion o.high_expansion o.video o.registers z) _ _ _
    (area_read Registers o.registers (of_all w o.scratchpad o.low_expansion o.high_expansion o.video [] z) fit.registers)
    (latches_read (of_all w o.scratchpad o.low_expansion o.high_expansion o.video o.registers z) o.latches fit.latches))))

pub changes_back : (made : MemoryChanges) → ChangesFit made
    → (after_pieces (cut (changes_text made ++ codes "\n")).1 (reading no_changes None)).made ≡ made
changes_back made fit =
    let r = (changes_text_read made fit).by None (codes "\n") refl in ap (λ (r : Reading). r.made) r.2
