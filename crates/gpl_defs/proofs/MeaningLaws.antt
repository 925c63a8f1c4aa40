-- What bytes at an address mean is what is read there.
use Rattle.std.proofs.Common.{◌≡◌, ℕ, ◌<◌, true, List, ◌∷◌, refl, sym, ap, ◌∙◌, Option, Some, None}
use Rattle.std.specs.Prelude.{slice_index, IsTrue}
use Rattle.base_defs.specs.Addresses.{next_in_grom}
use Rattle.gpl_defs.specs.declared.instruction.GplInstr.{GplInstr}
use Rattle.gpl_defs.specs.declared.instruction.GplOperation.{GplOperation}
use Rattle.gpl_defs.specs.declared.instruction.GplRead.TheVariants.{Instr}
use Rattle.gpl_defs.specs.Codes.{operation_at}
use Rattle.gpl_defs.specs.Valid.{is_valid}
use Rattle.gpl_defs.specs.Bytes.{bytes_of, code_of}
use Rattle.gpl_defs.specs.Spellings.{OneMeaning}
use Rattle.gpl_defs.specs.Reading.{instr_at, read_by, reading, ReadsInstr, IsReadAt, AreReadAs}
use Rattle.gpl_defs.proofs.CodeLaws.{rows_fit, row_fits}
use Rattle.gpl_defs.proofs.InstrLaws.{means_back}
use Rattle.gpl_defs.proofs.ReadLaws.{rest_read, code_read, valid_read, operation_read}
use Rattle.gpl_defs.proofs.ShortLaws.{bytes_spell}

reads : (image : List ℕ) (at : ℕ) (operation : GplOperation) → ((k : ℕ) → slice_index image k < 256) →
    operation_at (slice_index image at) ≡ Some operation →
    ReadsInstr image at (instr_at operation (slice_index image at) image (next_in_grom at)).0
    (instr_at operation (slice_index image at) image (next_in_grom at)).1
reads image at operation bytes row =
    let fit : row_fits (Some operation) (slice_index image at) ≡ true =
    rw row at (rows_fit (slice_index image at) (bytes at)) in
    let rest = rest_read image bytes operation (slice_index image at) (next_in_grom at) in
    let code = code_read image bytes operation (slice_index image at) (next_in_grom at) fit in
    record {
      kept = row ∙ ap Some (sym (operation_read image bytes operation (slice_index image at) (next_in_grom at)));
      means = record {
        bytes = code_of (instr_at operation (slice_index image at) image (next_in_grom at)).0 ∷ rest.bytes;
        is_kind = record {
          valid = valid_read image bytes operation (slice_index image at) (next_in_grom at) fit;
          rest = rest.bytes;
          is_rest = rest.is_kind;
          is = refl;
        };
        are_bytes_at = (sym code, rest.are_bytes_at);
      };
    }

-- what is read at an address is what is there
pub reading_means : (image : List ℕ) (at : ℕ) → ((k : ℕ) → slice_index image k < 256) →
    IsReadAt image at (reading image at)
unfolding reading
reading_means image at bytes = by (operation_at (slice_index image at)) refl
  where
    by : (found : Option GplOperation) → operation_at (slice_index image at) ≡ found →
        IsReadAt image at (read_by found (slice_index image at) image (next_in_grom at))
    by None e = record { there = refl; refused = e }
    by (Some operation) e = reads image at operation bytes e

-- the bytes that are written are read as the instruction
pub bytes_read : (instr : GplInstr) → IsTrue (is_valid instr) → AreReadAs instr (bytes_of instr)
bytes_read instr valid image at next are_at =
    means_back image at instr next (record { bytes = bytes_of instr; is_kind = bytes_spell instr valid; are_bytes_at = are_at })

pub one_meaning : OneMeaning
one_meaning image at instr other next after means means_too =
    let same : Instr other after ≡ Instr instr next =
    sym (means_back image at other after means_too) ∙ means_back image at instr next means in
    (cc, cc)
