-- The runs of the pieces on the view.
use Rattle.std.proofs.Common.{[], ℕ, ◌==◌, ◌∷◌, refl, slice_index}
pub use Rattle.sim_rows.proofs.Common.{is_view, piece}
use Rattle.sim_rows.proofs.Common.{BRANCH, BTARG, byte_is, CASEN, CASET, CASEV, CFALSE, exclusive_or_of, GOB, GOEXIT, GOTO, high, high-join, IsView, join}
use Rattle.sim_rows.proofs.Common.{last_out, Leads, past, pick, SEEK, SRL, TAKE, View, WHERE}
use Rattle.sim_flow.specs.Pieces as pieces

pub leave : (v : View) → Leads [] v GOEXIT (pieces.leave v)
leave v = record { by = λ f q. refl }

pub read_target : (v : View) → IsView v → Leads (GOTO ∷ []) v GOB (pieces.read_target v)
read_target v i = record { by = λ f q. rw (byte_is (past v.grom).fetched (i.grom.image.fits v.grom.counter), high-join v.grom.fetched v.r.r6) refl }

-- the status below what register 4 has above it, less the code byte
abbrev word_tested : View → ℕ
word_tested v = exclusive_or_of (join (high v.r.r4) (slice_index v.cells 0x7C)) v.r.r0

pub test_branch : (v : View) → IsView v → Leads (BTARG ∷ CFALSE ∷ []) v BRANCH (pieces.test_branch v)
test_branch v i = record {
  by = λ f q.
      let byte = byte_is (slice_index v.cells 0x7C) (i.cells 0x7C) in
      pick (last_out SRL (word_tested v) 6) (λ c. rw (byte, c) refl) (λ c. rw (byte, c) refl);
}

pub read_branch_target : (v : View) → IsView v → Leads (TAKE ∷ []) v BTARG (pieces.read_branch_target v)
read_branch_target v i = record { by = λ f q. rw (byte_is v.grom.fetched i.grom.fetched) refl }

pub request_table : (v : View) → Leads (WHERE ∷ []) v CASEV (pieces.request_table v)
request_table v = record { by = λ f q. pick (v.r.r3 == 1) (λ c. rw c refl) (λ c. rw c refl) }

pub find_branch : (v : View) → Leads (SEEK ∷ []) v CASEN (pieces.find_branch v)
find_branch v = record { by = λ f q. refl }

pub go_to_branch : (v : View) → Leads (TAKE ∷ []) v CASET (pieces.go_to_branch v)
go_to_branch v = record { by = λ f q. refl }
