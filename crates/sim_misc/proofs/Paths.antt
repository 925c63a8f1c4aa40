-- The runs of the pieces on the view.
use Rattle.std.proofs.Common.{[], ℕ, ◌<◌, ◌==◌, ◌∷◌, ◌≡◌, arith, refl, slice_index}
pub use Rattle.sim_rows.proofs.Common.{is_view, piece}
use Rattle.sim_rows.proofs.Common.{difference_of, down, EXB, EXV, FILL, GOALL, GOBACK, GORAND, high, high-join, IsView, Leads, leads, low, Part, part_then}
use Rattle.sim_rows.proofs.Common.{pick, product_of, RANDL, Rest, SEED, STO, STORE, sum_of, swapped, View, Word, word_in}
use Rattle.sim_misc.proofs.Numbers.{above_is, division_is, drawn_byte, less_fits, read_word, sum_fits}
use Rattle.sim_misc.specs.Pieces as pieces
use Rattle.sim_rows.specs.native_interp.declared.addresses.TheConstants.{RANDM}

pub keep_destination : (v : View) → Leads (STORE ∷ []) v EXV (pieces.keep_destination v)
keep_destination v = record { by = λ f q. refl }

pub turn_to_source : (v : View) → Leads (STO ∷ []) v EXB (pieces.turn_to_source v)
turn_to_source v = record { by = λ f q. refl }

swapped_high : (word : ℕ) → word < 65536 → high (swapped word) ≡ low word
swapped_high word h = omega arith

-- RAND: the seed is read, and the next one is made
abbrev with_seed : View → View
with_seed v = record v { r = record v.r { r6 = word_in v.cells SEED } }

seed_read : (v : View) → IsView v → Part (RANDL ∷ []) 3 v GORAND (with_seed v) RANDM
seed_read v i = record { by = λ f. rw (read_word (slice_index v.cells 0xC0) (slice_index v.cells 0xC1) (low v.r.r6) (i.cells 0xC1) (less_fits v.r.r6)) refl }

seed_made : (v : View) → Rest (RANDL ∷ []) 3 13 (with_seed v) RANDM (pieces.draw_seed v)
seed_made v = record {
  by = λ f.
      let product = product_of 0x6FE5 (word_in v.cells SEED) in
      rw (swapped_high (sum_of Word product.1 0x7AB9) (sum_fits product.1 0x7AB9)) refl;
}

pub draw_seed : (v : View) → IsView v → Leads (RANDL ∷ []) v GORAND (pieces.draw_seed v)
draw_seed v i = leads (RANDL ∷ []) (part_then (RANDL ∷ []) 3 0 13 (seed_read v i) (seed_made v))

pub draw_number : (v : View) → IsView v → Leads [] v RANDL (pieces.draw_number v)
draw_number v i = record {
  by = λ f q.
      let limit = v.grom.fetched in
      let h = i.grom.fetched in
      rw (down limit (low v.r.r6) h (less_fits v.r.r6), above_is limit h, division_is v.r.r10 limit, drawn_byte v.r.r10 limit h) refl;
}

pub set_border : (v : View) → Leads [] v GOBACK (pieces.set_border v)
set_border v = record { by = λ f q. rw (high-join v.grom.fetched v.r.r4) refl }

pub begin_fill : (v : View) → Leads (FILL ∷ []) v GOALL (pieces.begin_fill v)
begin_fill v = record { by = λ f q. refl }

pub fill_byte : (v : View) → Leads (FILL ∷ []) v FILL (pieces.fill_byte v)
fill_byte v = record { by = λ f q. pick (difference_of Word v.r.r12 1 == 0) (λ c. rw c refl) (λ c. rw c refl) }
