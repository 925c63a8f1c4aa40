-- The machine on which the interpreter begins.
use Rattle.std.proofs.Common.{[], ℕ, ◌<◌, ◌∙◌, ◌∷◌, ◌≡◌, ◌≤◌, ap, arith, is_none, length, List, lit<, not, refl, replicate, slice_index, slice_set, suc, take}
use Rattle.std.proofs.Common.{zero}
use Rattle.sim_rows.proofs.Common.{GromState, HoldsEntry, IsMemory, IsNewVdp, Memory, new_grom, reg_word, same_state, view, view_of, zeros}
use Rattle.sim_steps.specs.Starting.{MachinesStart}

take_zeros : (count : ℕ) (xs : List ℕ) → count ≤ length xs → ((at : ℕ) → at < count → slice_index xs at ≡ 0) → take count xs ≡ replicate count 0
take_zeros zero xs h z = refl
take_zeros (suc count) [] h z = absurd (omega arith)
take_zeros (suc count) (x ∷ xs) h z =
    ap (λ y. y ∷ take count xs) (z 0 (omega arith)) ∙ ap (λ (ys : List ℕ). 0 ∷ ys) (take_zeros count xs (omega arith) (λ at l. z (suc at) (omega arith)))

all_zeros : (count : ℕ) (xs : List ℕ) → length xs ≡ count → ((at : ℕ) → slice_index xs at ≡ 0) → xs ≡ replicate count 0
all_zeros zero [] h z = refl
all_zeros zero (x ∷ xs) h z = absurd (omega arith)
all_zeros (suc count) [] h z = absurd (omega arith)
all_zeros (suc count) (x ∷ xs) h z =
    ap (λ y. y ∷ xs) (z 0) ∙ ap (λ (ys : List ℕ). 0 ∷ ys) (all_zeros count xs (omega arith) (λ at. z (suc at)))

module _ (m : Memory) where
  cells_are : (entry : ℕ) → HoldsEntry entry m.scratchpad → (view_of m).cells ≡ zeros 194
  unfolding view_of zeros
  cells_are entry h = take_zeros 194 m.scratchpad (let s = h.size in omega arith) (λ at l. h.before at (omega arith))

  memory_is : IsNewVdp m.vdp → (view_of m).vdp.memory ≡ zeros 16384
  unfolding view_of zeros
  memory_is n = all_zeros 16384 m.vdp.memory n.memory.size n.memory.zeros

  registers_are : IsNewVdp m.vdp → (view_of m).vdp.registers ≡ zeros 8
  unfolding view_of zeros
  registers_are n = all_zeros 8 m.vdp.registers n.registers.size n.registers.zeros

  image_is : (image : List ℕ) → m.grom ≡ new_grom image → (view_of m).grom.image ≡ image
  unfolding view_of
  image_is image e = ap (λ (g : GromState). g.image) e

  entry_is : (entry : ℕ) → IsMemory m → HoldsEntry entry m.scratchpad → (view_of m).r.r0 ≡ entry
  entry_is entry i h = reg_word m 0 i (lit< tt) ∙ h.word

pub machines_start : MachinesStart
machines_start image entry x i b =
    let m = x.cpu.memory in
    let w = view x in (
      record { pc = b.pc; wp = b.wp; words = b.low_expansion.words; machine = i },
      record { vdp = ap is_none b.vdp.held; grom = ap (λ (g : GromState). not g.half_written) b.grom },
      same_state _ _ _ _ _ _ _ _ _ _
          (ap (λ (cells : List ℕ). slice_set (slice_set cells 0x72 0x9F) 0x73 0x7E) (cells_are m entry b.scratchpad))
          (memory_is m b.vdp) (registers_are m b.vdp) (entry_is m entry i.memory b.scratchpad) (image_is m image b.grom),
    )
