-- The interpreter begins on one machine.
use Rattle.std.proofs.Common.{◌≡◌, ℕ, ◌<◌, ◌≤◌, ◌+◌, ◌*◌, ◌/◌, List, length, Bool, true, false}
use Rattle.std.proofs.Common.{refl, sym, ap, ◌∙◌, arith}
use Rattle.std.specs.Prelude.{nat_lt, slice_index}
use Rattle.std.proofs.lemmas.Bool.Decides.{nat_tests}
use Rattle.std.proofs.lemmas.List.{ext_get_or}
use Rattle.tms_defs.specs.Bytes.{HoldsBytes, HoldsZeros, word_in}
use Rattle.console_defs.specs.Vdp.{VdpState, IsNewVdp}
use Rattle.console_defs.specs.Memory.{Memory}
use Rattle.tms_defs.specs.Operand.{Cpu}
use Rattle.console_defs.specs.Machine.{MachineState, IsMachine}
use Rattle.native_interp.specs.declared.words.TheConstants.{INTERP}
use Rattle.interp_defs.specs.Boot.{HoldsEntry, HoldsWords, IsBoot}

-- Lists of one length are equal where they agree at each index.
pub same_list : (xs ys : List ℕ) → length xs ≡ length ys →
    ((at : ℕ) → at < length xs → slice_index xs at ≡ slice_index ys at) → xs ≡ ys
same_list xs ys size all = ext_get_or 0 xs ys size all

-- Zeros are one list.
pub one_zeros : (count : ℕ) (xs ys : List ℕ) → HoldsZeros count xs → HoldsZeros count ys → xs ≡ ys
one_zeros count xs ys p q = same_list xs ys (p.size ∙ sym q.size) (λ at below. p.zeros at ∙ sym (q.zeros at))

-- The bytes of a word are its own.
word_bytes : (more less more_too less_too : ℕ) → less < 256 → less_too < 256 →
    256 * more + less ≡ 256 * more_too + less_too → (more ≡ more_too) × (less ≡ less_too)
word_bytes more less more_too less_too fits fits_too same = (omega arith, omega arith)

module _ (xs ys : List ℕ) (fits : (at : ℕ) → slice_index xs at < 256) (fits_too : (at : ℕ) → slice_index ys at < 256) where
  -- Where lists have one word, they have both its bytes.
  bytes_of_word : (place at : ℕ) → word_in xs place ≡ word_in ys place → place ≤ at → at < place + 2 →
      slice_index xs at ≡ slice_index ys at
  bytes_of_word place at same above below = by (nat_lt place at) refl
    where
      bytes : (slice_index xs place ≡ slice_index ys place) × (slice_index xs (place + 1) ≡ slice_index ys (place + 1))
      bytes = word_bytes _ _ _ _ (fits (place + 1)) (fits_too (place + 1)) same

      by : (second : Bool) → nat_lt place at ≡ second → slice_index xs at ≡ slice_index ys at
      by true is =
          let here : at ≡ place + 1 = grind (arith, nat_tests) in
          ap (slice_index xs) here ∙ bytes.1 ∙ sym (ap (slice_index ys) here)
      by false is =
          let here : at ≡ place = grind (arith, nat_tests) in
          ap (slice_index xs) here ∙ bytes.0 ∙ sym (ap (slice_index ys) here)

  -- Lists with one word at a place and zeros elsewhere agree.
  one_word : (place at : ℕ) → word_in xs place ≡ word_in ys place →
      ((k : ℕ) → k < place → slice_index xs k ≡ 0) → ((k : ℕ) → k < place → slice_index ys k ≡ 0) →
      ((k : ℕ) → place + 2 ≤ k → slice_index xs k ≡ 0) → ((k : ℕ) → place + 2 ≤ k → slice_index ys k ≡ 0) →
      slice_index xs at ≡ slice_index ys at
  one_word place at same before before_too beyond after_too = by (nat_lt at place) refl (nat_lt at (place + 2)) refl
    where
      by : (first : Bool) → nat_lt at place ≡ first → (inside : Bool) → nat_lt at (place + 2) ≡ inside →
          slice_index xs at ≡ slice_index ys at
      by true f inside i = let lt : at < place = grind (arith, nat_tests) in before at lt ∙ sym (before_too at lt)
      by false f true i = bytes_of_word place at same (grind (arith, nat_tests)) (grind (arith, nat_tests))
      by false f false i = let le : place + 2 ≤ at = grind (arith, nat_tests) in beyond at le ∙ sym (after_too at le)

  -- Lists with a number of words from their beginning on, and zeros after them, agree.
  one_words : (count at : ℕ) → ((number : ℕ) → number < count → word_in xs (2 * number) ≡ word_in ys (2 * number)) →
      ((k : ℕ) → 2 * count ≤ k → slice_index xs k ≡ 0) → ((k : ℕ) → 2 * count ≤ k → slice_index ys k ≡ 0) →
      slice_index xs at ≡ slice_index ys at
  one_words count at same beyond after_too = by (nat_lt at (2 * count)) refl
    where
      by : (inside : Bool) → nat_lt at (2 * count) ≡ inside → slice_index xs at ≡ slice_index ys at
      by true is =
          let lt : at < 2 * count = grind (arith, nat_tests) in
          bytes_of_word (2 * (at / 2)) at (same (at / 2) (omega arith)) (omega arith) (omega arith)
      by false is = let le : 2 * count ≤ at = grind (arith, nat_tests) in beyond at le ∙ sym (after_too at le)

-- One scratchpad holds an entry.
one_scratchpad : (entry : ℕ) (xs ys : List ℕ) → HoldsBytes 256 xs → HoldsBytes 256 ys → HoldsEntry entry xs →
    HoldsEntry entry ys → xs ≡ ys
one_scratchpad entry xs ys a b p q =
    same_list xs ys (p.size ∙ sym q.size)
    (λ at below. one_word xs ys a.fits b.fits 0xE0 at (p.word ∙ sym q.word) p.before q.before p.beyond q.beyond)

-- One low expansion memory holds the interpreter.
one_low : (xs ys : List ℕ) → HoldsBytes 8192 xs → HoldsBytes 8192 ys → HoldsWords xs → HoldsWords ys → xs ≡ ys
one_low xs ys a b p q =
    same_list xs ys (p.size ∙ sym q.size)
    (λ at below.
    let same = λ (number : ℕ) (lt : number < length INTERP). p.words number lt ∙ sym (q.words number lt) in
    one_words xs ys a.fits b.fits (length INTERP) at same p.beyond q.beyond)

-- One video processor is new.
pub one_vdp : (a b : VdpState) → IsNewVdp a → IsNewVdp b → a ≡ b
one_vdp a b p q =
    ap (λ memory. record a { memory = memory }) (one_zeros 16384 a.memory b.memory p.memory q.memory)
    ∙ ap (λ registers. record a { memory = b.memory; registers = registers }) (one_zeros 8 a.registers b.registers p.registers q.registers)
    ∙ ap (λ address. record a { memory = b.memory; registers = b.registers; address = address }) (p.address ∙ sym q.address)
    ∙ ap (λ fetched. record b { fetched = fetched; held = a.held }) (p.fetched ∙ sym q.fetched)
    ∙ ap (λ held. record b { held = held }) (p.held ∙ sym q.held)

-- Memories are equal where their parts are.
pub same_memory : (a b : Memory) → a.scratchpad ≡ b.scratchpad → a.low_expansion ≡ b.low_expansion →
    a.high_expansion ≡ b.high_expansion → a.rom ≡ b.rom → a.vdp ≡ b.vdp → a.grom ≡ b.grom → a ≡ b
same_memory a b scratchpad low high rom vdp grom =
    ap (λ s. record a { scratchpad = s }) scratchpad
    ∙ ap (λ l. record a { scratchpad = b.scratchpad; low_expansion = l }) low
    ∙ ap (λ h. record a { scratchpad = b.scratchpad; low_expansion = b.low_expansion; high_expansion = h }) high
    ∙ ap (λ r. record b { rom = r; vdp = a.vdp; grom = a.grom }) rom
    ∙ ap (λ v. record b { vdp = v; grom = a.grom }) vdp
    ∙ ap (λ g. record b { grom = g }) grom

-- Processors are equal where their parts are.
same_cpu : (a b : Cpu Memory) → a.memory ≡ b.memory → a.pc ≡ b.pc → a.wp ≡ b.wp → a.status ≡ b.status → a ≡ b
same_cpu a b memory pc wp status =
    ap (λ m. record a { memory = m }) memory
    ∙ ap (λ n. record a { memory = b.memory; pc = n }) pc
    ∙ ap (λ n. record b { wp = n; status = a.status }) wp
    ∙ ap (λ s. record b { status = s }) status

-- Machines are equal where their parts are.
same_machine : (x y : MachineState) → x.cpu ≡ y.cpu → x.count ≡ y.count → x ≡ y
same_machine x y cpu count = ap (λ c. record x { cpu = c }) cpu ∙ ap (λ n. record y { count = n }) count

-- On one machine the interpreter begins with an image and an entry.
pub one_boot : (image : List ℕ) (entry : ℕ) (x y : MachineState) → IsMachine x → IsMachine y → IsBoot image entry x →
    IsBoot image entry y → x ≡ y
one_boot image entry x y i j p q =
    let a = x.cpu.memory in
    let b = y.cpu.memory in
    let memory : a ≡ b =
    same_memory a b
    (one_scratchpad entry a.scratchpad b.scratchpad i.memory.scratchpad j.memory.scratchpad p.scratchpad q.scratchpad)
    (one_low a.low_expansion b.low_expansion i.memory.low_expansion j.memory.low_expansion p.low_expansion q.low_expansion)
    (one_zeros 24576 a.high_expansion b.high_expansion p.high_expansion q.high_expansion)
    (one_zeros 8192 a.rom b.rom p.rom q.rom)
    (one_vdp a.vdp b.vdp p.vdp q.vdp)
    (p.grom ∙ sym q.grom) in
    same_machine x y
    (same_cpu x.cpu y.cpu memory (p.pc ∙ sym q.pc) (p.wp ∙ sym q.wp) (p.status ∙ sym q.status))
    (p.count ∙ sym q.count)
