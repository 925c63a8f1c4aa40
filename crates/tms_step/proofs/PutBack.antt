-- A word that was written over is put back.
use Rattle.std.proofs.Common.{◌≡◌, ℕ, ◌+◌, ◌<◌, List, refl, sym, ap, subst, ◌∙◌, arith, get_or}
use Rattle.std.specs.Prelude.{Option, Some, None, Result, Ok, Err, OnErr}
use Rattle.std.proofs.Math.ListN.{set}
use Rattle.std.proofs.lemmas.List.{set_comm, set-set, set-get_or}
use Rattle.tms_defs.specs.Words.{high, low, join, even}
use Rattle.tms_defs.specs.Accesses.{Answer, Gives, AtPort, NoInstruction, ◌>>=◌, written_by}
use Rattle.tms_defs.specs.Operand.{Cpu}
use Rattle.tms_defs.specs.Step.{with_word}
use Rattle.tms_defs.specs.declared.instruction.Place.{Place}
use Rattle.tms_defs.specs.declared.port_stop.PortStop.{PortStop}
use Rattle.console_defs.specs.Memory.{Memory, Region, Rom, LowExpansion, HighExpansion, Scratchpad, PortOf, Unmapped}
use Rattle.console_defs.proofs.MemoryLaws.{word_read_in, word_written_in, read_is_by_region, write_is_by_region}
use Rattle.console_defs.specs.Memory.{IsMemory, region, word_read, word_written, console}
use Rattle.tms_step.specs.declared.cpu.Kept.{Kept}
use Rattle.tms_step.specs.Undo.{taken, put_back, auto_incremented_by, SameButPc}

-- two bytes of a list, written over and set back
items_back : (l : List ℕ) (i a b : ℕ) →
    set (set (set (set l i a) (i + 1) b) i (get_or l i 0)) (i + 1) (get_or l (i + 1) 0) ≡ l
items_back l i a b =
    let x = get_or l i 0 in
    let y = get_or l (i + 1) 0 in
    ap (λ (z : List ℕ). set z (i + 1) y) (set_comm (set l i a) (i + 1) i b x (λ e. omega arith)) ∙
    set-set (set (set l i a) i x) (i + 1) b y ∙
    ap (λ (z : List ℕ). set z (i + 1) y) (set-set l i a x ∙ set-get_or l i 0) ∙ set-get_or l (i + 1) 0

word_back : (l : List ℕ) (i a b word : ℕ) → get_or l (i + 1) 0 < 256 → word ≡ join (get_or l i 0) (get_or l (i + 1) 0) →
    set (set (set (set l i a) (i + 1) b) i (high word)) (i + 1) (low word) ≡ l
word_back l i a b word fits is =
    let more : high word ≡ get_or l i 0 = omega arith in
    let less : low word ≡ get_or l (i + 1) 0 = omega arith in
    rw (more, less) (items_back l i a b)

given : {X : Type 0} (a b : X) → Gives a ≡ Gives b → a ≡ b
given a b e = cc

back_in : (place : Region) (m written : Memory) (address word old : ℕ) → IsMemory m →
    word_read_in place m address ≡ Gives old → word_written_in place m address word ≡ Gives written →
    word_written_in place written address old ≡ Gives m
back_in (Rom at) m written address word old is read wrote = ap Gives (sym (given m written wrote))
back_in (LowExpansion at) m written address word old is read wrote =
    rw (← (given _ written wrote)) (ap (λ (l : List ℕ). Gives (record m { low_expansion = l })) (word_back m.low_expansion at (high word) (low word) old (is.low_expansion.fits (at + 1)) (sym (given _ old read))))
back_in (HighExpansion at) m written address word old is read wrote =
    rw (← (given _ written wrote)) (ap (λ (l : List ℕ). Gives (record m { high_expansion = l })) (word_back m.high_expansion at (high word) (low word) old (is.high_expansion.fits (at + 1)) (sym (given _ old read))))
back_in (Scratchpad at) m written address word old is read wrote =
    rw (← (given _ written wrote)) (ap (λ (l : List ℕ). Gives (record m { scratchpad = l })) (word_back m.scratchpad at (high word) (low word) old (is.scratchpad.fits (at + 1)) (sym (given _ old read))))
back_in (PortOf port) m written address word old is read wrote = absurd (cc)
back_in Unmapped m written address word old is read wrote = ap Gives (sym (given m written wrote))

-- A word that was written over and is written again leaves the memory as it was.
pub written_back : (m written : Memory) (address word old : ℕ) → IsMemory m → word_read m address ≡ Gives old →
    word_written m address word ≡ Gives written → word_written written address old ≡ Gives m
written_back m written address word old is read wrote =
    write_is_by_region written address old
    ∙ back_in (region (even address)) m written (even address) word old is (sym (read_is_by_region m address) ∙ read)
    (sym (write_is_by_region m address word) ∙ wrote)

-- What a write of a machine left is undone by the word that was there.
pub write_over-undone : (x y : Cpu Memory) (address word old : ℕ) → IsMemory x.memory →
    word_read x.memory address ≡ Gives old → Gives y ≡ with_word Memory console x address word →
    SameButPc x (put_back (Some (record { address = address; word = old })) y)
write_over-undone x y address word old is read wrote = by (word_written x.memory address word) refl wrote
  where
    by : (a : Answer Memory) → word_written x.memory address word ≡ a → Gives y
        ≡ (a >>= λ memory. Gives (record x { memory = memory })) →
        SameButPc x (put_back (Some (record { address = address; word = old })) y)
    by (Gives memory) e w =
        let left : y ≡ record x { memory = memory } = given y (record x { memory = memory }) w in
        let back : word_written memory address old ≡ Gives x.memory =
        written_back x.memory memory address word old is read e in
        rw left (record { same = ap (λ (a : Answer Memory). record x { memory = taken a memory }) back })
    by (AtPort address) e w = absurd (cc)
    by NoInstruction e w = absurd (cc)

-- A write leaves what it gives, or what was there.
pub taken_left : (result : Result Unit PortStop) (old new : Memory) (answer : Answer Memory) →
    written_by result new ≡ answer → OnErr result (new ≡ old) → taken answer old ≡ new
taken_left (Ok done) old new answer is same = rw (← is) refl
taken_left (Err stop) old new answer is same = rw (← is) (sym same)

-- What was put back stays so where the program counter alone has gone on.
pub put_back_later : (kept : Option Kept) (old middle later : Cpu Memory) → SameButPc middle later →
    SameButPc old (put_back kept middle) → SameButPc old (put_back kept later)
put_back_later None old middle later then first =
    record { same = rw (← first.same) (ap (λ (x : Cpu Memory). record x { pc = old.pc }) then.same) }
put_back_later (Some kept) old middle later then first =
    record { same = ap (λ (x : Cpu Memory). record (put_back (Some kept) x) { pc = old.pc }) then.same ∙ first.same }

-- a word that is put back leaves the workspace
wp_back : (middle : Cpu Memory) (kept : Option Kept) → (put_back kept middle).wp ≡ middle.wp
wp_back middle None = refl
wp_back middle (Some kept) = refl

-- The register that has grown with an operand is put back, where the program counter alone has gone on since.
pub auto_incremented_later : (place : Place) (address : ℕ) (old middle later : Cpu Memory) → SameButPc middle later →
    SameButPc old (put_back (auto_incremented_by place address old.wp) middle) →
    SameButPc old (put_back (auto_incremented_by place address later.wp) later)
auto_incremented_later place address old middle later then first =
    let there : later.wp ≡ middle.wp = ap (λ (x : Cpu Memory). x.wp) then.same in
    let here : middle.wp ≡ old.wp =
    sym (wp_back middle (auto_incremented_by place address old.wp)) ∙ ap (λ (x : Cpu Memory). x.wp) first.same in
    subst (λ (wp : ℕ). SameButPc old (put_back (auto_incremented_by place address wp) later)) (sym (there ∙ here))
    (put_back_later (auto_incremented_by place address old.wp) old middle later then first)
