-- From runs of the view to the exit of a piece.
use Rattle.std.proofs.Common.{◌≡◌, ℕ, ◌+◌, ◌*◌, ◌<◌, ◌≤◌, List, [], ◌∷◌, ◌++◌, length, refl, sym, ap, subst, ◌∙◌, arith, get_or, take}
use Rattle.std.proofs.Common.{drop, length-take, length-drop, lit<, ⊎_elim, zero, suc}
use Rattle.std.proofs.lemmas.List.{get_or-drop, get_or-take, get_or_past, take_at, drop_at}
use Rattle.std.proofs.lemmas.Bool.{cases_lt}
use Rattle.std.proofs.Math.ListN.{take-append-drop}
use Rattle.std.specs.Prelude.{slice_index}
use Rattle.sim_view.specs.Prelude.{even, Exit, Exits, IsMachine, IsStatus, join, MachineState, Runs, Status, word_in, WORKSPACE}
use Rattle.console_defs.proofs.MemoryLaws.{region_scratchpad, read_is_by_region}
use Rattle.console_defs.specs.Vdp.{VdpState, IsVdp}
use Rattle.console_defs.specs.Grom.{GromState, IsGrom}
use Rattle.tms_defs.specs.Accesses.{Answer, Gives, ◌>>=◌}
use Rattle.tms_defs.specs.Operand.{Cpu, register_in}
use Rattle.console_defs.specs.Memory.{Memory, IsMemory, Scratchpad, region, word_read}
use Rattle.interp_defs.specs.Interpreter.{HoldsInterpreter}
use Rattle.sim_view.specs.View.{View, listed, relisted, view_of, view, IsAt}
use Rattle.sim_view.specs.Running.{Ran, RunsPiece, ran}
use Rattle.sim_view.proofs.Answers.{given, given_by}
use Rattle.sim_view.proofs.Lists.{double_suc, listed-relisted, spell-words, length-words, words-spell}
use Rattle.sim_view.proofs.Seen.{spell, seen_run}
use Rattle.sim_view.proofs.Simulates.{Shows}
use Rattle.sim_view.proofs.ViewRuns.{machine, followed}
use Rattle.tms_defs.specs.Words.{words_of_bytes}

-- The state in which a piece begins.
abbrev pub at : View → Status → ℕ → Cpu View
at v f p = record { memory = v; pc = p; wp = WORKSPACE; status = f }

-- how a run of the view ends, without the status bits
abbrev pub but_status : Answer (ℕ × Cpu View) → Answer (ℕ × View × ℕ × ℕ)
but_status a = a >>= λ r. Gives (r.0, r.1.memory, r.1.pc, r.1.wp)

-- The run of the view from an address ends so, whatever the status bits are.
pub record Leads (ends : List ℕ) (v : View) (p : ℕ) (e : Exit) : Type 0 where
  pub by : (f : Status) → IsStatus f → but_status (seen_run ends 0 16 (at v f p)) ≡ Gives (e.count, e.left, e.to, WORKSPACE)

pub shows_view : (m : Memory) → IsMemory m → HoldsInterpreter m.low_expansion → Shows m (view_of m)
unfolding view_of
shows_view m h code =
    let l = h.scratchpad.size in
    let bytes : List ℕ = drop 194 m.scratchpad in
    let n : length bytes ≡ 62 = omega (arith, length-drop 194 m.scratchpad) in
    let w : length (words_of_bytes bytes) ≡ 31 = length-words 31 bytes n in
    let s = spell-words 31 bytes n (λ i. rw (get_or-drop 194 m.scratchpad i 0) (h.scratchpad.fits (194 + i))) in
    let d : length (drop 15 (words_of_bytes bytes)) ≡ 16 = omega (arith, length-drop 15 (words_of_bytes bytes)) in
    record {
      pad = sym (take-append-drop 194 m.scratchpad) ∙ ap (λ (b : List ℕ). take 194 m.scratchpad ++ b)
          (sym s ∙ ap spell (sym (take-append-drop 15 (words_of_bytes bytes)) ∙ ap (λ (b : List ℕ). take 15 (words_of_bytes bytes) ++ b)
          (sym (listed-relisted (drop 15 (words_of_bytes bytes)) d))));
      cells = omega (arith, length-take 194 m.scratchpad);
      spare = omega (arith, length-take 15 (words_of_bytes bytes));
      low_part = refl;
      high_part = refl;
      rom = refl;
      code = code;
      vdp = refl;
      grom = refl;
    }

abbrev made_of : List ℕ → List ℕ → List ℕ → List ℕ → List ℕ → List ℕ → VdpState → GromState → View
made_of c q w a b r d g = record { r = relisted w; cells = c; spare = q; low_memory = a; high_memory = b; rom = r; vdp = d; grom = g }

pub view_shows : (m : Memory) (v : View) → Shows m v → view_of m ≡ v
unfolding view_of
view_shows m v h =
    let ws : List ℕ = v.spare ++ listed v.r in
    let c = h.cells in
    let e : drop 194 m.scratchpad ≡ spell ws = rw h.pad (drop_at v.cells (spell ws) 194 c) in
    let f : take 194 m.scratchpad ≡ v.cells = rw h.pad (take_at v.cells (spell ws) 194 c) in
    let g : words_of_bytes (drop 194 m.scratchpad) ≡ ws = ap words_of_bytes e ∙ words-spell ws in
    let j : take 15 (words_of_bytes (drop 194 m.scratchpad)) ≡ v.spare = rw g (take_at v.spare (listed v.r) 15 h.spare) in
    let k : drop 15 (words_of_bytes (drop 194 m.scratchpad)) ≡ listed v.r = rw g (drop_at v.spare (listed v.r) 15 h.spare) in
    let b : view_of m ≡ made_of (take 194 m.scratchpad) (take 15 (words_of_bytes (drop 194 m.scratchpad))) (drop 15 (words_of_bytes (drop 194 m.scratchpad)))
    m.low_expansion m.high_expansion m.rom m.vdp m.grom = refl in
    b ∙ rw (f, j, k, h.low_part, h.high_part, h.rom, h.vdp, h.grom) refl

-- A run of the view is that of a machine that shows it.
pub exits : (ends : List ℕ) (p : ℕ) (x y : MachineState) (before after : ℕ) (e : Exit) → IsAt x p → Leads ends (view x) p e →
    y ≡ (ran ends 16 x).left → after ≡ before + (ran ends 16 x).count → IsMachine y → Exits x y before after e
exits ends p x y before after e h l left count bounds =
    let start : x ≡ machine x.cpu.memory (at (view x) x.cpu.status p) x.count = rw (h.pc, h.wp) refl in
    let a = given_by (seen_run ends 0 16 (at (view x) x.cpu.status p)) (λ r. Gives (r.0, r.1.memory, r.1.pc, r.1.wp)) (e.count, e.left, e.to, WORKSPACE)
    (l.by x.cpu.status h.machine.status) in
    let f = followed ends 0 16 x.cpu.memory (at (view x) x.cpu.status p) x.count a.0 (shows_view x.cpu.memory h.machine.memory h.words) a.1 in
    let t = given (a.0.0, a.0.1.memory, a.0.1.pc, a.0.1.wp) (e.count, e.left, e.to, WORKSPACE) a.2 in
    let c : f.count ≡ e.count = let m = f.made in let n = ap (λ (u : ℕ × View × ℕ × ℕ). u.0) t in omega arith in
    let z : MachineState = machine f.memory a.0.1 f.raised_to in
    let r : ran ends 16 x ≡ record { count = f.count; left = z } = ap (ran ends 16) start ∙ f.ran in
    let is : y ≡ z = left ∙ ap (λ (r : Ran). r.left) r in
    let P : MachineState → Type 0 = λ s. Runs f.count s z in
    let Q : MachineState → Type 0 = λ s. Runs f.count x s in
    let C : ℕ → Type 0 = λ k. Runs k x y in
    let H : MachineState → Type 0 = λ s. HoldsInterpreter s.cpu.memory.low_expansion in
    record {
      counted = let n = ap (λ (r : Ran). r.count) r in omega arith;
      runs = subst C c (subst Q (sym is) (subst P (sym start) f.runs));
      shows = ap view is ∙ view_shows f.memory a.0.1.memory f.shows ∙ ap (λ (u : ℕ × View × ℕ × ℕ). u.1) t;
      is_at = record {
        pc = ap (λ (s : MachineState). s.cpu.pc) is ∙ ap (λ (u : ℕ × View × ℕ × ℕ). u.2) t;
        wp = ap (λ (s : MachineState). s.cpu.wp) is ∙ ap (λ (u : ℕ × View × ℕ × ℕ). u.3) t;
        words = subst H (sym is) f.shows.code;
        machine = bounds;
      };
    }

-- The exit of a piece: it is at its entry, its run on the view leads to an exit, and it was run.
pub piece : {ends : List ℕ} {p : ℕ} {x y : MachineState} {before after : ℕ} {e : Exit} →
    IsAt x p → Leads ends (view x) p e → RunsPiece ends x y before after → Exits x y before after e
piece {ends = ends} {p = p} {x = x} {y = y} {before = before} {after = after} {e = e} is_at leads run =
    exits ends p x y before after e is_at leads run.left run.count run.bounds

-- ---- what the bounds of a machine say of its view

pub cells_of : (m : Memory) → IsMemory m → (i : ℕ) → slice_index (view_of m).cells i < 256
unfolding view_of
cells_of m h i =
    ⊎_elim (λ (l : i < 194). rw (get_or-take 194 m.scratchpad i 0 l) (h.scratchpad.fits i)) (λ (g : 194 ≤ i). let n : length (take 194 m.scratchpad) ≤ i =
    omega (arith, length-take 194 m.scratchpad) in rw (get_or_past (take 194 m.scratchpad) i 0 n) (lit< tt)) (cases_lt i 194)

words_fit : (bs : List ℕ) (k : ℕ) → ((i : ℕ) → get_or bs i 0 < 256) → get_or (words_of_bytes bs) k 0 < 65536
words_fit [] k h = lit< tt
words_fit (b ∷ []) k h = lit< tt
words_fit (b ∷ d ∷ bs) zero h = let p : b < 256 = h 0 in let q : d < 256 = h 1 in omega arith
words_fit (b ∷ d ∷ bs) (suc k) h = words_fit bs k (λ i. h (suc (suc i)))

word_fits : (m : Memory) (k : ℕ) → IsMemory m → get_or (drop 15 (words_of_bytes (drop 194 m.scratchpad))) k 0 < 65536
word_fits m k h = rw (get_or-drop 15 (words_of_bytes (drop 194 m.scratchpad)) k 0) (words_fit (drop 194 m.scratchpad) (15 + k)
    (λ i. rw (get_or-drop 194 m.scratchpad i 0) (h.scratchpad.fits (194 + i))))

-- each is a word
abbrev pub AreWords : List ℕ → Type 0
AreWords words = (k : ℕ) → get_or words k 0 < 65536

regs_of : (m : Memory) → IsMemory m → AreWords (listed (view_of m).r)
unfolding view_of
regs_of m h =
    let n : length (drop 194 m.scratchpad) ≡ 62 = let l = h.scratchpad.size in omega (arith, length-drop 194 m.scratchpad) in
    let w : length (words_of_bytes (drop 194 m.scratchpad)) ≡ 31 = length-words 31 (drop 194 m.scratchpad) n in
    let d : length (drop 15 (words_of_bytes (drop 194 m.scratchpad))) ≡ 16 = omega (arith, length-drop 15 (words_of_bytes (drop 194 m.scratchpad))) in
    subst AreWords (sym (listed-relisted (drop 15 (words_of_bytes (drop 194 m.scratchpad))) d)) (λ k. word_fits m k h)

grom_of : (m : Memory) → IsMemory m → IsGrom (view_of m).grom
unfolding view_of
grom_of m h = h.grom

vdp_of : (m : Memory) → IsMemory m → IsVdp (view_of m).vdp
unfolding view_of
vdp_of m h = h.vdp

-- What is true of the view of every machine.
pub record IsView (v : View) : Type 0 where
  pub r : AreWords (listed v.r)
  pub cells : (i : ℕ) → slice_index v.cells i < 256
  pub vdp : IsVdp v.vdp
  pub grom : IsGrom v.grom

pub is_view : (x : MachineState) → IsMachine x → IsView (view x)
is_view x h =
    record {
      r = regs_of x.cpu.memory h.memory;
      cells = cells_of x.cpu.memory h.memory;
      vdp = vdp_of x.cpu.memory h.memory;
      grom = grom_of x.cpu.memory h.memory;
    }

-- ---- registers that the code reads

words_at : (n : ℕ) (bs : List ℕ) (k : ℕ) → length bs ≡ 2 * n → k < n → get_or (words_of_bytes bs) k 0 ≡ join (get_or bs (2 * k) 0) (get_or bs (suc (2 * k)) 0)
words_at zero bs k q h = absurd (omega arith)
words_at (suc n) [] k q h = absurd (omega arith)
words_at (suc n) (b ∷ []) k q h = absurd (omega arith)
words_at (suc n) (b ∷ d ∷ bs) zero q h = refl
words_at (suc n) (b ∷ d ∷ bs) (suc k) q h = rw (double_suc k) (words_at n bs k (omega arith) (omega arith))

pub reg_word : (m : Memory) (k : ℕ) → IsMemory m → k < 16 → get_or (listed (view_of m).r) k 0 ≡ word_in m.scratchpad (224 + 2 * k)
unfolding view_of
reg_word m k h b =
    let bytes : List ℕ = drop 194 m.scratchpad in
    let n : length bytes ≡ 62 = let l = h.scratchpad.size in omega (arith, length-drop 194 m.scratchpad) in
    let w : length (words_of_bytes bytes) ≡ 31 = length-words 31 bytes n in
    let d : length (drop 15 (words_of_bytes bytes)) ≡ 16 = omega (arith, length-drop 15 (words_of_bytes bytes)) in
    let e : 194 + 2 * (15 + k) ≡ 224 + 2 * k = omega arith in
    let f : 194 + suc (2 * (15 + k)) ≡ 224 + 2 * k + 1 = omega arith in
    ap (λ (l : List ℕ). get_or l k 0) (listed-relisted (drop 15 (words_of_bytes bytes)) d) ∙ get_or-drop 15 (words_of_bytes bytes) k 0
    ∙ words_at 31 bytes (15 + k) n (omega arith)
    ∙ rw (get_or-drop 194 m.scratchpad (2 * (15 + k)) 0, get_or-drop 194 m.scratchpad (suc (2 * (15 + k))) 0, e, f) refl

-- A register of the view is the word of the machine's register.
pub holds_register : (m : Memory) (k : ℕ) → IsMemory m → k < 16 → word_read m (register_in WORKSPACE k) ≡ Gives (get_or (listed (view_of m).r) k 0)
holds_register m k h b =
    let a : even (register_in WORKSPACE k) ≡ WORKSPACE + 2 * k = omega arith in
    let g : region (WORKSPACE + 2 * k) ≡ Scratchpad (224 + 2 * k) = region_scratchpad (WORKSPACE + 2 * k) (omega arith) (omega arith)
    ∙ ap Scratchpad (omega arith) in
    let f : word_read m (register_in WORKSPACE k) ≡ Gives (word_in m.scratchpad (224 + 2 * k)) =
    read_is_by_region m (register_in WORKSPACE k) ∙ rw (a, g) refl in
    f ∙ ap Gives (sym (reg_word m k h b))

pub register_is : (m : Memory) (wp k w : ℕ) → IsMemory m → wp ≡ WORKSPACE → k < 16 → Gives w ≡ word_read m (register_in wp k) →
    w ≡ get_or (listed (view_of m).r) k 0
register_is m wp k w h p b e = given w _ (e ∙ ap (λ (n : ℕ). word_read m (register_in n k)) p ∙ holds_register m k h b)
