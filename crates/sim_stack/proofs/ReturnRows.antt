-- RTN and RTNC mean going on at the return address: on views alone.
use Rattle.std.proofs.Common.{◌+◌, ◌<◌, ◌==◌, ◌∙◌, ◌≡◌, ap, arith, Bool, eqb, Err, false, if◌then◌else◌, Ok, Option}
use Rattle.std.proofs.Common.{refl, Result, slice_index, slice_set, Some, subst, sym, true, ℕ}
use Rattle.std.proofs.lemmas.Bool.{agree_below_at, eqb-true}
use Rattle.sim_rows.proofs.Common.{◌>>=◌, after_code, Changes, code_byte, code_fits, difference_of, Dispatched, exit}
use Rattle.sim_rows.proofs.Common.{Exit, goes_in, GOTO, GplOperation, GplState, grom_at, grown_by, GSTEP, IsView, low}
use Rattle.sim_rows.proofs.Common.{on_stack, operation_at, operation_in, Plain, PlainOp, Reason, RTN, RTNC}
use Rattle.sim_rows.proofs.Common.{SeesFinished, set_is, TAKE, unchanged, View, with_cell, with_condition, with_pc}
use Rattle.sim_rows.proofs.Common.{Word, word_in}
use Rattle.sim_stack.proofs.Dispatch.{dispatch_is, dispatch_view}
use Rattle.sim_stack.proofs.Room.{EndsByRoom, tests, two_less}
use Rattle.sim_stack.proofs.Common.{◌>>?◌, clear_and_go, Ends, is_stack, on_at, plain, return_offset, returned}
use Rattle.sim_jumps.specs.Pieces as jump

-- ---- the code bytes

-- RTN's is 0, and RTNC's is 1
abbrev has_code : Option GplOperation → ℕ → Bool
has_code (Some (Plain RTN)) code = eqb code 0
has_code (Some (Plain RTNC)) code = eqb code 1
has_code _ code = true

abbrev coded : ℕ → Bool
coded code = has_code (operation_at code) code

code_is : (s : GplState) (o : Option GplOperation) → code_byte s < 256 → operation_in s ≡ o →
    has_code o (code_byte s) ≡ true
code_is s o fits is =
    subst (λ (p : Option GplOperation). has_code p (code_byte s) ≡ true) is
    (agree_below_at coded (λ _. true) 256 (code_byte s) refl fits)

-- ---- the step

-- the state whose next instruction is the one after
abbrev pub past_code : GplState → GplState
past_code s = record s { pc = after_code s }

abbrev top_in : GplState → ℕ
top_in s = slice_index s.cells 0x73

-- what they change; RTN clears the condition too
abbrev back : GplState → ℕ → Changes
back s top = with_pc (word_in s.cells top) (with_cell 0x73 (grown_by 254 top) (unchanged (past_code s)))

abbrev gone_back : GplState → Bool → ℕ → Changes
gone_back s clears top = if clears then with_condition false (back s top) else back s top

clearing : (s : GplState) (r : Result ℕ Reason) →
    (r >>= λ n. Ok (gone_back s true n)) ≡ ((r >>= λ n. Ok (back s n)) >>= λ (c : Changes). Ok (with_condition false c))
clearing s (Ok n) = refl
clearing s (Err reason) = refl

module _ (s : GplState) (u : View) where
  abbrev at : View
  at = dispatch_view s u

  -- a word was taken off the stack
  abbrev taken : (offset pointer : ℕ) → View
  taken offset pointer = record at {
    r = record at.r { r2 = difference_of Word offset 2; r6 = word_in s.cells offset };
    cells = slice_set s.cells 0x73 pointer;
  }

  abbrev on : Bool → (offset pointer : ℕ) → Exit
  on clears offset pointer = if clears then exit 10 TAKE (taken offset pointer) else exit 11 GOTO (taken offset pointer)

  abbrev goes : Exit → Exit
  goes e = on_at TAKE e clear_and_go (e >>? jump.go_to)

  abbrev ends : Bool → (offset pointer : ℕ) → Type 0
  ends clears offset pointer = Ends (goes (on clears offset pointer)) 54 GSTEP (SeesFinished (gone_back s clears (top_in s)))

  goes_on : (clears : Bool) → word_in s.cells (top_in s) < 65536 → ends clears (top_in s) (grown_by 254 (top_in s))
  goes_on true fits z =
      let grom = set_is (grom_at s.image (after_code s)) (word_in s.cells (top_in s)) refl fits in
      goes_in (omega arith) (record { cells = refl; vdp = refl; registers = refl; held = refl; grom = grom })
  goes_on false fits z =
      let grom = set_is (grom_at s.image (after_code s)) (word_in s.cells (top_in s)) refl fits in
      goes_in (omega arith) (record { cells = refl; vdp = refl; registers = refl; held = refl; grom = grom })

  turns : IsView at → EndsByRoom (returned at) 54 s (on_stack 2 (top_in s) >>= λ n. Ok (gone_back s (code_byte s == 0) n))
  unfolding returned
  turns i =
      let top = top_in s in
      let byte = i.cells 0x73 in
      let offset : return_offset at ≡ top = omega arith in
      let pointer = low (difference_of Word (return_offset at) 2) in
      let more = i.cells top in
      let less = i.cells (top + 1) in
      tests s 2 (return_offset at) top 7 (record at { r = record at.r { r2 = return_offset at } })
      (on (code_byte s == 0) (return_offset at) pointer) goes 54 (gone_back s (code_byte s == 0)) (omega arith) offset
      (omega arith)
      (record { cells = refl; vdp = refl; registers = refl; image = refl; address = refl })
      refl
      (λ near. subst (λ (n : ℕ). ends (code_byte s == 0) n (low (difference_of Word n 2))) (sym offset)
      (subst (ends (code_byte s == 0) top) (sym (two_less top byte)) (goes_on (code_byte s == 0) (omega arith))))

module _ (s : GplState) (v : View) where
  abbrev by : Result Changes Reason → Type 0
  by = EndsByRoom (returned v) 54 s

  abbrev result : ℕ → Result Changes Reason
  result code = on_stack 2 (top_in s) >>= λ n. Ok (gone_back s (code == 0) n)

  returns_by : (op : PlainOp) → is_stack (Some (Plain op)) ≡ true → by (result (code_byte s)) →
      has_code (Some (Plain op)) (code_byte s) ≡ true → by (plain op (unchanged (past_code s)))
  returns_by RTN family all code =
      subst by (ap result (eqb-true (code_byte s) 0 code) ∙ clearing s (on_stack 2 (top_in s))) all
  returns_by RTNC family all code = subst by (ap result (eqb-true (code_byte s) 1 code)) all
  returns_by _ family all code = absurd (cc)

  pub returns : (op : PlainOp) → is_stack (Some (Plain op)) ≡ true → IsView v → Dispatched s v →
      operation_in s ≡ Some (Plain op) → by (plain op (unchanged (past_code s)))
  returns op family i d is =
      returns_by op family
      (dispatch_is s v (λ w. EndsByRoom (returned w) 54 s (result (code_byte s))) i d (turns s v))
      (code_is s (Some (Plain op)) (code_fits s (after_code s) v i d.sees) is)
