-- A row from its dispatch to the end of the step.
use Rattle.std.proofs.Common.{ℕ, ◌+◌, ◌<◌, ◌∙◌, ◌≡◌, ◌≤◌, ap, arith, Bool, Err, false, None, Ok, Option, refl, Result, Some, subst, sym, true}
use Rattle.sim_view.proofs.Common.{comes_on}
use Rattle.sim_rows.specs.Prelude.{◌>>=◌, AtRow, after_code, bound, Cell, ShowsChanges, Changes, code_byte, ReachesWithin, destination_bytes, finished, first_of, gone_on}
use Rattle.sim_rows.specs.Prelude.{GplOperation, GplSource, GplState, GSTEP, GSTOP, has_source, is_turn_end, is_row, MachineState, number_of_space, operand_at}
use Rattle.sim_rows.specs.Prelude.{operands_of, operation_in, Place, place_of, Reason, result_of, row_entry, row_result, row_width, RunsRow, second_by}
use Rattle.sim_rows.specs.Prelude.{from_dispatch, second_of, SeesFinished, SeesResult, size_of, Source, source_of, source_read, StartsRow, step, Stepped, Stopped, StoppedBy, Turn, Turned}
use Rattle.sim_rows.specs.Prelude.{unchanged, value_at, View, view, Width}
use Rattle.sim_view.specs.gpl_defs.declared.instruction.GplSource.TheVariants as source
use Rattle.sim_view.specs.gpl_defs.declared.instruction.GplOperation.TheVariants as operation
use Rattle.sim_rows.proofs.OnlyExit.{never_exits, row_stays}
use Rattle.sim_rows.proofs.Places.{FoundVisible, place_found_visible}
use Rattle.sim_rows.proofs.Steps.{bound_made, bound_stop, row_after, step_row}
use Rattle.sim_rows.proofs.Ends.{matches, reaches, stops, turned_by}
use Rattle.sim_rows.proofs.Destinations.{first_visible}
use Rattle.sim_rows.proofs.Operands.{value_same}
use Rattle.sim_view.specs.Bounds.{bound_to_row, bound_to_row_stop}
use Rattle.sim_view.specs.interp_defs.Interpreter.{bound_to_dispatch}

-- A row that may stop, with its answer: from its entry to the end of the step.
abbrev pub TurnsBy : ℕ → GplState → MachineState → MachineState → ℕ → ℕ → Turn → Result Changes Reason → Type 0
TurnsBy most s x y before after turn (Ok c) = (turn ≡ Stepped)
    × ReachesWithin most x y before after GSTEP (SeesFinished c)
TurnsBy most s x y before after turn (Err reason) =
    (turn ≡ Stopped reason) × ReachesWithin most x y before after GSTOP (StoppedBy s reason)

abbrev pub TurnsRow : GplOperation → ℕ → MachineState → MachineState → ℕ → ℕ → Turn → Type 0
TurnsRow operation most x y before after turn =
    (s : GplState) → (place : Place) → (source : Source) → operation_in s ≡ Some operation
    → AtRow s place source (view x) → operands_of s ≡ Ok (place, source)
    → TurnsBy most s x y before after turn (row_result operation s place source)

-- ---- at the entry of a row

-- nothing was changed yet
pub row_changed : (s : GplState) (place : Place) (source : Source) (w : View) → AtRow s place source w → ShowsChanges (unchanged (gone_on s)) w
row_changed s place source w h =
    record {
      cells = h.holds.sees.cells;
      vdp = h.holds.sees.vdp;
      registers = h.holds.sees.registers;
      held = h.holds.sees.held;
      grom = h.holds.sees.grom;
      mark = h.holds.mark;
    }

-- ---- both operands

value_in : {X : Type 0} → X → Result X Reason → X
value_in other (Ok x) = x
value_in other (Err reason) = other

both_by : (first : Result Place Reason) (second : Result Source Reason) (o : Place × Source) →
    (first >>= λ place. (second >>= λ source. Ok (place, source))) ≡ Ok o → (first ≡ Ok o.0) × (second ≡ Ok o.1)
unfolding value_in
both_by (Ok place) (Ok source) o e = (ap (λ (p : Place × Source). Ok p.0) (ap (value_in o) e), ap (λ (p : Place × Source). Ok p.1) (ap (value_in o) e))
both_by _ _ o e = absurd (cc)

pub both : (s : GplState) (place : Place) (source : Source) → operands_of s ≡ Ok (place, source) → (first_of s ≡ Ok place) × (second_of s ≡ Ok source)
both s place source e = both_by (first_of s) (second_of s) (place, source) e

-- the destination is visible
pub destination_visible : (s : GplState) (place : Place) (source : Source) → operands_of s ≡ Ok (place, source) → number_of_space place.space ≡ 0 →
    place.address + destination_bytes s ≤ 0xC2
destination_visible s place source e = first_visible s place (both s place source e).0

-- a source's place is visible
abbrev SourceLies : ℕ → Option Place → Type 0
SourceLies bytes None = Unit {0}
SourceLies bytes (Some place) = number_of_space place.space ≡ 0 → place.address + bytes ≤ 0xC2

abbrev AllLie : ℕ → Result Source Reason → Type 0
AllLie bytes (Ok source) = SourceLies bytes source.place
AllLie bytes (Err reason) = reason ≡ Cell

place_in_found_visible : (s : GplState) (w : Width) (r : Result Place Reason) → FoundVisible (size_of w) r →
    AllLie (size_of w) (r >>= λ p. Ok (record { number = value_at s w p; place = Some p }))
place_in_found_visible s w (Ok place) h = h
place_in_found_visible s w (Err reason) h = h

source_lies : (s : GplState) (w : Width) (read : GplSource) → AllLie (size_of w) (source_of s w read)
source_lies s w (source.At operand) = place_in_found_visible s w (place_of s (size_of w) operand) (place_found_visible s (size_of w) operand)
source_lies s w (source.Immediate value) = tt

second_lies : (s : GplState) (b : Bool) → AllLie (size_of (row_width s)) (second_by b s)
second_lies s true = source_lies (gone_on s) (row_width s) (source_read s).0
second_lies s false = tt

pub source_visible : (s : GplState) (place : Place) (source : Source) → operands_of s ≡ Ok (place, source) → SourceLies (size_of (row_width s)) source.place
source_visible s place source e = subst (AllLie (size_of (row_width s))) (both s place source e).1 (second_lies s (has_source s))

-- ---- they stop for one reason

abbrev Alone : {X : Type 0} → Result X Reason → Type 0
Alone (Ok x) = Unit {0}
Alone (Err reason) = reason ≡ Cell

found_visible_alone : (bytes : ℕ) (r : Result Place Reason) → FoundVisible bytes r → Alone r
found_visible_alone bytes (Ok place) h = tt
found_visible_alone bytes (Err reason) h = h

source_alone : (bytes : ℕ) (r : Result Source Reason) → AllLie bytes r → Alone r
source_alone bytes (Ok source) h = tt
source_alone bytes (Err reason) h = h

then_alone : {X Y : Type 0} (r : Result X Reason) (f : X → Result Y Reason) → Alone r → ((x : X) → Alone (f x)) → Alone (r >>= f)
then_alone (Ok x) f a g = g x
then_alone (Err reason) f a g = a

operands_alone : (s : GplState) → Alone (operands_of s)
operands_alone s =
    then_alone (first_of s) _ (found_visible_alone (destination_bytes s) (first_of s) (place_found_visible (gone_on s) (destination_bytes s)
    (operand_at s.image (after_code s)).0))
    (λ place. then_alone (second_of s) _ (source_alone (size_of (row_width s)) (second_of s) (second_lies s (has_source s))) (λ source. tt))

reason_in : {X : Type 0} → Result X Reason → Reason
reason_in (Ok x) = Cell
reason_in (Err reason) = reason

reason_is : {X : Type 0} (r : Result X Reason) (reason : Reason) → Alone r → r ≡ Err reason → reason ≡ Cell
unfolding reason_in
reason_is (Ok x) reason a e = absurd (cc)
reason_is (Err other) reason a e = sym (ap reason_in e) ∙ a

no_row : is_row None ≡ true → ⊥
no_row e = cc

some_is : (o : Option GplOperation) → is_row o ≡ true → (op : GplOperation) × (o ≡ Some op)
some_is (Some op) e = (op, refl)
some_is None e = absurd (no_row e)

none_some : (op : GplOperation) → None ≡ Some op → ⊥
none_some op e = cc

-- ---- the step of a row

bound_row : (s next : GplState) (op : GplOperation) → operation_in s ≡ Some op → is_row (Some op) ≡ true → step s ≡ Ok next → bound s ≡ 440
bound_row s next (operation.One op) e row is = bound_made s next (Some (operation.One op)) e is
bound_row s next (operation.Two op) e row is = bound_made s next (Some (operation.Two op)) e is
bound_row s next _ e row is = absurd (cc)

module _ (s : GplState) (x : MachineState) (t : ℕ) (fits : code_byte s < 256) (start : is_turn_end x.cpu.pc ≡ false) (row : is_row (operation_in s) ≡ true) where
  -- the operands are there, and the operation is returned
  pub record Started (op : GplOperation) (y : MachineState) (u : ℕ) : Type 0 where
    pub place : Place
    pub source : Source
    pub is_both : operands_of s ≡ Ok (place, source)
    pub is_operation : operation_in s ≡ Some op
    pub comes : ReachesWithin bound_to_row x y t u (row_entry (Some op)) (AtRow s place source)

  started_by : (op : GplOperation) (y : MachineState) (u : ℕ) (returned : Option GplOperation) → returned ≡ Some op → (r : Result (Place × Source) Reason) →
      operands_of s ≡ r → StartsRow s x y t u returned r → Started op y u
  started_by op y u returned e (Ok o) is l =
      let same : operation_in s ≡ Some op = sym l.0 ∙ e in
      record {
        place = o.0;
        source = o.1;
        is_both = is;
        is_operation = same;
        comes =
            subst (λ (p : Option GplOperation). ReachesWithin bound_to_row x y t u (row_entry p) (AtRow s o.0 o.1)) same l.1;
      }
  started_by op y u returned e (Err reason) is l = absurd (none_some op (sym l.0 ∙ e))

  pub started : (op : GplOperation) (y : MachineState) (u : ℕ) (returned : Option GplOperation) → returned ≡ Some op → StartsRow s x y t u returned (operands_of s) →
      Started op y u
  started op y u returned e l = started_by op y u returned e (operands_of s) refl l

  -- an operand that is not visible
  stopped_by : (y : MachineState) (u : ℕ) (returned : Option GplOperation) → returned ≡ None → (r : Result (Place × Source) Reason) → operands_of s ≡ r →
      StartsRow s x y t u returned r → Turned s x y (from_dispatch t u) (Stopped Cell)
  stopped_by y u returned none (Ok o) e l = let op = some_is (operation_in s) row in absurd (none_some op.0 (sym none ∙ l.0 ∙ op.1))
  stopped_by y u returned none (Err reason) e l =
      let op = some_is (operation_in s) row in
      let cell : reason ≡ Cell = reason_is (operands_of s) reason (operands_alone s) e in
      let run : ReachesWithin bound_to_row_stop x y t u GSTOP (StoppedBy s Cell) =
      subst (λ (r : Reason). ReachesWithin bound_to_row_stop x y t u GSTOP (StoppedBy s r)) cell l.1 in
      let is : step s ≡ Err Cell = step_row s op.0 fits op.1 (subst (λ (o : Option GplOperation). is_row o ≡ true) op.1 row)
      ∙ ap (λ (r : Result (Place × Source) Reason). r >>= row_after s op.0) (e ∙ ap Err cell) in
      let b = bound_stop s Cell is in
      turned_by x y t u bound_to_dispatch (Stopped Cell) s (Err Cell) is
      (refl, reaches bound_to_dispatch (bound s) run start refl (omega arith), stops s Cell y (λ e. cc) run.is_at run.holds)

  pub stopped_row : (y : MachineState) (u : ℕ) (returned : Option GplOperation) → returned ≡ None → StartsRow s x y t u returned (operands_of s) →
      Turned s x y (from_dispatch t u) (Stopped Cell)
  stopped_row y u returned none l = stopped_by y u returned none (operands_of s) refl l

  -- what was made of the operands is the step
  step_of : (place : Place) (source : Source) (op : GplOperation) → operation_in s ≡ Some op → operands_of s ≡ Ok (place, source) →
      (r : Result Changes Reason) → row_result op s place source ≡ r → step s ≡ (r >>= λ (c : Changes). Ok (finished c))
  step_of place source op e is r f =
      let same : value_at (gone_on s) (row_width s) place ≡ value_at s (row_width s) place = value_same (gone_on s) s (row_width s) place refl refl in
      step_row s op fits e (subst (λ (o : Option GplOperation). is_row o ≡ true) e row)
      ∙ ap (λ (r : Result (Place × Source) Reason). r >>= row_after s op) is
      ∙ ap (λ (n : ℕ). result_of op (row_width s) place n source (unchanged (gone_on s)) >>= λ (c : Changes). Ok (finished c)) same
      ∙ ap (λ (r : Result Changes Reason). r >>= λ (c : Changes). Ok (finished c)) f

  made : (y : MachineState) (u most : ℕ) (place : Place) (source : Source) (op : GplOperation) → operation_in s ≡ Some op → operands_of s ≡ Ok (place, source)
      → most ≤ 411 →
      (r : Result Changes Reason) → row_result op s place source ≡ r → ReachesWithin most x y t u GSTEP (SeesResult r) → Turned s x y (from_dispatch t u) Stepped
  made y u most place source op e is le (Ok c) f run =
      let step_is = step_of place source op e is (Ok c) f in
      let b = bound_row s (finished c) op e (subst (λ (o : Option GplOperation). is_row o ≡ true) e row) step_is in
      turned_by x y t u bound_to_dispatch Stepped s (Ok (finished c)) step_is
      (refl, reaches bound_to_dispatch (bound s) run start refl (omega arith), matches (finished c) y run.is_at run.holds)
  made y u most place source op e is le (Err reason) f run = absurd (run.holds)

  -- a row that may stop, by what was made of the operands
  turned_as : (y : MachineState) (u most : ℕ) (place : Place) (source : Source) (op : GplOperation) (turn : Turn) → operation_in s ≡ Some op →
      operands_of s ≡ Ok (place, source) → most ≤ 371 →
      (r : Result Changes Reason) → row_result op s place source ≡ r → TurnsBy most s x y t u turn r → Turned s x y (from_dispatch t u) turn
  turned_as y u most place source op turn e is le (Ok c) f run =
      subst (λ (a : Turn). Turned s x y (from_dispatch t u) a) (sym run.0) (made y u most place source op e is (omega arith) (Ok c) f run.1)
  turned_as y u most place source op turn e is le (Err reason) f run =
      let step_is = step_of place source op e is (Err reason) f in
      let b = bound_stop s reason step_is in
      let other = never_exits s reason (row_stays (operation_in s) row) step_is in
      turned_by x y t u bound_to_dispatch turn s (Err reason) step_is
      (run.0, reaches bound_to_dispatch (bound s) run.1 start refl (omega arith), stops s reason y other run.1.is_at run.1.holds)

  ends_as : (op : GplOperation) (y z : MachineState) (u v most : ℕ) (place : Place) (source : Source) (turn : Turn) →
      ReachesWithin bound_to_row x y t u (row_entry (Some op)) (AtRow s place source) →
      is_turn_end (row_entry (Some op)) ≡ false → (r : Result Changes Reason) → TurnsBy most s y z u v turn r → TurnsBy (127 + most) s x z t v turn r
  ends_as op y z u v most place source turn c entry (Ok d) h = (h.0, comes_on 127 most c h.1 entry)
  ends_as op y z u v most place source turn c entry (Err reason) h = (h.0, comes_on 127 most c h.1 entry)

  pub turned_or_stopped : (op : GplOperation) (y z : MachineState) (u v most : ℕ) (turn : Turn) (b : Started op y u) → is_turn_end (row_entry (Some op)) ≡ false →
      TurnsRow op most y z u v turn → most ≤ 220 → Turned s x z (from_dispatch t v) turn
  turned_or_stopped op y z u v most turn b entry r le =
      turned_as z v (127 + most) b.place b.source op turn b.is_operation b.is_both (omega arith) (row_result op s b.place b.source) refl
      (ends_as op y z u v most b.place b.source turn b.comes entry (row_result op s b.place b.source)
      (r s b.place b.source b.is_operation b.comes.holds b.is_both))

  pub turned_row : (op : GplOperation) (y z : MachineState) (u v most : ℕ) (b : Started op y u) → is_turn_end (row_entry (Some op)) ≡ false →
      RunsRow op most y z u v → most ≤ 260 → Turned s x z (from_dispatch t v) Stepped
  turned_row op y z u v most b entry r le =
      made z v (127 + most) b.place b.source op b.is_operation b.is_both (omega arith) (row_result op s b.place b.source) refl
      (comes_on 127 most b.comes (r s b.place b.source b.is_operation b.comes.holds b.is_both) entry)
