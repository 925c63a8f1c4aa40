-- The length, the target and the source, one after the other, on the machine.
use Rattle.std.proofs.Common.{ℕ, ◌<◌, ◌∙◌, ◌≡◌, arith, Bool, Err, Ok, Option, refl, Result, Some, subst, sym, true}
use Rattle.sim_rows.proofs.Common.{◌>>=◌, AtDispatch, code_byte, comes, Dispatched, Exits, FromGrom, Goes, GOMOVE, GplOperation, GplState}
use Rattle.sim_rows.proofs.Common.{GromIndexedToMemory, GromToMemory, GromToRegisters, GSTOP, index_by, indexed, is_view, length_of, MachineState}
use Rattle.sim_rows.proofs.Common.{MemoryToMemory, Move, MOVEB, MoveKind, MOVEL, MOVES, MOVEX, Moving, next_in_grom, operation_entry, operation_in}
use Rattle.sim_rows.proofs.Common.{operation_in_view}
use Rattle.sim_rows.proofs.Common.{Reason, ReachesWithin, IsAt, state_at_dispatch, StoppedBy, To, ToMemory, ToRegisters, View, view, word_at}
use Rattle.sim_rows.specs.sim_view.Prelude.{HoldsBytes}
use Rattle.sim_rows.proofs.sim_operands.Ends.{EndsBy, not_at}
use Rattle.sim_move.specs.Copying.{HoldsTarget}
use Rattle.sim_move.specs.Family.{is_move}
use Rattle.sim_move.specs.Moves.{BeforeCopy, FindsCopy, found_in, length_read, source_read, target_read}
use Rattle.sim_move.specs.Rows.{find_length, find_places, index_source, turn_to_source}
use Rattle.sim_move.proofs.Codes.{from_grom, has_index, Encodes, encodes}
use Rattle.sim_move.proofs.Arrivals.{Comes, comes_as_stated, comes_stopped, comes_there, then_comes}
use Rattle.sim_jumps.proofs.NextAddress.{next_fits}
use Rattle.sim_move.proofs.Found.{found_after_length, found_is, target_in, whole, with_from, with_source}
use Rattle.sim_move.proofs.Lengths.{length_ends}
use Rattle.sim_move.proofs.Seen.{dispatched_is, LengthFound, number_to, seen, SourceFound, space_to, stood, TargetFound}
use Rattle.sim_move.proofs.Sources.{source_ends, source_returns, turned, turns}
use Rattle.sim_move.proofs.Targets.{places_in_memory, places_to_grom}

-- a MOVE is of some kind
pub kind_of : (o : Option GplOperation) → is_move o ≡ true → (kind : MoveKind) × (o ≡ Some (Move kind))
kind_of (Some (Move kind)) e = (kind, refl)
kind_of _ e = absurd (cc)

pub entry_is : (o : Option GplOperation) → is_move o ≡ true → operation_entry o ≡ GOMOVE
entry_is (Some (Move kind)) e = refl
entry_is _ e = absurd (cc)

by_kind : (P : MoveKind → Type 0) → P MemoryToMemory → ((kind : MoveKind) → from_grom kind ≡ true → P kind) → (kind : MoveKind) → P kind
by_kind P m g MemoryToMemory = m
by_kind P m g GromToMemory = g GromToMemory refl
by_kind P m g GromIndexedToMemory = g GromIndexedToMemory refl
by_kind P m g GromToRegisters = g GromToRegisters refl

-- how a target is in the registers
holds_target : (to : To) (w : View) → w.r.r7 ≡ number_to to → w.r.r8 ≡ space_to to → HoldsTarget to w
holds_target (ToMemory place) w a b = record { address = a; space = b }
holds_target (ToRegisters number) w a b = record { number_is = a; space = b }

pub at_move : {x : MachineState} → AtDispatch is_move x → IsAt x GOMOVE
at_move {x = x} at = subst (λ (p : ℕ). IsAt x p) (entry_is (operation_in_view (view x)) at.family) at.is_at

-- the state of the step
abbrev pub state : MachineState → GplState
state x = state_at_dispatch (view x)

-- ---- a source in GROM, of whatever kind

module _ (s : GplState) (kind : MoveKind) (found : ℕ × To) where
  abbrev address : ℕ × ℕ
  address = word_at s.image (target_read kind s).1

  abbrev index_of : Bool → Option ℕ × ℕ
  index_of b = index_by b s.image address.1

  abbrev from_address : ℕ → Result Moving Reason
  from_address address = Ok (with_from found (FromGrom address))

abbrev Origin : GplState → (ℕ × To) → MoveKind → Type 0
Origin s found kind = with_source s (source_read kind s).0 found
    ≡ (indexed s (index_of s kind found (has_index kind)).0 (address s kind found).0 >>= from_address s kind found)

then_pair : (r : Result ℕ Reason) (found : ℕ × To) →
    ((r >>= λ address. Ok (FromGrom address)) >>= λ from. Ok (with_from found from)) ≡ (r >>= λ address. Ok (with_from found (FromGrom address)))
then_pair (Ok address) found = refl
then_pair (Err reason) found = refl

origin_is : (s : GplState) (found : ℕ × To) (kind : MoveKind) → from_grom kind ≡ true → Origin s found kind
origin_is s found GromIndexedToMemory g =
    then_pair (indexed s (index_of s GromIndexedToMemory found true).0 (address s GromIndexedToMemory found).0) found
origin_is s found MemoryToMemory g = absurd (cc)
origin_is s found _ g = refl

next_is : (s : GplState) (found : ℕ × To) (kind : MoveKind) → from_grom kind ≡ true →
    (source_read kind s).1 ≡ (index_of s kind found (has_index kind)).1
next_is s found MemoryToMemory g = absurd (cc)
next_is s found _ g = refl

-- ---- the four parts

module _ {x a : MachineState} {t t1 : ℕ} (is_at : IsAt x GOMOVE) (dispatched : Dispatched (state x) (view x))
    (one : Exits x a t t1 (find_length (view x))) where
  abbrev s : GplState
  s = state x

  bytes : HoldsBytes 65536 s.image
  bytes = (is_view x is_at.machine).grom.image

  fits : code_byte s < 256
  fits = bytes.fits s.pc

  length : Comes 61 s x a t t1 MOVEL (LengthFound s (length_read s).1) (length_of s (length_read s).0)
  length =
      let v = view x in
      let By : View → Type 0 = λ w. (find_length w).left.r.r2 < 65536 →
      EndsBy (find_length w) 61 MOVEL (LengthFound s (length_read s).1) (StoppedBy s) (length_of s (length_read s).0) in
      let r2 : (find_length v).left.r.r2 < 65536 = subst (λ (w : View). w.r.r2 < 65536) one.shows ((is_view a one.is_at.machine).r 2) in
      comes_as_stated s (length_of s (length_read s).0) one (subst By (sym (dispatched_is s v dispatched)) (length_ends s v bytes) r2)

  abbrev Finds : MoveKind → MachineState → ℕ → Type 0
  Finds kind y u = operation_in s ≡ Some (Move kind) → Comes 160 s x y t u MOVEB (BeforeCopy kind s) (whole kind s)

  abbrev finds_copy : (y : MachineState) (u : ℕ) → ((kind : MoveKind) → Finds kind y u) → FindsCopy s x y t u
  finds_copy y u h = record {
    by = λ kind known.
        let c : Comes 160 s x y t u MOVEB (BeforeCopy kind s) (found_in kind s) =
        subst (Comes 160 s x y t u MOVEB (BeforeCopy kind s)) (found_is kind s) (h kind known) in
        c.by;
  }

  pub no_length : (a.cpu.pc ≡ MOVEL → ⊥) → FindsCopy s x a t t1
  no_length away = finds_copy a t1 (λ kind known. comes_stopped (length_of s (length_read s).0) (found_after_length kind s) (omega arith) away length)

  module _ (here : a.cpu.pc ≡ MOVEL) {b : MachineState} {t2 : ℕ} (two : Exits a b t1 t2 (find_places (view a))) where
    after_length : (kind : MoveKind) (y : MachineState) (u : ℕ) →
        ((count : ℕ) → LengthFound s (length_read s).1 count (view a) → Comes 99 s a y t1 u MOVEB (BeforeCopy kind s) (found_after_length kind s count)) →
        Comes 160 s x y t u MOVEB (BeforeCopy kind s) (whole kind s)
    after_length kind y u next = then_comes (length_of s (length_read s).0) (found_after_length kind s) refl here length next

    memory : (count : ℕ) → Encodes (code_byte s) MemoryToMemory → LengthFound s (length_read s).1 count (view a) →
        Comes 99 s a b t1 t2 MOVEB (BeforeCopy MemoryToMemory s) (found_after_length MemoryToMemory s count)
    memory count k h =
        let By : View → Type 0 = λ w. EndsBy (find_places w) 99 MOVEB (BeforeCopy MemoryToMemory s) (StoppedBy s) (found_after_length MemoryToMemory s count) in
        comes_as_stated s (found_after_length MemoryToMemory s count) two (subst By (sym h) (places_in_memory s count (view a) bytes k))

    in_memory : Finds MemoryToMemory b t2
    in_memory known = after_length MemoryToMemory b t2 (λ count. memory count (encodes (code_byte s) MemoryToMemory fits known))

    target : (kind : MoveKind) (count : ℕ) → from_grom kind ≡ true → operation_in s ≡ Some (Move kind) →
        LengthFound s (length_read s).1 count (view a) →
        Comes 50 s a b t1 t2 MOVES (TargetFound s (target_read kind s).1) (target_in s count (target_read kind s).0)
    target kind count g known h =
        let By : View → Type 0 = λ w. EndsBy (find_places w) 50 MOVES (TargetFound s (target_read kind s).1) (StoppedBy s)
        (target_in s count (target_read kind s).0) in
        comes_as_stated s (target_in s count (target_read kind s).0) two
        (subst By (sym h) (places_to_grom s count (view a) bytes kind (encodes (code_byte s) kind fits known) g))

    pub no_target : (b.cpu.pc ≡ MOVES → ⊥) → FindsCopy s x b t t2
    no_target away = finds_copy b t2 (by_kind (λ kind. Finds kind b t2) in_memory (λ kind g known.
        after_length kind b t2 (λ count h.
        comes_stopped (target_in s count (target_read kind s).0) (with_source s (source_read kind s).0) (omega arith) away (target kind count g known h))))

    module _ (there : b.cpu.pc ≡ MOVES) {c : MachineState} {t3 : ℕ} (three : Exits b c t2 t3 (index_source (view b))) where
      -- it is in memory no longer
      not_memory : (y : MachineState) (u : ℕ) → Finds MemoryToMemory y u
      not_memory y u known = absurd (comes_there MOVES (whole MemoryToMemory s) refl refl (in_memory known) there)

      source : (kind : MoveKind) (found : ℕ × To) → operation_in s ≡ Some (Move kind) → TargetFound s (target_read kind s).1 found (view b) →
          (let index = index_of s kind found (has_index kind) in
          Comes 32 s b c t2 t3 MOVEX (SourceFound s index.1 found) (indexed s index.0 (address s kind found).0))
      source kind found known h =
          let By : Bool → View → Type 0 = λ i w. (let index = index_of s kind found i in
          EndsBy (index_source w) 32 MOVEX (SourceFound s index.1 found) (StoppedBy s) (indexed s index.0 (address s kind found).0)) in
          let bit = (encodes (code_byte s) kind fits known).index in
          let index = index_of s kind found (has_index kind) in
          comes_as_stated s (indexed s index.0 (address s kind found).0) three
          (subst (By (has_index kind)) (sym h) (subst (λ (i : Bool). By i (seen s (target_read kind s).1 (stood found (view b)))) bit
          (source_ends s (target_read kind s).1 found (view b) fits)))

      -- what is found from the target on
      from_target : (kind : MoveKind) (y : MachineState) (u : ℕ) → from_grom kind ≡ true → operation_in s ≡ Some (Move kind) →
          ((found : ℕ × To) → TargetFound s (target_read kind s).1 found (view b) →
          (let index = index_of s kind found (has_index kind) in
          Comes 49 s b y t2 u MOVEB (BeforeCopy kind s) (indexed s index.0 (address s kind found).0 >>= from_address s kind found))) →
          Comes 160 s x y t u MOVEB (BeforeCopy kind s) (whole kind s)
      from_target kind y u g known next =
          after_length kind y u (λ count h.
          then_comes (target_in s count (target_read kind s).0) (with_source s (source_read kind s).0) refl there (target kind count g known h)
          (λ found h.
          let By : Result Moving Reason → Type 0 = Comes 49 s b y t2 u MOVEB (BeforeCopy kind s) in
          subst By (sym (origin_is s found kind g)) (next found h)))

      pub no_source : c.cpu.pc ≡ GSTOP → FindsCopy s x c t t3
      no_source stop = finds_copy c t3 (by_kind (λ kind. Finds kind c t3) (not_memory c t3) (λ kind g known.
          from_target kind c t3 g known (λ found h.
          let index = index_of s kind found (has_index kind) in
          comes_stopped (indexed s index.0 (address s kind found).0) (from_address s kind found) (omega arith)
          (λ e. let n = sym stop ∙ e in absurd (omega arith)) (source kind found known h))))

      module _ (on : c.cpu.pc ≡ GSTOP → ⊥) where
        pub at_turn : IsAt c MOVEX
        at_turn = subst (λ (p : ℕ). IsAt c p) (source_returns (view b) (not_at GSTOP three on)) three.is_at

        module _ {y : MachineState} {t4 : ℕ} (four : Exits c y t3 t4 (turn_to_source (view c))) where
          turn : (kind : MoveKind) (found : ℕ × To) (address : ℕ) → from_grom kind ≡ true →
              (let index = index_of s kind found (has_index kind) in
              SourceFound s index.1 found address (view c) →
              Comes 17 s c y t3 t4 MOVEB (BeforeCopy kind s) (from_address s kind found address))
          turn kind found address g h =
              let at = (index_of s kind found (has_index kind)).1 in
              let q = seen s at (stood found (record (view c) { r = record (view c).r { r2 = address } })) in
              let i = is_view c three.is_at.machine in
              let near : address < 65536 = subst (λ (w : View). w.r.r2 < 65536) h (i.r 2) in
              let counter : next_in_grom at < 65536 = subst (λ (w : View). w.grom.counter < 65536) h i.grom.counter in
              let By : View → Type 0 = λ w. Goes (turn_to_source w) 17 MOVEB (λ w. w ≡ turned q s.image at) in
              let run : ReachesWithin 17 c y t3 t4 MOVEB (λ w. w ≡ turned q s.image at) =
              comes four (subst By (sym h) (turns q s.image at (next_fits at counter) near)) in
              record {
                by = record {
                  count = run.count;
                  within = run.within;
                  counted = run.counted;
                  runs = run.runs;
                  is_at = run.is_at;
                  holds = subst (BeforeCopy kind s (with_from found (FromGrom address))) (sym run.holds) (record {
                    cells = refl;
                    vdp = refl;
                    registers = refl;
                    held = refl;
                    mark = refl;
                    holds_source = record { space = refl; grom = refl; back = sym (next_is s found kind g) };
                    holds_target = holds_target found.1 (turned q s.image at) refl refl;
                    left = refl;
                  });
                };
              }

          pub from_source : FindsCopy s x y t t4
          from_source = finds_copy y t4 (by_kind (λ kind. Finds kind y t4) (not_memory y t4) (λ kind g known.
              from_target kind y t4 g known (λ found h.
              let index = index_of s kind found (has_index kind) in
              then_comes (indexed s index.0 (address s kind found).0) (from_address s kind found) refl at_turn.pc (source kind found known h)
              (λ address. turn kind found address g))))
