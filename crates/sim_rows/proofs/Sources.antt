-- From OPSTWO until the source is loaded.
use Rattle.std.proofs.Common.{ℕ, ◌<◌, ◌==◌, ◌∙◌, ◌≡◌, ap, arith, Bool, Err, false, if◌then◌else◌, List, None, not, Ok, refl, Result}
use Rattle.std.proofs.Common.{slice_index, Some, subst, sym, true}
use Rattle.sim_view.proofs.Common.{comes, comes_as, comes_then, IsView, previous-next}
use Rattle.sim_rows.specs.Prelude.{◌>>=◌, ADDR, after_first, code_byte, ReachesWithin, Exit, exit, Exits, Finds, FindsOperand, GO, gone_on, GplOperand, GplSource}
use Rattle.sim_rows.specs.Prelude.{GplState, grom_at, GromState, GSTOP, has_source, in_register, is_immediate, Kept, last_out, LOAD, LoadsBy, LoadsValue}
use Rattle.sim_rows.specs.Prelude.{MachineState, next_at, next_of, operand_at, OPVAL, Place, place_of, Reason, row_width, second_by, second_of, ShowsState, shifted}
use Rattle.sim_rows.specs.Prelude.{size_of, Source, source_at, source_of, source_read, Sourced, SRL, STREAM, streamed, value_at, View, view, Width}
use Rattle.sim_rows.specs.Prelude.{width_in, word_of, word_or_byte}
use Rattle.sim_view.specs.gpl_defs.Reading.{value_at as value_in}
use Rattle.sim_operands.proofs.Transfers.{streams}
use Rattle.sim_rows.proofs.Again.{first_way, second_way}
use Rattle.sim_rows.proofs.StepStart.{from, known}
use Rattle.sim_rows.proofs.FirstOperand.{finds_of, holds_again, space_small, width_of_size}
use Rattle.sim_rows.proofs.Operands.{bars_second, finds_second, Found, immediate_bit, Loading, loads, Operand, value_same}
use Rattle.sim_rows.specs.sim_operands.Pieces as operands
use Rattle.sim_rows.specs.Pieces as pieces

-- the code byte is one where the view shows the image
pub code_fits : (s : GplState) (next : ℕ) (v : View) → IsView v → ShowsState s next v → code_byte s < 256
code_fits s next v i h =
    let P : List ℕ → Type 0 = λ image. slice_index image s.pc < 256 in
    subst P (ap (λ (g : GromState). g.image) h.grom) (i.grom.image.fits s.pc)

-- words are known by the width in register 3
word_is : (w : Bool) → not (size_of (word_or_byte w) == 1) ≡ w
word_is true = refl
word_is false = refl

module _ {x a : MachineState} {t t1 : ℕ} (e : Exits x a t t1 (pieces.request_second (view x))) where
  abbrev v : View
  v = view x

  abbrev pub tested : ℕ → View
  tested link = record v { r = record v.r { r4 = shifted SRL v.r.r0 2; r11 = link } }

  module _ (here : a.cpu.pc ≡ STREAM) where
    streaming : (last_out SRL v.r.r0 2 ≡ true) × Exits x a t t1 (exit 5 STREAM (tested GO))
    streaming = first_way STREAM x a t t1 (last_out SRL v.r.r0 2) (exit 5 STREAM (tested GO)) (exit 4 ADDR (tested OPVAL)) e (λ q. absurd (omega arith)) here

  module _ (away : a.cpu.pc ≡ STREAM → ⊥) where
    asking : (last_out SRL v.r.r0 2 ≡ false) × Exits x a t t1 (exit 4 ADDR (tested OPVAL))
    asking = second_way STREAM x a t t1 (last_out SRL v.r.r0 2) (exit 5 STREAM (tested GO)) (exit 4 ADDR (tested OPVAL)) e refl away

    pub shows_asking : view a ≡ tested OPVAL
    shows_asking = asking.1.shows

  module _ (i : IsView v) (s : GplState) (place : Place) (has : has_source s ≡ true) (k : Kept s place (after_first s) v) where
    abbrev next : ℕ
    next = after_first s

    -- what the source is
    bit_is : last_out SRL v.r.r0 2 ≡ is_immediate s
    bit_is = ap (λ n. last_out SRL n 2) k.holds.code ∙ immediate_bit (code_byte s) (code_fits s next v i k.holds.sees)

    abbrev read_by : Bool → GplSource × ℕ
    read_by b = source_at b (word_of s) s.image next

    next_is : (b : Bool) → is_immediate s ≡ b → next_of s ≡ (read_by b).1
    next_is b bit = ap (λ (o : Bool). if o then (source_read s).1 else next) has ∙ ap (λ (i : Bool). (read_by i).1) bit

    second_is : (b : Bool) → is_immediate s ≡ b → second_of s ≡ source_of (gone_on s) (row_width s) (read_by b).0
    second_is b bit = ap (λ (o : Bool). second_by o s) has ∙ ap (λ (i : Bool). source_of (gone_on s) (row_width s) (read_by i).0) bit

    -- it is there
    loaded : {y : MachineState} {u : ℕ} (source : Source) (b : Bool) → is_immediate s ≡ b → second_of s ≡ Ok source →
        ReachesWithin 59 x y t u GO (Sourced s place source (read_by b).1) → LoadsBy s place x y t u true (second_of s)
    loaded {y = y} {u = u} source b bit second c =
        subst (λ (r : Result Source Reason). LoadsBy s place x y t u true r) (sym second)
        (refl, subst (λ (n : ℕ). ReachesWithin 59 x y t u GO (Sourced s place source n)) (sym (next_is b bit)) c)

    -- ---- an immediate source

    module _ (here : a.cpu.pc ≡ STREAM) {b : MachineState} {t2 : ℕ} (e2 : Exits a b t1 t2 (operands.stream (view a))) where
      abbrev set : View
      set = record (tested GO) { grom = grom_at s.image next }

      abbrev read : ℕ × ℕ
      read = value_in (word_of s) s.image next

      streamed_is : ReachesWithin 11 x b t t2 GO (λ w. w ≡ streamed set)
      streamed_is =
          let by : GromState → Exit = λ g. operands.stream (record (tested GO) { grom = g }) in
          let c : ReachesWithin 5 x a t t1 STREAM (λ w. w ≡ tested GO) = comes (streaming here).1 (record { within = omega arith; to_is = refl; holds = refl }) in
          comes_then 5 6 c e2 (from operands.stream c.holds (known (ap by k.holds.sees.grom)
          (streams set (ap (grom_at s.image) (sym (previous-next next)))))) refl

      read_is : value_in (not (v.r.r3 == 1)) s.image (next_at set) ≡ read
      read_is =
          ap (λ (b : Bool). value_in b s.image (next_at set)) (ap (λ (n : ℕ). not (n == 1)) k.holds.bytes_are ∙ word_is (word_of s))
          ∙ ap (λ (n : ℕ). value_in (word_of s) s.image n) (previous-next next)

      pub immediate : LoadsBy s place x b t t2 true (second_of s)
      immediate =
          let bit = sym bit_is ∙ (streaming here).0 in
          loaded (record { number = read.0; place = None }) true bit (second_is true bit)
          (comes_as 59 _ streamed_is (omega arith) (λ w is. subst (Sourced s place (record { number = read.0; place = None }) read.1) (sym is) (record {
            holds = record {
              sees = record {
                cells = k.holds.sees.cells;
                vdp = k.holds.sees.vdp;
                registers = k.holds.sees.registers;
                held = k.holds.sees.held;
                grom = ap (λ (r : ℕ × ℕ). grom_at s.image r.1) read_is;
              };
              code = k.holds.code;
              address = k.holds.address;
              bytes_are = k.holds.bytes_are;
              mark = k.holds.mark;
            };
            to_place = record { address = k.to_place.address; space = k.to_place.space };
            destination = k.destination;
            from_source = tt;
            value = ap (λ (n : ℕ). in_register (width_in n) (value_in (not (v.r.r3 == 1)) s.image (next_at set)).0) k.holds.bytes_are
                ∙ ap (λ (w : Width). in_register w (value_in (not (v.r.r3 == 1)) s.image (next_at set)).0) (width_of_size (word_of s))
                ∙ ap (λ (r : ℕ × ℕ). in_register (row_width s) r.0) read_is;
          })))

    -- ---- a source at a place

    abbrev operand : GplOperand × ℕ
    operand = operand_at s.image next

    abbrev source_place : Result Place Reason
    source_place = place_of (gone_on s) (size_of (row_width s)) operand.0

    abbrev made_at : Place → Source
    made_at p = record { number = value_at (gone_on s) (row_width s) p; place = Some p }

    module _ (away : a.cpu.pc ≡ STREAM → ⊥) where
      second_place : second_of s ≡ (source_place >>= λ p. Ok (made_at p))
      second_place = second_is false (sym bit_is ∙ (asking away).0)

      asked : ReachesWithin 4 x a t t1 ADDR (Operand s place next)
      asked = comes (asking away).1 (record {
        within = omega arith;
        to_is = refl;
        holds = record {
          kept = record {
            holds = holds_again s (size_of (row_width s)) (size_of (row_width s)) next v (tested OPVAL) k.holds refl refl refl refl refl refl k.holds.bytes_are;
            to_place = record { address = k.to_place.address; space = k.to_place.space };
            destination = k.destination;
          };
          link = refl;
        };
      })

      module _ (b : MachineState) (t2 : ℕ) (f : FindsOperand a b t1 t2) where
        finds : Finds a b t1 t2 operand.1 source_place
        finds = finds_of s (gone_on s) (size_of (row_width s)) next a b t1 t2 asked.holds.kept.holds refl f

        pub bars : b.cpu.pc ≡ GSTOP → LoadsBy s place x b t t2 false (second_of s)
        bars here = by source_place refl finds
          where
            by : (r : Result Place Reason) → source_place ≡ r → Finds a b t1 t2 operand.1 r → LoadsBy s place x b t t2 false (second_of s)
            by (Ok source) is g = let there = (finds_second s place next asked source operand.1 g).is_at.pc in absurd (omega arith)
            by (Err reason) is g =
                subst (λ (r : Result Source Reason). LoadsBy s place x b t t2 false r)
                (sym (second_place ∙ ap (λ (r : Result Place Reason). r >>= λ p. Ok (made_at p)) is)) (refl, bars_second s place next asked reason g)

        -- it was found
        pub record SourceAt : Type 0 where
          pub source : Place
          pub is_place : source_place ≡ Ok source
          pub comes : ReachesWithin 42 x b t t2 OPVAL (Found s place source operand.1)

        module _ (elsewhere : b.cpu.pc ≡ GSTOP → ⊥) where
          found : SourceAt
          found = by source_place refl finds
            where
              by : (r : Result Place Reason) → source_place ≡ r → Finds a b t1 t2 operand.1 r → SourceAt
              by (Ok source) is g = record { source = source; is_place = is; comes = finds_second s place next asked source operand.1 g }
              by (Err reason) is g = absurd (elsewhere g.is_at.pc)

          module _ {c d : MachineState} {t3 t4 : ℕ} (e3 : Exits b c t2 t3 (pieces.load_second (view b))) (l : (view c).r.r5 < 2 → LoadsValue c d t3 t4) where
            loading : ReachesWithin 44 x c t t3 LOAD (Loading s (size_of (row_width s)) found.source place operand.1 GO)
            loading =
                let h = found.comes.holds in
                comes_then 42 2 found.comes e3 (record {
                  within = omega arith;
                  to_is = refl;
                  holds = record {
                    holds = holds_again s (size_of (row_width s)) (size_of (row_width s)) operand.1 (view b) (pieces.load_second (view b)).left h.kept.holds
                        refl refl refl refl refl refl h.kept.holds.bytes_are;
                    from = record { address = h.from.address; space = h.from.space };
                    to_place = record { address = h.kept.to_place.address; space = h.kept.to_place.space };
                    link = refl;
                  };
                }) refl

            pub placed : LoadsBy s place x d t t4 true (second_of s)
            placed =
                let h = found.comes.holds in
                let width : width_in (size_of (row_width s)) ≡ row_width s = width_of_size (word_of s) in
                let nine : (view c).r.r9 ≡ (view b).r.r9 = ap (λ (w : View). w.r.r9) e3.shows in
                let run = loads s (size_of (row_width s)) found.source place operand.1 GO 44 x c d t t3 t4 refl loading
                (l (space_small found.source.space (view c).r.r5 loading.holds.from.space)) in
                loaded (made_at found.source) false (sym bit_is ∙ (asking away).0)
                (second_place ∙ ap (λ (r : Result Place Reason). r >>= λ p. Ok (made_at p)) found.is_place) (comes_as 59 _ run (omega arith) (λ w q. record {
                  holds = q.holds;
                  to_place = q.to_place;
                  destination = λ reads. q.before ∙ nine ∙ h.kept.destination reads;
                  from_source = q.from;
                  value = q.value ∙ ap (λ (u : Width). in_register u (value_at s u found.source)) width
                      ∙ ap (in_register (row_width s)) (value_same s (gone_on s) (row_width s) found.source refl refl);
                }))
