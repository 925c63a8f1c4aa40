-- Where lines stop that are copied one after the other.
use Rattle.std.proofs.Common.{◌≡◌, ℕ, List, ◌∷◌, ◌++◌, refl, ap, ◌∙◌, subst, append_assoc, inl, inr}
use Rattle.shelf_defs.specs.Copied.{PlacedLine, Ending, Open, Copied, prepend, followed}
use Rattle.bench_shelf.specs.declared.copying.Copying.{Copying}
use Rattle.bench_shelf.specs.declared.copy_error.CopyError.{CopyError}
use Rattle.bench_shelf.specs.declared.copy_error.CopyError.TheVariants.{Fault, Memory}
use Rattle.bench_shelf.specs.Leading.{IsRefusal, Halts, Stopped, IfReported}

pub if_reported : (P Q : Type 0) (error : CopyError) → (P → Q) → IfReported error P → IfReported error Q
if_reported P Q Fault next reported = tt
if_reported P Q Memory next reported = tt
if_reported P Q _ next reported = next reported

pub reported_if : (P : Type 0) (error : CopyError) → P → IfReported error P
reported_if P Fault holds = tt
reported_if P Memory holds = tt
reported_if P _ holds = holds

-- more lines after the refused one
halts_more : (all taken more : List PlacedLine) (ending other : Ending) → ending ≡ Open → Halts all ending taken → Halts (all ++ more) other taken
halts_more all taken more ending other ends (inl (are, refused)) = absurd (subst IsRefusal ends refused)
halts_more all taken more ending other ends (inr next) = inr (record {
  line = next.line;
  rest = next.rest ++ more;
  are = ap (λ lines. lines ++ more) next.are ∙ append_assoc taken (next.line ∷ next.rest) more;
  refusal = next.refusal;
  number = next.number;
  is = next.is;
})

-- lines that were taken, and others one of which is refused
pub stopped_after : (done first : List PlacedLine) (rest : Copied) (new : Copying) → Stopped (done ++ first) rest new → Stopped done (prepend first rest) new
stopped_after done first rest new stopped = record {
  taken = stopped.taken;
  holds = stopped.holds;
  halts = subst (λ all. Halts all rest.ending stopped.taken) (append_assoc done first rest.lines) stopped.halts;
}

-- lines one of which is refused, and others
pub halted : (done : List PlacedLine) (lines : List PlacedLine) (copies : ℕ) (ending : Ending) (next : ℕ → Copied) (new : Copying)
    → Stopped done (record { lines = lines; copies = copies; ending = ending }) new
    → Stopped done (followed (record { lines = lines; copies = copies; ending = ending }) next) new
halted done lines copies Open next new stopped =
    let rest = next copies in
    stopped_after done lines rest new (record {
      taken = stopped.taken;
      holds = stopped.holds;
      halts = halts_more (done ++ lines) stopped.taken rest.lines Open rest.ending refl stopped.halts;
    })
halted done lines copies _ next new stopped = stopped
