-- The ports at the entry of a subroutine.
use Rattle.std.proofs.Common.{ℕ, ◌%◌, ◌*◌, ◌+◌, ◌/◌, ◌<◌, ◌∙◌, ◌≡◌, ap, arith, Bool, false, is_none, None, Option, refl, slice_index, Some, sym, true}
use Rattle.std.proofs.lemmas.Bool.{not-true}
use Rattle.sim_view.proofs.Common.{Exit, GromState, is_grom_idle, IsFetched, join, Memory, next-previous, next_in_grom, PortsAreIdle}
use Rattle.sim_view.proofs.Common.{previous_in_grom, View, view_of}
use Rattle.sim_operands.specs.Pieces.{past, with_grom_address}
use Rattle.sim_operands.specs.Subroutines.{fetched, grom_at, next_at, after_seek}
use Rattle.sim_operands.specs.Pieces as pieces

none_is : (held : Option ℕ) → is_none held ≡ true → held ≡ None
none_is None e = refl
none_is (Some byte) e = absurd (cc)

grom_ready : (g : GromState) → is_grom_idle g ≡ true → IsFetched g → g ≡ grom_at g.image (previous_in_grom g.counter)
grom_ready g idle is =
    let made : ℕ → ℕ → Bool → GromState = λ c f h. record { image = g.image; counter = c; fetched = f; half_written = h } in
    let at = previous_in_grom g.counter in
    ap (λ c. made c g.fetched g.half_written) (sym (next-previous g.counter))
    ∙ ap (λ f. made (next_in_grom at) f g.half_written) is
    ∙ ap (λ h. made (next_in_grom at) (slice_index g.image at) h) (not-true g.half_written idle)

-- The GROMs of a machine that is ready for a subroutine give the byte at their address next.
pub ready : (m : Memory) → PortsAreIdle m → IsFetched m.grom → (view_of m).grom ≡ grom_at (view_of m).grom.image (next_at (view_of m))
unfolding view_of
ready m idle is = grom_ready m.grom idle.grom is

pub idle_grom : (m : Memory) → PortsAreIdle m → (view_of m).grom.half_written ≡ false
unfolding view_of
idle_grom m idle = not-true m.grom.half_written idle.grom

pub idle_video : (m : Memory) → PortsAreIdle m → (view_of m).vdp.held ≡ None
unfolding view_of
idle_video m idle = none_is m.vdp.held idle.vdp

pub fetches : (v : View) → v.grom ≡ grom_at v.grom.image (next_at v) → pieces.fetch v ≡ fetched v
fetches v e =
    let left : GromState → Exit = λ g. pieces.exit 3 (pieces.return_of v) (record v { r = record v.r { r6 = join g.fetched 0 }; grom = past g }) in
    ap left e

pub set_is : (g : GromState) (word : ℕ) → g.half_written ≡ false → word < 65536 → with_grom_address word g ≡ grom_at g.image word
set_is g word h k =
    let j : 256 * ((256 * (word / 256) + g.counter % 256) / 256) + word % 256 ≡ word = omega arith in rw (h, j) refl

pub seeks : (v : View) → v.grom.half_written ≡ false → v.r.r6 < 65536 → pieces.seek v ≡ after_seek v
seeks v h k =
    let left : GromState → Exit = λ g. pieces.exit 3 (pieces.return_of v) (record v { grom = g }) in
    ap left (set_is v.grom v.r.r6 h k)
