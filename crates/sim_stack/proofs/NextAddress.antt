-- The address of the next byte is found, and GROM is set to it again: on views alone.
use Rattle.std.proofs.Common.{◌+◌, ◌<◌, arith, List, subst, sym, ℕ}
use Rattle.sim_rows.proofs.Common.{exit, Exit, FETCHP, FETCHS, grom_at, GromState, lost, next_in_grom}
use Rattle.sim_rows.proofs.Common.{shifted, SLA, View, with_grom_address}
use Rattle.sim_stack.proofs.Common.{◌>>◌, address_before, at_first, Ends, locate_stacked, one_at_most, one_if}
use Rattle.sim_stack.proofs.Common.{set_aside}
use Rattle.sim_jumps.proofs.NextAddress.{seeks}

-- WHERE and SEEK, whatever is made of the address and of GROM
module _ (image : List ℕ) (at link : ℕ) (made : ℕ → GromState → View) (f : View → Exit) {b to : ℕ} {R : View → Type 0}
    (fits : at < 65536) (next : Ends (f (made at (grom_at image at))) b to R) where
  abbrev found : ℕ → GromState → Exit
  found n grom = exit (7 + one_if (at_first (next_in_grom at)) + 2 + 3) link (made n grom)

  abbrev read : ℕ → Exit
  read n = found n (with_grom_address n (lost image at))

  pub found_first : Ends (read (address_before (next_in_grom at)) >> f) (13 + b) to R
  found_first =
      subst (λ (e : Exit). Ends (e >> f) (13 + b) to R) (sym (seeks image at (λ n. n) found fits fits)) (λ bytes.
      let g = next bytes in
      let w = g.within in
      let one = one_at_most (at_first (next_in_grom at)) in
      record { within = omega arith; to_is = g.to_is; holds = g.holds })

-- a view whose GROM is at an address
abbrev pub with_grom : View → List ℕ → ℕ → View
with_grom v image at = record v { grom = grom_at image at }

-- the address is in register 14
abbrev pub aside : View → List ℕ → ℕ → View
aside v image at = record v {
  r = record v.r { r4 = shifted SLA (next_in_grom at) 3; r6 = at; r11 = FETCHP; r14 = at };
  grom = grom_at image at;
}

pub aside_first : (v : View) (image : List ℕ) (at : ℕ) (f : View → Exit) {b to : ℕ} {R : View → Type 0} → at < 65536 →
    Ends (f (aside v image at)) b to R → Ends (set_aside (with_grom v image at) >> f) (13 + b) to R
aside_first v image at f fits next =
    let made : ℕ → GromState → View =
    λ n g. record (aside v image at) { r = record (aside v image at).r { r6 = n; r14 = n }; grom = g } in
    found_first image at FETCHP made f fits next

-- the address is in register 9
abbrev pub located : View → List ℕ → ℕ → View
located v image at = record v {
  r = record v.r { r4 = shifted SLA (next_in_grom at) 3; r6 = at; r9 = at; r11 = FETCHS };
  grom = grom_at image at;
}

pub located_first : (v : View) (image : List ℕ) (at : ℕ) (f : View → Exit) {b to : ℕ} {R : View → Type 0} →
    at < 65536 →
    Ends (f (located v image at)) b to R → Ends (locate_stacked (with_grom v image at) >> f) (13 + b) to R
located_first v image at f fits next =
    let made : ℕ → GromState → View =
    λ n g. record (located v image at) { r = record (located v image at).r { r6 = n; r9 = n }; grom = g } in
    found_first image at FETCHS made f fits next
