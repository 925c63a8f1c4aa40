-- What an adapter shows of a stream, by what std says of the stream.
use Rattle.std.proofs.Common.{◌≡◌, ℕ, List, [], take, Option, Some, None, true, false, Result, Ok, Err, refl, sym, ap, ◌∙◌, subst, append-nil, arith}
use Rattle.std.specs.Prelude.{Bool, OnOk, if◌then◌else◌}
use Rattle.std.specs.Result.{is_ok}
use Rattle.std.specs.Io.KnownBytes as known
use Rattle.std.specs.Io.KnownBytes.{Consumes, Keeps, Appends, append_known}
use Rattle.bench_io.specs.Stream.{Gave, Grew, GrewByPrefix, AppendsPrefix, IsAtEnd}
use Rattle.base_defs.specs.Counts.{saturating_sum, Rose}
use Rattle.bench_io.specs.Shown.{GoesOn, ShowsStream, Unbuffered, shown_since}

pub shown_gave : (first old new : Option (List ℕ)) (bytes : List ℕ) → GoesOn first old → Consumes old new bytes
    → Gave (shown_since first old) (shown_since first new) bytes
shown_gave None old new bytes on consumed = refl
shown_gave (Some x) None new bytes on consumed = absurd (omega (arith, on))
shown_gave (Some x) (Some y) None bytes on consumed = absurd consumed
shown_gave (Some x) (Some y) (Some z) bytes on consumed = ap Some consumed

pub shown_end : (first now : Option (List ℕ)) → known.IsAtEnd now → IsAtEnd (shown_since first now)
shown_end None now end = tt
shown_end (Some x) None end = tt
shown_end (Some x) (Some y) end = end

pub shown_kept : (first old new : Option (List ℕ)) → GoesOn first old → Keeps old new
    → shown_since first new ≡ shown_since first old
shown_kept None old new on kept = refl
shown_kept (Some x) None new on kept = absurd (omega (arith, on))
shown_kept (Some x) (Some y) None on kept = absurd kept
shown_kept (Some x) (Some y) (Some z) on kept = ap Some kept

pub shown_grew : (first old new : Option (List ℕ)) (bytes : List ℕ) → GoesOn first old → Appends old new bytes
    → Grew (shown_since first old) (shown_since first new) bytes
shown_grew None old new bytes on got = refl
shown_grew (Some x) None new bytes on got = absurd (omega (arith, on))
shown_grew (Some x) (Some y) None bytes on got = absurd got
shown_grew (Some x) (Some y) (Some z) bytes on got = ap Some got

pub shown_front : (first old new : Option (List ℕ)) (bytes : List ℕ) → GoesOn first old → AppendsPrefix old new bytes
    → GrewByPrefix (shown_since first old) (shown_since first new) bytes
shown_front first old new bytes on (count, got) = (count, shown_grew first old new (take count bytes) on got)

pub shown_now : (first now : Option (List ℕ)) → ShowsStream (shown_since first now) now
shown_now None now = tt
shown_now (Some x) None = tt
shown_now (Some x) (Some y) = refl

-- ---- a buffer that is written out

append_none : (a : Option (List ℕ)) → append_known a [] ≡ a
append_none None = refl
append_none (Some x) = ap Some (append-nil x)

shown_same : (a : Option (List ℕ)) → shown_since a a ≡ a
shown_same None = refl
shown_same (Some x) = refl

shows_kept : (first now new : Option (List ℕ)) → Keeps now new → ShowsStream (shown_since first now) new
shows_kept None now new keeps = tt
shows_kept (Some f) None new keeps = tt
shows_kept (Some f) (Some y) None keeps = absurd keeps
shows_kept (Some f) (Some y) (Some z) keeps = ap Some keeps

if_written : {T E : Type 0} (r : Result T E) (P : Type 0) → OnOk r P → is_ok r ≡ true → P
if_written (Ok x) P holds is = holds
if_written (Err x) P holds is = let no : false ≡ true = is in absurd (cc no)

pub unbuffered : {T E : Type 0} (first now out : Option (List ℕ)) (buffer : List ℕ) (puts faults : ℕ) (flushed : Result T E) (written : Bool)
    → Keeps now (append_known out buffer) → written ≡ is_ok flushed → OnOk flushed (buffer ≡ [])
    → Rose faults (saturating_sum faults 1)
    → Unbuffered (record { held = shown_since first now; puts = puts; faults = faults })
    (record { held = shown_since out out; puts = puts; faults = if written then faults else saturating_sum faults 1 }) written
unbuffered first now out buffer puts faults flushed true keeps is empty rose =
    let none : buffer ≡ [] = if_written flushed (buffer ≡ []) empty (sym is) in
    let B : List ℕ → Type 0 = λ b. Keeps now (append_known out b) in
    let K : Option (List ℕ) → Type 0 = λ a. Keeps now a in
    (shows_kept first now (shown_since out out) (subst K (append_none out ∙ sym (shown_same out)) (subst B none keeps)), refl, refl)
unbuffered first now out buffer puts faults flushed false keeps is empty rose =
    let K : Option (List ℕ) → Type 0 = λ a. Keeps now (append_known a buffer) in
    (buffer, shows_kept first now (append_known (shown_since out out) buffer) (subst K (sym (shown_same out)) keeps), refl, rose)
