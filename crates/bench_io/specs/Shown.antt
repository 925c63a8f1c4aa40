-- What an adapter over a stream of std shows of its bytes.
use Rattle.std.specs.Prelude.{◌≡◌, ℕ, ◌≤◌, List, Option, Some, None, IfSome, Bool, true, false}
use Rattle.std.specs.Io.KnownBytes.{append_known}
use Rattle.base_defs.specs.Counts.{Rose}
use Rattle.bench_io.specs.Stream.{SinkState}

-- how many of a stream's bytes are shown: all as one list, or none
abbrev pub shown_count : Option (List ℕ) → ℕ
shown_count None = 0
shown_count (Some bytes) = 1

-- a stream that showed its bytes first shows them now
abbrev pub GoesOn : Option (List ℕ) → Option (List ℕ) → Type 0
GoesOn first now = shown_count first ≤ shown_count now

-- the bytes that are shown now, of a stream that showed its bytes first
abbrev pub shown_since : Option (List ℕ) → Option (List ℕ) → Option (List ℕ)
shown_since None now = None
shown_since (Some bytes) now = now

-- what an adapter shows is what its stream has
abbrev pub ShowsStream : Option (List ℕ) → Option (List ℕ) → Type 0
ShowsStream shown now = IfSome shown (λ bytes. now ≡ Some bytes)

-- A sink over a buffered writer, and the sink over the writer alone after the buffer was written out: all of it was, and
-- the counts are the same; or a rest was not, and the count of faults rose.
abbrev pub Unbuffered : SinkState → SinkState → Bool → Type 0
Unbuffered before after true =
    ShowsStream before.held after.held × (after.puts ≡ before.puts) × (after.faults ≡ before.faults)
Unbuffered before after false =
    (rest : List ℕ) × ShowsStream before.held (append_known after.held rest) × (after.puts ≡ before.puts)
    × Rose before.faults after.faults
