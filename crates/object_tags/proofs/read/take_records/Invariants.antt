use Rattle.std.proofs.Common.{◌≡◌, ◌-◌}
use Rattle.std.specs.Prelude.{map}
use Rattle.std.specs.List.{range_with_len}
use Rattle.object_defs.specs.Reading.{record_at, records}
use Rattle.object_laws.specs.Running.{kept_lines}
use Rattle.object_tags.specs.Reads.{kept_of}
use Rattle.object_tags.proofs.read.take_records.Given as goal

-- the records that are left go on from here
abbrev pub invariant-loop-k : goal.invariant-loop-k
invariant-loop-k l = kept_lines l.form (kept_of l.fn.reader) (records l.text)
    ≡ kept_lines l.form (kept_of l.reader) (map (record_at l.text) (range_with_len l.k (l.k-end - l.k)))
