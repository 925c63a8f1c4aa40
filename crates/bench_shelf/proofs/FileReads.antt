-- A file that was read, or was not.
use Rattle.std.proofs.Common.{◌≡◌, ℕ, List, length, Some, None, sym, ◌∙◌, arith}
use Rattle.std.specs.Prelude.{Option, IfSome}
use Rattle.std.specs.FinMap.{get}
use Rattle.bench_io.specs.Stream.{SourceState}
use Rattle.bench_io.specs.ReadAll.{Consumed, GaveUp}
use Rattle.bench_io.specs.declared.whole.ReadError.TheVariants as read
use Rattle.shelf_defs.specs.Files.{Files}
use Rattle.shelf_defs.specs.Questions.{Unanswered, Fits}
use Rattle.shelf_defs.specs.Amounts.{IsTaken}
use Rattle.bench_shelf.specs.States.{ShelfState, SameFiles}
use Rattle.bench_shelf.specs.Opening.{StartsAnew, SameCounts}
use Rattle.bench_shelf.specs.Causes.{AsksOne}

unanswered : (shown : Option Files) (name : List ℕ) (limit : ℕ) → IfSome shown (λ files. Fits limit Unanswered (get files name))
unanswered None name limit = tt
unanswered (Some files) name limit = tt

-- A file was asked for and opened, but not read.
module _ (limit : ℕ) (name : List ℕ) (s t : ShelfState) (anew : StartsAnew s t name) (counts : SameCounts s.source t.source)
    (same : t.files ≡ s.files) (u : ShelfState) (kept : SameFiles t u) where
  unread : (bytes : List ℕ) (empty : ℕ) → IsTaken limit Unanswered (length bytes) empty → Consumed t.source u.source bytes empty → AsksOne limit name Unanswered s u
  unread bytes empty taken consumed = record {
    reads = record {
      files = kept.files ∙ same;
      asked = kept.asked ∙ anew.asked;
      opens = omega (arith, kept.opens, anew.opens);
      bytes = length bytes;
      empty = empty;
      amounts = (length bytes, empty, taken, omega arith, omega arith, (omega arith, omega arith));
      taken = omega (arith, counts.taken, consumed.number);
      ends = omega (arith, counts.empty, consumed.none);
      calls = omega (arith, counts.calls, consumed.made.1, consumed.made.2);
      none = λ none. absurd cc;
    };
    fits = unanswered s.files name limit;
  }

  module _ (p q : SourceState) (from : p ≡ t.source) (to : q ≡ u.source) where
    pub asks_fault : GaveUp read.Fault limit p q → AsksOne limit name Unanswered s u
    asks_fault gave_up = unread gave_up.0 1 (gave_up.1, omega arith) (rw (sym from, sym to) gave_up.2)

    pub asks_memory : GaveUp read.Memory limit p q → AsksOne limit name Unanswered s u
    asks_memory gave_up = unread gave_up.0 0 (gave_up.1, omega arith) (rw (sym from, sym to) gave_up.2)
