-- What an answer shows of a shelf holds of an earlier shelf too.
use Rattle.std.proofs.Common.{◌≡◌, Ok, Err, arith}
use Rattle.std.specs.Prelude.{Result, IfErr}
use Rattle.bench_io.proofs.TakeCalls.{rose_since}
use Rattle.shelf_defs.specs.Copied.{most_bytes}
use Rattle.bench_shelf.specs.States.{ShelfState}
use Rattle.bench_shelf.specs.declared.error.FileError.{FileError}
use Rattle.bench_shelf.specs.declared.error.FileError.TheVariants as unread
use Rattle.bench_shelf.specs.declared.place.Place.{Place}
use Rattle.bench_shelf.specs.declared.copy_error.CopyCause.TheVariants.{Missing}
use Rattle.bench_shelf.specs.declared.copy_error.CopyError.{CopyError}
use Rattle.bench_shelf.specs.declared.copy_error.CopyError.TheVariants.{At, TooLarge, Fault, Memory}
use Rattle.bench_shelf.specs.Causes.{CountsGrew, FileCauses, ShelfCauses, ReadWithinLimit}
use Rattle.bench_shelf.specs.CopyAnswers.{unread_at}
use Rattle.bench_shelf.proofs.UnchangedParts.{within_then}

-- what an unread file says of the shelf, the error of its COPY line says too
pub causes_unread : (a b : ShelfState) (place : Place) (error : FileError) (error_is : CopyError) → error_is ≡ unread_at place error → FileCauses most_bytes error a b
    → ShelfCauses error_is a b
causes_unread a b place unread.TooLarge error_is is causes = rw is causes
causes_unread a b place _ error_is is causes = rw is causes

module _ (a b c : ShelfState) (later : CountsGrew a b) (within : ReadWithinLimit most_bytes a b) where
  pub causes_since : (error : CopyError) → ShelfCauses error b c → ShelfCauses error a c
  causes_since (At file line (Missing name)) causes =
      (rose_since _ _ _ later.misses causes.0, within_then most_bytes a b c within causes.1)
  causes_since (At file line _) causes = (causes.0, within_then most_bytes a b c within causes.1)
  causes_since TooLarge causes =
      record { given = causes.given; largest = causes.largest; taken = omega (arith, later.taken, causes.taken) }
  causes_since Fault causes = (rose_since _ _ _ later.faults causes.0, within_then most_bytes a b c within causes.1)
  causes_since Memory causes = within_then most_bytes a b c within causes

  pub each_since : {A : Type 0} (result : Result A CopyError) → IfErr result (λ error. ShelfCauses error b c)
      → IfErr result (λ error. ShelfCauses error a c)
  each_since (Ok value) causes = tt
  each_since (Err error) causes = causes_since error causes
