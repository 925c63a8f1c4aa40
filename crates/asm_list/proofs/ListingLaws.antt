-- The rows of kept lines are those of the listing.
use Rattle.std.proofs.Common.{◌≡◌, ℕ, List, ◌++◌, None, Ok, refl, sym, ap, ◌∙◌, subst, map}
use Rattle.std.proofs.Common.{append-nil}
use Rattle.std.specs.Prelude.{Option}
use Rattle.shelf_defs.specs.Copied.{Copied, copied_by}
use Rattle.asm_list_defs.specs.Listed.{listing_of}
use Rattle.asm_list_defs.specs.Rows.{lines_rows, name_row}
use Rattle.bench_shelf.specs.States.{ShelfState}
use Rattle.bench_shelf.specs.declared.copy_error.CopyError.{CopyError}
use Rattle.bench_shelf.specs.declared.kept_line.KeptLine.{KeptLine}
use Rattle.bench_shelf.specs.declared.listed.ListedEnding.{ListedEnding}
use Rattle.bench_shelf.specs.declared.listed.ListedEnding.TheVariants.{Whole, After, Before}
use Rattle.bench_shelf.specs.declared.listed.ListedSource.{ListedSource}
use Rattle.bench_shelf.specs.Listed as kept
use Rattle.bench_shelf.specs.Listed.{ListAnswered, RefusedAs, lines_by, names_by, refused_in}
use Rattle.asm_list.specs.declared.listing.AsmListing.{AsmListing}
use Rattle.asm_list.specs.Adding.{all_rows}
use Rattle.asm_list.specs.Listings.{rows_of, Lists}

-- the rows of its lines, and then of its names
all_rows_are : (lines : List KeptLine) (ending : ListedEnding)
    → all_rows lines ending ≡ lines_rows None (lines_by lines ending) ++ map name_row (names_by lines ending)
all_rows_are lines (Whole known) = refl
all_rows_are lines (After known number error) =
    sym (append-nil (lines_rows None (lines_by lines (After known number error))))
all_rows_are lines (Before error) = sym (append-nil (lines_rows None (lines_by lines (Before error))))

-- the listing that was made
module _ (listed : ListedSource) (listing : AsmListing) (rows : rows_of listing ≡ all_rows listed.lines.items listed.ending)
    (refused : listing.refused ≡ refused_in listed.ending) where
  lists : (asked : ℕ) (found : Copied) → kept.Lists asked listed found → Lists asked listing found
  lists asked found is = record {
    rows = rows
        ∙ (all_rows_are listed.lines.items listed.ending
        ∙ (ap (λ lines. lines_rows None lines ++ map name_row (names_by listed.lines.items listed.ending)) is.lines
        ∙ ap (λ names. lines_rows None (listing_of found).lines ++ map name_row names) is.names));
    refused = subst (λ (refused : Option CopyError). RefusedAs refused (listing_of found).refusal) (sym refused) is.refused;
    copies = is.copies;
  }

  pub listing_answered : (before after : ShelfState) (source : List ℕ) → ListAnswered kept.Lists before after source (Ok listed)
      → ListAnswered Lists before after source (Ok listing)
  listing_answered before after source answered = record {
    questions = answered.questions;
    dialogue = answered.dialogue;
    ends = tt;
    gives = λ contents agrees. lists _ (copied_by contents source) (answered.gives contents agrees);
  }
