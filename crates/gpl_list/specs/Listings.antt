-- The listing of a source, as the program makes it.
use Rattle.std.specs.Prelude.{map, Option, Some, None, Result, Ok, Err}
use Rattle.source_defs.specs.Refusals.{Refusal}
use Rattle.gpl_source_defs.specs.declared.causes.GplCause.{GplCause}
use Rattle.gpl_list_defs.specs.Listing.{Listing}
use Rattle.gpl_list.specs.declared.listing.GplListing.{GplListing}
use Rattle.gpl_list.specs.declared.listing.Refused.{Refused}
use Rattle.gpl_list.specs.Reading.{model_of_row, model_of_name}

abbrev pub model_of_refusal : Refused → Refusal GplCause
model_of_refusal refused = record { line = refused.line; cause = refused.cause }

abbrev pub refused_by : Option Refused → Result Unit (Refusal GplCause)
refused_by None = Ok tt
refused_by (Some refused) = Err (model_of_refusal refused)

abbrev pub model_of_listing : GplListing → Listing
model_of_listing listing =
    record {
      rows = map model_of_row listing.rows.items;
      names = map model_of_name listing.names.items;
      refused = refused_by listing.refused;
    }
