use Rattle.std.proofs.Common.{Ok}
use Rattle.debug_report_defs.specs.Listings.{rows_report}
use Rattle.asm_list.specs.Listings.{rows_of}
use Rattle.debug_commands.specs.Listed.{model_of_refusal}
use Rattle.debug_commands.proofs.ListLaws.{is_reported, listing_reported}
use Rattle.debug_commands.proofs.list.list.Goals as goal

pub finish_list-requires : goal.finish_list-requires
finish_list-requires g c = is_reported _ _ c.args.source.now c.in-Ok.listing c.in-Ok.ensures.answered

pub returns-in-Ok-clause-ends : goal.returns-in-Ok-clause-ends
returns-in-Ok-clause-ends g c =
    let listing = c.in-Ok.listing in (
      Ok (rows_report (rows_of listing) (model_of_refusal listing.refused)),
      listing_reported _ _ c.args.source.now listing c.in-Ok.ensures.answered c.in-Ok.ensures.causes,
      c.finish_list.ensures,
    )
