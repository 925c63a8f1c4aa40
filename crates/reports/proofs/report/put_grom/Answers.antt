use Rattle.report_defs.specs.GromListing.{grom_bytes}
use Rattle.report_defs.proofs.GromBytes.{bytes_of_image}
use Rattle.reports.proofs.report.put_grom.Goals as goal

pub returns : goal.returns
returns g c = c.disassemble.ensures (grom_bytes c.args.image.now) (bytes_of_image c.args.image.now)
