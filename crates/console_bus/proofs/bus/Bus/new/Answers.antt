use Rattle.std.proofs.Common.{refl}
use Rattle.console_bus.proofs.bus.Bus.new.Goals as goal

pub returns : goal.returns
returns c =
    record { scratchpad = c.zero_page.ensures; low_expansion = c.in_ok-zeros.ensures; high_expansion = c.in_ok-zeros-2.ensures; rom = c.in_ok-zeros-3.ensures; vdp_given = refl; grom_given = refl }
