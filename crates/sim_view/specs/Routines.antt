-- Routines as functions on views: stretches of instructions, one after the other.
use Rattle.std.specs.Prelude.{◌+◌, ◌==◌, if◌then◌else◌}
use Rattle.native_interp.specs.declared.addresses.TheConstants.{GSTOP}
use Rattle.sim_view.specs.Exits.{Exit}
use Rattle.sim_view.specs.View.{View}

-- One stretch after another: the second begins at the view that the first leaves.
infixl 40 ◌>>◌
abbrev pub ◌>>◌ : Exit → (View → Exit) → Exit
e >> f =
    let g = f e.left in
    record { count = e.count + g.count; to = g.to; left = g.left }

-- The same after a stretch that may stop the program: then nothing follows.
infixl 40 ◌>>?◌
abbrev pub ◌>>?◌ : Exit → (View → Exit) → Exit
e >>? f = if e.to == GSTOP then e else e >> f
