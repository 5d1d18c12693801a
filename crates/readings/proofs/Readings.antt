-- Every starred reading of document 01 holds: each row is computed. Assumes nothing.
use mathlib.Core.Path.{refl}
use lib.Ieee.{of_int, round, lt, le, eq, add, sub, mul, div}
use Rattle.ieee.specs.Order.{finite}
use Rattle.ranges.specs.Ranges.{within, up_to}
use Rattle.knots.specs.Places.{place, value_at}
use Rattle.model.specs.Knots.{after_knots, at_of}
use Rattle.ieee.specs.Convert.{convert}
use Rattle.window.specs.Window.{stats_of, gate}
use Rattle.window.proofs.Places.{◌and◌}
use Rattle.band.specs.Bands.{band_of}
use Rattle.grid.specs.Step.{step_of}
use Rattle.readings.specs.Listing.{listing, AllHold}

pub readings : AllHold listing
unfolding of_int round convert stats_of gate band_of step_of at_of after_knots place value_at within up_to finite lt le eq add sub mul div
readings =
    -- windows
    refl and refl and refl and refl and refl
    -- bands
    and refl and refl and refl and refl and refl and refl
    -- steps
    and refl and refl and refl and refl
    -- first x
    and refl and refl and refl
    -- rounding
    and ((refl, refl), (refl, refl)) and ((refl, refl), (refl, refl))
    -- knots
    and refl and tt
