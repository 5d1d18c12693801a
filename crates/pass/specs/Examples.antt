-- Where the bands start, what a pass tells of its sample and its noise, and how much memory its windows take.
use Rattle.std.specs.Prelude.{◌≡◌, refl, [], ◌∷◌, Ok, Err}
use Rattle.ieee.specs.Numbers.{f32_of}
use Rattle.band.specs.declared.Sample.{Sample}
use Rattle.numbers.specs.declared.Number.TheVariants.{Thin}
use Rattle.pass.specs.Memory.{ints_for, floats_for}
use Rattle.pass.specs.Pass.{starts_by, packed}

abbrev s : Sample
s = record { b0 = 1; b1 = 20; b2 = 300; b3 = 4000; rail = 5 }

pub starts : starts_by s ≡ 0 ∷ 1 ∷ 21 ∷ 321 ∷ 4321 ∷ []
starts = refl

pub figure_told : packed s (record { sigma = Ok (f32_of 2); rounds = 9 })
    ≡ record { sigma = Ok (f32_of 2); rounds = 9; b0 = 1; b1 = 20; b2 = 300; b3 = 4000; rail = 5 }
figure_told = refl

pub number_told : packed s (record { sigma = Err Thin; rounds = 9 })
    ≡ record { sigma = Err Thin; rounds = 9; b0 = 1; b1 = 20; b2 = 300; b3 = 4000; rail = 5 }
number_told = refl

-- 3M and 2M + 2
pub lengths : (ints_for 529 ≡ 1587) × (floats_for 529 ≡ 1060)
lengths = (refl, refl)
