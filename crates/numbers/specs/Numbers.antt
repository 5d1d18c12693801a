-- Document 01's and 02's number of each reason, 0 standing for a figure.
use Rattle.std.specs.Prelude.{ℕ, ◌≡◌, Result, Ok, Err, MatchResult, List, [], ◌∷◌}
use Rattle.numbers.specs.declared.UnknownNumber.{UnknownNumber}
use Rattle.numbers.specs.declared.Number.{Number}
use Rattle.numbers.specs.declared.Number.TheVariants.{SideAbove, OtherLength, SideBelow, ShortSlice, Few, NoBand, Thin, Far, Flat, Support, Outside}
use Rattle.numbers.specs.declared.Number.TheVariants.{FloatRange, NotFinite, Knots, NotALid, ManyPixels, OtherMark, ShortRecord, BrokenRule}
use Rattle.numbers.specs.declared.Number.TheVariants.{PgmHeader, PgmMaximum, PgmRaster}

abbrev pub number_of : Number → ℕ
number_of SideAbove = 1
number_of OtherLength = 2
number_of SideBelow = 3
number_of ShortSlice = 4
number_of Few = 5
number_of NoBand = 6
number_of Thin = 7
number_of Far = 8
number_of Flat = 9
number_of Support = 10
number_of Outside = 11
number_of FloatRange = 12
number_of NotFinite = 13
number_of Knots = 14
number_of NotALid = 15
number_of ManyPixels = 16
number_of OtherMark = 17
number_of ShortRecord = 18
number_of BrokenRule = 19
number_of PgmHeader = 20
number_of PgmMaximum = 21
number_of PgmRaster = 22

-- 0 of a figure
abbrev pub number_in : {A : Type 0} → Result A Number → ℕ
number_in (Ok x) = 0
number_in (Err why) = number_of why

-- r is the reason with the number, or the number where no reason has it
abbrev pub HasNumber : ℕ → Result Number UnknownNumber → Type 0
HasNumber n r = MatchResult r (λ why. number_of why ≡ n) (λ e. (e.0 ≡ n) × ((why : Number) → number_of why ≡ n → ⊥))

-- all of them, in the order of their numbers
abbrev pub all : List Number
all =
    SideAbove ∷ OtherLength ∷ SideBelow ∷ ShortSlice ∷ Few ∷ NoBand
    ∷ Thin ∷ Far ∷ Flat ∷ Support ∷ Outside ∷ FloatRange
    ∷ NotFinite ∷ Knots ∷ NotALid ∷ ManyPixels ∷ OtherMark ∷ ShortRecord
    ∷ BrokenRule ∷ PgmHeader ∷ PgmMaximum ∷ PgmRaster ∷ []
