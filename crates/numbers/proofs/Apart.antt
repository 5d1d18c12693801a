-- Each reason stands in the list at its number, so that no two have the same; the numbers are 1 to 22.
use Rattle.std.proofs.Common.{◌≡◌, ◌-◌, [], ◌∷◌, get_or, map, refl, sym, ◌∙◌, ap}
use Rattle.numbers.specs.declared.Number.{Number}
use Rattle.numbers.specs.declared.Number.TheVariants.{SideAbove, OtherLength, SideBelow, ShortSlice, Few, NoBand, Thin, Far, Flat, Support, Outside}
use Rattle.numbers.specs.declared.Number.TheVariants.{FloatRange, NotFinite, Knots, NotALid, ManyPixels, OtherMark, ShortRecord, BrokenRule}
use Rattle.numbers.specs.declared.Number.TheVariants.{PgmHeader, PgmMaximum, PgmRaster}
use Rattle.numbers.specs.Numbers.{number_of, all}

pub in_order : (why : Number) → get_or all (number_of why - 1) SideAbove ≡ why
in_order SideAbove = refl
in_order OtherLength = refl
in_order SideBelow = refl
in_order ShortSlice = refl
in_order Few = refl
in_order NoBand = refl
in_order Thin = refl
in_order Far = refl
in_order Flat = refl
in_order Support = refl
in_order Outside = refl
in_order FloatRange = refl
in_order NotFinite = refl
in_order Knots = refl
in_order NotALid = refl
in_order ManyPixels = refl
in_order OtherMark = refl
in_order ShortRecord = refl
in_order BrokenRule = refl
in_order PgmHeader = refl
in_order PgmMaximum = refl
in_order PgmRaster = refl

-- no two have the same number
pub apart : (a b : Number) → number_of a ≡ number_of b → a ≡ b
apart a b same = sym (in_order a) ∙ ap (λ n. get_or all (n - 1) SideAbove) same ∙ in_order b

pub one_to_22 : map number_of all
    ≡ 1 ∷ 2 ∷ 3 ∷ 4 ∷ 5 ∷ 6 ∷ 7 ∷ 8 ∷ 9 ∷ 10 ∷ 11 ∷ 12 ∷ 13 ∷ 14 ∷ 15 ∷ 16 ∷ 17 ∷ 18 ∷ 19 ∷ 20 ∷ 21 ∷ 22 ∷ []
one_to_22 = refl
