-- What milli is in every answer of the noise call: the whole number nearest to 1,000 times its sigma, halves going up.
use Rattle.milli.specs.Nearest.{NearestTo}
use Rattle.answer.specs.declared.Answer.{Answer}

-- of an answer, whatever its number
abbrev pub MilliIsNearest : Answer → Type 0
MilliIsNearest a = NearestTo a.sigma a.milli
