-- The grey file's calls as C makes them: the number, and what the first leaves in the slice that it may change.
use Rattle.std.specs.Prelude.{cond, List, [], ◌∷◌, ◌++◌, ℕ, ltb, length, drop, Option, Some, None, Result, Ok, Err}
use Rattle.numbers.specs.declared.Number.{Number}
use Rattle.numbers.specs.Numbers.{number_of}
use Rattle.pgm.specs.declared.Head.{Head}
use Rattle.pgm.specs.declared.Image.{Image}
use Rattle.pgm.specs.Read.{head_of}
use Rattle.vuzgari.specs.Records.{Shown}

-- a header's four fields and those beyond as they were, or 20 and all as it was
abbrev pub header_shown : List ℕ → Option Head → Shown
header_shown fields (Some head) =
    record { number = 0; fields = (head.width ∷ head.height ∷ head.maximum ∷ head.start ∷ []) ++ drop 4 fields }
header_shown fields None = record { number = 20; fields = fields }

-- 4 where under four fields are lent; else what the first bytes hold
unfoldable pub header_in : List ℕ → List ℕ → Shown
header_in front fields = cond (ltb (length fields) 4) (record { number = 4; fields = fields }) (header_shown fields (head_of front))

-- 0 for an image
abbrev pub number_for : Result Image Number → ℕ
number_for (Ok image) = 0
number_for (Err why) = number_of why
