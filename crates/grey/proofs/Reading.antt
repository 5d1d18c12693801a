-- An input's first bytes, one more than the longest header and the largest raster have, decide its answer and what is said of it: what stands past them need not be read.
use mathlib.Core.Path.{◌≡◌, refl, sym, ap, ◌∙◌}
use mathlib.Core.Bool.{Bool, true, false}
use mathlib.Core.List.{List}
use Prim.Native.Nat.{ℕ, ◌+◌, ◌*◌, ◌≤◌, ◌<◌, min}
use native.Mathlib.Omega.{arith}
use lib.Dec.{ltb, eqb}
use lib.ListN.{length, take, length-take}
use lib.Seq.{take_all}
use borrow.Author.Tests.{ltb-true, ltb-false, eqb-true, eqb-false}
use Rattle.answer.specs.declared.Answer.{Answer}
use Rattle.lid_bytes.specs.Input.{most_pixels}
use Rattle.pgm.specs.declared.Head.{Head}
use Rattle.std.specs.Prelude.{Option, Some, None, Err}
use Rattle.numbers.specs.declared.Number.{Number}
use Rattle.numbers.specs.declared.Number.TheVariants.{ManyPixels, PgmHeader, PgmMaximum, PgmRaster}
use Rattle.pgm.specs.Read.{header_bytes, header_at, head_of}
use Rattle.pgm.proofs.Heads.{head_front, head_sized}
use Rattle.grey.specs.Grey.{grey_bytes, grey_judged, grey_parsed, grey_answer, grey_said}
use Rattle.grey.specs.Remark.{grey_remark}
use Rattle.grey.proofs.Parsing.{at_21, at_16, at_22}
use Rattle.grey.proofs.Laws.{zeros}

-- one number for every length that is past what the header may ask for
refused_past : (w h m s most : ℕ) → s + most_pixels ≤ most → (k : Number) × ((len : ℕ) → most < len → grey_judged len (header_at w h m s) ≡ Err k)
refused_past w h m s most past = by (eqb m 255) (ltb most_pixels (w * h)) refl refl
  where
    by : (p q : Bool) → eqb m 255 ≡ p → ltb most_pixels (w * h) ≡ q → (k : Number) × ((len : ℕ) → most < len → grey_judged len (header_at w h m s) ≡ Err k)
    by true true e f = (ManyPixels, λ len l. at_16 len w h m s (eqb-true m 255 e) (ltb-true most_pixels (w * h) f))
    by true false e f = (PgmRaster, λ len l. at_22 len w h m s (eqb-true m 255 e) (ltb-false most_pixels (w * h) f) (λ z. omega (arith, ltb-false most_pixels (w * h) f)))
    by false q e f = (PgmMaximum, λ len l. at_21 len w h m s (eqb-false m 255 e))

-- an input that goes on past n bytes is refused, by the same number as its first n
module _ (n : ℕ) (all : header_bytes + most_pixels < n) (input : List ℕ) (long : n < length input) where
  abbrev front : List ℕ
  front = take n input

  front_long : length front ≡ n
  front_long = length-take n input ∙ least n (length input) long
    where
      least : (a b : ℕ) → a < b → min a b ≡ a
      least a b h = omega arith

  judged_both : (H : Option Head) → head_of input ≡ H → (k : Number) × (grey_judged (length front) H ≡ Err k) × (grey_judged (length input) H ≡ Err k)
  judged_both None e = (PgmHeader, refl, refl)
  judged_both (Some H) e =
      let r = refused_past H.width H.height H.maximum H.start (header_bytes + most_pixels) (omega (arith, (head_sized input H.width H.height H.maximum H.start e).place.0)) in
      (r.0, r.1 (length front) (omega (arith, front_long, all)), r.1 (length input) (omega (arith, all, long)))

  both : grey_answer front ≡ grey_answer input
  unfolding grey_parsed
  both =
      let b = judged_both (head_of input) refl in
      zeros front b.0 (ap (grey_judged (length front)) (head_front input n (omega (arith, all))) ∙ b.1) ∙ sym (zeros input b.0 b.2)

by_front : (n : ℕ) → header_bytes + most_pixels < n → (input : List ℕ) (b : Bool) → ltb n (length input) ≡ b → grey_answer (take n input) ≡ grey_answer input
by_front n all input true e = both n all input (ltb-true n (length input) e)
by_front n all input false e = ap grey_answer (take_all n input (ltb-false n (length input) e))

pub first_bytes : (input : List ℕ) → grey_answer (take grey_bytes input) ≡ grey_answer input
first_bytes input = by_front grey_bytes (omega arith) input (ltb grey_bytes (length input)) refl

pub first_bytes_said : (input : List ℕ) → grey_said (take grey_bytes input) ≡ grey_said input
first_bytes_said input = ap (λ (a : Answer). grey_remark a.number) (first_bytes input)
