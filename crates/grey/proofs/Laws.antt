-- What the program judges, in the words of document 02, and how it stands to the reader.
use mathlib.Core.Path.{◌≡◌, refl, sym, ap, ◌∙◌}
use mathlib.Core.Bool.{Bool, true, false, cond, not, ◌||◌}
use mathlib.Core.Logic.{◌↔◌}
use mathlib.Core.List.{List, ◌++◌}
use Prim.Native.Nat.{ℕ, ◌+◌, ◌*◌, ◌-◌, ◌≤◌, ◌<◌}
use native.Mathlib.Omega.{arith}
use native.Mathlib.Nat.{mul-le-mul_left, mul-le-mul_right}
use lib.Dec.{ltb, eqb}
use lib.ListN.{length, drop, length-drop}
use lib.Seq.{drop-append_seam}
use borrow.Author.Tests.{le-ltb, eq-eqb}
use Rattle.noise.specs.Refusals.{refusal_of}
use Rattle.noise.specs.Call.{refused, noise_of}
use Rattle.little_endian.specs.Bytes.{bytes_of}
use Rattle.little_endian.proofs.Laws.{value_bytes}
use Rattle.lid_bytes.specs.Input.{most_pixels}
use Rattle.lid_bytes.specs.Report.{report_of}
use Rattle.lid_bytes.proofs.Inputs.{whole}
use Rattle.lid.specs.Answer.{answer_found, lid_answer, output_of}
use Rattle.pgm.specs.declared.Head.{Head}
use Rattle.pgm.specs.declared.Image.{Image}
use Rattle.std.specs.Prelude.{Option, Some, None, Result, Err}
use Rattle.numbers.specs.declared.Number.{Number}
use Rattle.numbers.specs.Numbers.{number_of}
use Rattle.numbers.specs.declared.Number.TheVariants.{ManyPixels, PgmMaximum, PgmRaster}
use Rattle.pgm.specs.Grammar.{White, Headed}
use Rattle.pgm.specs.File.{header_for}
use Rattle.pgm.specs.Read.{header_at, image_at, head_of, pgm_judged, front_read, read_of}
use Rattle.pgm.proofs.Heads.{Sized, head_read, head_stands, head_sized}
use Rattle.pgm.proofs.Laws.{one_header, image_headed, written_read}
use Rattle.grey.specs.Grey.{grey_judged, grey_parsed, grey_answer, grey_output}
use Rattle.grey.proofs.Parsing.{at_16, of_16, of_image}

module _ (input : List ℕ) where
  -- 16: a header stands at the front, its maximum is 255, and there are too many pixels, however long the raster is
  pub is_16 : (grey_parsed input ≡ Err ManyPixels) ↔ ((w : ℕ) × (h : ℕ) × (raster : List ℕ) × Headed input w h 255 raster × (most_pixels < w * h))
  unfolding grey_parsed
  is_16 = (
    λ e.
        let (w, h, s, t, n) = of_16 (length input) (head_of input) e in
        let b = head_stands input w h 255 s t in
        (w, h, b.raster, b.headed, n),
    λ (w, h, raster, s, n). ap (grey_judged (length input)) (head_read s) ∙ at_16 (length input) w h 255 (length input - length raster) refl n,
  )

  -- any other file is judged as the reader judges it
  pub as_read : (grey_parsed input ≡ Err ManyPixels → ⊥) → grey_parsed input ≡ read_of input
  unfolding grey_parsed read_of front_read
  as_read n = there (head_of input) n
    where
      by : (x : Result Image Number) (p q : Bool) → (cond (not p) (Err PgmMaximum) (cond q (Err ManyPixels) x) ≡ Err ManyPixels → ⊥) → cond (not p) (Err PgmMaximum) (cond q (Err ManyPixels) x) ≡ cond (not p) (Err PgmMaximum) x
      by x true true n = absurd (n refl)
      by x true false n = refl
      by x false q n = refl

      there : (H : Option Head) → (grey_judged (length input) H ≡ Err ManyPixels → ⊥) → grey_judged (length input) H ≡ pgm_judged (length input) H
      there None n = refl
      there (Some H) n = by (cond (not (eqb (length input) (H.start + H.width * H.height))) (Err PgmRaster) (image_at H.width H.height H.start)) (eqb H.maximum 255) (ltb most_pixels (H.width * H.height)) n

  -- after any number of the file's own all figures are zero
  pub zeros : (why : Number) → grey_parsed input ≡ Err why → grey_answer input ≡ refused (number_of why)
  unfolding grey_answer
  zeros why e = ap (answer_found input) e

  -- a file that is taken gets the noise call's answer for the raster that follows its header, memory being enough
  pub as_measured : (w h start : ℕ) → grey_parsed input ≡ image_at w h start → grey_answer input ≡ noise_of (drop start input) w h false
  unfolding grey_answer
  as_measured w h start e = ap (answer_found input) e

  -- of the noise call's own causes only 3 is left: a side above 16,384, pixels that are not w × h and short memory do not reach it
  pub only_3 : (w h start : ℕ) → grey_parsed input ≡ image_at w h start → refusal_of (length (drop start input)) w h false ≡ cond (ltb w 4 || ltb h 4) 3 0
  unfolding grey_parsed refusal_of
  only_3 w h start e =
      rw (
        le-ltb 16384 w (omega (arith, i.1, mul-le-mul_left {m = 1} {n = h} w z.height.0)),
        le-ltb 16384 h (omega (arith, i.1, mul-le-mul_right {m = 1} {n = w} h z.width.0)),
        eq-eqb (length (drop start input)) (w * h) (omega (arith, length-drop start input, i.2)),
      ) refl
    where
      i : (head_of input ≡ header_at w h 255 start) × (w * h ≤ most_pixels) × (length input ≡ start + w * h)
      i = of_image (length input) (head_of input) w h start e

      z : Sized input w h 255 start
      z = head_sized input w h 255 start i.0

-- a file that is written out, of few pixels, gets the noise call's answer for its raster
pub written_measured : (a b c d w h : ℕ) (raster : List ℕ) → White a × White b × White c × White d → (1 ≤ w) × (w ≤ 99999) × (1 ≤ h) × (h ≤ 99999)
    → length raster ≡ w * h → w * h ≤ most_pixels → grey_answer (header_for a b c d w h ++ raster) ≡ noise_of raster w h false
written_measured a b c d w h raster whites sides area few =
    as_measured file w h (length header) (as_read file not_16 ∙ is) ∙ ap (λ (l : List ℕ). noise_of l w h false) (drop-append_seam header raster)
  where
    header : List ℕ
    header = header_for a b c d w h

    file : List ℕ
    file = header ++ raster

    is : read_of file ≡ image_at w h (length header)
    is = written_read a b c d w h raster whites sides area

    not_16 : grey_parsed file ≡ Err ManyPixels → ⊥
    not_16 e =
        let (w', h', raster', s, n) = (is_16 file).0 e in
        let o = one_header s (image_headed file w h (length header) is).headed in
        omega (arith, n, few, ap (λ (x : ℕ). x * h') o.0 ∙ ap (λ (x : ℕ). w * x) o.1)

-- so does a lid of these sides and pixels
lid_measured : (w h : ℕ) (raster : List ℕ) → w ≤ most_pixels → h ≤ most_pixels → length raster ≡ w * h → w * h ≤ most_pixels
    → lid_answer (bytes_of 2 w ++ bytes_of 2 h ++ raster) ≡ noise_of raster w h false
unfolding lid_answer bytes_of
lid_measured w h raster a b area few =
    ap (answer_found (bytes_of 2 w ++ bytes_of 2 h ++ raster))
    (sym (whole (bytes_of 2 w ++ bytes_of 2 h ++ raster) w h (sym (value_bytes 2 w (omega arith))) (sym (value_bytes 2 h (omega arith))) (omega arith) few (omega (arith, area))))

-- so the two programs print the same lines
pub as_lidnoise : (a b c d w h : ℕ) (raster : List ℕ) → White a × White b × White c × White d → (1 ≤ w) × (1 ≤ h) → length raster ≡ w * h → w * h ≤ most_pixels
    → grey_output (header_for a b c d w h ++ raster) ≡ output_of (bytes_of 2 w ++ bytes_of 2 h ++ raster)
as_lidnoise a b c d w h raster whites sides area few =
    ap report_of (written_measured a b c d w h raster whites (sides.0, omega (arith, w_few), sides.1, omega (arith, h_few)) area few ∙ sym (lid_measured w h raster w_few h_few area few))
  where
    w_few : w ≤ most_pixels
    w_few = omega (arith, few, mul-le-mul_left {m = 1} {n = h} w sides.1)

    h_few : h ≤ most_pixels
    h_few = omega (arith, few, mul-le-mul_right {m = 1} {n = w} h sides.0)
