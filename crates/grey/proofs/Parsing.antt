-- The causes in their order, the header being what the file's front says; the report of the answer, and the remark on it.
use mathlib.Core.Path.{◌≡◌, refl, sym, ap, ◌∙◌}
use mathlib.Core.Bool.{Bool, true, false, cond, not}
use mathlib.Core.List.{List}
use Prim.Native.Nat.{ℕ, ◌+◌, ◌*◌, ◌≤◌, ◌<◌}
use native.Mathlib.Omega.{arith}
use lib.Dec.{ltb, eqb}
use lib.ListN.{length}
use borrow.Author.Tests.{lt-ltb, le-ltb, ltb-false, ltb-true, eq-eqb, ne_eqb, eqb-true}
use Rattle.lid_bytes.specs.Input.{most_pixels}
use Rattle.pgm.specs.declared.Head.{Head}
use Rattle.pgm.specs.declared.Image.{Image}
use Rattle.std.specs.Prelude.{Option, Some, None, Result, Ok, Err}
use Rattle.numbers.specs.declared.Number.{Number}
use Rattle.numbers.specs.declared.Number.TheVariants.{ManyPixels, PgmHeader, PgmMaximum, PgmRaster}
use Rattle.pgm.specs.Read.{header_at, image_at, head_of}
use Rattle.pgm.proofs.Judging.{clash, apart, same_image}
use Rattle.pgm.proofs.Heads.{head_sized}
use Rattle.grey.specs.Grey.{grey_judged, grey_parsed}

-- ---- from the header to the judgement

module _ (len : ℕ) (w h m s : ℕ) where
  pub at_21 : (m ≡ 255 → ⊥) → grey_judged len (header_at w h m s) ≡ Err PgmMaximum
  at_21 a = rw (ne_eqb m 255 a) refl

  module _ (a : m ≡ 255) where
    pub at_16 : most_pixels < w * h → grey_judged len (header_at w h m s) ≡ Err ManyPixels
    at_16 b = rw (eq-eqb m 255 a, lt-ltb most_pixels (w * h) b) refl

    module _ (b : w * h ≤ most_pixels) where
      pub at_22 : (len ≡ s + w * h → ⊥) → grey_judged len (header_at w h m s) ≡ Err PgmRaster
      at_22 c = rw (eq-eqb m 255 a, le-ltb most_pixels (w * h) b, ne_eqb len (s + w * h) c) refl

      pub at_image : len ≡ s + w * h → grey_judged len (header_at w h m s) ≡ image_at w h s
      at_image c = rw (eq-eqb m 255 a, le-ltb most_pixels (w * h) b, eq-eqb len (s + w * h) c) refl

pub parsed_by : (input : List ℕ) (H : Option Head) {r : Result Image Number} → H ≡ head_of input → grey_judged (length input) H ≡ r → r ≡ grey_parsed input
unfolding grey_parsed
parsed_by input H e f = sym (sym (ap (grey_judged (length input)) e) ∙ f)

-- ---- from the judgement to the header

abbrev chosen : ℕ → ℕ → ℕ → Bool → Bool → Bool → Result Image Number
chosen w h s p q r = cond (not p) (Err PgmMaximum) (cond q (Err ManyPixels) (cond (not r) (Err PgmRaster) (image_at w h s)))

-- an image's header: few pixels, and its length fits
pub of_image : (len : ℕ) (H : Option Head) (w h s : ℕ) → grey_judged len H ≡ image_at w h s → (H ≡ header_at w h 255 s) × (w * h ≤ most_pixels) × (len ≡ s + w * h)
of_image len None w h s e = clash e
of_image len (Some H) w h s e = by (eqb H.maximum 255) (ltb most_pixels (H.width * H.height)) (eqb len (H.start + H.width * H.height)) refl refl refl e
  where
    by : (p q r : Bool) → eqb H.maximum 255 ≡ p → ltb most_pixels (H.width * H.height) ≡ q → eqb len (H.start + H.width * H.height) ≡ r → chosen H.width H.height H.start p q r ≡ image_at w h s
        → (header_at H.width H.height H.maximum H.start ≡ header_at w h 255 s) × (w * h ≤ most_pixels) × (len ≡ s + w * h)
    by true false true t u v e =
        let (i, j, k) = same_image e in
        let n : H.maximum ≡ 255 = eqb-true H.maximum 255 t in
        let a : H.width * H.height ≡ w * h = ap (λ (x : ℕ). x * H.height) i ∙ ap (λ (x : ℕ). w * x) j in
        ((cc), omega (arith, ltb-false most_pixels (H.width * H.height) u, a), eqb-true len (H.start + H.width * H.height) v ∙ ap (λ (x : ℕ). x + H.width * H.height) k ∙ ap (λ (x : ℕ). s + x) a)
    by true false false t u v e = clash e
    by true true r t u v e = clash e
    by false q r t u v e = clash e

pub of_16 : (len : ℕ) (H : Option Head) → grey_judged len H ≡ Err ManyPixels → (w : ℕ) × (h : ℕ) × (s : ℕ) × (H ≡ header_at w h 255 s) × (most_pixels < w * h)
of_16 len None e = apart PgmHeader ManyPixels (λ z. cc) e
of_16 len (Some H) e = by (eqb H.maximum 255) (ltb most_pixels (H.width * H.height)) (eqb len (H.start + H.width * H.height)) refl refl e
  where
    by : (p q r : Bool) → eqb H.maximum 255 ≡ p → ltb most_pixels (H.width * H.height) ≡ q → chosen H.width H.height H.start p q r ≡ Err ManyPixels
        → (w' : ℕ) × (h' : ℕ) × (s' : ℕ) × (header_at H.width H.height H.maximum H.start ≡ header_at w' h' 255 s') × (most_pixels < w' * h')
    by true true r t u e = (H.width, H.height, H.start, ap (λ (x : ℕ). header_at H.width H.height x H.start) (eqb-true H.maximum 255 t), ltb-true most_pixels (H.width * H.height) u)
    by true false true t u e = clash (sym e)
    by true false false t u e = apart PgmRaster ManyPixels (λ z. cc) e
    by false q r t u e = apart PgmMaximum ManyPixels (λ z. cc) e

pub image_has : (input : List ℕ) (i : Image) → Ok i ≡ grey_parsed input → (i.start ≤ length input) × (i.width * i.height ≤ most_pixels)
unfolding grey_parsed
image_has input i e =
    let f = of_image (length input) (head_of input) i.width i.height i.start (sym e) in
    ((head_sized input i.width i.height 255 i.start f.0).place.1, f.1)
