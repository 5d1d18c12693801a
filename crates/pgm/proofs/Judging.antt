-- What a judgement says of the header that was judged, and a header of its judgement.
use mathlib.Core.Path.{◌≡◌, refl, sym, ap, ◌∙◌}
use mathlib.Core.Bool.{Bool, true, false, cond, not}
use mathlib.Core.Logic.{◌⊎◌, inl, inr}
use mathlib.Core.List.{List}
use Prim.Native.Nat.{ℕ, ◌+◌, ◌*◌, ◌≤◌}
use lib.Dec.{eqb}
use lib.ListN.{length}
use borrow.Author.Tests.{eqb-true, eqb-false, eq-eqb, ne_eqb}
use Rattle.pgm.specs.declared.Head.{Head}
use Rattle.pgm.specs.declared.Image.{Image}
use Rattle.std.specs.Prelude.{Option, Some, None, Result, Ok, Err}
use Rattle.numbers.specs.declared.Number.{Number}
use Rattle.numbers.specs.declared.Number.TheVariants.{PgmHeader, PgmMaximum, PgmRaster}
use Rattle.pgm.specs.Read.{header_at, image_at, head_of, pgm_judged, front_read, read_of, raster_by, raster_of}
use Rattle.pgm.proofs.Heads.{head_sized}

-- an image is no refusal, and two numbers are two refusals
pub clash : {A : Type 0} {w h s : ℕ} {why : Number} → Err why ≡ image_at w h s → A
clash e = absurd (cc)

pub apart : {A : Type 0} (a b : Number) → (a ≡ b → ⊥) → ◌≡◌ {A = Result Image Number} (Err a) (Err b) → A
apart a b h e = let z : a ≡ b = cc in absurd (h z)

-- equal images have equal sides and places
image_in : Result Image Number → Image
image_in (Ok i) = i
image_in (Err why) = record { width = 0; height = 0; start = 0 }

pub same_image : {w h s w' h' s' : ℕ} → image_at w h s ≡ image_at w' h' s' → (w ≡ w') × (h ≡ h') × (s ≡ s')
unfolding image_in
same_image e = (ap (λ (r : Result Image Number). (image_in r).width) e, ap (λ (r : Result Image Number). (image_in r).height) e, ap (λ (r : Result Image Number). (image_in r).start) e)

-- ---- from the header to the judgement

module _ (front : List ℕ) (len : ℕ) where
  pub no_header : None ≡ head_of front → Err PgmHeader ≡ front_read front len
  unfolding front_read
  no_header e = ap (pgm_judged len) e

  module _ (w h m s : ℕ) (e : header_at w h m s ≡ head_of front) where
    pub other_maximum : (m ≡ 255 → ⊥) → Err PgmMaximum ≡ front_read front len
    unfolding front_read
    other_maximum a = sym (ap (pgm_judged len) (sym e) ∙ rw (ne_eqb m 255 a) refl)

    module _ (a : m ≡ 255) where
      pub other_raster : (len ≡ s + w * h → ⊥) → Err PgmRaster ≡ front_read front len
      unfolding front_read
      other_raster b = sym (ap (pgm_judged len) (sym e) ∙ rw (eq-eqb m 255 a, ne_eqb len (s + w * h) b) refl)

      pub whole : len ≡ s + w * h → image_at w h s ≡ front_read front len
      unfolding front_read
      whole b = sym (ap (pgm_judged len) (sym e) ∙ rw (eq-eqb m 255 a, eq-eqb len (s + w * h) b) refl)

-- ---- from the judgement to the header

module _ (len : ℕ) where
  -- a judged header by the two tests
  abbrev chosen : ℕ → ℕ → ℕ → Bool → Bool → Result Image Number
  chosen w h s p q = cond (not p) (Err PgmMaximum) (cond (not q) (Err PgmRaster) (image_at w h s))

  pub of_20 : (H : Option Head) → pgm_judged len H ≡ Err PgmHeader → H ≡ None
  of_20 None e = refl
  of_20 (Some H) e = by (eqb H.maximum 255) (eqb len (H.start + H.width * H.height)) e
    where
      by : (p q : Bool) → chosen H.width H.height H.start p q ≡ Err PgmHeader → header_at H.width H.height H.maximum H.start ≡ None
      by true true e = clash (sym e)
      by true false e = apart PgmRaster PgmHeader (λ z. cc) e
      by false q e = apart PgmMaximum PgmHeader (λ z. cc) e

  pub of_21 : (H : Option Head) → pgm_judged len H ≡ Err PgmMaximum → (w : ℕ) × (h : ℕ) × (m : ℕ) × (s : ℕ) × (H ≡ header_at w h m s) × (m ≡ 255 → ⊥)
  of_21 None e = apart PgmHeader PgmMaximum (λ z. cc) e
  of_21 (Some H) e = by (eqb H.maximum 255) (eqb len (H.start + H.width * H.height)) refl e
    where
      by : (p q : Bool) → eqb H.maximum 255 ≡ p → chosen H.width H.height H.start p q ≡ Err PgmMaximum → (w' : ℕ) × (h' : ℕ) × (m' : ℕ) × (s' : ℕ) × (header_at H.width H.height H.maximum H.start ≡ header_at w' h' m' s') × (m' ≡ 255 → ⊥)
      by true true t e = clash (sym e)
      by true false t e = apart PgmRaster PgmMaximum (λ z. cc) e
      by false q t e = (H.width, H.height, H.maximum, H.start, refl, eqb-false H.maximum 255 t)

  pub of_22 : (H : Option Head) → pgm_judged len H ≡ Err PgmRaster → (w : ℕ) × (h : ℕ) × (s : ℕ) × (H ≡ header_at w h 255 s) × (len ≡ s + w * h → ⊥)
  of_22 None e = apart PgmHeader PgmRaster (λ z. cc) e
  of_22 (Some H) e = by (eqb H.maximum 255) (eqb len (H.start + H.width * H.height)) refl refl e
    where
      by : (p q : Bool) → eqb H.maximum 255 ≡ p → eqb len (H.start + H.width * H.height) ≡ q → chosen H.width H.height H.start p q ≡ Err PgmRaster
          → (w' : ℕ) × (h' : ℕ) × (s' : ℕ) × (header_at H.width H.height H.maximum H.start ≡ header_at w' h' 255 s') × (len ≡ s' + w' * h' → ⊥)
      by true true t u e = clash (sym e)
      by true false t u e = (H.width, H.height, H.start, ap (λ (x : ℕ). header_at H.width H.height x H.start) (eqb-true H.maximum 255 t), eqb-false len (H.start + H.width * H.height) u)
      by false q t u e = apart PgmMaximum PgmRaster (λ z. cc) e

  pub of_image : (H : Option Head) (w h s : ℕ) → pgm_judged len H ≡ image_at w h s → (H ≡ header_at w h 255 s) × (len ≡ s + w * h)
  of_image None w h s e = clash e
  of_image (Some H) w h s e = by (eqb H.maximum 255) (eqb len (H.start + H.width * H.height)) refl refl e
    where
      by : (p q : Bool) → eqb H.maximum 255 ≡ p → eqb len (H.start + H.width * H.height) ≡ q → chosen H.width H.height H.start p q ≡ image_at w h s → (header_at H.width H.height H.maximum H.start ≡ header_at w h 255 s) × (len ≡ s + w * h)
      by true true t u e =
          let (i, j, k) = same_image e in
          let n : H.maximum ≡ 255 = eqb-true H.maximum 255 t in
          let l : len ≡ H.start + H.width * H.height = eqb-true len (H.start + H.width * H.height) u in
          ((cc), l ∙ ap (λ (x : ℕ). x + H.width * H.height) k ∙ ap (λ (x : ℕ). s + x * H.height) i ∙ ap (λ (x : ℕ). s + w * x) j)
      by true false t u e = clash e
      by false q t u e = clash e

  pub of_number : (H : Option Head) (why : Number) → pgm_judged len H ≡ Err why → (why ≡ PgmHeader) ⊎ ((why ≡ PgmMaximum) ⊎ (why ≡ PgmRaster))
  of_number None why e = inl (cc)
  of_number (Some H) why e = by (eqb H.maximum 255) (eqb len (H.start + H.width * H.height)) e
    where
      by : (p q : Bool) → chosen H.width H.height H.start p q ≡ Err why → (why ≡ PgmHeader) ⊎ ((why ≡ PgmMaximum) ⊎ (why ≡ PgmRaster))
      by true true e = clash (sym e)
      by true false e = inr (inr (cc))
      by false q e = inr (inl (cc))

-- ---- a whole file, and its raster

pub as_whole : (file : List ℕ) {r : Result Image Number} → r ≡ front_read file (length file) → r ≡ read_of file
unfolding read_of
as_whole file e = e

pub image_place : (file : List ℕ) (w h s : ℕ) → image_at w h s ≡ read_of file → s ≤ length file
unfolding read_of front_read
image_place file w h s e = (head_sized file w h 255 s (of_image (length file) (head_of file) w h s (sym e)).0).place.1

pub raster_is : (file : List ℕ) (r : Result Image Number) → r ≡ read_of file → raster_by file r ≡ raster_of file
unfolding raster_of
raster_is file r e = ap (raster_by file) e

pub image_in_file : (file : List ℕ) (i : Image) → Ok i ≡ read_of file → i.start ≤ length file
image_in_file file i e = image_place file i.width i.height i.start e
