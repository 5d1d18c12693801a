-- Each cause of an input's refusal, where none before it applies; what a parsed image says of its input.
use mathlib.Core.Path.{◌≡◌, refl, ap}
use mathlib.Core.Bool.{Bool, true, false, cond, not}
use mathlib.Core.List.{List, [], ◌∷◌}
use Prim.Native.Nat.{ℕ, ◌+◌, ◌*◌, ◌≤◌, ◌<◌}
use native.Mathlib.Omega.{arith}
use lib.Dec.{ltb, eqb}
use lib.ListN.{length, get_or}
use lib.Seq.{slice}
use borrow.Author.Tests.{lt-ltb, le-ltb, eq-eqb, ne_eqb, ltb-false}
use Rattle.little_endian.specs.Bytes.{value_of}
use Rattle.std.specs.Prelude.{Result, Ok, Err}
use Rattle.numbers.specs.declared.Number.{Number}
use Rattle.numbers.specs.declared.Number.TheVariants.{NotALid, ManyPixels}
use Rattle.pgm.specs.declared.Image.{Image}
use Rattle.pgm.specs.Read.{image_at}
use Rattle.lid_bytes.specs.Input.{most_pixels, width_of, height_of, parsed_of}

-- by the sides that were read
module _ (input : List ℕ) (w h : ℕ) (p : w ≡ value_of (slice 0 2 input)) (q : h ≡ value_of (slice 2 4 input)) (a : 4 ≤ length input) where
  pub too_many : most_pixels < w * h → Err ManyPixels ≡ parsed_of input
  unfolding parsed_of width_of height_of
  too_many b = rw (← p, ← q, le-ltb (length input) 4 a, lt-ltb most_pixels (w * h) b)

  module _ (b : w * h ≤ most_pixels) where
    pub unlike : (length input ≡ 4 + w * h → ⊥) → Err NotALid ≡ parsed_of input
    unfolding parsed_of width_of height_of
    unlike c = rw (← p, ← q, le-ltb (length input) 4 a, le-ltb most_pixels (w * h) b, ne_eqb (length input) (4 + w * h) c)

    pub whole : length input ≡ 4 + w * h → image_at w h 4 ≡ parsed_of input
    unfolding parsed_of width_of height_of
    whole c = rw (← p, ← q, le-ltb (length input) 4 a, le-ltb most_pixels (w * h) b, eq-eqb (length input) (4 + w * h) c)

-- ---- an image has four bytes before its pixels, and not too many of these

module _ (input : List ℕ) where
  abbrev pixels : ℕ
  pixels = width_of input * height_of input

  abbrev chosen : Bool → Bool → Bool → Result Image Number
  chosen a b c = cond a (Err NotALid) (cond b (Err ManyPixels) (cond c (Err NotALid) (image_at (width_of input) (height_of input) 4)))

  pub image_has : (i : Image) → Ok i ≡ parsed_of input → (i.start ≤ length input) × (i.width * i.height ≤ most_pixels)
  unfolding parsed_of
  image_has i e = by (ltb (length input) 4) (ltb most_pixels pixels) (not (eqb (length input) (4 + pixels))) refl refl e
    where
      by : (a b c : Bool) → ltb (length input) 4 ≡ a → ltb most_pixels pixels ≡ b → Ok i ≡ chosen a b c → (i.start ≤ length input) × (i.width * i.height ≤ most_pixels)
      by true b c t u e = absurd (cc)
      by false true c t u e = absurd (cc)
      by false false true t u e = absurd (cc)
      by false false false t u e =
          let same : i ≡ record { width = width_of input; height = height_of input; start = 4 } = cc in (
            omega (arith, ap (λ (k : Image). k.start) same, ltb-false (length input) 4 t),
            omega (arith, ap (λ (k : Image). k.width * k.height) same, ltb-false most_pixels pixels u),
          )

-- ---- the sides by the first four bytes

pub w_is : (input : List ℕ) → 4 ≤ length input → width_of input ≡ value_of (get_or input 0 0 ∷ get_or input 1 0 ∷ [])
unfolding width_of
w_is [] h = absurd (omega (arith, h))
w_is (a ∷ []) h = absurd (omega (arith, h))
w_is (a ∷ b ∷ l) h = refl

pub h_is : (input : List ℕ) → 4 ≤ length input → height_of input ≡ value_of (get_or input 2 0 ∷ get_or input 3 0 ∷ [])
unfolding height_of
h_is [] h = absurd (omega (arith, h))
h_is (a ∷ []) h = absurd (omega (arith, h))
h_is (a ∷ b ∷ []) h = absurd (omega (arith, h))
h_is (a ∷ b ∷ c ∷ []) h = absurd (omega (arith, h))
h_is (a ∷ b ∷ c ∷ d ∷ l) h = refl
