-- What the reader promises, in the words of document 02: each number has its cause and no other, an image is read from exactly the files that are written so, and a file's first bytes and its length decide.
use mathlib.Core.Path.{◌≡◌, refl, sym, ap, ◌∙◌}
use mathlib.Core.Logic.{◌↔◌, ◌⊎◌}
use mathlib.Core.List.{List, [], ◌∷◌, ◌++◌, append_assoc}
use Prim.Native.Nat.{ℕ, ◌+◌, ◌*◌, ◌-◌, ◌≤◌}
use native.Mathlib.Omega.{arith}
use lib.ListN.{length, take, length-append}
use lib.Seq.{drop-append_seam}
use Rattle.text.specs.Numerals.{places, decimal_of}
use Rattle.std.specs.Prelude.{Err}
use Rattle.numbers.specs.declared.Number.{Number}
use Rattle.numbers.specs.declared.Number.TheVariants.{PgmHeader, PgmMaximum, PgmRaster}
use Rattle.pgm.specs.Grammar.{White, Numeral, number_in, Headed}
use Rattle.pgm.specs.Read.{split, image_at, head_of, header_bytes, pgm_judged, front_read, read_of, raster_by, raster_of}
use Rattle.pgm.specs.File.{header_for, ImageFile}
use Rattle.pgm.proofs.Splitting.{test_numeral, header_read, prefix}
use Rattle.pgm.proofs.Decimal.{value_least, value_most, numeral_decimal, decimal_numeral}
use Rattle.pgm.proofs.Heads.{Behind, head_read, head_stands, head_missing, head_front}
use Rattle.pgm.proofs.Judging.{other_maximum, other_raster, whole, of_20, of_21, of_22, of_image, of_number}

-- a header stands at the front in one way
pub one_header : {file : List ℕ} {w h m w' h' m' : ℕ} {raster raster' : List ℕ} → Headed file w h m raster → Headed file w' h' m' raster'
    → (w ≡ w') × (h ≡ h') × (m ≡ m') × (raster ≡ raster')
one_header {w = w} {h = h} {m = m} {w' = w'} {h' = h'} {m' = m'} {raster = raster} {raster' = raster'} s t = go (sym (header_read s) ∙ header_read t)
  where
    go : split w h m raster ≡ split w' h' m' raster' → (w ≡ w') × (h ≡ h') × (m ≡ m') × (raster ≡ raster')
    go e = ((cc), (cc), (cc), (cc))

-- a split file is its header and its raster
length_split : {file : List ℕ} {w h m : ℕ} {raster : List ℕ} → Headed file w h m raster → length file ≡ (length file - length raster) + length raster
length_split {raster = raster} s = let p = prefix s in omega (arith, ap length p.2, length-append p.0 raster)

module _ (file : List ℕ) where
  -- 20: no header stands at the front, however the file is split
  pub is_20 : (read_of file ≡ Err PgmHeader) ↔ ((w h m : ℕ) (raster : List ℕ) → Headed file w h m raster → ⊥)
  unfolding read_of front_read
  is_20 = (λ e. (head_missing file).0 (of_20 (length file) (head_of file) e), λ f. ap (pgm_judged (length file)) ((head_missing file).1 f))

  -- 21: one does, and its maximum is not 255
  pub is_21 : (read_of file ≡ Err PgmMaximum) ↔ ((w : ℕ) × (h : ℕ) × (m : ℕ) × (raster : List ℕ) × Headed file w h m raster × (m ≡ 255 → ⊥))
  unfolding read_of front_read
  is_21 = (
    λ e.
        let (w, h, m, s, t, n) = of_21 (length file) (head_of file) e in
        let b = head_stands file w h m s t in
        (w, h, m, b.raster, b.headed, n),
    λ (w, h, m, raster, s, n). sym (other_maximum file (length file) w h m (length file - length raster) (sym (head_read s)) n),
  )

  -- 22: one does, its maximum is 255, and the raster is not w × h bytes
  pub is_22 : (read_of file ≡ Err PgmRaster) ↔ ((w : ℕ) × (h : ℕ) × (raster : List ℕ) × Headed file w h 255 raster × (length raster ≡ w * h → ⊥))
  unfolding read_of front_read
  is_22 = (
    λ e.
        let (w, h, s, t, n) = of_22 (length file) (head_of file) e in
        let b = head_stands file w h 255 s t in
        (w, h, b.raster, b.headed, λ q. n (sym b.place ∙ ap (λ (x : ℕ). s + x) q)),
    λ (w, h, raster, s, n). sym (other_raster file (length file) w h 255 (length file - length raster) (sym (head_read s)) refl (λ q. n (omega (arith, q, length_split s)))),
  )

  -- no other number comes out
  pub no_other : (why : Number) → read_of file ≡ Err why → (why ≡ PgmHeader) ⊎ ((why ≡ PgmMaximum) ⊎ (why ≡ PgmRaster))
  unfolding read_of front_read
  no_other why e = of_number (length file) (head_of file) why e

  -- as many first bytes as the longest header has, and the length, decide
  pub front_decides : (n : ℕ) → header_bytes ≤ n → front_read (take n file) (length file) ≡ read_of file
  unfolding read_of front_read
  front_decides n enough = ap (pgm_judged (length file)) (head_front file n enough)

-- the split behind an image
pub image_headed : (file : List ℕ) (w h start : ℕ) → read_of file ≡ image_at w h start → Behind file w h 255 start
unfolding read_of front_read
image_headed file w h start e = head_stands file w h 255 start (of_image (length file) (head_of file) w h start e).0

-- the maximum as it is written
maximum_is : (d : List ℕ) → Numeral d → number_in d ≡ 255 → d ≡ 50 ∷ 53 ∷ 53 ∷ []
unfolding decimal_of places
maximum_is d n e = numeral_decimal d n ∙ ap decimal_of e

maximum_numeral : Numeral (50 ∷ 53 ∷ 53 ∷ [])
maximum_numeral = test_numeral (50 ∷ 53 ∷ 53 ∷ []) ((omega arith, omega arith), ((omega arith, omega arith), ((omega arith, omega arith), tt))) refl

-- header and raster, one after the other
joined : (a b c d : ℕ) (width height raster : List ℕ)
    → (80 ∷ 53 ∷ a ∷ (width ++ b ∷ (height ++ c ∷ 50 ∷ 53 ∷ 53 ∷ d ∷ []))) ++ raster ≡ 80 ∷ 53 ∷ a ∷ (width ++ b ∷ (height ++ c ∷ 50 ∷ 53 ∷ 53 ∷ d ∷ raster))
joined a b c d width height raster =
    ap (λ (l : List ℕ). 80 ∷ 53 ∷ a ∷ l)
    (append_assoc width (b ∷ (height ++ c ∷ 50 ∷ 53 ∷ 53 ∷ d ∷ [])) raster ∙ ap (λ (l : List ℕ). width ++ b ∷ l) (append_assoc height (c ∷ 50 ∷ 53 ∷ 53 ∷ d ∷ []) raster))

-- an image is read from exactly the files that are written so
pub is_image_lem : (file : List ℕ) (w h start : ℕ) → (read_of file ≡ image_at w h start) ↔ ImageFile file w h start
unfolding read_of front_read
is_image_lem file w h start = (reads, written)
  where
    written : ImageFile file w h start → read_of file ≡ image_at w h start
    written f =
        sym (whole file (length file) w h 255 (length file - length f.raster) (sym (head_read headed)) refl (omega (arith, length_split headed, f.area)))
        ∙ ap (image_at w h) (omega (arith, f.place, ap length f.whole, length-append (header_for f.a f.b f.c f.d w h) f.raster))
      where
        headed : Headed file w h 255 f.raster
        headed =
            let p = decimal_numeral w f.sides.0 f.sides.1 in
            let q = decimal_numeral h f.sides.2 f.sides.3 in
            record {
              a = f.a;
              b = f.b;
              c = f.c;
              d = f.d;
              whites = f.whites;
              width = decimal_of w;
              height = decimal_of h;
              maximum = 50 ∷ 53 ∷ 53 ∷ [];
              numerals = (p.0, q.0, maximum_numeral);
              values = (p.1, q.1, refl);
              whole = f.whole ∙ joined f.a f.b f.c f.d (decimal_of w) (decimal_of h) f.raster;
            }

    reads : read_of file ≡ image_at w h start → ImageFile file w h start
    reads e =
        let i = of_image (length file) (head_of file) w h start e in
        let b = head_stands file w h 255 start i.0 in
        by b.raster b.headed (omega (arith, i.1, b.place)) b.place
      where
        by : (raster : List ℕ) → Headed file w h 255 raster → length raster ≡ w * h → start + length raster ≡ length file → ImageFile file w h start
        by raster s area place =
            record {
              a = s.a;
              b = s.b;
              c = s.c;
              d = s.d;
              whites = s.whites;
              sides = (
                omega (arith, value_least s.width s.numerals.0, s.values.0),
                omega (arith, value_most s.width s.numerals.0, s.values.0),
                omega (arith, value_least s.height s.numerals.1, s.values.1),
                omega (arith, value_most s.height s.numerals.1, s.values.1),
              );
              raster = raster;
              area = area;
              whole = is;
              place = omega (arith, place, ap length is, length-append (header_for s.a s.b s.c s.d w h) raster);
            }
          where
            form : (v : ℕ) (d : List ℕ) → Numeral d → number_in d ≡ v → d ≡ decimal_of v
            form v d n e = numeral_decimal d n ∙ ap decimal_of e

            is : file ≡ header_for s.a s.b s.c s.d w h ++ raster
            is =
                s.whole
                ∙ ap (λ (l : List ℕ). 80 ∷ 53 ∷ s.a ∷ (l ++ s.b ∷ (s.height ++ s.c ∷ (s.maximum ++ s.d ∷ raster)))) (form w s.width s.numerals.0 s.values.0)
                ∙ ap (λ (l : List ℕ). 80 ∷ 53 ∷ s.a ∷ (decimal_of w ++ s.b ∷ (l ++ s.c ∷ (s.maximum ++ s.d ∷ raster)))) (form h s.height s.numerals.1 s.values.1)
                ∙ ap (λ (l : List ℕ). 80 ∷ 53 ∷ s.a ∷ (decimal_of w ++ s.b ∷ (decimal_of h ++ s.c ∷ (l ++ s.d ∷ raster)))) (maximum_is s.maximum s.numerals.2 s.values.2)
                ∙ sym (joined s.a s.b s.c s.d (decimal_of w) (decimal_of h) raster)

-- every image that can be written is read back, and its raster is the part that was written
module _ (a b c d w h : ℕ) (raster : List ℕ) (whites : White a × White b × White c × White d) (sides : (1 ≤ w) × (w ≤ 99999) × (1 ≤ h) × (h ≤ 99999)) (area : length raster ≡ w * h) where
  pub written_read : read_of (header_for a b c d w h ++ raster) ≡ image_at w h (length (header_for a b c d w h))
  written_read =
      (is_image_lem (header_for a b c d w h ++ raster) w h (length (header_for a b c d w h))).1
      (record { a = a; b = b; c = c; d = d; whites = whites; sides = sides; raster = raster; area = area; whole = refl; place = refl })

  pub written_raster : raster_of (header_for a b c d w h ++ raster) ≡ raster
  unfolding raster_of
  written_raster = ap (raster_by (header_for a b c d w h ++ raster)) written_read ∙ drop-append_seam (header_for a b c d w h) raster
