-- The reading step by step: the mark, and each number with its whitespace byte.
use mathlib.Core.Path.{◌≡◌, refl, sym, ap, ◌∙◌}
use mathlib.Core.Bool.{Bool, true, false, cond, ◌&&◌}
use mathlib.Core.List.{List, [], ◌∷◌}
use Prim.Native.Nat.{ℕ, ◌+◌, ◌≤◌, ◌<◌}
use native.Mathlib.Omega.{arith}
use lib.Dec.{eqb}
use lib.ListN.{length, get_or, drop, length-drop}
use Rattle.pgm.specs.declared.Found.{Found}
use Rattle.std.specs.Prelude.{Option, Some, None}
use Rattle.pgm.specs.Read.{Opening, split, none, header_at, is_white, take_byte, take_white, take_number, take_field, header_of, head_by, head_of}
use Rattle.pgm.specs.Found.{is_marked, onward}
use Rattle.pgm.proofs.Runs.{passed_within, next, at_front}

pub white_in_file : (file : List ℕ) (k : ℕ) → is_white (get_or file k 0) ≡ true → k < length file
white_in_file = passed_within is_white refl

white_on : (b : ℕ) (l : List ℕ) (go : List ℕ → Opening) → is_white b ≡ true → take_white (b ∷ l) go ≡ go l
unfolding take_white
white_on b l go e = ap (λ (t : Bool). cond t (go l) none) e

white_off : (l : List ℕ) (go : List ℕ → Opening) → is_white (get_or l 0 0) ≡ false → take_white l go ≡ none
unfolding take_white
white_off [] go e = refl
white_off (b ∷ l) go e = ap (λ (t : Bool). cond t (go l) none) e

-- a number and its whitespace byte stand at a place, or do not
abbrev pub Goes : List ℕ → ℕ → ℕ → ℕ → Type 0
Goes file at n after = (go : ℕ → List ℕ → Opening) → take_field (drop at file) go ≡ go n (drop after file)

abbrev pub Lost : List ℕ → ℕ → Type 0
Lost file at = (go : ℕ → List ℕ → Opening) → take_field (drop at file) go ≡ none

module _ (file : List ℕ) (at : ℕ) (found : Option Found) (goes_on : (go : ℕ → List ℕ → Opening) → take_number (drop at file) go ≡ onward file found go) where
  pub no_number : found ≡ None → Lost file at
  no_number e go = goes_on (λ n l. take_white l (go n)) ∙ ap (λ (f : Option Found). onward file f (λ n l. take_white l (go n))) e

  module _ (n end : ℕ) (e : found ≡ Some (record { number = n; end = end })) where
    to_end : (go : ℕ → List ℕ → Opening) → take_field (drop at file) go ≡ take_white (drop end file) (go n)
    to_end go = goes_on (λ n l. take_white l (go n)) ∙ ap (λ (f : Option Found). onward file f (λ n l. take_white l (go n))) e

    pub field_goes : is_white (get_or file end 0) ≡ true → Goes file at n (end + 1) × (end + 1 ≤ length file)
    field_goes w = (
      λ go. to_end go ∙ ap (λ (l : List ℕ). take_white l (go n)) (next file end (white_in_file file end w)) ∙ white_on (get_or file end 0) (drop (end + 1) file) (go n) w,
      omega (arith, white_in_file file end w),
    )

    pub field_ends : is_white (get_or file end 0) ≡ false → Lost file at
    field_ends w go = to_end go ∙ white_off (drop end file) (go n) (ap is_white (at_front file end) ∙ w)

-- the mark
three : (p q r : Bool) (x : Opening) → cond p (cond q (cond r x none) none) none ≡ cond (p && (q && r)) x none
three true true r x = refl
three true false r x = refl
three false q r x = refl

pub marked : (file : List ℕ) (go : List ℕ → Opening) → (take_byte 80 file λ l. take_byte 53 l λ l. take_white l go) ≡ cond (is_marked file) (go (drop 3 file)) none
unfolding take_byte take_white
marked [] go = refl
marked (x ∷ []) go = three (eqb x 80) false false (go [])
marked (x ∷ y ∷ []) go = three (eqb x 80) (eqb y 53) false (go [])
marked (x ∷ y ∷ z ∷ l) go = three (eqb x 80) (eqb y 53) (is_white z) (go l)

module _ (file : List ℕ) where
  abbrev from_maximum : ℕ → ℕ → ℕ → List ℕ → Opening
  from_maximum w h m raster = split w h m raster

  abbrev from_height : ℕ → ℕ → List ℕ → Opening
  from_height w h l = take_field l (from_maximum w h)

  abbrev from_width : ℕ → List ℕ → Opening
  from_width w l = take_field l (from_height w)

  by_mark : (t : Bool) → is_marked file ≡ t → header_of file ≡ cond t (take_field (drop 3 file) from_width) none
  unfolding header_of
  by_mark t e = marked file (λ l. take_field l from_width) ∙ ap (λ (t : Bool). cond t (take_field (drop 3 file) from_width) none) e

  pub no_mark : is_marked file ≡ false → header_of file ≡ none
  no_mark e = by_mark false e

  module _ (e : is_marked file ≡ true) where
    pub no_width : Lost file 3 → header_of file ≡ none
    no_width f = by_mark true e ∙ f from_width

    pub no_height : (w a : ℕ) → Goes file 3 w a → Lost file a → header_of file ≡ none
    no_height w a f g = by_mark true e ∙ f from_width ∙ g (from_height w)

    pub no_maximum : (w a h b : ℕ) → Goes file 3 w a → Goes file a h b → Lost file b → header_of file ≡ none
    no_maximum w a h b f g i = by_mark true e ∙ f from_width ∙ g (from_height w) ∙ i (from_maximum w h)

    pub has_header : (w a h b m s : ℕ) → Goes file 3 w a → Goes file a h b → Goes file b m s → header_of file ≡ split w h m (drop s file)
    has_header w a h b m s f g i = by_mark true e ∙ f from_width ∙ g (from_height w) ∙ i (from_maximum w h)

  pub head_missing : header_of file ≡ none → None ≡ head_of file
  unfolding head_of
  head_missing e = sym (ap (head_by file) e)

  pub head_numbers : (w h m s : ℕ) → header_of file ≡ split w h m (drop s file) → s ≤ length file → header_at w h m s ≡ head_of file
  unfolding head_of
  head_numbers w h m s e i = sym (ap (head_by file) e ∙ ap (header_at w h m) (omega (arith, length-drop s file)))
