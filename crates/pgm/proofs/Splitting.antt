-- A header is found exactly where the file splits as the grammar says: digits end at the first byte that is none, so there is one way to split.
use mathlib.Core.Path.{◌≡◌, refl, sym, ap, ◌∙◌}
use mathlib.Core.Bool.{Bool, true, false, cond, not, ◌&&◌, ◌||◌, true≢false}
use mathlib.Core.Logic.{◌↔◌, inl, inr, ⊎_elim}
use mathlib.Core.List.{List, [], ◌∷◌, ◌++◌, append_assoc}
use Prim.Native.Nat.{ℕ, ◌≤◌}
use native.Mathlib.Omega.{arith}
use lib.Dec.{leb, eqb}
use lib.ListN.{length, get_or, length-append}
use borrow.Author.Tests.{leb-true, le-leb, eqb-true, eqb-false, ne_eqb, not-true}
use Rattle.pgm.specs.Grammar.{White, Digit, Digits, Numeral, number_in, Headed}
use Rattle.pgm.specs.Read.{Opening, split, none, is_white, is_decimal, digits_of, past_digits, is_numeral, take_byte, take_white, take_number, take_field, header_of}
use Rattle.pgm.proofs.Runs.{both_true, digit_range, digit_on, digit_off, past_on, past_off}

-- whitespace, by test and by proposition
pub white_test : {b : ℕ} → White b → is_white b ≡ true
white_test w = ⊎_elim (λ e. ap is_white e) (⊎_elim (λ e. ap is_white e) (⊎_elim (λ e. ap is_white e) (λ e. ap is_white e))) w

white_by : (b : ℕ) (p q r s : Bool) → eqb b 32 ≡ p → eqb b 9 ≡ q → eqb b 13 ≡ r → eqb b 10 ≡ s → (p || (q || (r || s))) ≡ true → White b
white_by b true q r s e f g h t = inl (eqb-true b 32 e)
white_by b false true r s e f g h t = inr (inl (eqb-true b 9 f))
white_by b false false true s e f g h t = inr (inr (inl (eqb-true b 13 g)))
white_by b false false false true e f g h t = inr (inr (inr (eqb-true b 10 h)))
white_by b false false false false e f g h t = absurd (true≢false (sym t))

pub test_white : (b : ℕ) → is_white b ≡ true → White b
test_white b t = white_by b (eqb b 32) (eqb b 9) (eqb b 13) (eqb b 10) refl refl refl refl t

white_no_digit : {b : ℕ} → White b → is_decimal b ≡ false
white_no_digit w = ⊎_elim (λ e. ap is_decimal e) (⊎_elim (λ e. ap is_decimal e) (⊎_elim (λ e. ap is_decimal e) (λ e. ap is_decimal e))) w

digit_test : (b : ℕ) → Digit b → is_decimal b ≡ true
digit_test b (p, q) = rw (le-leb 48 b p, le-leb b 57 q) refl

-- a numeral, by test and by proposition
pub numeral_test : {d : List ℕ} → Numeral d → is_numeral d ≡ true
numeral_test {d} n = rw (le-leb 1 (length d) n.some, le-leb (length d) 5 n.few, ne_eqb (get_or d 0 0) 48 n.first) refl

pub test_numeral : (d : List ℕ) → Digits d → is_numeral d ≡ true → Numeral d
test_numeral d g t =
    let p = both_true (leb 1 (length d)) (leb (length d) 5 && not (eqb (get_or d 0 0) 48)) t in
    let q = both_true (leb (length d) 5) (not (eqb (get_or d 0 0) 48)) p.1 in
    record { digits = g; some = leb-true 1 (length d) p.0; few = leb-true (length d) 5 q.0; first = eqb-false (get_or d 0 0) 48 (not-true (eqb (get_or d 0 0) 48) q.1) }

-- the digits at the front are digits, and with what stands after them they are the whole
are_digits : (l : List ℕ) → Digits (digits_of l)
are_digits [] = tt
are_digits (b ∷ l) = go (is_decimal b) refl (are_digits l)
  where
    go : (t : Bool) → is_decimal b ≡ t → Digits (digits_of l) → Digits (cond t (b ∷ digits_of l) [])
    go true e g = (digit_range b e, g)
    go false e g = tt

together : (l : List ℕ) → digits_of l ++ past_digits l ≡ l
together [] = refl
together (b ∷ l) = go (is_decimal b) (together l)
  where
    go : (t : Bool) → digits_of l ++ past_digits l ≡ l → cond t (b ∷ digits_of l) [] ++ cond t (past_digits l) (b ∷ l) ≡ b ∷ l
    go true e = ap (λ (m : List ℕ). b ∷ m) e
    go false e = refl

-- digits end at a byte that is none
ends : (d : List ℕ) (x : ℕ) (l : List ℕ) → Digits d → is_decimal x ≡ false → digits_of (d ++ x ∷ l) ≡ d
ends [] x l g e = digit_off x l e
ends (b ∷ d) x l (p, g) e = digit_on b (d ++ x ∷ l) (digit_test b p) ∙ ap (λ (m : List ℕ). b ∷ m) (ends d x l g e)

rests : (d : List ℕ) (x : ℕ) (l : List ℕ) → Digits d → is_decimal x ≡ false → past_digits (d ++ x ∷ l) ≡ x ∷ l
rests [] x l g e = past_off x l e
rests (b ∷ d) x l (p, g) e = past_on b (d ++ x ∷ l) (digit_test b p) ∙ rests d x l g e

-- what stands there is read
white_read : (x : ℕ) (l : List ℕ) (go : List ℕ → Opening) → White x → take_white (x ∷ l) go ≡ go l
unfolding take_white
white_read x l go w = ap (λ (t : Bool). cond t (go l) none) (white_test w)

field_read : (d : List ℕ) (x : ℕ) (l : List ℕ) (go : ℕ → List ℕ → Opening) → Numeral d → White x → take_field (d ++ x ∷ l) go ≡ go (number_in d) l
unfolding take_number
field_read d x l go n w =
    ap (λ (e : List ℕ). cond (is_numeral e) (take_white (past_digits (d ++ x ∷ l)) (go (number_in e))) none) (ends d x l n.digits (white_no_digit w))
    ∙ ap (λ (t : Bool). cond t (take_white (past_digits (d ++ x ∷ l)) (go (number_in d))) none) (numeral_test n)
    ∙ ap (λ (m : List ℕ). take_white m (go (number_in d))) (rests d x l n.digits (white_no_digit w))
    ∙ white_read x l (go (number_in d)) w

-- what is read stands there
module _ (w h m : ℕ) (raster : List ℕ) where
  abbrev Is : Opening → Type 0
  Is H = H ≡ split w h m raster

  not_none : {A : Type 0} → Is none → A
  not_none e = let z : ◌≡◌ {A = ℕ} 0 1 = cc in absurd (never z)
    where
      never : ◌≡◌ {A = ℕ} 0 1 → ⊥
      never z = omega arith

  byte_stands : (x : ℕ) (l : List ℕ) (go : List ℕ → Opening) → Is (take_byte x l go) → (l' : List ℕ) × (l ≡ x ∷ l') × Is (go l')
  unfolding take_byte
  byte_stands x [] go i = not_none i
  byte_stands x (b ∷ l) go i = pick (eqb b x) refl i
    where
      pick : (t : Bool) → eqb b x ≡ t → Is (cond t (go l) none) → (l' : List ℕ) × (b ∷ l ≡ x ∷ l') × Is (go l')
      pick true e i = (l, ap (λ (y : ℕ). y ∷ l) (eqb-true b x e), i)
      pick false e i = not_none i

  white_stands : (l : List ℕ) (go : List ℕ → Opening) → Is (take_white l go) → (x : ℕ) × (l' : List ℕ) × White x × (l ≡ x ∷ l') × Is (go l')
  unfolding take_white
  white_stands [] go i = not_none i
  white_stands (b ∷ l) go i = pick (is_white b) refl i
    where
      pick : (t : Bool) → is_white b ≡ t → Is (cond t (go l) none) → (x : ℕ) × (l' : List ℕ) × White x × (b ∷ l ≡ x ∷ l') × Is (go l')
      pick true e i = (b, l, test_white b e, refl, i)
      pick false e i = not_none i

  field_stands : (l : List ℕ) (go : ℕ → List ℕ → Opening) → Is (take_field l go)
      → (d : List ℕ) × (x : ℕ) × (l' : List ℕ) × Numeral d × White x × (l ≡ d ++ x ∷ l') × Is (go (number_in d) l')
  unfolding take_number
  field_stands l go i = pick (is_numeral (digits_of l)) refl i
    where
      pick : (t : Bool) → is_numeral (digits_of l) ≡ t → Is (cond t (take_white (past_digits l) (go (number_in (digits_of l)))) none)
          → (d : List ℕ) × (x : ℕ) × (l' : List ℕ) × Numeral d × White x × (l ≡ d ++ x ∷ l') × Is (go (number_in d) l')
      pick true e i =
          let s = white_stands (past_digits l) (go (number_in (digits_of l))) i in
          (digits_of l, s.0, s.1, test_numeral (digits_of l) (are_digits l) e, s.2, sym (together l) ∙ ap (λ (m : List ℕ). digits_of l ++ m) s.3, s.4)
      pick false e i = not_none i

  assembled : {file l₁ l₂ l₃ l₄ l₅ l₆ : List ℕ} {a : ℕ} (width height maximum : List ℕ) (b c d : ℕ) → file ≡ 80 ∷ l₁ → l₁ ≡ 53 ∷ l₂ → l₂ ≡ a ∷ l₃
      → l₃ ≡ width ++ b ∷ l₄ → l₄ ≡ height ++ c ∷ l₅ → l₅ ≡ maximum ++ d ∷ l₆ → l₆ ≡ raster
      → file ≡ 80 ∷ 53 ∷ a ∷ (width ++ b ∷ (height ++ c ∷ (maximum ++ d ∷ raster)))
  assembled width height maximum b c d e₁ e₂ e₃ e₄ e₅ e₆ e₇ = cc

  pub header_stands : (file : List ℕ) → header_of file ≡ split w h m raster → Headed file w h m raster
  unfolding header_of
  header_stands file i =
      let s0 = byte_stands 80 file (λ l. take_byte 53 l λ l. take_white l λ l. take_field l λ w l. take_field l λ h l. take_field l λ m raster. split w h m raster) i in
      let s1 = byte_stands 53 s0.0 (λ l. take_white l λ l. take_field l λ w l. take_field l λ h l. take_field l λ m raster. split w h m raster) s0.2 in
      let s2 = white_stands s1.0 (λ l. take_field l λ w l. take_field l λ h l. take_field l λ m raster. split w h m raster) s1.2 in
      let s3 = field_stands s2.1 (λ w l. take_field l λ h l. take_field l λ m raster. split w h m raster) s2.4 in
      let s4 = field_stands s3.2 (λ h l. take_field l λ m raster. split (number_in s3.0) h m raster) s3.6 in
      let s5 = field_stands s4.2 (λ m raster. split (number_in s3.0) (number_in s4.0) m raster) s4.6 in
      let e = parts (number_in s3.0) (number_in s4.0) (number_in s5.0) s5.2 s5.6 in
      record {
        a = s2.0;
        b = s3.1;
        c = s4.1;
        d = s5.1;
        whites = (s2.2, s3.4, s4.4, s5.4);
        width = s3.0;
        height = s4.0;
        maximum = s5.0;
        numerals = (s3.3, s4.3, s5.3);
        values = (e.0, e.1, e.2);
        whole = assembled {l₄ = s3.2} {l₅ = s4.2} {l₆ = s5.2} s3.0 s4.0 s5.0 s3.1 s4.1 s5.1 s0.1 s1.1 s2.3 s3.5 s4.5 s5.5 e.3;
      }
    where
      parts : (w' h' m' : ℕ) (r' : List ℕ) → Is (split w' h' m' r') → (w' ≡ w) × (h' ≡ h) × (m' ≡ m) × (r' ≡ raster)
      parts w' h' m' r' e = ((cc), (cc), (cc), (cc))

pub header_read : {file : List ℕ} {w h m : ℕ} {raster : List ℕ} → Headed file w h m raster → header_of file ≡ split w h m raster
unfolding header_of take_byte
header_read {file} {w} {h} {m} {raster} s =
    ap header_of s.whole
    ∙ white_read s.a from_width (λ l. take_field l λ w l. take_field l λ h l. take_field l λ m raster. split w h m raster) s.whites.0
    ∙ field_read s.width s.b from_height (λ w l. take_field l λ h l. take_field l λ m raster. split w h m raster) s.numerals.0 s.whites.1
    ∙ field_read s.height s.c from_maximum (λ h l. take_field l λ m raster. split (number_in s.width) h m raster) s.numerals.1 s.whites.2
    ∙ field_read s.maximum s.d raster (λ m raster. split (number_in s.width) (number_in s.height) m raster) s.numerals.2 s.whites.3
    ∙ ap (λ (x : ℕ). split x (number_in s.height) (number_in s.maximum) raster) s.values.0
    ∙ ap (λ (x : ℕ). split w x (number_in s.maximum) raster) s.values.1
    ∙ ap (λ (x : ℕ). split w h x raster) s.values.2
  where
    from_maximum : List ℕ
    from_maximum = s.maximum ++ s.d ∷ raster

    from_height : List ℕ
    from_height = s.height ++ s.c ∷ from_maximum

    from_width : List ℕ
    from_width = s.width ++ s.b ∷ from_height

-- the test and the proposition
pub header_iff : (file : List ℕ) (w h m : ℕ) (raster : List ℕ) → (header_of file ≡ split w h m raster) ↔ Headed file w h m raster
header_iff file w h m raster = (header_stands w h m raster file, header_read)

-- a header is 21 bytes at the most, and stands there whatever comes after it
pub prefix : {file : List ℕ} {w h m : ℕ} {raster : List ℕ} → Headed file w h m raster
    → (p : List ℕ) × (length p ≤ 21) × (file ≡ p ++ raster) × ((r : List ℕ) → Headed (p ++ r) w h m r)
prefix {file} {w} {h} {m} {raster} s = (
  80 ∷ 53 ∷ s.a ∷ (s.width ++ s.b ∷ (s.height ++ s.c ∷ (s.maximum ++ s.d ∷ []))),
  omega (
    arith,
    length-append s.width (s.b ∷ (s.height ++ s.c ∷ (s.maximum ++ s.d ∷ []))),
    length-append s.height (s.c ∷ (s.maximum ++ s.d ∷ [])),
    length-append s.maximum (s.d ∷ []),
    s.numerals.0.few,
    s.numerals.1.few,
    s.numerals.2.few,
  ),
  s.whole ∙ sym (on raster),
  λ r.
      record {
        a = s.a;
        b = s.b;
        c = s.c;
        d = s.d;
        whites = s.whites;
        width = s.width;
        height = s.height;
        maximum = s.maximum;
        numerals = s.numerals;
        values = s.values;
        whole = on r;
      },
)
  where
    on : (r : List ℕ) → (80 ∷ 53 ∷ s.a ∷ (s.width ++ s.b ∷ (s.height ++ s.c ∷ (s.maximum ++ s.d ∷ [])))) ++ r
        ≡ 80 ∷ 53 ∷ s.a ∷ (s.width ++ s.b ∷ (s.height ++ s.c ∷ (s.maximum ++ s.d ∷ r)))
    on r =
        ap (λ (l : List ℕ). 80 ∷ 53 ∷ s.a ∷ l)
        (append_assoc s.width (s.b ∷ (s.height ++ s.c ∷ (s.maximum ++ s.d ∷ []))) r
        ∙ ap (λ (l : List ℕ). s.width ++ s.b ∷ l) (append_assoc s.height (s.c ∷ (s.maximum ++ s.d ∷ [])) r
        ∙ ap (λ (l : List ℕ). s.height ++ s.c ∷ l) (append_assoc s.maximum (s.d ∷ []) r)))
