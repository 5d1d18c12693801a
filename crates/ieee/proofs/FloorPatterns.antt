-- `floor binary32`, as patterns: what floor32 makes of the 24 digits over p, and of the sign (`floor_part`). The size cut depends on the size alone (`cut_same`), so p stands in for the denominator.
use mathlib.Core.Path.{◌≡◌, refl, sym, ap, ◌∙◌, subst}
use mathlib.Core.Logic.{◌⊎◌, inl, inr}
use mathlib.Core.Bool.{Bool, true, false, not, cond}
use Prim.Native.Nat.{ℕ, suc, ◌+◌, ◌-◌, ◌*◌, ◌/◌, ◌%◌, ◌^◌, ◌≤◌, ◌<◌}
use native.Mathlib.Nat.{le_trans, le_of_lt, lt_of_lt_of_le, mul_assoc, mul-one, zero-lt-suc, mod-eq_of_lt, eq-zero-or-pos, eq-or-lt_of_le, div-eq_of_lt, div-le_self, mul-pos, zero-mul, add-zero}
use native.Mathlib.Omega.{arith}
use lib.Dec.{T, lit<, lit≤, le→leb, ltb, ltb→lt, nltb→le}
use lib.Arith.{digits_div}
use lib.IntN.{pos}
use lib.Pow.{pow-add, pow_pos, pow_mono, shl_lt}
use lib.Ieee.{Float, nan, inf, fin, Format, binary32, prec, emax, low, up, down, round, fits, neg, of_int, of_bits, to_bits, in_float, ne, is_nan}
use lib.Ieee.Bits.{of_bits-to_bits, to_bits-lt}
use lib.Ieee.Fits.{down_pos, round-fits}
use lib.Ieee.Back.{whole_unique}
use lib.Ieee.Exact.{HasValue, round_exact}
use Rattle.ieee.specs.Floor.{cut, floor}
use Rattle.ieee.proofs.Tests.{nan_is}
use Rattle.ieee.proofs.Values.{value_neg, rescale}
use Rattle.ieee.proofs.Units.{round_neg}
use Rattle.ieee.proofs.Reading.{read_low, read_high, below_top, digits_few, of_bits_neg, in_size}
use Rattle.ieee.proofs.Cuts.{cut_same, cut_le}

-- ---- `floor` sees only the value
floor_value : (f : Format) (x : Float) (s : Bool) (a c : ℕ) → 0 < c → HasValue x s a c → floor f x ≡ round f s (cut s a c) 1
unfolding floor
floor_value f nan s a c C v = absurd v
floor_value f (inf t) s a c C v = absurd v
floor_value f (fin t m e) s a c C v = ap (λ (b : Bool). round f b (cut b (m * up e) (down e)) 1) v.0 ∙ ap (λ (w : ℕ). round f s w 1) (cut_same s (m * up e) (down e) a c (down_pos e) C v.1)

-- ---- a whole number stays
floor_whole : (f : Format) (x : Float) (s : Bool) (q j w : ℕ) → T (fits f x) → HasValue x s w 1 → w * 2 ^ low f ≡ q * 2 ^ j → q < 2 ^ prec f → q * 2 ^ j < 2 ^ (low f + suc (emax f)) → x ≡ floor f x
floor_whole f x s q j w F v e Q O =
    whole_unique f x (round f s w 1) s w F (round-fits f s w 1) v (round_exact f s w 1 q j (zero-lt-suc 0) Q O (e ∙ sym (mul-one (q * 2 ^ j))))
    ∙ sym (floor_value f x s w 1 (zero-lt-suc 0) v ∙ ap (λ (y : ℕ). round f s y 1) (same s))
  where
    same : (s : Bool) → cut s w 1 ≡ w
    same true = omega arith
    same false = omega arith

-- ---- infinities
flip_inf : neg (inf false) ≡ inf true
unfolding neg
flip_inf = refl

inf_is : of_bits binary32 0x7f80_0000 ≡ inf false
unfolding of_bits
inf_is = refl

floor_inf : (s : Bool) → inf s ≡ floor binary32 (inf s)
unfolding floor
floor_inf s = refl

-- ---- x has the size of the pattern a, and the sign s
abbrev pub Sized : Float → Bool → ℕ → Type 0
Sized x s a = ((A C : ℕ) → HasValue (of_bits binary32 a) false A C → HasValue x s A C) × (of_bits binary32 a ≡ inf false → x ≡ inf s)

module _ (x : Float) (F : T (fits binary32 x)) where
  abbrev b : ℕ
  b = to_bits binary32 x

  pub sized_below : b < 2 ^ 31 → Sized x false (b % 2 ^ 31)
  sized_below h =
      let e : of_bits binary32 (b % 2 ^ 31) ≡ x = ap (of_bits binary32) (mod-eq_of_lt h) ∙ of_bits-to_bits binary32 x F in
      (λ A C v. subst (λ (y : Float). HasValue y false A C) e v, λ i. sym e ∙ i)

  pub sized_above : 2 ^ 31 ≤ b → Sized x true (b % 2 ^ 31)
  sized_above h =
      let W : b < 2 ^ 32 = to_bits-lt binary32 x F in
      let m : b - 2 ^ 31 ≡ b % 2 ^ 31 = omega arith in
      let e : neg (of_bits binary32 (b % 2 ^ 31)) ≡ x = ap (λ (y : ℕ). neg (of_bits binary32 y)) (sym m) ∙ sym (of_bits_neg binary32 b h W) ∙ of_bits-to_bits binary32 x F in
      (λ A C v. subst (λ (y : Float). HasValue y true A C) e (value_neg (of_bits binary32 (b % 2 ^ 31)) false A C v), λ i. sym e ∙ ap neg i ∙ flip_inf)

module _ (x : Float) (F : T (fits binary32 x)) (s : Bool) (a : ℕ) (A : a ≤ 0x7f80_0000) (S : Sized x s a) where
  abbrev field : ℕ
  field = a / 2 ^ 23

  abbrev digits : ℕ
  digits = 2 ^ 23 + a % 2 ^ 23

  -- 0, and from 2 ^ 23 on
  pub floor_zero : a ≡ 0 → x ≡ floor binary32 x
  floor_zero z =
      floor_whole binary32 x s 0 0 0 F
      (rescale x s (a % 2 ^ 23 * 2 ^ 0) (2 ^ 149) 0 1 (pow_pos 149) (none (2 ^ 149) (a % 2 ^ 23) (omega arith)) (S.0 (a % 2 ^ 23 * 2 ^ 0) (2 ^ 149) (read_low binary32 a (below_top binary32 a A) (omega arith))))
      refl (lit< tt) (lit< tt)
    where
      none : (l t : ℕ) → t ≡ 0 → 0 * l ≡ t * 2 ^ 0 * 1
      none l t z = zero-mul l ∙ sym (ap (λ (y : ℕ). y * 2 ^ 0 * 1) z)

  high : 0 < field → field < 255 → HasValue x s (digits * 2 ^ (field - 1)) (2 ^ 149)
  high lo hi = S.0 (digits * 2 ^ (field - 1)) (2 ^ 149) (read_high binary32 a (below_top binary32 a A) (field - 1) (omega arith) (omega arith))

  floor_large : 150 ≤ field → x ≡ floor binary32 x
  floor_large h = go (eq-or-lt_of_le A)
    where
      go : (a ≡ 0x7f80_0000) ⊎ (a < 0x7f80_0000) → x ≡ floor binary32 x
      go (inl e) = let i : x ≡ inf s = S.1 (ap (of_bits binary32) e ∙ inf_is) in i ∙ floor_inf s ∙ ap (floor binary32) (sym i)
      go (inr l) =
          let j : field - 1 ≡ field - 150 + 149 = omega arith in
          let w : digits * 2 ^ (field - 150) * 2 ^ 149 ≡ digits * 2 ^ (field - 1) = mul_assoc digits (2 ^ (field - 150)) (2 ^ 149) ∙ ap (λ (y : ℕ). digits * y) (sym (pow-add 2 (field - 150) 149) ∙ ap (λ (y : ℕ). 2 ^ y) (sym j)) in
          floor_whole binary32 x s digits (field - 1) (digits * 2 ^ (field - 150)) F
          (rescale x s (digits * 2 ^ (field - 1)) (2 ^ 149) (digits * 2 ^ (field - 150)) 1 (pow_pos 149) (w ∙ sym (mul-one (digits * 2 ^ (field - 1)))) (high (omega arith) (omega arith)))
          w (digits_few binary32 a) (lt_of_lt_of_le (shl_lt 24 (field - 1) (digits_few binary32 a)) (pow_mono {j = 277} (omega arith)))

  -- 1 / 2 and up
  floor_mid : 126 ≤ field → field < 150 → floor binary32 x ≡ round binary32 s (cut s digits (2 ^ (150 - field))) 1
  floor_mid lo hi =
      let j : field - 1 + (150 - field) ≡ 149 = omega arith in
      floor_value binary32 x s digits (2 ^ (150 - field)) (pow_pos (150 - field))
      (rescale x s (digits * 2 ^ (field - 1)) (2 ^ 149) digits (2 ^ (150 - field)) (pow_pos 149) (sym (mul_assoc digits (2 ^ (field - 1)) (2 ^ (150 - field)) ∙ ap (λ (y : ℕ). digits * y) (sym (pow-add 2 (field - 1) (150 - field)) ∙ ap (λ (y : ℕ). 2 ^ y) j))) (high (omega arith) (omega arith)))

  -- below 1 / 2, and not 0
  floor_small : field < 126 → 0 < a → floor binary32 x ≡ round binary32 s (cut s digits (2 ^ 24)) 1
  floor_small h p = go (eq-zero-or-pos field)
    where
      one : (s : Bool) (n c : ℕ) → 0 < n → n < c → cut s n c ≡ cond s 1 0
      one true n c P h = ap (λ (y : ℕ). y / c) (eq n c P h) ∙ digits_div 1 (less n c h)
        where
          eq : (n c : ℕ) → 0 < n → n < c → n + (c - 1) ≡ 1 * c + (n - 1)
          eq n c P h = omega arith

          less : (n c : ℕ) → n < c → n - 1 < c
          less n c h = omega arith
      one false n c P h = ap (λ (y : ℕ). y / c) (add-zero n) ∙ div-eq_of_lt h

      both : (n : ℕ) → 0 < n → n < 2 ^ 149 → HasValue x s n (2 ^ 149) → floor binary32 x ≡ round binary32 s (cut s digits (2 ^ 24)) 1
      both n P h v = floor_value binary32 x s n (2 ^ 149) (pow_pos 149) v ∙ ap (λ (y : ℕ). round binary32 s y 1) (one s n (2 ^ 149) P h ∙ sym (one s digits (2 ^ 24) (omega arith) (digits_few binary32 a)))

      go : (field ≡ 0) ⊎ (0 < field) → floor binary32 x ≡ round binary32 s (cut s digits (2 ^ 24)) 1
      go (inl z) = both (a % 2 ^ 23 * 2 ^ 0) (omega arith) (shl_lt 149 0 (lt_of_lt_of_le {m = 2 ^ 23} (omega arith) (pow_mono {i = 23} {j = 149} (lit≤ tt)))) (S.0 (a % 2 ^ 23 * 2 ^ 0) (2 ^ 149) (read_low binary32 a (below_top binary32 a A) z))
      go (inr q) = both (digits * 2 ^ (field - 1)) (mul-pos (omega arith) (pow_pos (field - 1))) (lt_of_lt_of_le (shl_lt 24 (field - 1) (digits_few binary32 a)) (pow_mono {j = 149} (omega arith))) (high q (omega arith))

  -- ---- the cast: at most 2 ^ 24
  cast : (n : ℕ) → n ≤ digits → T (in_float binary32 (pos n))
  unfolding in_float
  cast n h = le→leb n (2 ^ 24) (le_trans h (le_of_lt (digits_few binary32 a)))

  pub down_in : (p : ℕ) → 0 < p → T (in_float binary32 (pos (digits / p)))
  down_in p P = cast (digits / p) (div-le_self digits p)

  pub up_in : (p : ℕ) → 0 < p → T (in_float binary32 (pos ((digits + (p - 1)) / p)))
  up_in p P = cast ((digits + (p - 1)) / p) (cut_le true digits p P)

pub down_is : (n p : ℕ) → of_int binary32 (pos (n / p)) ≡ round binary32 false (cut false n p) 1
unfolding of_int
down_is n p = ap (λ (y : ℕ). round binary32 false (y / p) 1) (sym (add-zero n))

pub up_is : (n p : ℕ) → neg (of_int binary32 (pos ((n + (p - 1)) / p))) ≡ round binary32 true (cut true n p) 1
unfolding of_int
up_is n p = sym (round_neg binary32 false ((n + (p - 1)) / p) 1)

pub floor_nan : (x : Float) → ne x x ≡ true → x ≡ floor binary32 x
unfolding floor
floor_nan x h = rw (nan_is x h)

-- ---- the p of the code
abbrev pub Part : ℕ → ℕ → Type 0
Part field p = ((126 ≤ field) × (p ≡ 2 ^ (150 - field))) ⊎ ((field < 126) × (p ≡ 2 ^ 24))

pub part_in : (field p : ℕ) → Part field p → (0 < p) × (p ≤ 2 ^ 24)
part_in field p (inl h) = rw h.1 (pow_pos (150 - field), pow_mono {j = 24} (omega arith))
part_in field p (inr h) = rw h.1 (lit< tt, lit≤ tt)

module _ (x : Float) (F : T (fits binary32 x)) (N : T (not (is_nan x))) where
  pub size_in : to_bits binary32 x % 2 ^ 31 ≤ 0x7f80_0000
  size_in = in_size binary32 x F N

  either : (s : Bool) × Sized x s (to_bits binary32 x % 2 ^ 31)
  either = go (ltb (to_bits binary32 x) (2 ^ 31)) (ltb→lt (to_bits binary32 x) (2 ^ 31)) (nltb→le (to_bits binary32 x) (2 ^ 31))
    where
      go : (t : Bool) → (T t → to_bits binary32 x < 2 ^ 31) → (T (not t) → 2 ^ 31 ≤ to_bits binary32 x) → (s : Bool) × Sized x s (to_bits binary32 x % 2 ^ 31)
      go true h k = (false, sized_below x F (h tt))
      go false h k = (true, sized_above x F (k tt))

  pub stays_large : 150 ≤ to_bits binary32 x % 2 ^ 31 / 2 ^ 23 → x ≡ floor binary32 x
  stays_large h = floor_large x F either.0 (to_bits binary32 x % 2 ^ 31) size_in either.1 h

  pub stays_zero : to_bits binary32 x % 2 ^ 31 ≡ 0 → x ≡ floor binary32 x
  stays_zero h = floor_zero x F either.0 (to_bits binary32 x % 2 ^ 31) size_in either.1 h

  pub floor_part : (s : Bool) → Sized x s (to_bits binary32 x % 2 ^ 31) → (p : ℕ) → 0 < to_bits binary32 x % 2 ^ 31 → to_bits binary32 x % 2 ^ 31 / 2 ^ 23 < 150
      → Part (to_bits binary32 x % 2 ^ 31 / 2 ^ 23) p → round binary32 s (cut s (2 ^ 23 + to_bits binary32 x % 2 ^ 31 % 2 ^ 23) p) 1 ≡ floor binary32 x
  floor_part s S p P h (inl k) = rw k.1 (sym (floor_mid x F s (to_bits binary32 x % 2 ^ 31) size_in S k.0 h))
  floor_part s S p P h (inr k) = rw k.1 (sym (floor_small x F s (to_bits binary32 x % 2 ^ 31) size_in S k.0 P))
