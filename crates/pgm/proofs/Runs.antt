-- A run of digits read one after the other: what is left of the run is what the loop has yet to read.
use mathlib.Core.Path.{◌≡◌, refl, sym, ap, ◌∙◌}
use mathlib.Core.Bool.{Bool, true, false, cond, not, ◌&&◌, and-false, true≢false}
use mathlib.Core.List.{List, [], ◌∷◌}
use Prim.Native.Nat.{ℕ, ◌+◌, ◌-◌, ◌^◌, ◌≤◌, ◌<◌}
use native.Mathlib.Omega.{arith}
use native.Mathlib.Numerals.{add-one}
use lib.Dec.{ltb, leb, eqb}
use lib.ListN.{length, get_or, drop, get_or-eq_default}
use lib.Seq.{drop-cons, get_or-drop}
use borrow.Author.Tests.{ltb-true, ltb-false, leb-true, lt-leb, le-leb, eq-eqb, ne_eqb}
use Rattle.pgm.specs.Grammar.{number_after, number_in}
use Rattle.pgm.specs.Read.{Opening, none, is_decimal, digits_of, past_digits, is_numeral, take_number}

pub both_true : (x y : Bool) → (x && y) ≡ true → (x ≡ true) × (y ≡ true)
both_true true y e = (refl, e)
both_true false y e = absurd (true≢false (sym e))

pub digit_range : (b : ℕ) → is_decimal b ≡ true → (48 ≤ b) × (b ≤ 57)
digit_range b e = let p = both_true (leb 48 b) (leb b 57) e in (leb-true 48 b p.0, leb-true b 57 p.1)

-- a test that 0 does not pass is passed in the file only
module _ (test : ℕ → Bool) (out : test 0 ≡ false) (file : List ℕ) (k : ℕ) where
  within : (t : Bool) → ltb k (length file) ≡ t → test (get_or file k 0) ≡ true → k < length file
  within true e d = ltb-true k (length file) e
  within false e d = absurd (true≢false (sym d ∙ ap test (get_or-eq_default file 0 {n = k} (ltb-false k (length file) e)) ∙ out))

  pub passed_within : test (get_or file k 0) ≡ true → k < length file
  passed_within = within (ltb k (length file)) refl

pub in_file : (file : List ℕ) (k : ℕ) → is_decimal (get_or file k 0) ≡ true → k < length file
in_file = passed_within is_decimal refl

-- what a test of a byte that was peeked says of the file
pub known : (test : ℕ → Bool) (file : List ℕ) (k : ℕ) {x : ℕ} {t u : Bool} → x ≡ get_or file k 0 → t ≡ test x → t ≡ u → test (get_or file k 0) ≡ u
known test file k p q e = sym (q ∙ ap test p) ∙ e

pub next : (file : List ℕ) (k : ℕ) → k < length file → drop k file ≡ get_or file k 0 ∷ drop (k + 1) file
next file k h = rw (add-one, drop-cons file k 0)

pub digit_on : (b : ℕ) (l : List ℕ) → is_decimal b ≡ true → digits_of (b ∷ l) ≡ b ∷ digits_of l
digit_on b l e = ap (λ (t : Bool). cond t (b ∷ digits_of l) []) e

pub digit_off : (b : ℕ) (l : List ℕ) → is_decimal b ≡ false → digits_of (b ∷ l) ≡ []
digit_off b l e = ap (λ (t : Bool). cond t (b ∷ digits_of l) []) e

pub past_on : (b : ℕ) (l : List ℕ) → is_decimal b ≡ true → past_digits (b ∷ l) ≡ past_digits l
past_on b l e = ap (λ (t : Bool). cond t (past_digits l) (b ∷ l)) e

pub past_off : (b : ℕ) (l : List ℕ) → is_decimal b ≡ false → past_digits (b ∷ l) ≡ b ∷ l
past_off b l e = ap (λ (t : Bool). cond t (past_digits l) (b ∷ l)) e

no_digits : (l : List ℕ) → is_decimal (get_or l 0 0) ≡ false → digits_of l ≡ []
no_digits [] e = refl
no_digits (b ∷ l) e = digit_off b l e

all_past : (l : List ℕ) → is_decimal (get_or l 0 0) ≡ false → past_digits l ≡ l
all_past [] e = refl
all_past (b ∷ l) e = past_off b l e

front_of : (t : Bool) (b : ℕ) (x : List ℕ) → 1 ≤ length (cond t (b ∷ x) []) → get_or (cond t (b ∷ x) []) 0 0 ≡ b
front_of true b x h = refl
front_of false b x h = absurd (never h)
  where
    never : 1 ≤ 0 → ⊥
    never h = omega arith

first_of : (l : List ℕ) → 1 ≤ length (digits_of l) → get_or (digits_of l) 0 0 ≡ get_or l 0 0
first_of [] h = refl
first_of (b ∷ l) h = front_of (is_decimal b) b (digits_of l) h

pub at_front : (file : List ℕ) (k : ℕ) → get_or (drop k file) 0 0 ≡ get_or file k 0
at_front file k = get_or-drop k file 0 0 ∙ ap (λ (i : ℕ). get_or file i 0) {x = k + 0} {y = k} (omega arith)

-- the digits from `at` to k are read, and write n
pub record Run (file : List ℕ) (at k n : ℕ) : Type 0 where
  pub low : at ≤ k
  pub high : k ≤ length file
  pub few : k ≤ at + 5
  pub small : n < 10 ^ (k - at)
  pub count : (k - at) + length (digits_of (drop k file)) ≡ length (digits_of (drop at file))
  pub past : past_digits (drop k file) ≡ past_digits (drop at file)
  pub value : number_after n (digits_of (drop k file)) ≡ number_in (digits_of (drop at file))

module _ {file : List ℕ} {at k n : ℕ} (r : Run file at k n) (d : is_decimal (get_or file k 0) ≡ false) where
  over : is_decimal (get_or (drop k file) 0 0) ≡ false
  over = ap is_decimal (at_front file k) ∙ d

  pub run_length : k - at ≡ length (digits_of (drop at file))
  run_length = omega (arith, r.count, ap length (no_digits (drop k file) over))

  pub run_rest : drop k file ≡ past_digits (drop at file)
  run_rest = sym (all_past (drop k file) over) ∙ r.past

  pub run_value : n ≡ number_in (digits_of (drop at file))
  run_value = sym (ap (number_after n) (no_digits (drop k file) over)) ∙ r.value

not_number : (l : List ℕ) → is_numeral (digits_of l) ≡ false → (go : ℕ → List ℕ → Opening) → take_number l go ≡ none
unfolding take_number
not_number l e go = ap (λ (t : Bool). cond t (go (number_in (digits_of l)) (past_digits l)) none) e

-- a sixth digit
pub run_long : {file : List ℕ} {at k n : ℕ} → Run file at k n → is_decimal (get_or file k 0) ≡ true → k - at ≡ 5 → (go : ℕ → List ℕ → Opening) → take_number (drop at file) go ≡ none
run_long {file} {at} {k} r d h =
    not_number (drop at file)
    (ap (λ (t : Bool). leb 1 size && (t && not (eqb (get_or (digits_of (drop at file)) 0 0) 48))) (lt-leb size 5 (omega (arith, r.count, ap length digits))) ∙ and-false (leb 1 size))
  where
    size : ℕ
    size = length (digits_of (drop at file))

    digits : digits_of (drop k file) ≡ get_or file k 0 ∷ digits_of (drop (k + 1) file)
    digits = ap digits_of (next file k (in_file file k d)) ∙ digit_on (get_or file k 0) (drop (k + 1) file) d

-- no digit
pub run_none : {file : List ℕ} {at k n : ℕ} → Run file at k n → is_decimal (get_or file k 0) ≡ false → k ≡ at → (go : ℕ → List ℕ → Opening) → take_number (drop at file) go ≡ none
run_none {file} {at} {k} r d h =
    not_number (drop at file)
    (ap (λ (t : Bool). t && (leb size 5 && not (eqb (get_or (digits_of (drop at file)) 0 0) 48))) (lt-leb 1 size (omega (arith, run_length r d))))
  where
    size : ℕ
    size = length (digits_of (drop at file))

-- a zero in front
pub run_zero : {file : List ℕ} {at k n : ℕ} → Run file at k n → is_decimal (get_or file k 0) ≡ false → (k ≡ at → ⊥) → get_or file at 0 ≡ 48 → (go : ℕ → List ℕ → Opening) → take_number (drop at file) go ≡ none
run_zero {file} {at} {k} r d h z =
    not_number (drop at file)
    (ap (λ (t : Bool). leb 1 size && (leb size 5 && not t)) (eq-eqb (get_or (digits_of (drop at file)) 0 0) 48 (first_of (drop at file) (omega (arith, run_length r d, r.low, h)) ∙ at_front file at ∙ z))
    ∙ ap (λ (t : Bool). leb 1 size && t) (and-false (leb size 5)) ∙ and-false (leb 1 size))
  where
    size : ℕ
    size = length (digits_of (drop at file))

-- a numeral
pub run_number : {file : List ℕ} {at k n : ℕ} → Run file at k n → is_decimal (get_or file k 0) ≡ false → (k ≡ at → ⊥) → (get_or file at 0 ≡ 48 → ⊥) → (go : ℕ → List ℕ → Opening) → take_number (drop at file) go ≡ go n (drop k file)
unfolding take_number
run_number {file} {at} {k} {n} r d h z go =
    ap (λ (t : Bool). cond t (go (number_in (digits_of (drop at file))) (past_digits (drop at file))) none) is
    ∙ sym (ap (λ (v : ℕ). go v (drop k file)) (run_value r d) ∙ ap (go (number_in (digits_of (drop at file)))) (run_rest r d))
  where
    size : ℕ
    size = length (digits_of (drop at file))

    front : get_or (digits_of (drop at file)) 0 0 ≡ get_or file at 0
    front = first_of (drop at file) (omega (arith, run_length r d, r.low, h)) ∙ at_front file at

    is : is_numeral (digits_of (drop at file)) ≡ true
    is = rw (le-leb 1 size (omega (arith, run_length r d, r.low, h)), le-leb size 5 (omega (arith, run_length r d, r.few)), ne_eqb (get_or (digits_of (drop at file)) 0 0) 48 (λ e. z (sym front ∙ e))) refl
