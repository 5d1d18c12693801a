-- The loops of `put`, which divides the number down, and of `get`, which builds it up from the highest byte.
use mathlib.Core.Path.{◌≡◌, sym, ap, ◌∙◌, subst}
use Prim.Native.Nat.{ℕ, suc, ◌+◌, ◌-◌, ◌*◌, ◌/◌, ◌%◌, ◌^◌, ◌≤◌, ◌<◌}
use mathlib.Core.List.{List, [], ◌∷◌, ◌++◌}
use native.Mathlib.Omega.{arith}
use native.Mathlib.Nat.{pow-succ', pow-le-pow_right}
use lib.ListN.{length, get_or, take, drop, set}
use lib.Seq.{slice, slice_empty, slice-cons}
use Rattle.laws.proofs.Fill.{Writing, put, end}
use Rattle.laws.specs.Lists.{laid}
use Rattle.little_endian.specs.Bytes.{bytes_of, value_of}
use Rattle.little_endian.proofs.Laws.{length_bytes}

-- ---- k of the count bytes of x are written, and those of `rest` are to come
pub record Putting (out₀ : List ℕ) (at count x k rest : ℕ) (out : List ℕ) : Type 0 where
  pub low : k ≤ count
  pub long : length out ≡ length out₀
  pub writing : Writing (take at out₀ ++ bytes_of count x) out₀ (at + k) out (bytes_of (count - k) rest)

none_to_come : (n rest : ℕ) → n ≡ 0 → bytes_of n rest ≡ []
unfolding bytes_of
none_to_come n rest e = ap (λ (m : ℕ). bytes_of m rest) e

one_to_come : (n m rest : ℕ) → n ≡ suc m → bytes_of n rest ≡ rest % 256 ∷ bytes_of m (rest / 256)
unfolding bytes_of
one_to_come n m rest e = ap (λ (i : ℕ). bytes_of i rest) e

module _ {out₀ : List ℕ} {at count x : ℕ} where
  pub put_turn : {k rest : ℕ} {out : List ℕ} → at + count ≤ length out₀ → k < count → Putting out₀ at count x k rest out
      → Putting out₀ at count x (k + 1) (rest / 256) (set out (at + k) (rest % 256))
  put_turn {k} {rest} {out} room h p =
      record { low = omega arith; long = next.long; writing = subst (λ (j : ℕ). Writing (take at out₀ ++ bytes_of count x) out₀ j (set out (at + k) (rest % 256)) (bytes_of (count - (k + 1)) (rest / 256))) (over at k) next }
    where
      less : (n k : ℕ) → k < n → n - k ≡ suc (n - (k + 1))
      less n k h = omega arith

      over : (a b : ℕ) → a + b + 1 ≡ a + (b + 1)
      over a b = omega arith

      next : Writing (take at out₀ ++ bytes_of count x) out₀ (at + k + 1) (set out (at + k) (rest % 256)) (bytes_of (count - (k + 1)) (rest / 256))
      next =
          put (omega (arith, p.long))
          (subst (λ (l : List ℕ). Writing (take at out₀ ++ bytes_of count x) out₀ (at + k) out l)
          (one_to_come (count - k) (count - (k + 1)) rest (less count k h)) p.writing)

  pub put_end : {k rest : ℕ} {out : List ℕ} → count ≤ k → Putting out₀ at count x k rest out → out ≡ laid out₀ at (bytes_of count x)
  put_end {k} {rest} {out} h p =
      end (subst (λ (l : List ℕ). Writing (take at out₀ ++ bytes_of count x) out₀ (at + k) out l) (none_to_come (count - k) rest (none count k h)) p.writing)
      ∙ ap (λ (i : ℕ). (take at out₀ ++ bytes_of count x) ++ drop i out₀) (full at count k (length (bytes_of count x)) p.low h (length_bytes count x))
    where
      none : (n k : ℕ) → n ≤ k → n - k ≡ 0
      none n k h = omega arith

      full : (a n k m : ℕ) → k ≤ n → n ≤ k → m ≡ n → a + k ≡ a + m
      full a n k m i j e = omega arith

-- ---- x is the number of the bytes from place at + k up to place at + count
pub record Getting (bytes : List ℕ) (at count x k : ℕ) : Type 0 where
  pub low : k ≤ count
  pub small : x < 256 ^ (count - k)
  pub is : x ≡ value_of (slice (at + k) (at + count) bytes)

value_none : (l : List ℕ) → l ≡ [] → 0 ≡ value_of l
unfolding value_of
value_none l e = sym (ap value_of e)

value_one : (l m : List ℕ) (b : ℕ) → l ≡ b ∷ m → b + 256 * value_of m ≡ value_of l
unfolding value_of
value_one l m b e = sym (ap value_of e)

module _ {bytes : List ℕ} {at count : ℕ} where
  pub get_start : Getting bytes at count 0 count
  get_start = record { low = omega arith; small = subst (λ (n : ℕ). 0 < 256 ^ n) (none count) (omega arith); is = value_none (slice (at + count) (at + count) bytes) (slice_empty (at + count) bytes) }
    where
      none : (n : ℕ) → 0 ≡ n - n
      none n = omega arith

  pub get_turn : {x k b : ℕ} → at + count ≤ length bytes → 0 < k → b < 256 → b ≡ get_or bytes (at + (k - 1)) 0 → Getting bytes at count x k
      → Getting bytes at count (x * 256 + b) (k - 1)
  get_turn {x} {k} {b} room h s e g =
      record {
        low = omega arith;
        small = subst (λ (n : ℕ). x * 256 + b < 256 ^ n) (up count k h g.low) (rw (pow-succ' 256 (count - k)) (less x b (256 ^ (count - k)) g.small s));
        is = turned x b (value_of (slice (at + k) (at + count) bytes)) g.is
            ∙ ap (λ (i : ℕ). i + 256 * value_of (slice (at + k) (at + count) bytes)) e
            ∙ value_one (slice (at + (k - 1)) (at + count) bytes) (slice (at + k) (at + count) bytes) (get_or bytes (at + (k - 1)) 0)
            (slice-cons (at + (k - 1)) (at + count) bytes 0 (omega arith) room ∙ ap (λ (i : ℕ). get_or bytes (at + (k - 1)) 0 ∷ slice i (at + count) bytes) (one at k h));
      }
    where
      up : (n k : ℕ) → 0 < k → k ≤ n → suc (n - k) ≡ n - (k - 1)
      up n k h l = omega arith

      less : (x b p : ℕ) → x < p → b < 256 → x * 256 + b < 256 * p
      less x b p h s = omega arith

      turned : (x b v : ℕ) → x ≡ v → x * 256 + b ≡ b + 256 * v
      turned x b v e = omega arith

      one : (a k : ℕ) → 0 < k → suc (a + (k - 1)) ≡ a + k
      one a k h = omega arith

  -- a turn's number fits 64 bits where there are at most 8 bytes
  pub get_fits : {x k : ℕ} → count ≤ 8 → 0 < k → Getting bytes at count x k → x < 256 ^ 7
  get_fits {x} {k} h p g = omega (arith, g.small, pow-le-pow_right {n = 256} (omega arith) {i = count - k} {j = 7} (omega arith))
