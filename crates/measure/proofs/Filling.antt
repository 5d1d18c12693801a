-- Columns filled from a place on: figures by figures that are the same, and some followed by more. Assumes nothing.
use mathlib.Core.Path.{◌≡◌, refl, sym, ap, ◌∙◌, subst}
use mathlib.Core.List.{List, [], ◌++◌, append-nil}
use Prim.Native.Nat.{ℕ, ◌+◌, ◌*◌, ◌≤◌, ◌<◌}
use native.Mathlib.Omega.{arith}
use lib.ListN.{length, take, drop, take-append-drop}
use lib.IntN.{ℤ}
use Rattle.laws.specs.Lists.{from}
use Rattle.laws.proofs.Fill.{Writing, start, put_many, end, length_from}
use Rattle.window.specs.declared.WindowStats.{WindowStats}
use Rattle.measure.specs.Columns.{column_count, field}
use Rattle.measure.specs.Loops.{column, Filled}
use Rattle.measure.proofs.Columns.{column_long}
use Rattle.measure.proofs.Rows.{from_alike, from_same, from_split}

-- a list with `new` from place `to` on, and then with `more`
laid_more : (l l₁ l₂ new more : List ℤ) (to a b : ℕ) → length new ≡ a → length more ≡ b → to + (a + b) ≤ length l
    → l₁ ≡ (take to l ++ new) ++ drop (to + a) l → l₂ ≡ (take (to + a) l₁ ++ more) ++ drop (to + a + b) l₁
    → l₂ ≡ (take to l ++ (new ++ more)) ++ drop (to + (a + b)) l
laid_more l l₁ l₂ new more to a b p q h e f = end done ∙ ap (λ (i : ℕ). (take to l ++ (new ++ more)) ++ drop i l) (sum to a b)
  where
    sum : (x y z : ℕ) → x + y + z ≡ x + (y + z)
    sum x y z = omega arith

    one : Writing (take to l ++ (new ++ more)) l (to + a) l₁ more
    one = put_many new p (omega arith) e (start l to (new ++ more))

    done : Writing (take to l ++ (new ++ more)) l (to + a + b) l₂ []
    done =
        put_many more q (omega (arith, one.long)) f
        (subst (λ (r : List ℤ). Writing (take to l ++ (new ++ more)) l (to + a) l₁ r) (sym (append-nil more)) one)

pub filled_none : (t to : ℕ) (f : ℕ → WindowStats) (l : List ℤ) → Filled t to 0 f l l
filled_none t to f l = record { each = λ c h. none (column t c l); beyond = refl; long = refl }
  where
    plus_zero_lem : (a : ℕ) → a + 0 ≡ a
    plus_zero_lem a = omega arith

    none : (k : List ℤ) → k ≡ (take to k ++ []) ++ drop (to + 0) k
    none k = sym (
        ap (λ (i : ℕ). (take to k ++ []) ++ drop i k) (plus_zero_lem to)
        ∙ ap (λ (m : List ℤ). m ++ drop to k) (append-nil (take to k))
        ∙ take-append-drop to k)

module _ {t to n : ℕ} {f g : ℕ → WindowStats} {l m : List ℤ} where
  pub filled_same : ((k : ℕ) → k < n → f k ≡ g k) → Filled t to n f l m → Filled t to n g l m
  filled_same e r = record {
    each = λ c h. r.each c h
        ∙ ap (λ (k : List ℤ). (take to (column t c l) ++ k) ++ drop (to + n) (column t c l))
        (from_same (λ k. field c (f k)) (λ k. field c (g k)) 0 n (λ k p q. ap (field c) (e k (omega arith))));
    beyond = r.beyond;
    long = r.long;
  }

module _ {t to a b : ℕ} {f g : ℕ → WindowStats} {l l₁ l₂ : List ℤ} where
  -- a figures, then b more
  pub filled_more : to + (a + b) ≤ t → column_count * t ≤ length l → ((k : ℕ) → k < b → g k ≡ f (a + k))
      → Filled t to a f l l₁ → Filled t (to + a) b g l₁ l₂ → Filled t to (a + b) f l l₂
  filled_more h r e p q = record {
    each = λ c u.
        let old = column t c l in
        let figure : ℕ → ℤ = λ k. field c (f k) in
        let next : ℕ → ℤ = λ k. field c (g k) in
        laid_more old (column t c l₁) (column t c l₂) (from figure 0 a) (from next 0 b) to a b (length_from figure 0 a) (length_from next 0 b)
        (omega (arith, column_long t c l u r)) (p.each c u) (q.each c u)
        ∙ ap (λ (k : List ℤ). (take to old ++ k) ++ drop (to + (a + b)) old)
        (ap (λ (k : List ℤ). from figure 0 a ++ k) (from_alike next figure 0 (0 + a) b
        (λ k v. ap next (left k) ∙ ap (field c) (e k v) ∙ ap figure (over k)))
        ∙ sym (from_split figure 0 a b));
    beyond = q.beyond ∙ p.beyond;
    long = q.long ∙ p.long;
  }
    where
      left : (k : ℕ) → 0 + k ≡ k
      left k = omega arith

      over : (k : ℕ) → a + k ≡ 0 + a + k
      over k = omega arith
