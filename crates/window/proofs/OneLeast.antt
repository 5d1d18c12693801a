-- Only one number is 400 times the least misfit of a window: each of two is at most the other.
use mathlib.Core.Path.{◌≡◌, sym, ap, subst}
use Prim.Native.Nat.{ℕ, suc, ◌+◌, ◌-◌, ◌*◌, ◌≤◌}
use native.Mathlib.Omega.{arith}
use native.Mathlib.Nat.{le_antisymm, mul-le-mul, le_of_mul-le-mul_left}
use lib.Dec.{T, leb→le, le→leb}
use lib.IntN.{ℤ, pos, negsuc, neg_ℤ, ◌*ℤ◌}
use lib.Signed.{◌≤ℤ◌, le_z}
use Rattle.window.specs.Window.{Window, sq}
use Rattle.window.specs.Surface.{Is400TimesLeastMisfit}

both_ways : (a b : ℤ) → T (le_z a b) → T (le_z b a) → a ≡ b
both_ways (pos a) (pos b) h t = ap pos (le_antisymm (leb→le a b h) (leb→le b a t))
both_ways (pos a) (negsuc b) h t = absurd h
both_ways (negsuc a) (pos b) h t = absurd t
both_ways (negsuc a) (negsuc b) h t = ap negsuc (le_antisymm (leb→le a b t) (leb→le b a h))

-- (n + 1) × (b + 1) is one more than this
abbrev less : ℕ → ℕ → ℕ
less n b = n * suc b + b

one_more : (n b : ℕ) → suc n * suc b ≡ suc (less n b)
one_more n b = omega arith

cancel : (n : ℕ) (a b : ℤ) → T (le_z (pos (suc n) *ℤ a) (pos (suc n) *ℤ b)) → T (le_z a b)
cancel n (pos a) (pos b) h =
    le→leb a b (le_of_mul-le-mul_left {k = suc n} (leb→le (suc n * a) (suc n * b) h) (omega arith))
cancel n (pos a) (negsuc b) h = subst (λ (k : ℕ). T (le_z (pos (suc n * a)) (neg_ℤ (pos k)))) (one_more n b) h
cancel n (negsuc a) (pos b) h = tt
cancel n (negsuc a) (negsuc b) h =
    le→leb b a (pred_le b a (le_of_mul-le-mul_left {k = suc n} (omega (arith, one_more n a, one_more n b, leb→le (less n b) (less n a) t)) (omega arith)))
  where
    t : T (le_z (negsuc (less n a)) (negsuc (less n b)))
    t =
        subst (λ (k : ℕ). T (le_z (negsuc (less n a)) (neg_ℤ (pos k)))) (one_more n b)
        (subst (λ (k : ℕ). T (le_z (neg_ℤ (pos k)) (pos (suc n) *ℤ negsuc b))) (one_more n a) h)

    pred_le : (b a : ℕ) → suc b ≤ suc a → b ≤ a
    pred_le b a h = omega arith

cancel_sq : (D : ℕ) → 1 ≤ D → (a b : ℤ) → (sq (pos D) *ℤ a) ≤ℤ (sq (pos D) *ℤ b) → T (le_z a b)
cancel_sq D h a b l =
    cancel (D * D - 1) a b (subst (λ (k : ℕ). T (le_z (pos k *ℤ a) (pos k *ℤ b))) (omega (arith, mul-le-mul h h)) l.le)

module _ {p : Window} {g h : ℤ} (k : Is400TimesLeastMisfit p g) (l : Is400TimesLeastMisfit p h) where
  at_most : T (le_z g h)
  at_most =
      let r = l.reached in
      cancel_sq r.0 r.1 g h (subst (λ (z : ℤ). (sq (pos r.0) *ℤ g) ≤ℤ z) (sym r.3) (k.never_less r.0 r.1 r.2))

pub one_least : {p : Window} {g h : ℤ} → Is400TimesLeastMisfit p g → Is400TimesLeastMisfit p h → g ≡ h
one_least {p} {g} {h} k l = both_ways g h (at_most k l) (at_most l k)
