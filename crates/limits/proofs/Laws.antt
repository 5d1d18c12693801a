-- What follows where nothing is refused. Assumes nothing.
use mathlib.Core.Path.{◌≡◌, refl, sym, ap, ◌∙◌}
use mathlib.Core.Bool.{Bool, true, false, cond, not, ◌||◌}
use mathlib.Core.List.{List}
use Prim.Native.Nat.{ℕ, ◌*◌, ◌≤◌}
use native.Mathlib.Omega.{arith}
use borrow.Author.Tests.{not-false, eqb-true, ltb-false}
use lib.Dec.{eqb, ltb}
use lib.ListN.{get_or}
use lib.IntN.{ℤ, pos, nat_abs}
use Rattle.limits.specs.Limits.{too_large, too_small, other_length, image_number, far, far_place}

-- neither of two tests holds
pub neither : (a b : Bool) → (a || b) ≡ false → (a ≡ false) × (b ≡ false)
neither true b h = absurd (let q : ◌≡◌ {A = ℕ} 0 1 = cc in omega arith)
neither false b h = (refl, h)

pub not_large : (w h : ℕ) → too_large w h ≡ false → (w ≤ 16384) × (h ≤ 16384)
not_large w h e = let n = neither (ltb 16384 w) (ltb 16384 h) e in (ltb-false 16384 w n.0, ltb-false 16384 h n.1)

pub not_small : (w h : ℕ) → too_small w h ≡ false → (4 ≤ w) × (4 ≤ h)
not_small w h e = let n = neither (ltb w 4) (ltb h 4) e in (ltb-false w 4 n.0, ltb-false h 4 n.1)

-- a place that is not far off
pub not_far : (p : List ℤ) → far_place p ≡ false → (nat_abs (get_or p 0 (pos 0)) ≤ 1000000) × (nat_abs (get_or p 1 (pos 0)) ≤ 1000000)
not_far p e =
    let n = neither (far (get_or p 0 (pos 0))) (far (get_or p 1 (pos 0))) e in
    (ltb-false 1000000 (nat_abs (get_or p 0 (pos 0))) n.0, ltb-false 1000000 (nat_abs (get_or p 1 (pos 0))) n.1)

module _ (pixels w h : ℕ) (e : image_number pixels w h ≡ 0) where
  pub not_refused : (too_large w h ≡ false) × (other_length pixels w h ≡ false)
  not_refused = go (too_large w h) (other_length pixels w h) e
    where
      go : (a b : Bool) → ◌≡◌ {A = ℕ} (cond a 1 (cond b 2 0)) 0 → (a ≡ false) × (b ≡ false)
      go true b g = absurd (let q : ◌≡◌ {A = ℕ} 1 0 = g in omega arith)
      go false true g = absurd (let q : ◌≡◌ {A = ℕ} 2 0 = g in omega arith)
      go false false g = (refl, refl)

  pub as_long : pixels ≡ w * h
  as_long = eqb-true pixels (w * h) (not-false (eqb pixels (w * h)) not_refused.1)
