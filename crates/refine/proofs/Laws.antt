-- Three numbers are kept; an entry that is not finite, in any place, is refused. Assumes nothing.
use mathlib.Core.Path.{◌≡◌, refl, ap, ◌∙◌}
use mathlib.Core.Bool.{Bool, false, cond, ◌&&◌}
use Prim.Native.Nat.{ℕ}
use lib.Ieee.{Float, fin, binary32, of_bits}
use lib.IntN.{ℤ}
use Rattle.std.proofs.Math.Bool.{and-false}
use Rattle.ieee.specs.Order.{finite}
use Rattle.std.specs.Prelude.{Result, Ok, Err}
use Rattle.numbers.specs.declared.Number.{Number}
use Rattle.numbers.specs.declared.Number.TheVariants.{NotFinite}
use Rattle.refine.specs.declared.PositionCovariance.{PositionCovariance}
use Rattle.refine.specs.Covariance.{covariance, zeros, judged}

module _ (s t u : Bool) (m n k : ℕ) (d e f : ℤ) where
  pub kept : judged (covariance (fin s m d) (fin t n e) (fin u k f)) ≡ Ok (covariance (fin s m d) (fin t n e) (fin u k f))
  unfolding finite
  kept = refl

module _ (x y z : Float) where
  answered : Bool → Result PositionCovariance Number
  answered b = cond b (Ok (covariance x y z)) (Err NotFinite)

  pub refused_xy : finite y ≡ false → judged (covariance x y z) ≡ Err NotFinite
  unfolding answered
  refused_xy h = ap (λ (b : Bool). answered ((finite x && b) && finite z)) h ∙ ap (λ (b : Bool). answered (b && finite z)) (and-false (finite x))

  pub refused_xx : finite x ≡ false → judged (covariance x y z) ≡ Err NotFinite
  refused_xx h = rw h

  pub refused_yy : finite z ≡ false → judged (covariance x y z) ≡ Err NotFinite
  unfolding answered
  refused_yy h = ap (λ (b : Bool). answered ((finite x && finite y) && b)) h ∙ ap answered (and-false (finite x && finite y))

-- the zeros are those of pattern 0
pub zeros_are : zeros ≡ covariance (of_bits binary32 0) (of_bits binary32 0) (of_bits binary32 0)
unfolding of_bits
zeros_are = refl
