-- The sign as the library reads it, and that of the NaN.
use Rattle.std.proofs.Common.{◌≡◌, true, false, refl}
use Rattle.std.specs.Prelude.{Float}
use Rattle.std.specs.Float.{nan, inf, fin, is_sign_negative}
use Rattle.std.specs.Float.Ieee.{is_nan}
use mathlib.Core.Bool.{false≢true}
use Rattle.ieee.specs.Order.{negative, magnitude}

pub sign_is : (x : Float) → is_sign_negative x ≡ negative x
unfolding is_sign_negative negative
sign_is nan = refl
sign_is (inf s) = refl
sign_is (fin s m e) = refl

pub nan_positive : (x : Float) → is_nan x ≡ true → negative x ≡ false
unfolding is_nan negative
nan_positive nan h = refl
nan_positive (inf s) h = absurd (false≢true h)
nan_positive (fin s m e) h = absurd (false≢true h)

pub nan_magnitude : (x : Float) → is_nan x ≡ true → x ≡ magnitude x
unfolding is_nan magnitude
nan_magnitude nan h = refl
nan_magnitude (inf s) h = absurd (false≢true h)
nan_magnitude (fin s m e) h = absurd (false≢true h)
