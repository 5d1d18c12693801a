-- `magnitude`, `negative` and `finite`: the size has no sign and differs from x by its sign alone, and x is finite where its size is below the infinity, which is Rust's is_finite.
use mathlib.Core.Path.{◌≡◌, refl}
use mathlib.Core.Bool.{true, false, not, true≢false, false≢true}
use lib.Ieee.{Float, nan, inf, fin, neg, lt, is_nan}
use Rattle.ieee.specs.Order.{magnitude, negative, finite}

pub magnitude_plus : (x : Float) → negative (magnitude x) ≡ false
unfolding magnitude negative
magnitude_plus nan = refl
magnitude_plus (inf s) = refl
magnitude_plus (fin s m e) = refl

pub magnitude_same : (x : Float) → negative x ≡ false → magnitude x ≡ x
unfolding magnitude negative
magnitude_same nan h = refl
magnitude_same (inf true) h = absurd (true≢false h)
magnitude_same (inf false) h = refl
magnitude_same (fin true m e) h = absurd (true≢false h)
magnitude_same (fin false m e) h = refl

pub magnitude_turned : (x : Float) → negative x ≡ true → magnitude x ≡ neg x
unfolding magnitude negative neg
magnitude_turned nan h = absurd (false≢true h)
magnitude_turned (inf true) h = refl
magnitude_turned (inf false) h = absurd (false≢true h)
magnitude_turned (fin true m e) h = refl
magnitude_turned (fin false m e) h = absurd (false≢true h)

-- `-x` turns the sign of what is no NaN
pub negative_turned : (x : Float) → is_nan x ≡ false → negative (neg x) ≡ not (negative x)
unfolding negative neg is_nan
negative_turned nan h = absurd (true≢false h)
negative_turned (inf s) h = refl
negative_turned (fin s m e) h = refl

pub finite_below : (x : Float) → finite x ≡ lt (magnitude x) (inf false)
unfolding finite lt magnitude
finite_below nan = refl
finite_below (inf s) = refl
finite_below (fin s m e) = refl
