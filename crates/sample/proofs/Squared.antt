-- The output squared in f32 is its whole square rounded once: f32 holds the output itself. So it makes no difference whether it is
-- squared before or after it becomes an f32. Assumes nothing.
use Rattle.std.proofs.Common.{◌≡◌, ℕ, suc, ◌*◌, ◌≤◌, Bool, true, false, ℤ, pos, negsuc, nat_abs, sym, refl, ap, ◌∙◌, subst, mul-pos, arith}
use lib.Ieee.{Float, nan, inf, fin, binary32, up, down, unlike, round, mul, of_int}
use lib.Ieee.Fits.{down_pos}
use lib.Ieee.Exact.{HasValue}
use lib.Ieee.Back.{round_whole}
use lib.Ieee.Scale.{round_same}
use Rattle.ieee.proofs.ConvertFromInt.{below_zero}
use Rattle.window.specs.Window.{Window, Pixels, stats_of}
use Rattle.window.proofs.Figures.{output_within}
use Rattle.sample.specs.Laid.{square32}

unlike_self : (s : Bool) → unlike s s ≡ false
unlike_self true = refl
unlike_self false = refl

product : (m a d : ℕ) → m * 1 ≡ a * d → m * m * 1 ≡ a * a * (d * d)
product m a d h = subst (λ (n : ℕ). n * n * 1 ≡ a * a * (d * d)) (sym (one m a d h)) (omega arith)
  where
    one : (m a d : ℕ) → m * 1 ≡ a * d → m ≡ a * d
    one m a d h = omega arith

square_at : (x : Float) (s : Bool) (a : ℕ) → HasValue x s a 1 → mul binary32 x x ≡ of_int binary32 (pos (a * a))
unfolding mul of_int
square_at nan s a v = absurd v
square_at (inf t) s a v = absurd v
square_at (fin t m e) s a v =
    ap (λ (b : Bool). round binary32 b (m * up e * (m * up e)) (down e * down e)) (unlike_self t)
    ∙ round_same binary32 false (m * up e * (m * up e)) (down e * down e) (a * a) 1 (mul-pos (down_pos e) (down_pos e)) (omega arith)
    (product (m * up e) a (down e) v.1)

held : (z : ℤ) → nat_abs z ≤ 8160 → HasValue (of_int binary32 z) (below_zero z) (nat_abs z) 1
unfolding of_int
held (pos n) h = round_whole binary32 false n (omega arith)
held (negsuc n) h = round_whole binary32 true (suc n) (omega arith)

pub squared_once : (p : Window) → Pixels p
    → square32 (stats_of p) ≡ of_int binary32 (pos (nat_abs (stats_of p).op * nat_abs (stats_of p).op))
squared_once p e =
    square_at (of_int binary32 (stats_of p).op) (below_zero (stats_of p).op) (nat_abs (stats_of p).op) (held (stats_of p).op (output_within p e))
