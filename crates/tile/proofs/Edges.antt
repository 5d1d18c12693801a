-- What the steps of `edge_width` leave, put together: the answer of the tile's smoothed square.
use Rattle.std.proofs.Common.{◌≡◌, ℕ, ◌+◌, ◌*◌, ◌≤◌, true, false, List, refl, sym, ap, ◌∙◌, subst, arith}
use lib.Ieee.{Float, binary32, sub, mul, div, lt, of_bits}
use Rattle.laws.proofs.Choice.{chosen, passed}
use Rattle.ieee.specs.Numbers.{f32_of}
use Rattle.levels.specs.Whole.{Upto, AllUpto}
use Rattle.levels.specs.Clear.{AllClear}
use Rattle.levels.specs.Levels.{high_level, low_level}
use Rattle.levels.proofs.Constants.{zero_is}
use Rattle.steepness.specs.Steepness.{steepness}
use Rattle.disk.specs.Rows.{in_rows, read}
use Rattle.disk.specs.Smoothing.{down, across, smoothed}
use Rattle.disk.specs.Gradients.{values, gradients}
use Rattle.disk.proofs.Places.{Agree, values_same, gradients_same, smooth_read}
use Rattle.disk.proofs.Smoothed.{smooth_upto, gradients_clear, values_upto}
use Rattle.numbers.specs.declared.Number.TheVariants.{Flat}
use Rattle.tile.specs.declared.EdgeWidth.TheVariants.{Width, Refused}
use Rattle.tile.specs.Tile.{ByteSamples}
use Rattle.tile.specs.Width.{edge_of}
use Rattle.tile.proofs.Bytes.{bytes_upto}
use Rattle.tile.proofs.Constants.{root_is}

-- squares that agree on 13 rows of 13 have the same answer
pub edge_same : (s t : ℕ → ℕ → Float) → Agree s t → edge_of s ≡ edge_of t
edge_same s t h = rw (gradients_same s t h, values_same s t h) refl

module _ (samples rows smooth grads : List Float) (p : rows ≡ in_rows (down (read samples)) 221) (q : smooth ≡ in_rows (across (read rows)) 217) (r : grads ≡ gradients (read smooth)) where
  grads_are : grads ≡ gradients (smoothed (read samples))
  grads_are = r ∙ gradients_same (read smooth) (smoothed (read samples)) (smooth_read (read samples) rows smooth p q)

  vals_are : (vals : List Float) → vals ≡ values (read smooth) → vals ≡ values (smoothed (read samples))
  vals_are vals v = v ∙ values_same (read smooth) (smoothed (read samples)) (smooth_read (read samples) rows smooth p q)

  module _ (bytes : ByteSamples samples) where
    upto : (y x : ℕ) → y ≤ 12 → x ≤ 12 → Upto 65280 (smoothed (read samples) y x)
    upto = smooth_upto (read samples) (λ y x a b. bytes_upto samples bytes (y * 17 + x) (omega arith))

    pub grads_clear : AllClear grads
    grads_clear = subst AllClear (sym grads_are) (gradients_clear (smoothed (read samples)) upto)

    pub vals_upto : (vals : List Float) → vals ≡ values (read smooth) → AllUpto 65280 vals
    vals_upto vals v = subst (AllUpto 65280) (sym (vals_are vals v)) (values_upto (smoothed (read samples)) upto)

  module _ (g : Float) (e : g ≡ steepness grads) where
    abbrev steep : Float
    steep = steepness (gradients (smoothed (read samples)))

    g_is : g ≡ steep
    g_is = e ∙ ap steepness grads_are

    test_is : lt (of_bits binary32 0) g ≡ lt (f32_of 0) steep
    test_is = λ i. lt (zero_is i) (g_is i)

    pub flat_is : lt (of_bits binary32 0) g ≡ false → Refused Flat ≡ edge_of (smoothed (read samples))
    flat_is h = passed (lt (f32_of 0) steep) _ (Refused Flat) (sym test_is ∙ h)

    pub width_is : (vals : List Float) (contrast : Float) → vals ≡ values (read smooth) → contrast ≡ sub binary32 (high_level vals) (low_level vals) → lt (of_bits binary32 0) g ≡ true
        → Width (div binary32 contrast (mul binary32 (of_bits binary32 0x4020_6c99) g)) ≡ edge_of (smoothed (read samples))
    width_is vals contrast v c h =
        (λ i. Width (div binary32 (contrast_is i) (mul binary32 (root_is i) (g_is i)))) ∙ chosen (lt (f32_of 0) steep) _ (Refused Flat) (sym test_is ∙ h)
      where
        contrast_is : contrast ≡ sub binary32 (high_level (values (smoothed (read samples)))) (low_level (values (smoothed (read samples))))
        contrast_is = c ∙ (λ i. sub binary32 (high_level (vals_are vals v i)) (low_level (vals_are vals v i)))
