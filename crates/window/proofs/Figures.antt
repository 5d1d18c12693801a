-- What the figures of a window of pixels can be: sum 0 to 4,080, gate 0 to 104,040,000, output within 8,160 of 0.
use mathlib.Core.Path.{◌≡◌, refl, sym, ap, ◌∙◌, subst}
use mathlib.Core.List.{List}
use Prim.Native.Nat.{ℕ, ◌≤◌, ◌<◌}
use lib.Dec.{T, lit<}
use lib.IntN.{ℤ, pos, nat_abs}
use lib.ListN.{get_or}
use lib.Signed.{non_neg, ◌≤ℤ◌}
use Rattle.window.specs.Window.{Window, Pixels, pixels_at, gate, gate_most, stats_of}
use Rattle.window.specs.declared.WindowStats.{WindowStats}
use Rattle.window.proofs.Same.{stats_alike}
use Rattle.window.proofs.Bounds.{component_within}
use Rattle.window.proofs.Most.{gate_is, gate_most_lem}

-- bytes are pixels
pub bytes_pixels : (img : List ℕ) → ((i : ℕ) → get_or img i 0 ≤ 255) → (w at : ℕ) → Pixels (pixels_at img w at)
bytes_pixels img b w at x y s t = record { byte = get_or img _ 0; is = refl; most = b _ }

module _ (p : Window) (e : Pixels p) where
  -- the pixels as natural numbers
  abbrev bytes : Window
  bytes x y = pos (nat_abs (p x y))

  as_bytes : (x y : ℕ) → x < 4 → y < 4 → p x y ≡ bytes x y
  as_bytes x y s t = let b = e x y s t in b.is ∙ ap (λ (z : ℤ). pos (nat_abs z)) (sym b.is)

  pub sum_positive : T (non_neg (stats_of p).sum)
  unfolding stats_of
  sum_positive = subst (λ (s : WindowStats). T (non_neg s.sum)) (sym (stats_alike p bytes as_bytes)) tt

  pub sum_within : nat_abs (stats_of p).sum ≤ 4080
  unfolding stats_of
  sum_within = component_within p e 0 0 (lit< tt) (lit< tt)

  pub gate_positive : T (non_neg (stats_of p).gate)
  unfolding stats_of
  gate_positive = subst (λ (z : ℤ). T (non_neg z)) (sym (gate_is p)) tt

  pub gate_within : (stats_of p).gate ≤ℤ pos gate_most
  unfolding stats_of
  gate_within = gate_most_lem p e

  pub output_within : nat_abs (stats_of p).op ≤ 8160
  unfolding stats_of
  output_within = component_within p e 3 3 (lit< tt) (lit< tt)
