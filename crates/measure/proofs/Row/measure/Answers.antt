use mathlib.Core.Path.{◌≡◌, refl, ap, subst}
use mathlib.Core.List.{List}
use Prim.Native.Nat.{ℕ, ◌+◌, ◌-◌, ◌*◌, ◌≤◌, ◌<◌, min}
use native.Mathlib.Omega.{arith}
use lib.ListN.{length}
use lib.IntN.{ℤ}
use Rattle.window.specs.Window.{stats_of, pixels_at}
use Rattle.measure.specs.Columns.{column_count}
use Rattle.measure.specs.Loops.{figure_of, Filled}
use Rattle.measure.proofs.Filling.{filled_more}
use Rattle.measure.proofs.Row.measure.Goals as goal

-- window j of those from window k on
over : (at k j s : ℕ) → at + k * s + j * s ≡ at + (k + j) * s
over at k j s = omega arith

-- b windows more, the first of them window k
more : (img : List ℕ) (w at s : ℕ) {n t to : ℕ} {l₀ l l' : List ℤ} (i k b : ℕ) → k ≡ i * 32 → k < n → b ≡ min (n - k) 32
    → to + n ≤ t → column_count * t ≤ length l₀ → Filled t to (min k n) (figure_of img w at s) l₀ l
    → Filled t (to + k) b (figure_of img w (at + k * s) s) l l' → Filled t to (min ((i + 1) * 32) n) (figure_of img w at s) l₀ l'
more img w at s {n} {t} {to} {l₀} {l} {l'} i k b e h m r f p q =
    subst (λ (a : ℕ). Filled t to a (figure_of img w at s) l₀ l') sum
    (filled_more (omega (arith, m)) f (λ j g. ap (λ (a : ℕ). stats_of (pixels_at img w a)) (over at k j s))
    (subst (λ (a : ℕ). Filled t to a (figure_of img w at s) l₀ l) first p) q)
  where
    first : min k n ≡ k
    first = omega arith

    sum : k + b ≡ min ((i + 1) * 32) n
    sum = omega (arith, e, m)

pub invariant_of-some : goal.invariant_of-some
invariant_of-some c =
    let r = c.args.self in
    record {
      inside = λ j g. omega (arith, over r.at (c.loop-i.i * 32) j r.s, r.inside (c.loop-i.i * 32 + j) (omega (arith, c.min.ensures, g)));
      bytes = r.bytes;
    }

pub loop-i-preserved : goal.loop-i-preserved
loop-i-preserved c =
    let r = c.args.self in
    more r.img.now r.w r.at r.s c.loop-i.i (c.loop-i.i * 32) c.min.result refl (omega (arith, c.loop-i-test.true, c.div_ceil-i-end.ensures)) c.min.ensures c.requires.0
    c.requires.1 c.loop-i.invariant c.measure_some.ensures
