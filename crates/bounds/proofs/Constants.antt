-- The bounds of a squared output, of a variance and of sigma, and that the formats hold them and their multiples.
use mathlib.Core.Path.{refl}
use mathlib.Core.Bool.{false}
use Prim.Native.Nat.{ℕ, ◌*◌, ◌^◌, ◌≤◌}
use native.Mathlib.Omega.{arith}
use lib.Dec.{T, lit≤, lit<}
use lib.Ieee as Ieee
use lib.Ieee.{Float, Format, binary32, binary64}
use Rattle.ieee.proofs.Bounded.{Bounded, HoldsWhole, holds_whole}
use Rattle.std.specs.Prelude.{Option, Some, None, Result}
use Rattle.numbers.specs.declared.Number.{Number}
use Rattle.rounds.specs.declared.Found.{Found}
use Rattle.joining.specs.Joining.{figure_of}
use Rattle.bounds.specs.Sigma.{sigma_most}

-- a squared output is at most 8,160² = 66,585,600; f32 holds this number times every count up to 256, since 256 * 32,513 is below 2 ^ 24
abbrev pub output_most : ℕ
output_most = 32513 * 2 ^ 11

-- a variance: output_most over 0.998929 is 66,658,014.7; f64 holds this number times every count up to 2 ^ 30
abbrev pub variance_most : ℕ
variance_most = 8137 * 2 ^ 13

-- its root: 8,165² = 66,667,225
abbrev pub root_most : ℕ
root_most = 8165

-- ---- what is bounded by them

abbrev pub OutputBounded : Float → Type 0
OutputBounded x = Bounded x false output_most

-- a variance that rests on no more than N windows, or none
abbrev pub FoundBounded : ℕ → Option Found → Type 0
FoundBounded N (Some f) = (f.n ≤ N) × Bounded f.var false variance_most
FoundBounded N None = Unit {0}

-- the figure of a sigma, zero where it has none, is an f32
pub record SigmaBounded (s : Result Float Number) : Type 0 where
  pub bounded : Bounded (figure_of s) false sigma_most
  pub fits : T (Ieee.fits binary32 (figure_of s))

-- ---- the formats hold them

-- windows of a block, times the bound of an output
pub holds_block : (n : ℕ) → n ≤ 256 → HoldsWhole binary32 (n * output_most)
holds_block n h = holds_whole binary32 (n * output_most) (n * 32513) 11 (omega arith) (omega arith) (omega arith)

-- windows of a band, times that bound
pub holds_sum : (n : ℕ) → n ≤ 2 ^ 28 → HoldsWhole binary64 (n * output_most)
holds_sum n h = holds_whole binary64 (n * output_most) (n * 32513) 11 (omega arith) (omega arith) (omega arith)

-- windows of four bands, times the bound of a variance
pub holds_joined : (n : ℕ) → n ≤ 2 ^ 30 → HoldsWhole binary64 (n * variance_most)
holds_joined n h = holds_whole binary64 (n * variance_most) (n * 8137) 13 (omega arith) (omega arith) (omega arith)

pub holds_count : (n : ℕ) → n ≤ 2 ^ 30 → HoldsWhole binary64 n
holds_count n h = holds_whole binary64 n n 0 (omega arith) (omega arith) (omega arith)

pub holds_output : (f : Format) → HoldsWhole f output_most
holds_output binary32 = holds_whole binary32 output_most 32513 11 (lit< tt) refl (lit≤ tt)
holds_output binary64 = holds_whole binary64 output_most 32513 11 (lit< tt) refl (lit≤ tt)

pub holds_variance : HoldsWhole binary64 variance_most
holds_variance = holds_whole binary64 variance_most 8137 13 (lit< tt) refl (lit≤ tt)

pub holds_root : HoldsWhole binary64 root_most
holds_root = holds_whole binary64 root_most root_most 0 (lit< tt) refl (lit≤ tt)

pub holds_sigma : (f : Format) → HoldsWhole f sigma_most
holds_sigma binary32 = holds_whole binary32 sigma_most sigma_most 0 (lit< tt) refl (lit≤ tt)
holds_sigma binary64 = holds_whole binary64 sigma_most sigma_most 0 (lit< tt) refl (lit≤ tt)
