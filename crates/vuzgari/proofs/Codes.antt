-- A code says which of the two an answer is, and gives it back: a figure lies below 2 ^ 32, a number from there on. Assumes nothing.
use mathlib.Core.Path.{◌≡◌, refl, sym, subst}
use mathlib.Core.Bool.{Bool, true, false, cond}
use mathlib.Core.Logic.{◌↔◌}
use mathlib.Core.List.{List}
use Prim.Native.Nat.{ℕ, ◌-◌, ◌≤◌, ◌<◌}
use native.Mathlib.Omega.{arith}
use lib.Dec.{T}
use lib.IntN.{ℤ}
use lib.Ieee.{Float, binary32, fits, of_bits, sub, mul}
use lib.Ieee.Bits.{to_bits-lt, of_bits-to_bits}
use lib.Ieee.Fits.{div-fits}
use Rattle.limits.specs.Limits.{too_large, too_small}
use Rattle.std.specs.Prelude.{Ok, Err}
use Rattle.numbers.specs.declared.Number.{Number}
use Rattle.numbers.specs.declared.Number.TheVariants.{SideAbove, SideBelow}
use Rattle.numbers.specs.Numbers.{number_of, number_in}
use Rattle.grid.specs.Needed.{needed_of, sizing_of}
use Rattle.grid.proofs.Memory.{sides_taken}
use Rattle.noise.proofs.Causes.{needed_most}
use Rattle.tile.specs.declared.EdgeWidth.{EdgeWidth}
use Rattle.tile.specs.declared.EdgeWidth.TheVariants.{Width, Refused}
use Rattle.tile.specs.Width.{root_two_pi}
use Rattle.edge.specs.Edge.{edge}
use Rattle.edge.specs.Demand1.{high, low, gradient}
use Rattle.edge.proofs.Demand1.{edge_meets}
use Rattle.vuzgari.specs.Codes.{size_code, width_code}

-- ---- the edge call

pub number_code : (why : Number) → 4294967296 ≤ width_code (Refused why)
number_code why = omega arith

pub number_back : (why : Number) → width_code (Refused why) - 4294967296 ≡ number_of why
number_back why = omega arith

module _ (l : List ℕ) (w h : ℕ) (origin centre : List ℤ) where
  -- a width is a quotient rounded to an f32
  width_fits : (x : Float) → edge l w h origin centre ≡ Width x → T (fits binary32 x)
  width_fits x e =
      subst (λ (y : Float). T (fits binary32 y)) (sym (((edge_meets l w h origin centre).figure x).0 e).4)
      (div-fits binary32 (sub binary32 (high l w h origin centre) (low l w h origin centre)) (mul binary32 root_two_pi (gradient l w h origin centre)))

  pub width_code_lem : (x : Float) → edge l w h origin centre ≡ Width x → width_code (edge l w h origin centre) < 4294967296
  width_code_lem x e = subst (λ (r : EdgeWidth). width_code r < 4294967296) (sym e) (to_bits-lt binary32 x (width_fits x e))

  pub width_back : (x : Float) → edge l w h origin centre ≡ Width x → of_bits binary32 (width_code (edge l w h origin centre)) ≡ x
  width_back x e = subst (λ (r : EdgeWidth). of_bits binary32 (width_code r) ≡ x) (sym e) (of_bits-to_bits binary32 x (width_fits x e))

-- ---- the sizing call

pub size_code_lem : (w h : ℕ) → (size_code (sizing_of w h) < 4294967296) ↔ (number_in (sizing_of w h) ≡ 0)
unfolding sizing_of
size_code_lem w h = by_case (too_large w h) (too_small w h) refl refl
  where
    by_case : (a b : Bool) → too_large w h ≡ a → too_small w h ≡ b
        → (size_code (cond a (Err SideAbove) (cond b (Err SideBelow) (Ok (needed_of w h)))) < 4294967296)
        ↔ (number_in (cond a (Err SideAbove) (cond b (Err SideBelow) (Ok (needed_of w h)))) ≡ 0)
    by_case true b p q = (λ e. absurd (omega arith), λ e. absurd (omega arith))
    by_case false true p q = (λ e. absurd (omega arith), λ e. absurd (omega arith))
    by_case false false p q = (λ _. refl, λ _. omega (arith, needed_most w h ((sides_taken w h).1 (p, q))))
