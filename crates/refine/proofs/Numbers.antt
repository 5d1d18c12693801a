-- No reason has the number of a figure. Assumes nothing.
use mathlib.Core.Path.{◌≡◌, sym, ap, ◌∙◌}
use Prim.Native.Nat.{ℕ, ◌-◌}
use native.Mathlib.Omega.{arith}
use lib.ListN.{get_or}
use Rattle.numbers.specs.declared.Number.{Number}
use Rattle.numbers.specs.declared.Number.TheVariants.{SideAbove}
use Rattle.numbers.specs.Numbers.{number_of, all}
use Rattle.numbers.proofs.Apart.{in_order}

pub not_0 : (why : Number) → number_of why ≡ 0 → ⊥
not_0 why h =
    let e : 1 ≡ number_of why = ap (λ (n : ℕ). number_of (get_or all (n - 1) SideAbove)) (sym h) ∙ ap number_of (in_order why) in
    omega arith
