-- The refusals in their order, and what holds where there is none.
use Rattle.std.proofs.Common.{◌≡◌, ℕ, ◌-◌, ◌*◌, ◌≤◌, Bool, true, false, cond, ◌||◌, List, get_or, ℤ, pos, Ok, Err, refl, sym, ap, ◌∙◌, arith}
use Rattle.std.proofs.Math.IntN.{nat_abs}
use Rattle.limits.specs.Limits.{too_large, other_length, image_number, far_place}
use Rattle.limits.proofs.Laws.{neither, as_long, not_far}
use Rattle.numbers.specs.Numbers.{number_of, all}
use Rattle.numbers.proofs.Apart.{in_order, apart}
use Rattle.numbers.specs.declared.Number.{Number}
use Rattle.numbers.specs.declared.Number.TheVariants.{SideAbove, OtherLength}
use Rattle.tile.specs.Refusal.{first_of, refusal}

-- no reason has the number 0
not_zero : (why : Number) → number_of why ≡ 0 → ⊥
not_zero why e = omega (arith, e, ap number_of (ap (λ n. get_or all (n - 1) SideAbove) (sym e) ∙ in_order why))

module _ (pixels w h : ℕ) (origin centre : List ℤ) where
  pub image_refused : (why : Number) → number_of why ≡ image_number pixels w h → Err why ≡ refusal pixels w h origin centre
  unfolding refusal
  image_refused why = go (too_large w h) (other_length pixels w h)
    where
      go : (large other : Bool) → number_of why ≡ cond large 1 (cond other 2 0) → Err why ≡ first_of large other (far_place centre || far_place origin)
      go true other e = ap Err (apart why SideAbove e)
      go false true e = ap Err (apart why OtherLength e)
      go false false e = absurd (not_zero why e)

  -- where nothing is refused
  module _ (e : Ok tt ≡ refusal pixels w h origin centre) where
    none : (image_number pixels w h ≡ 0) × ((far_place centre || far_place origin) ≡ false)
    unfolding refusal
    none = go (too_large w h) (other_length pixels w h) (far_place centre || far_place origin) e
      where
        go : (large other far : Bool) → Ok tt ≡ first_of large other far → (◌≡◌ {A = ℕ} (cond large 1 (cond other 2 0)) 0) × (far ≡ false)
        go true other far e = cc
        go false true far e = cc
        go false false true e = cc
        go false false false e = (refl, refl)

    pub none_long : pixels ≡ w * h
    none_long = as_long pixels w h none.0

    pub none_near : (nat_abs (get_or centre 0 (pos 0)) ≤ 1000000) × (nat_abs (get_or centre 1 (pos 0)) ≤ 1000000)
    none_near = not_far centre (neither (far_place centre) (far_place origin) none.1).0
