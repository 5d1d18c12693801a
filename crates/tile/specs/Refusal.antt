-- What a tile is refused for, the first that applies: as of any image, then a centre or an origin far off.
use Rattle.std.specs.Prelude.{◌≡◌, ℕ, Bool, true, false, cond, ◌||◌, List, ℤ, eqb, Result, Ok, Err, refl}
use Rattle.limits.specs.Limits.{too_large, other_length, image_number, far_place}
use Rattle.numbers.specs.declared.Number.{Number}
use Rattle.numbers.specs.declared.Number.TheVariants.{SideAbove, OtherLength, Far}
use Rattle.numbers.specs.Numbers.{number_in}

-- the first of three, by which of them apply
abbrev pub first_of : Bool → Bool → Bool → Result (Unit {0}) Number
first_of large other far = cond large (Err SideAbove) (cond other (Err OtherLength) (cond far (Err Far) (Ok tt)))

unfoldable pub refusal : ℕ → ℕ → ℕ → List ℤ → List ℤ → Result (Unit {0}) Number
refusal pixels w h origin centre = first_of (too_large w h) (other_length pixels w h) (far_place centre || far_place origin)

-- by document 01's numbers: 1 and 2 as of any image, then 8; 0 for nothing
pub refusal_number : (pixels w h : ℕ) (origin centre : List ℤ)
    → number_in (refusal pixels w h origin centre)
    ≡ cond (eqb (image_number pixels w h) 0) (cond (far_place centre || far_place origin) 8 0) (image_number pixels w h)
unfolding refusal
refusal_number pixels w h origin centre = go (too_large w h) (other_length pixels w h) (far_place centre || far_place origin)
  where
    go : (large other far : Bool) → number_in (first_of large other far) ≡ (let n : ℕ = cond large 1 (cond other 2 0) in cond (eqb n 0) (cond far 8 0) n)
    go true other far = refl
    go false true far = refl
    go false false true = refl
    go false false false = refl
