-- What refuses a support stands; what follows a support that nothing refuses, and its side. Assumes nothing.
use mathlib.Core.Path.{◌≡◌, refl}
use mathlib.Core.Bool.{Bool, true, false, cond}
use mathlib.Core.List.{List}
use Prim.Native.Nat.{ℕ, ◌≤◌}
use lib.Dec.{ltb}
use lib.IntN.{ℤ}
use borrow.Author.Tests.{ltb-false}
use Rattle.std.specs.Prelude.{Result, Ok, Err}
use Rattle.numbers.specs.declared.Number.{Number}
use Rattle.numbers.specs.declared.Number.TheVariants.{Far, Support}
use Rattle.limits.specs.Limits.{far_place}
use Rattle.support.specs.Support.{after_state, state_judged}

module _ (o : List ℤ) (side : ℕ) where
  -- a side of a state that nothing refuses
  pub small : Ok tt ≡ state_judged o side → side ≤ 32
  unfolding after_state
  small h = by (far_place o) (ltb 32 side) h (ltb-false 32 side)
    where
      by : (a b : Bool) → ◌≡◌ {A = Result Unit Number} (Ok tt) (cond a (Err Far) (cond b (Err Support) (Ok tt))) → (b ≡ false → side ≤ 32) → side ≤ 32
      by false true h k = cc
      by false false h k = k refl
      by true b h k = cc

  -- what refuses a state stands, and where nothing does comes what follows
  module _ {A : Type 0} (next : Result A Number) where
    pub state_stands : (why : Number) → Err why ≡ state_judged o side → Err why ≡ after_state o side next
    unfolding after_state
    state_stands why e = by (far_place o) (ltb 32 side) e
      where
        by : (a b : Bool) → ◌≡◌ {A = Result Unit Number} (Err why) (cond a (Err Far) (cond b (Err Support) (Ok tt))) → Err why ≡ cond a (Err Far) (cond b (Err Support) next)
        by true b e = cc
        by false true e = cc
        by false false e = cc

    pub state_passes : Ok tt ≡ state_judged o side → next ≡ after_state o side next
    unfolding after_state
    state_passes e = by (far_place o) (ltb 32 side) e
      where
        by : (a b : Bool) → ◌≡◌ {A = Result Unit Number} (Ok tt) (cond a (Err Far) (cond b (Err Support) (Ok tt))) → next ≡ cond a (Err Far) (cond b (Err Support) next)
        by true b e = cc
        by false true e = cc
        by false false e = refl
