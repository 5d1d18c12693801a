-- Demand 1 at the noise call from C: its answer is a noise call's, and by its number memory is left or changed. Assumes nothing.
use mathlib.Core.Path.{◌≡◌, ap}
use mathlib.Core.Bool.{Bool, cond}
use mathlib.Core.List.{List, ◌++◌}
use Prim.Native.Nat.{ℕ}
use native.Mathlib.Omega.{arith}
use lib.ListN.{length, drop}
use lib.IntN.{ℤ}
use lib.Ieee.{Float}
use Rattle.grid.specs.Needed.{needed_of}
use Rattle.answer.specs.declared.Answer.{Answer}
use Rattle.answer.specs.Fields.{answer_bytes}
use Rattle.noise.specs.Call.{ran, cleared_ints, cleared_floats}
use Rattle.noise.proofs.Numbers.{ran_not, ran_is}
use Rattle.noise.proofs.Demand1 as Noise
use Rattle.vuzgari.specs.Noise.{short_for, noise_for}
use Rattle.vuzgari.specs.Demand1.{Lent, Demand1AtC}

lent : (a : Answer) (w h : ℕ) (ints : List ℤ) (floats : List Float) (out : List ℕ) → Lent a w h ints floats out
lent a w h ints floats out =
    record {
      stays = λ l m. all (ran_not a.number (λ z. omega arith) m);
      changes = λ n. all (ran_is a.number n);
    }
  where
    all : {b : Bool} → ran a.number ≡ b
        → (cond (ran a.number) (cleared_ints (needed_of w h) ints) ints ≡ cond b (cleared_ints (needed_of w h) ints) ints)
        × (cond (ran a.number) (cleared_floats (needed_of w h) floats) floats ≡ cond b (cleared_floats (needed_of w h) floats) floats)
        × (cond (ran a.number) (answer_bytes a ++ drop 40 out) out ≡ cond b (answer_bytes a ++ drop 40 out) out)
    all e = (
      ap (λ (x : Bool). cond x (cleared_ints (needed_of w h) ints) ints) e,
      ap (λ (x : Bool). cond x (cleared_floats (needed_of w h) floats) floats) e,
      ap (λ (x : Bool). cond x (answer_bytes a ++ drop 40 out) out) e,
    )

pub demand1 : (pixels : List ℕ) (w h : ℕ) (ints : List ℤ) (floats : List Float) (out : List ℕ) → Demand1AtC pixels w h ints floats out
demand1 pixels w h ints floats out =
    record {
      noise = Noise.demand1 pixels w h (short_for w h (length ints) (length floats) (length out));
      lent = lent (noise_for pixels w h ints floats out) w h ints floats out;
    }
