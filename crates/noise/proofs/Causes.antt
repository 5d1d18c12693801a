-- Each cause of a refusal, where none before it applies; what a call that is not refused has.
use mathlib.Core.Path.{◌≡◌, refl, sym, ap, ◌∙◌}
use mathlib.Core.Bool.{Bool, true, false, cond, ◌||◌}
use mathlib.Core.List.{List}
use mathlib.Core.Logic.{◌⊎◌, inl, inr}
use Prim.Native.Nat.{ℕ, ◌+◌, ◌-◌, ◌*◌, ◌≤◌, ◌<◌}
use native.Mathlib.Omega.{arith}
use native.Mathlib.Nat.{le_trans}
use borrow.Author.Tests.{lt-ltb, le-ltb, eq-eqb, ne_eqb, ltb-false}
use lib.Dec.{ltb, eqb}
use lib.ListN.{length, get_or}
use lib.IntN.{ℤ}
use lib.Ieee.{Float}
use Rattle.laws.proofs.Choice.{chosen, passed}
use Rattle.std.specs.Prelude.{Result, Ok, Err}
use Rattle.numbers.specs.declared.Number.{Number}
use Rattle.numbers.specs.declared.Number.TheVariants.{SideAbove, OtherLength, SideBelow, ShortSlice}
use Rattle.numbers.specs.Numbers.{number_of, all}
use Rattle.numbers.proofs.Apart.{in_order, apart}
use Rattle.limits.specs.Limits.{too_large, other_length, too_small, image_number}
use Rattle.limits.proofs.Laws.{neither, not_large, not_small, not_refused, as_long}
use Rattle.grid.specs.Grid.{Sides}
use Rattle.grid.specs.Needed.{needed_of, first_w, second_w}
use Rattle.grid.proofs.Places.{total_most}
use Rattle.grid.proofs.Memory.{no_more}
use Rattle.grid.proofs.Steps.{few}
use Rattle.pass.specs.Memory.{ints_for, floats_for}
use Rattle.noise.specs.Refusals.{short_of, refusal_of}
use Rattle.noise.specs.Steps.{Ready, verdict_of}

-- ---- by what a test says, zero being whether the image has no number

by : Bool → ℕ → Bool → Bool → ℕ
by zero image small short = cond zero (cond small 3 (cond short 4 0)) image

pub contrary : {A : Type 0} → true ≡ false → A
contrary e = absurd (let q : ◌≡◌ {A = ℕ} 0 1 = cc in omega arith)

most : (zero : Bool) (image : ℕ) (small short : Bool) → image ≤ 4 → by zero image small short ≤ 4
unfolding by
most false image small short h = h
most true image true short h = omega arith
most true image false true h = omega arith
most true image false false h = omega arith

-- more memory to judge changes nothing where there is a cause, and is all that counts where there is none
caused : (zero : Bool) (image : ℕ) (small short more : Bool) → (by zero image small short ≡ 0 → ⊥) → by zero image small (short || more) ≡ by zero image small short
unfolding by
caused false image small short more n = refl
caused true image true short more n = refl
caused true image false true more n = refl
caused true image false false more n = absurd (n refl)

-- nothing applies
nothing : (zero : Bool) (image : ℕ) (small short : Bool) → eqb image 0 ≡ zero → by zero image small short ≡ 0 → (image ≡ 0) × (zero ≡ true) × (small ≡ false) × (short ≡ false)
unfolding by
nothing false image small short z e = contrary (sym (eq-eqb image 0 e) ∙ z)
nothing true image true short z e = absurd (let q : ◌≡◌ {A = ℕ} 3 0 = e in omega arith)
nothing true image false true z e = absurd (let q : ◌≡◌ {A = ℕ} 4 0 = e in omega arith)
nothing true image false false z e = (told image z, refl, refl, refl)
  where
    told : (n : ℕ) → eqb n 0 ≡ true → n ≡ 0
    told n h = borrow.Author.Tests.eqb-true n 0 h

module _ (n w h : ℕ) where
  abbrev image : ℕ
  image = image_number n w h

  pub refusal_most : (short : Bool) → refusal_of n w h short ≤ 4
  unfolding refusal_of by
  refusal_most short = most (eqb image 0) image (too_small w h) short (few_numbers (too_large w h) (other_length n w h))
    where
      few_numbers : (a b : Bool) → cond a 1 (cond b 2 0) ≤ 4
      few_numbers true b = omega arith
      few_numbers false true = omega arith
      few_numbers false false = omega arith

  pub by_image : (short : Bool) → (image ≡ 0 → ⊥) → refusal_of n w h short ≡ image
  unfolding refusal_of by
  by_image short e = ap (λ (b : Bool). by b image (too_small w h) short) (ne_eqb image 0 e)

  module _ (z : image ≡ 0) where
    pub by_side : (short : Bool) → too_small w h ≡ true → refusal_of n w h short ≡ 3
    unfolding refusal_of by
    by_side short e = ap (λ (b : Bool). by b image (too_small w h) short) (eq-eqb image 0 z) ∙ ap (λ (b : Bool). by true image b short) e

    module _ (fine : too_small w h ≡ false) where
      -- what is left to judge is the memory
      pub by_memory : (short : Bool) → refusal_of n w h short ≡ cond short 4 0
      unfolding refusal_of by
      by_memory short = ap (λ (b : Bool). by b image (too_small w h) short) (eq-eqb image 0 z) ∙ ap (λ (b : Bool). by true image b short) fine

      pub sides : Sides w h
      sides =
          let a = not_large w h (not_refused n w h z).0 in
          let b = not_small w h fine in
          record { wide = b.0; high = b.1; w_most = a.0; h_most = a.1 }

  module _ (short more : Bool) where
    pub same_cause : (refusal_of n w h short ≡ 0 → ⊥) → refusal_of n w h (short || more) ≡ refusal_of n w h short
    unfolding refusal_of by
    same_cause = caused (eqb image 0) image (too_small w h) short more

    pub only_cause : refusal_of n w h short ≡ 0 → refusal_of n w h (short || more) ≡ cond more 4 0
    unfolding refusal_of by
    only_cause e =
        let k = nothing (eqb image 0) image (too_small w h) short refl e in
        by_memory k.0 k.2 (short || more) ∙ ap (λ (b : Bool). cond (b || more) 4 0) k.3

-- ---- the memory

module _ (w h ints floats m : ℕ) (is : m ≡ needed_of w h) where
  short_ints : ints < 3 * m → short_of w h ints floats ≡ true
  short_ints p = rw (← is, lt-ltb ints (3 * m) p)

  short_floats : 3 * m ≤ ints → floats < 2 * m + 2 → short_of w h ints floats ≡ true
  short_floats p q = rw (← is, le-ltb ints (3 * m) p, lt-ltb floats (2 * m + 2) q)

  pub enough : 3 * m ≤ ints → 2 * m + 2 ≤ floats → short_of w h ints floats ≡ false
  enough p q = rw (← is, le-ltb ints (3 * m) p, le-ltb floats (2 * m + 2) q)

-- M is small
pub needed_most : (w h : ℕ) → Sides w h → needed_of w h ≤ 268435456
needed_most w h s = no_more w h 268435456 (le_trans (total_most w h first_w (omega arith)) (few w h s)) (λ _. le_trans (total_most w h second_w (omega arith)) (few w h s))

-- ---- a call that is not refused

pub allowed : (n w h : ℕ) (short : Bool) → refusal_of n w h short ≡ 0 → Sides w h
unfolding refusal_of by
allowed n w h short e =
    let k = nothing (eqb (image_number n w h) 0) (image_number n w h) (too_small w h) short refl e in
    sides n w h k.0 k.2

pub accepted : (img : List ℕ) (w h : ℕ) (ints : List ℤ) (floats : List Float) (m : ℕ) → m ≡ needed_of w h
    → refusal_of (length img) w h (short_of w h (length ints) (length floats)) ≡ 0 → Ready img w h m ints floats
unfolding refusal_of by
accepted img w h ints floats m e r =
    let k = nothing (eqb (image_number (length img) w h) 0) (image_number (length img) w h) (too_small w h) (short_of w h (length ints) (length floats)) refl r in
    let room = neither (ltb (length ints) (ints_for (needed_of w h))) (ltb (length floats) (floats_for (needed_of w h))) k.3 in
    record {
      sides = sides (length img) w h k.0 k.2;
      pixels = as_long (length img) w h k.0;
      windows = e;
      room_ints = rw e (ltb-false (length ints) (ints_for (needed_of w h)) room.0);
      room_floats = rw e (ltb-false (length floats) (floats_for (needed_of w h)) room.1);
    }

-- ---- the verdict

-- no reason has number 0
pub some_number : (why : Number) → number_of why ≡ 0 → ⊥
some_number why e =
    let first : why ≡ SideAbove = sym (in_order why) ∙ ap (λ (n : ℕ). get_or all (n - 1) SideAbove) e in
    let q : ◌≡◌ {A = ℕ} 1 0 = sym (ap (λ (y : Number). number_of y) first) ∙ e in
    omega arith

module _ (n w h ints floats : ℕ) where
  abbrev short : Bool
  short = short_of w h ints floats

  abbrev rest : Result ℕ Number
  rest = cond (too_small w h) (Err SideBelow) (cond short (Err ShortSlice) (Ok (needed_of w h)))

  pub verdict_image : (why : Number) → number_of why ≡ image_number n w h → Err why ≡ verdict_of n w h ints floats
  unfolding verdict_of
  verdict_image why = go (too_large w h) (other_length n w h)
    where
      go : (large other : Bool) → number_of why ≡ cond large 1 (cond other 2 0)
          → ◌≡◌ {A = Result ℕ Number} (Err why) (cond large (Err SideAbove) (cond other (Err OtherLength) rest))
      go true other e = ap (λ (y : Number). Err y) (apart why SideAbove e)
      go false true e = ap (λ (y : Number). Err y) (apart why OtherLength e)
      go false false e = absurd (some_number why e)

  -- M is the only figure of a verdict
  pub verdict_windows : (m : ℕ) → verdict_of n w h ints floats ≡ Ok m → m ≡ needed_of w h
  unfolding verdict_of
  verdict_windows m = go (too_large w h) (other_length n w h) (too_small w h) short
    where
      go : (large other small short : Bool)
          → ◌≡◌ {A = Result ℕ Number} (cond large (Err SideAbove) (cond other (Err OtherLength) (cond small (Err SideBelow) (cond short (Err ShortSlice) (Ok (needed_of w h)))))) (Ok m)
          → m ≡ needed_of w h
      go true other small short e = cc
      go false true small short e = cc
      go false false true short e = cc
      go false false false true e = cc
      go false false false false e = cc

  -- the image has none
  module _ (z : 0 ≡ image_number n w h) where
    by_rest : rest ≡ verdict_of n w h ints floats
    unfolding verdict_of
    by_rest = let f = not_refused n w h (sym z) in rw (f.0, f.1) refl

    pub verdict_side : true ≡ too_small w h → Err SideBelow ≡ verdict_of n w h ints floats
    verdict_side e = chosen (too_small w h) (Err SideBelow) (cond short (Err ShortSlice) (Ok (needed_of w h))) (sym e) ∙ by_rest

    module _ (fine : false ≡ too_small w h) where
      pub fit : Sides w h
      fit = sides n w h (sym z) (sym fine)

      by_memory_left : cond short (Err ShortSlice) (Ok (needed_of w h)) ≡ verdict_of n w h ints floats
      by_memory_left = passed (too_small w h) (Err SideBelow) (cond short (Err ShortSlice) (Ok (needed_of w h))) (sym fine) ∙ by_rest

      module _ (m : ℕ) (needs : m ≡ needed_of w h) where
        pub needed_few : m ≤ 268435456
        needed_few = omega (arith, needed_most w h fit)

        pub verdict_short : (ints < 3 * m) ⊎ ((3 * m ≤ ints) × (floats < 2 * m + 2)) → Err ShortSlice ≡ verdict_of n w h ints floats
        verdict_short (inl p) = chosen short (Err ShortSlice) (Ok (needed_of w h)) (short_ints w h ints floats m needs p) ∙ by_memory_left
        verdict_short (inr p) = chosen short (Err ShortSlice) (Ok (needed_of w h)) (short_floats w h ints floats m needs p.0 p.1) ∙ by_memory_left

        pub verdict_none : 3 * m ≤ ints → 2 * m + 2 ≤ floats → Ok m ≡ verdict_of n w h ints floats
        verdict_none p q =
            ap (λ (k : ℕ). Ok k) needs
            ∙ passed short (Err ShortSlice) (Ok (needed_of w h)) (enough w h ints floats m needs p q) ∙ by_memory_left
