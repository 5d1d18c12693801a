-- A pixel lies in the n places from o on exactly where it is o + i for some i below n; and what the code's steps are. Assumes nothing.
use mathlib.Core.Path.{◌≡◌, refl, sym, ap, ◌∙◌}
use mathlib.Core.Bool.{Bool, true, false, cond, ◌&&◌, false≢true}
use Prim.Native.Nat.{ℕ, ◌<◌}
use native.Mathlib.Omega.{arith}
use lib.Dec.{ltb, leb-zero}
use lib.IntN.{ℤ, pos, negsuc, nat_abs, ◌+ℤ◌, ◌-ℤ◌, +ℤ_comm, +ℤ-neg_ℤ_cancel, -ℤ-+ℤ_cancel}
use lib.Signed.{le_z, lt_z}
use borrow.Author.Tests.{lt-ltb, ltb-true}
use Rattle.std.specs.Prelude.{Some, None, is_some}
use Rattle.support.specs.Support.{in_side}
use Rattle.support.specs.Steps.{past, past_origin}

-- 0 ≤ z < n
abbrev within : ℤ → ℕ → Bool
within z n = le_z (pos 0) z && lt_z z (pos n)

pub in_place : (o : ℤ) (i n : ℕ) → i < n → in_side (o +ℤ pos i) o n ≡ true
in_place o i n h =
    ap (λ (z : ℤ). within z n) (ap (λ (z : ℤ). z -ℤ o) (+ℤ_comm o (pos i)) ∙ +ℤ-neg_ℤ_cancel (pos i) o)
    ∙ ap (λ (b : Bool). b && ltb i n) (leb-zero i) ∙ lt-ltb i n h

back : (z : ℤ) (n : ℕ) → within z n ≡ true → (z ≡ pos (nat_abs z)) × (nat_abs z < n)
back (pos i) n h = (refl, ltb-true i n (sym (ap (λ (b : Bool). b && ltb i n) (leb-zero i)) ∙ h))
back (negsuc i) n h = absurd (false≢true h)

pub from_place : (x o : ℤ) (n : ℕ) → in_side x o n ≡ true → (x ≡ o +ℤ pos (nat_abs (x -ℤ o))) × (nat_abs (x -ℤ o) < n)
from_place x o n h =
    let b = back (x -ℤ o) n h in
    (sym (-ℤ-+ℤ_cancel x o) ∙ +ℤ_comm (x -ℤ o) o ∙ ap (λ (z : ℤ). o +ℤ z) b.0, b.1)

-- ---- the code's steps past an origin are given exactly where the pixel is in it, and are then the difference

given : (b : Bool) (i : ℕ) → is_some (cond b (Some i) None) ≡ b
given true i = refl
given false i = refl

tested : (z : ℤ) (n : ℕ) → is_some (past z n) ≡ within z n
unfolding past
tested (pos i) n = given (ltb i n) i ∙ sym (ap (λ (b : Bool). b && ltb i n) (leb-zero i))
tested (negsuc i) n = refl

pub in_side_lem : (x o : ℤ) (n : ℕ) → is_some (past_origin x o n) ≡ in_side x o n
in_side_lem x o n = tested (x -ℤ o) n

size : (z : ℤ) (n : ℕ) → within z n ≡ true → past z n ≡ Some (nat_abs z)
unfolding past
size (pos i) n h = ap (λ (b : Bool). cond b (Some i) None) (lt-ltb i n (back (pos i) n h).1)
size (negsuc i) n h = absurd (false≢true h)

pub steps_are : (x o : ℤ) (n : ℕ) → in_side x o n ≡ true → past_origin x o n ≡ Some (nat_abs (x -ℤ o))
steps_are x o n h = size (x -ℤ o) n h

-- ---- what an answer tells

module _ (x o : ℤ) (n : ℕ) where
  pub outside : None ≡ past_origin x o n → in_side x o n ≡ false
  outside h = sym (in_side_lem x o n) ∙ ap is_some (sym h)

  pub inside : {i : ℕ} → Some i ≡ past_origin x o n → (in_side x o n ≡ true) × (i ≡ nat_abs (x -ℤ o)) × (i < n)
  inside {i} h =
      let t : in_side x o n ≡ true = sym (in_side_lem x o n) ∙ ap is_some (sym h) in
      let s : Some i ≡ Some (nat_abs (x -ℤ o)) = h ∙ steps_are x o n t in
      let e : i ≡ nat_abs (x -ℤ o) = cc in
      let l : nat_abs (x -ℤ o) < n = (from_place x o n t).1 in
      (t, e, omega arith)
