-- What fewer than sixteen hexadecimal digits write leaves room for one more, and where each stands. Assumes nothing.
use mathlib.Core.Path.{◌≡◌, ◌∙◌}
use mathlib.Core.List.{List}
use Prim.Native.Nat.{ℕ, ◌+◌, ◌-◌, ◌^◌, ◌<◌}
use lib.ListN.{get_or, take, drop}
use native.Mathlib.Omega.{arith}
use native.Mathlib.Nat.{pow-le-pow_right}
use Rattle.std.proofs.lemmas.List.{get_or-take, get_or-drop}

pub room : (k n : ℕ) → k < 16 → n < 16 ^ k → n < 2 ^ 60
room k n h l = omega (arith, pow-le-pow_right {n = 16} (omega arith) {i = k} {j = 15} (omega arith))

-- digit k of the sixteen from place at on
pub digit_at : (l : List ℕ) (at k : ℕ) → k < 16 → get_or (take ((at + 16) - at) (drop at l)) k 0 ≡ get_or l (at + k) 0
digit_at l at k h = get_or-take _ (drop at l) k 0 (omega arith) ∙ get_or-drop at l k 0
