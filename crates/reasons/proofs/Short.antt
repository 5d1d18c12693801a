-- No sentence is longer than the bound: each reason's, and what a number without a reason is told.
use mathlib.Core.Bool.{Bool, ◌&&◌}
use mathlib.Core.Path.{subst}
use mathlib.Core.List.{List, [], ◌∷◌}
use Prim.Native.Nat.{ℕ, zero, suc, ◌-◌, ◌≤◌}
use native.Mathlib.Omega.{arith}
use lib.Dec.{T, eqb, leb, leb→le}
use lib.Ieee.Fits.{and_l, and_r}
use lib.ListN.{length, get_or}
use Rattle.std.specs.Prelude.{Option, Some, None}
use Rattle.laws.proofs.Choice.{cond_both}
use Rattle.numbers.specs.declared.Number.{Number}
use Rattle.numbers.specs.declared.Number.TheVariants.{SideAbove}
use Rattle.numbers.specs.Numbers.{number_of, all}
use Rattle.numbers.proofs.Apart.{in_order}
use Rattle.text.specs.Text.{as_bytes}
use Rattle.reasons.specs.Reasons.{reason_bytes, sentence_of, reason_at, told_by, reason_of}

abbrev Fits : List ℕ → Type 0
Fits l = length l ≤ reason_bytes

abbrev short : Number → Bool
short why = leb (length (sentence_of why)) reason_bytes

abbrev all_short : List Number → Bool
all_short [] = short SideAbove
all_short (why ∷ l) = short why && all_short l

at_short : (l : List Number) (k : ℕ) → T (all_short l) → T (short (get_or l k SideAbove))
at_short [] k t = t
at_short (why ∷ l) zero t = and_l (short why) (all_short l) t
at_short (why ∷ l) (suc k) t = at_short l k (and_r (short why) (all_short l) t)

sentence_short : (why : Number) → Fits (sentence_of why)
sentence_short why = subst (λ (w : Number). Fits (sentence_of w)) (in_order why) (leb→le _ reason_bytes (at_short all (number_of why - 1) tt))

by_reason : (n : ℕ) (r : Option Number) → Fits (told_by n r)
by_reason n (Some why) = sentence_short why
by_reason n None = cond_both Fits (eqb n 0) (as_bytes "there is a figure") (as_bytes "no such number") (omega arith) (omega arith)

pub reason_short : (n : ℕ) → length (reason_of n) ≤ reason_bytes
unfolding reason_of
reason_short n = by_reason n (reason_at n)
