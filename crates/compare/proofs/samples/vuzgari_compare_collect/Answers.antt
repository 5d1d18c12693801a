-- The five counts are stored one by one.
use mathlib.Core.Path.{◌≡◌, refl, ap, ◌∙◌}
use mathlib.Core.List.{List, [], ◌∷◌}
use Prim.Native.Nat.{ℕ, ◌≤◌}
use native.Mathlib.Omega.{arith}
use lib.ListN.{length, set}
use Rattle.band.specs.declared.Sample.{Sample}
use Rattle.compare.specs.Counts.{counts_in}
use Rattle.compare.proofs.samples.vuzgari_compare_collect.Goals as goal

five : (s : Sample) (l : List ℕ) → 5 ≤ length l → set (set (set (set (set l 0 s.b0) 1 s.b1) 2 s.b2) 3 s.b3) 4 s.rail ≡ counts_in s l
unfolding counts_in
five s [] h = absurd (omega arith)
five s (a ∷ []) h = absurd (omega arith)
five s (a ∷ b ∷ []) h = absurd (omega arith)
five s (a ∷ b ∷ c ∷ []) h = absurd (omega arith)
five s (a ∷ b ∷ c ∷ d ∷ []) h = absurd (omega arith)
five s (a ∷ b ∷ c ∷ d ∷ e ∷ l) h = refl

pub returns : goal.returns
returns c =
    let n = c.collect-s in
    (five n.result c.args.counts.now c.requires.3 ∙ ap (λ (s : Sample). counts_in s c.args.counts.now) n.ensures.0, n.ensures.1, n.ensures.2)
