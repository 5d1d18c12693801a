-- `window_stats::poly4` meets its contract: each sum, difference and product is an expression over values of magnitude at most 4,080.
use mathlib.Core.List.{List, [], ◌∷◌}
use Prim.Native.Nat.{ℕ}
use lib.IntN.{ℤ, pos}
use Rattle.laws.proofs.Ring.{v, k, ◌⊕◌, ◌⊖◌, ◌⊗◌}
use Rattle.laws.proofs.Machine.{Within, fits, held_is, four}
use Rattle.window.proofs.Places.{◌and◌}
use Rattle.window_stats.proofs.poly4.Lts as lts
use Rattle.window_stats.proofs.poly4.Reads as reads
use Rattle.window_stats.proofs.poly4.Goals as goal

abbrev β : List ℕ
β = 4080 ∷ 4080 ∷ 4080 ∷ 4080 ∷ []

abbrev ρ : (lts.Start reads.Pre reads.Post) → List ℤ
ρ c = c.args.a ∷ c.args.b ∷ c.args.c ∷ c.args.d ∷ []

in_range : (c : (lts.Start reads.Pre reads.Post)) → Within (ρ c) β
in_range c = c.requires.0.small and c.requires.1.0.small and c.requires.1.1.0.small and c.requires.1.1.1.0.small and tt

pub overflow_sub-result-2 : goal.overflow_sub-result-2
overflow_sub-result-2 c = fits (ρ c) β (in_range c) (k (pos 3) ⊗ (v 3 ⊖ v 0) ⊕ v 2 ⊖ v 1) tt

pub overflow_sub-result-6 : goal.overflow_sub-result-6
overflow_sub-result-6 c = fits (ρ c) β (in_range c) (v 0 ⊖ k (pos 3) ⊗ v 1 ⊕ k (pos 3) ⊗ v 2 ⊖ v 3) tt

pub returns : goal.returns
returns c =
    four
    (held_is (ρ c) β (in_range c) (v 0 ⊕ v 1 ⊕ v 2 ⊕ v 3) tt)
    (held_is (ρ c) β (in_range c) (k (pos 3) ⊗ (v 3 ⊖ v 0) ⊕ v 2 ⊖ v 1) tt)
    (held_is (ρ c) β (in_range c) (v 0 ⊖ v 1 ⊖ v 2 ⊕ v 3) tt)
    (held_is (ρ c) β (in_range c) (v 0 ⊖ k (pos 3) ⊗ v 1 ⊕ k (pos 3) ⊗ v 2 ⊖ v 3) tt)
