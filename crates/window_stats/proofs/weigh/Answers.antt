-- `window_stats::weigh` meets its contract: each step is an expression over values of magnitude at most 4,080, two of them 8,160.
use mathlib.Core.List.{List, [], ◌∷◌}
use Prim.Native.Nat.{ℕ}
use lib.Dec.{T}
use lib.IntN.{ℤ}
use mir.Syntax.{w32}
use mir.Val.{SFits}
use Rattle.laws.proofs.Ring.{Ex, v, k, ◌⊕◌, ◌⊗◌}
use Rattle.laws.proofs.Machine.{Within, safe, run, fits, held_is}
use Rattle.window_stats.specs.Passes.{cross, middle, part, Weighable}
use Rattle.window.proofs.Places.{◌and◌}
use Rattle.window_stats.proofs.weigh.Goals as goal

abbrev β : List ℕ
β = 4080 ∷ 4080 ∷ 4080 ∷ 4080 ∷ 4080 ∷ 4080 ∷ 4080 ∷ 8160 ∷ 8160 ∷ []

abbrev ρ : List (List ℤ) → List ℤ
ρ m = part m 1 2 ∷ part m 2 1 ∷ part m 2 3 ∷ part m 3 2 ∷ part m 3 0 ∷ part m 0 3 ∷ part m 2 2 ∷ part m 1 3 ∷ part m 3 1 ∷ []

module _ (m : List (List ℤ)) (w : Weighable (part m)) where
  in_range : Within (ρ m) β
  in_range =
      let b = w.most4080 in
      let d = w.most8160 in
      b.0.small and b.1.0.small and b.1.1.0.small and b.1.1.1.0.small and b.1.1.1.1.0.small
      and b.1.1.1.1.1.0.small and b.1.1.1.1.1.1.0.small and d.0.small and d.1.0.small and tt

  fit : (e : Ex) → T (safe β e) → SFits w32 (run (ρ m) e)
  fit = fits (ρ m) β in_range

abbrev s : ℕ → Ex
s n = v n ⊗ v n

abbrev six : Ex
six = s 0 ⊕ s 1 ⊕ s 2 ⊕ s 3 ⊕ s 4 ⊕ s 5

abbrev weigh_e : Ex
weigh_e = k cross ⊗ six ⊕ k middle ⊗ s 6 ⊕ s 7 ⊕ s 8

pub overflow_mul-result : goal.overflow_mul-result
overflow_mul-result c = fit c.args.c c.requires (s 0) tt

pub overflow_mul-result-2 : goal.overflow_mul-result-2
overflow_mul-result-2 c = fit c.args.c c.requires (s 1) tt

pub overflow_add-result : goal.overflow_add-result
overflow_add-result c = fit c.args.c c.requires (s 0 ⊕ s 1) tt

pub overflow_mul-result-3 : goal.overflow_mul-result-3
overflow_mul-result-3 c = fit c.args.c c.requires (s 2) tt

pub overflow_add-result-2 : goal.overflow_add-result-2
overflow_add-result-2 c = fit c.args.c c.requires (s 0 ⊕ s 1 ⊕ s 2) tt

pub overflow_mul-result-4 : goal.overflow_mul-result-4
overflow_mul-result-4 c = fit c.args.c c.requires (s 3) tt

pub overflow_add-result-3 : goal.overflow_add-result-3
overflow_add-result-3 c = fit c.args.c c.requires (s 0 ⊕ s 1 ⊕ s 2 ⊕ s 3) tt

pub overflow_mul-result-5 : goal.overflow_mul-result-5
overflow_mul-result-5 c = fit c.args.c c.requires (s 4) tt

pub overflow_add-result-4 : goal.overflow_add-result-4
overflow_add-result-4 c = fit c.args.c c.requires (s 0 ⊕ s 1 ⊕ s 2 ⊕ s 3 ⊕ s 4) tt

pub overflow_mul-result-6 : goal.overflow_mul-result-6
overflow_mul-result-6 c = fit c.args.c c.requires (s 5) tt

pub overflow_add-result-5 : goal.overflow_add-result-5
overflow_add-result-5 c = fit c.args.c c.requires six tt

pub overflow_mul-result-7 : goal.overflow_mul-result-7
overflow_mul-result-7 c = fit c.args.c c.requires (k cross ⊗ six) tt

pub overflow_mul-result-8 : goal.overflow_mul-result-8
overflow_mul-result-8 c = fit c.args.c c.requires (s 6) tt

pub overflow_mul-result-9 : goal.overflow_mul-result-9
overflow_mul-result-9 c = fit c.args.c c.requires (k middle ⊗ s 6) tt

pub overflow_add-result-6 : goal.overflow_add-result-6
overflow_add-result-6 c = fit c.args.c c.requires (k cross ⊗ six ⊕ k middle ⊗ s 6) tt

pub overflow_mul-result-10 : goal.overflow_mul-result-10
overflow_mul-result-10 c = fit c.args.c c.requires (s 7) tt

pub overflow_add-result-7 : goal.overflow_add-result-7
overflow_add-result-7 c = fit c.args.c c.requires (k cross ⊗ six ⊕ k middle ⊗ s 6 ⊕ s 7) tt

pub overflow_mul-result-11 : goal.overflow_mul-result-11
overflow_mul-result-11 c = fit c.args.c c.requires (s 8) tt

pub overflow_add-result-8 : goal.overflow_add-result-8
overflow_add-result-8 c = fit c.args.c c.requires weigh_e tt

pub returns : goal.returns
returns c = held_is (ρ c.args.c) β (in_range c.args.c c.requires) weigh_e tt
