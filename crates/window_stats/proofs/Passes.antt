-- The two passes of the four polynomials make the components, each of bounded magnitude, and their weighted squares the gate.
use mathlib.Core.Path.{◌≡◌, refl, sym, ap, ◌∙◌, subst}
use mathlib.Core.Bool.{◌&&◌}
use mathlib.Core.List.{List, [], ◌∷◌}
use Prim.Native.Nat.{ℕ, zero, suc, ◌%◌, ◌≤◌, ◌<◌}
use native.Mathlib.Omega.{arith}
use native.Mathlib.Nat.{le_trans}
use lib.Dec.{T, leb, ltb, eqb, lit≤, lit<}
use lib.IntN.{ℤ, pos, nat_abs}
use lib.Signed.{mag}
use Rattle.laws.specs.Lists.{Each, Each²}
use Rattle.laws.proofs.Choice.{cond_both}
use Rattle.laws.proofs.Ring.{Ex, v, k, ◌⊕◌, ◌⊖◌, ◌⊗◌, eval, ring, same}
use Rattle.laws.proofs.Each.{each²_at}
use Rattle.laws.proofs.Machine.{bnd, under, held, held_of, held_small}
use Rattle.window.specs.Window.{Pixel, Pixels, component, gate_terms, gate, of_rows}
use Rattle.window_stats.specs.Passes.{Small, poly4_of, poly4_column, transposed, poly4_down, cross, middle, part, weigh_of, Weighable}
use Rattle.window.specs.declared.WindowStats.{WindowStats}
use Rattle.window.proofs.Places.{◌and◌, below4²}
use Rattle.window.proofs.Expressions.{numbers, at, component_e, sq_e, weighted_e}
use Rattle.window.proofs.Bounds.{pixel_abs, most, component_within}

-- ---- small numbers

small_row : (l : List ℤ) → Each Pixel l → Each (Small 4080) l
small_row [] e = tt
small_row (z ∷ l) e = (record { small = omega (arith, pixel_abs e.0) }, small_row l e.1)

pub pixels_small : (m : List (List ℤ)) → Each² Pixel m → Each² (Small 4080) m
pixels_small [] e = tt
pixels_small (l ∷ m) e = (small_row l e.0, pixels_small m e.1)

pub in_rows : (m : List (List ℤ)) → Each² Pixel m → Pixels (of_rows m)
in_rows m e x y p q = each²_at Pixel (pos 0) (record { byte = 0; is = refl; most = lit≤ tt }) m e y x

-- the four polynomials of four values
abbrev poly_e : ℕ → Ex → Ex → Ex → Ex → Ex
poly_e zero a b c d = a ⊕ b ⊕ c ⊕ d
poly_e (suc zero) a b c d = k (pos 3) ⊗ (d ⊖ a) ⊕ c ⊖ b
poly_e (suc (suc zero)) a b c d = a ⊖ b ⊖ c ⊕ d
poly_e (suc (suc (suc n))) a b c d = a ⊖ k (pos 3) ⊗ b ⊕ k (pos 3) ⊗ c ⊖ d

small_column : (a b c d : ℤ) → nat_abs a ≤ 255 → nat_abs b ≤ 255 → nat_abs c ≤ 255 → nat_abs d ≤ 255 → Each (Small 4080) (poly4_of a b c d)
small_column a b c d ha hb hc hd = one 0 tt and one 1 tt and one 2 tt and one 3 tt and tt
  where
    ρ : List ℤ
    ρ = a ∷ b ∷ c ∷ d ∷ []

    β : List ℕ
    β = 255 ∷ 255 ∷ 255 ∷ 255 ∷ []

    e : ℕ → Ex
    e i = poly_e i (v 0) (v 1) (v 2) (v 3)

    one : (i : ℕ) → T (leb (bnd β (e i)) 4080) → Small 4080 (eval ρ (e i))
    one i t = record { small = under ρ β (ha and hb and hc and hd and tt) (e i) 4080 t }

pub passed_small : (m : List (List ℤ)) → Pixels (of_rows m) → Each² (Small 4080) (transposed (poly4_down m))
passed_small m e = col 0 (lit< tt) and col 1 (lit< tt) and col 2 (lit< tt) and col 3 (lit< tt) and tt
  where
    col : (x : ℕ) → x < 4 → Each (Small 4080) (poly4_column m x)
    col x h =
        small_column (of_rows m x 0) (of_rows m x 1) (of_rows m x 2) (of_rows m x 3) (pixel_abs (e x 0 h (lit< tt)))
        (pixel_abs (e x 1 h (lit< tt))) (pixel_abs (e x 2 h (lit< tt))) (pixel_abs (e x 3 h (lit< tt)))

-- ---- the passes

-- component (i, j) as the two passes make it
abbrev passed_e : ℕ → ℕ → Ex
passed_e i j = poly_e i (down 0) (down 1) (down 2) (down 3)
  where
    down : ℕ → Ex
    down x = poly_e j (at x 0) (at x 1) (at x 2) (at x 3)

abbrev pub passes : List (List ℤ) → List (List ℤ)
passes m = poly4_down (transposed (poly4_down m))

module _ (m : List (List ℤ)) where
  made : (i j : ℕ) → T (same (passed_e i j) (component_e at i j)) → eval (numbers (of_rows m)) (passed_e i j) ≡ component (of_rows m) i j
  made i j t = ring (numbers (of_rows m)) (passed_e i j) (component_e at i j) t

  -- row i, place j of what the passes make is component (i, j), for all sixteen
  pub passes_components : (i j : ℕ) → i < 4 → j < 4 → of_rows (passes m) j i ≡ component (of_rows m) i j
  passes_components =
      below4² (λ i j. of_rows (passes m) j i ≡ component (of_rows m) i j)
      (made 0 0 tt) (made 0 1 tt) (made 0 2 tt) (made 0 3 tt) (made 1 0 tt) (made 1 1 tt) (made 1 2 tt) (made 1 3 tt)
      (made 2 0 tt) (made 2 1 tt) (made 2 2 tt) (made 2 3 tt) (made 3 0 tt) (made 3 1 tt) (made 3 2 tt) (made 3 3 tt)

abbrev weigh_e : (ℕ → ℕ → Ex) → Ex
weigh_e c =
    k cross ⊗ (sq_e (c 1 2) ⊕ sq_e (c 2 1) ⊕ sq_e (c 2 3) ⊕ sq_e (c 3 2) ⊕ sq_e (c 3 0) ⊕ sq_e (c 0 3)) ⊕ k middle ⊗ sq_e (c 2 2)
    ⊕ sq_e (c 1 3) ⊕ sq_e (c 3 1)

weigh_same : (c d : ℕ → ℕ → ℤ) → ((i j : ℕ) → i < 4 → j < 4 → c i j ≡ d i j) → weigh_of c ≡ weigh_of d
weigh_same c d e =
    let is : (i j : ℕ) → T (ltb i 4) → T (ltb j 4) → c i j ≡ d i j = λ i j s t. e i j (lit< s) (lit< t) in
    rw (is 1 2 tt tt, is 2 1 tt tt, is 2 3 tt tt, is 3 2 tt tt, is 3 0 tt tt, is 0 3 tt tt, is 2 2 tt tt, is 1 3 tt tt, is 3 1 tt tt)

pub figures : {a b c a' b' c' : ℤ} → a ≡ a' → b ≡ b' → c ≡ c'
    → ◌≡◌ {A = WindowStats} (record { sum = a; gate = b; op = c }) (record { sum = a'; gate = b'; op = c' })
figures p q r = rw (p, q, r)

-- c holds what the passes make of the pixels m
module _ (m c : List (List ℤ)) (e : Pixels (of_rows m)) (r : c ≡ passes m) where
  abbrev q : ℕ → ℕ → ℤ
  q = component (of_rows m)

  most_fits : (i j : ℕ) → most i j ≤ 8160
  most_fits i j = cond_both (λ (n : ℕ). n ≤ 8160) (eqb (i % 2) 1 && eqb (j % 2) 1) 8160 4080 (lit≤ tt) (lit≤ tt)

  part_is : (i j : ℕ) → i < 4 → j < 4 → part c i j ≡ q i j
  part_is i j s t = ap (λ (l : List (List ℤ)). part l i j) r ∙ passes_components m i j s t

  small : (i j n : ℕ) → T (ltb i 4) → T (ltb j 4) → T (leb (most i j) n) → Small n (part c i j)
  small i j n s t b =
      record {
        small =
            subst (λ (z : ℤ). nat_abs z ≤ n) (sym (part_is i j (lit< s) (lit< t)))
            (le_trans (component_within (of_rows m) e i j (lit< s) (lit< t)) (lit≤ b));
      }

  -- each component is as small as `weigh` wants it, whichever it is
  pub weighable : Weighable (part c)
  weighable =
      record {
        most4080 =
            small 1 2 4080 tt tt tt and small 2 1 4080 tt tt tt and small 2 3 4080 tt tt tt and small 3 2 4080 tt tt tt
            and small 3 0 4080 tt tt tt and small 0 3 4080 tt tt tt and small 2 2 4080 tt tt tt and tt;
        most8160 = small 1 3 8160 tt tt tt and small 3 1 8160 tt tt tt and tt;
      }

  -- as the machine reads it back
  held_part : (i j : ℕ) → T (ltb i 4) → T (ltb j 4) → held (part c i j) ≡ q i j
  held_part i j s t =
      ap held (part_is i j (lit< s) (lit< t))
      ∙ held_small (q i j) 8160 (le_trans (component_within (of_rows m) e i j (lit< s) (lit< t)) (most_fits i j)) tt

  pub sum_is : held (part c 0 0) ≡ q 0 0
  sum_is = held_part 0 0 tt tt

  pub gate_is : (g : ℤ) → mag g < 2147483648 → g ≡ weigh_of (part c) → held g ≡ gate (of_rows m)
  unfolding gate
  gate_is g f h =
      held_of {z = g} f ∙ h ∙ weigh_same (part c) q part_is ∙ ring (numbers q) (weigh_e at) (weighted_e gate_terms at) tt

  pub output_is : held (part c 3 3) ≡ q 3 3
  output_is = held_part 3 3 tt tt
