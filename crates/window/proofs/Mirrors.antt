-- What mirroring, turning, the negative and an added surface do to each component; the gate, which sees squares of nine, is the same.
use mathlib.Core.Path.{◌≡◌, ap, ◌∙◌}
use mathlib.Core.Bool.{cond}
use mathlib.Core.List.{[], ◌∷◌}
use Prim.Native.Nat.{ℕ, ◌+◌, ◌<◌}
use lib.Dec.{T, eqb, eqb→eq}
use lib.IntN.{ℤ, pos, ◌+ℤ◌, ◌-ℤ◌, ◌*ℤ◌, +ℤ_idr}
use Rattle.laws.proofs.Ring.{Ex, v, k, ◌⊖◌, ◌⊗◌, ring, same}
use Rattle.window.specs.Window.{Window, component, sq, gate_terms, gate}
use Rattle.window.specs.Surface.{Surface, value}
use Rattle.window.specs.Mirrors.{across, down, turned, turned_back, negative, added, sign}
use Rattle.window.specs.Squares.{gated}
use Rattle.window.proofs.Places.{below4, sixteen, sixteen_if}
use Rattle.window.proofs.Expressions.{numbers, at, component_e, weighted_e}
use Rattle.window.proofs.Weighted.{EachTerm, each_gated, weighted_same}
use Rattle.window.proofs.Linear.{component_sum, surface_ungated}

-- ---- by component

pub across_component : (p : Window) (i j : ℕ) → i < 4 → j < 4 → component (across p) i j ≡ sign i *ℤ component p i j
across_component p i j s t =
    ring (numbers p) (component_e (across at) i j) (k (sign i) ⊗ component_e at i j)
    (sixteen (λ i j. same (component_e (across at) i j) (k (sign i) ⊗ component_e at i j)) tt i j s t)

pub down_component : (p : Window) (i j : ℕ) → i < 4 → j < 4 → component (down p) i j ≡ sign j *ℤ component p i j
down_component p i j s t =
    ring (numbers p) (component_e (down at) i j) (k (sign j) ⊗ component_e at i j)
    (sixteen (λ i j. same (component_e (down at) i j) (k (sign j) ⊗ component_e at i j)) tt i j s t)

pub turned_component : (p : Window) (i j : ℕ) → i < 4 → j < 4 → component (turned p) i j ≡ sign i *ℤ component p j i
turned_component p i j s t =
    ring (numbers p) (component_e (turned at) i j) (k (sign i) ⊗ component_e at j i)
    (sixteen (λ i j. same (component_e (turned at) i j) (k (sign i) ⊗ component_e at j i)) tt i j s t)

pub turned_back_component : (p : Window) (i j : ℕ) → i < 4 → j < 4 → component (turned_back p) i j ≡ sign j *ℤ component p j i
turned_back_component p i j s t =
    ring (numbers p) (component_e (turned_back at) i j) (k (sign j) ⊗ component_e at j i)
    (sixteen (λ i j. same (component_e (turned_back at) i j) (k (sign j) ⊗ component_e at j i)) tt i j s t)

-- of the window of 255s: 16 × 255 at (0, 0), and 0 elsewhere
abbrev pub white : ℕ → ℕ → ℕ
white i j = cond (eqb (i + j) 0) 4080 0

pub negative_component : (p : Window) (i j : ℕ) → i < 4 → j < 4 → component (negative p) i j ≡ pos (white i j) -ℤ component p i j
negative_component p i j s t =
    ring (numbers p) (component_e negative_e i j) (k (pos (white i j)) ⊖ component_e at i j)
    (sixteen (λ i j. same (component_e negative_e i j) (k (pos (white i j)) ⊖ component_e at i j)) tt i j s t)
  where
    negative_e : ℕ → ℕ → Ex
    negative_e x y = k (pos 255) ⊖ at x y

pub added_component : (s : Surface) (p : Window) (i j : ℕ) → component (added s p) i j ≡ component p i j +ℤ component (value s) i j
added_component s p i j = component_sum p (value s) i j

-- ---- the gate

sign_sq : (z : ℤ) (i : ℕ) → i < 4 → sq (sign i *ℤ z) ≡ sq z
sign_sq z = below4 (λ i. sq (sign i *ℤ z) ≡ sq z) (one 0 tt) (one 1 tt) (one 2 tt) (one 3 tt)
  where
    one : (i : ℕ) → T (same (k (sign i) ⊗ v 0 ⊗ (k (sign i) ⊗ v 0)) (v 0 ⊗ v 0)) → sq (sign i *ℤ z) ≡ sq z
    one i t = ring (z ∷ []) (k (sign i) ⊗ v 0 ⊗ (k (sign i) ⊗ v 0)) (v 0 ⊗ v 0) t

gate_same : (p q : Window) → EachTerm (λ i j. sq (component p i j) ≡ sq (component q i j)) gate_terms → gate p ≡ gate q
unfolding gate
gate_same p q e = weighted_same (component p) (component q) gate_terms e

-- the gate's weights are the same for (i, j) and (j, i)
gate_turned : (p q : Window) → EachTerm (λ i j. sq (component p i j) ≡ sq (component q j i)) gate_terms → gate p ≡ gate q
unfolding gate
gate_turned p q e =
    weighted_same (component p) (λ i j. component q j i) gate_terms e
    ∙ ring (numbers (component q)) (weighted_e gate_terms (λ i j. at j i)) (weighted_e gate_terms at) tt

pub across_same : (p : Window) → gate (across p) ≡ gate p
across_same p =
    gate_same (across p) p
    (each_gated (λ i j. sq (component (across p) i j) ≡ sq (component p i j))
    (λ i j s t g. ap sq (across_component p i j s t) ∙ sign_sq (component p i j) i s))

pub down_same : (p : Window) → gate (down p) ≡ gate p
down_same p =
    gate_same (down p) p
    (each_gated (λ i j. sq (component (down p) i j) ≡ sq (component p i j))
    (λ i j s t g. ap sq (down_component p i j s t) ∙ sign_sq (component p i j) j t))

pub turned_same : (p : Window) → gate (turned p) ≡ gate p
turned_same p =
    gate_turned (turned p) p
    (each_gated (λ i j. sq (component (turned p) i j) ≡ sq (component p j i))
    (λ i j s t g. ap sq (turned_component p i j s t) ∙ sign_sq (component p j i) i s))

pub turned_back_same : (p : Window) → gate (turned_back p) ≡ gate p
turned_back_same p =
    gate_turned (turned_back p) p
    (each_gated (λ i j. sq (component (turned_back p) i j) ≡ sq (component p j i))
    (λ i j s t g. ap sq (turned_back_component p i j s t) ∙ sign_sq (component p j i) j t))

white_gated : (i j : ℕ) → i < 4 → j < 4 → T (gated i j) → white i j ≡ 0
white_gated i j s t g = eqb→eq (white i j) 0 (sixteen_if gated (λ i j. eqb (white i j) 0) tt i j s t g)

pub negative_same : (p : Window) → gate (negative p) ≡ gate p
negative_same p =
    gate_same (negative p) p
    (each_gated (λ i j. sq (component (negative p) i j) ≡ sq (component p i j))
    (λ i j s t g.
    ap sq (negative_component p i j s t ∙ ap (λ (n : ℕ). pos n -ℤ component p i j) (white_gated i j s t g))
    ∙ ring (component p i j ∷ []) ((k (pos 0) ⊖ v 0) ⊗ (k (pos 0) ⊖ v 0)) (v 0 ⊗ v 0) tt))

pub added_same : (s : Surface) (p : Window) → gate (added s p) ≡ gate p
added_same s p =
    gate_same (added s p) p
    (each_gated (λ i j. sq (component (added s p) i j) ≡ sq (component p i j))
    (λ i j u t g.
    ap sq (added_component s p i j ∙ ap (λ (z : ℤ). component p i j +ℤ z) (surface_ungated s i j u t g) ∙ +ℤ_idr (component p i j))))
