-- The squared lengths of the four rows of weights, and the weight that they give each component.
use Rattle.std.specs.Prelude.{Bool, not, ◌&&◌, [], ◌∷◌, ℕ, ◌+◌, ◌*◌, ◌/◌, eqb, leb, ℤ, pos, ◌*ℤ◌, get_or}
use Rattle.window.specs.Window.{Window, sum4, sq, component}

-- of P0, P1, P2 and P3
abbrev pub norm2 : ℕ → ℕ
norm2 i = get_or (4 ∷ 20 ∷ 4 ∷ 20 ∷ []) i 0

-- 400 over the product of both squared lengths
abbrev pub scale : ℕ → ℕ → ℕ
scale i j = 400 / (norm2 i * norm2 j)

-- the gate takes the components of total degree 3 or more but the operator's own, (3, 3)
abbrev pub gated : ℕ → ℕ → Bool
gated i j = leb 3 (i + j) && not (eqb i 3 && eqb j 3)

-- the sum of the squared pixels
abbrev pub squares : Window → ℤ
squares p = sum4 (λ y. sum4 (λ x. sq (p x y)))

-- the sum of all sixteen squared components, each times 400 over the product of both squared lengths
abbrev pub weighted_squares : Window → ℤ
weighted_squares p = sum4 (λ i. sum4 (λ j. pos (scale i j) *ℤ sq (component p i j)))
