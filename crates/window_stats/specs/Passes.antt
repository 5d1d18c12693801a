-- Only for the steps of the code: the four polynomials down and across, the weighted squares. They come to window's `stats_of`.
use Rattle.std.specs.Prelude.{List, [], ◌∷◌, ℕ, ◌≤◌, ℤ, pos, nat_abs, ◌+ℤ◌, ◌-ℤ◌, ◌*ℤ◌}
use Rattle.laws.specs.Lists.{Each}
use Rattle.window.specs.Window.{sq, of_rows}

-- of a magnitude that the sums of the code can hold
pub record Small (n : ℕ) (z : ℤ) : Type 0 where
  pub small : nat_abs z ≤ n

-- the four polynomials over four values
abbrev pub poly4_of : ℤ → ℤ → ℤ → ℤ → List ℤ
poly4_of a b c d =
    (a +ℤ b +ℤ c +ℤ d) ∷ (pos 3 *ℤ (d -ℤ a) +ℤ c -ℤ b) ∷ (a -ℤ b -ℤ c +ℤ d) ∷ (a -ℤ pos 3 *ℤ b +ℤ pos 3 *ℤ c -ℤ d) ∷ []

-- the four numbers of column x, from row 0 down
abbrev pub column_down : List (List ℤ) → ℕ → List ℤ
column_down m x = of_rows m x 0 ∷ of_rows m x 1 ∷ of_rows m x 2 ∷ of_rows m x 3 ∷ []

abbrev pub transposed : List (List ℤ) → List (List ℤ)
transposed m = column_down m 0 ∷ column_down m 1 ∷ column_down m 2 ∷ column_down m 3 ∷ []

-- the polynomials down column x
abbrev pub poly4_column : List (List ℤ) → ℕ → List ℤ
poly4_column m x = poly4_of (of_rows m x 0) (of_rows m x 1) (of_rows m x 2) (of_rows m x 3)

-- row p is polynomial p of each column
abbrev pub poly4_down : List (List ℤ) → List (List ℤ)
poly4_down m = transposed (poly4_column m 0 ∷ poly4_column m 1 ∷ poly4_column m 2 ∷ poly4_column m 3 ∷ [])

-- the gate's weights, of six components and of (2, 2)
abbrev pub cross : ℤ
cross = pos 5

abbrev pub middle : ℤ
middle = pos 25

-- row i, place j
abbrev pub part : List (List ℤ) → ℕ → ℕ → ℤ
part m i j = of_rows m j i

abbrev pub weigh_of : (ℕ → ℕ → ℤ) → ℤ
weigh_of c =
    cross *ℤ (sq (c 1 2) +ℤ sq (c 2 1) +ℤ sq (c 2 3) +ℤ sq (c 3 2) +ℤ sq (c 3 0) +ℤ sq (c 0 3)) +ℤ middle *ℤ sq (c 2 2)
    +ℤ sq (c 1 3) +ℤ sq (c 3 1)

-- components whose weighted squares the sums of the code can hold
pub record Weighable (c : ℕ → ℕ → ℤ) : Type 0 where
  pub most4080 : Each (Small 4080) (c 1 2 ∷ c 2 1 ∷ c 2 3 ∷ c 3 2 ∷ c 3 0 ∷ c 0 3 ∷ c 2 2 ∷ [])
  pub most8160 : Each (Small 8160) (c 1 3 ∷ c 3 1 ∷ [])
