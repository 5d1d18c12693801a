-- Of two numbers R / d and Y / d the first is no farther from an exact size X than the second exactly where X is on the first's side of their middle, (R + Y) / (d * 2):
-- at most the middle where R is below Y, and at least the middle where R is above Y (`Middle`; `as_near`, and back `middle_same`, `middle_other`).
use mathlib.Core.Path.{◌≡◌, refl, sym, ap, ◌∙◌, subst}
use mathlib.Core.Logic.{inl, inr}
use mathlib.Core.Bool.{Bool, true, false, beq}
use Prim.Native.Nat.{ℕ, suc, ◌+◌, ◌-◌, ◌*◌, ◌≤◌, ◌<◌}
use native.Mathlib.Nat.{le_of_eq, le_of_lt, le_of_suc-le-suc, lt_of_not-le, mul_assoc, mul_comm, mul_left_comm, mul_right_comm, mul-le-mul_right, le_of_mul-le-mul_right, add-mul, mul-pos, zero-mul, lt_of_mul-lt-mul_right}
use native.Mathlib.Omega.{arith}
use lib.Dec.{lit<}
use lib.IntN.{ℤ}
use lib.Ieee.{Float, nan, inf, fin, up, down}
use lib.Ieee.Fits.{down_pos}
use lib.Ieee.Exact.{HasValue}
use Rattle.ieee.specs.Rounding.{Exact, fraction, root_of, AtLeast, AtMost, Within, Near, AsNear}
use Rattle.ieee.proofs.Naturals.{trichotomy, sub_mul}
use Rattle.ieee.proofs.ExactSizes.{Proper, least_down, most_up, meet, least?, most?, not_least, not_most, least_scale, most_scale, least_unscale, most_unscale, part}

abbrev pub Middle : Exact → ℕ → ℕ → ℕ → Type 0
Middle X d R Y = (R < Y → AtMost X (R + Y) (d * 2)) × (Y < R → AtLeast X (R + Y) (d * 2))

-- ---- distances at another denominator
module _ (X : Exact) (n t d c : ℕ) where
  within_scale : (b : Bool) → Within b X n t d → Within b X (n * c) (t * c) (d * c)
  within_scale true w = (
    subst (λ (x : ℕ). AtLeast X x (d * c)) (sub_mul n t c) (least_scale (n - t) d c X w.0),
    subst (λ (x : ℕ). AtMost X x (d * c)) (add-mul n t c) (most_scale (n + t) d c X w.1),
  )
  within_scale false w = (mul-le-mul_right c w.0, subst (λ (x : ℕ). AtMost X x (d * c)) (sub_mul t n c) (most_scale (t - n) d c X w.1))

  within_unscale : 0 < c → (b : Bool) → Within b X (n * c) (t * c) (d * c) → Within b X n t d
  within_unscale C true w = (
    least_unscale (n - t) d c C X (subst (λ (x : ℕ). AtLeast X x (d * c)) (sym (sub_mul n t c)) w.0),
    most_unscale (n + t) d c C X (subst (λ (x : ℕ). AtMost X x (d * c)) (sym (add-mul n t c)) w.1),
  )
  within_unscale C false w = (le_of_mul-le-mul_right w.0 C, most_unscale (t - n) d c C X (subst (λ (x : ℕ). AtMost X x (d * c)) (sym (sub_mul t n c)) w.1))

-- ---- from the middle to the distance
module _ (X : Exact) (P : Proper X) where
  within_of_middle : (d R Y t : ℕ) → Middle X d R Y → Within true X Y t d → Within true X R t d
  within_of_middle d R Y t M w = elim (trichotomy R Y) [
    | inl l ↦ (
      least_down X d (omega arith) w.0,
      most_unscale (R + t) d 2 (lit< tt) X (most_up X (d * 2) (up_to R Y t l (meet X (d * 2) P (least_scale (Y - t) d 2 X w.0) (M.0 l))) (M.0 l)),
    )
    | inr (inl e) ↦ subst (λ (n : ℕ). Within true X n t d) (sym e) w
    | inr (inr g) ↦ (
      least_unscale (R - t) d 2 (lit< tt) X (least_down X (d * 2) (down_to R Y t g (meet X (d * 2) P (M.1 g) (most_scale (Y + t) d 2 X w.1))) (M.1 g)),
      most_up X d (omega arith) w.1,
    )
  ]
    where
      up_to : (R Y t : ℕ) → R < Y → (Y - t) * 2 ≤ R + Y → R + Y ≤ (R + t) * 2
      up_to R Y t l h = omega arith

      down_to : (R Y t : ℕ) → Y < R → R + Y ≤ (Y + t) * 2 → (R - t) * 2 ≤ R + Y
      down_to R Y t l h = omega arith

  -- ---- and back: a distance t that is Y's and not R's, where the middle is on the wrong side. X is from j to j + 1, in parts of 1 / (d * 2)
  module _ (d R Y : ℕ) (H : (t : ℕ) → Within true X (Y * 2) t (d * 2) → Within true X (R * 2) t (d * 2)) where
    abbrev D : ℕ
    D = d * 2

    above : R < Y → AtMost X (R + Y) D
    above l = elim (most? X (R + Y) D) [
      | inl h ↦ h
      | inr n ↦
          let p = part X D P in
          let j = p.0 in
          let far : R + Y ≤ j = le_of_suc-le-suc (lt_of_not-le (λ (g : suc j ≤ R + Y). p.2 (least_down X D g (not_most X (R + Y) D n)))) in
          absurd (elim (trichotomy (suc j) (Y * 2 + (Y - R))) [
            | inl a ↦ n (most_up X D (close R Y l) (H (Y - R) (least_down X D (from R Y j far) p.1, most_up X D (le_of_lt a) (not_least X (suc j) D p.2))).1)
            | inr (inl a) ↦ n (most_up X D (close R Y l) (H (Y - R) (least_down X D (from R Y j far) p.1, most_up X D (le_of_eq a) (not_least X (suc j) D p.2))).1)
            | inr (inr a) ↦
                let w = H (suc j - Y * 2) (least_down X D (back R Y j l a) p.1, most_up X D (to R Y j l a) (not_least X (suc j) D p.2)) in
                no R Y j l a (meet X D P p.1 w.1)
          ])
    ]
      where
        close : (R Y : ℕ) → R < Y → R * 2 + (Y - R) ≤ R + Y
        close R Y l = omega arith

        from : (R Y j : ℕ) → R + Y ≤ j → Y * 2 - (Y - R) ≤ j
        from R Y j h = omega arith

        back : (R Y j : ℕ) → R < Y → Y * 2 + (Y - R) < suc j → Y * 2 - (suc j - Y * 2) ≤ j
        back R Y j l a = omega arith

        to : (R Y j : ℕ) → R < Y → Y * 2 + (Y - R) < suc j → suc j ≤ Y * 2 + (suc j - Y * 2)
        to R Y j l a = omega arith

        no : (R Y j : ℕ) → R < Y → Y * 2 + (Y - R) < suc j → j ≤ R * 2 + (suc j - Y * 2) → ⊥
        no R Y j l a h = omega arith

    below : Y < R → AtLeast X (R + Y) D
    below l = elim (least? X (R + Y) D) [
      | inl h ↦ h
      | inr n ↦
          let p = part X D P in
          let j = p.0 in
          let most : AtMost X (R + Y) D = not_least X (R + Y) D n in
          absurd (elim (trichotomy j (Y * 2 - (R - Y))) [
            | inl a ↦
                let w = H (Y * 2 - j) (least_down X D (back R Y j l a) p.1, most_up X D (to R Y j l a) (not_least X (suc j) D p.2)) in
                p.2 (least_down X D (more R Y j l a) w.0)
            | inr (inl a) ↦ n (least_down X D (close R Y l) (H (R - Y) (least_down X D (le_of_eq (sym a)) p.1, most_up X D (from R Y l) most)).0)
            | inr (inr a) ↦ n (least_down X D (close R Y l) (H (R - Y) (least_down X D (le_of_lt a) p.1, most_up X D (from R Y l) most)).0)
          ])
    ]
      where
        close : (R Y : ℕ) → Y < R → R + Y ≤ R * 2 - (R - Y)
        close R Y l = omega arith

        from : (R Y : ℕ) → Y < R → R + Y ≤ Y * 2 + (R - Y)
        from R Y l = omega arith

        back : (R Y j : ℕ) → Y < R → j < Y * 2 - (R - Y) → Y * 2 - (Y * 2 - j) ≤ j
        back R Y j l a = omega arith

        to : (R Y j : ℕ) → Y < R → j < Y * 2 - (R - Y) → suc j ≤ Y * 2 + (Y * 2 - j)
        to R Y j l a = omega arith

        more : (R Y j : ℕ) → Y < R → j < Y * 2 - (R - Y) → suc j ≤ R * 2 - (Y * 2 - j)
        more R Y j l a = omega arith

-- ---- floats of the size R / d and Y / d
module _ (X : Exact) (d : ℕ) (D : 0 < d) (t q : ℕ) where
  sizes : (m : ℕ) (e : ℤ) (Y : ℕ) → m * up e * d ≡ Y * down e → m * up e * q * d ≡ Y * q * down e
  sizes m e Y h = mul_right_comm (m * up e) q d ∙ ap (λ (x : ℕ). x * q) h ∙ mul_right_comm Y (down e) q

  dens : (e : ℤ) → down e * q * d ≡ d * q * down e
  dens e = simp (mul_assoc, mul_comm, mul_left_comm)

  near→within : (s u : Bool) (y : Float) (Y : ℕ) → HasValue y u Y d → Near s X y t q → Within (beq s u) X (Y * q) (t * d) (d * q)
  near→within s u nan Y v n = absurd v
  near→within s u (inf w) Y v n = absurd v
  near→within s u (fin w m e) Y v n =
      within_unscale X (Y * q) (t * d) (d * q) (down e) (down_pos e) (beq s u)
      (subst (λ (a : ℕ). Within (beq s u) X a (t * d * down e) (d * q * down e)) (sizes m e Y v.1)
      (subst (λ (a : ℕ). Within (beq s u) X (m * up e * q * d) a (d * q * down e)) (mul_right_comm t (down e) d)
      (subst (λ (a : ℕ). Within (beq s u) X (m * up e * q * d) (t * down e * d) a) (dens e)
      (within_scale X (m * up e * q) (t * down e) (down e * q) d (beq s u) (subst (λ (b : Bool). Within (beq s b) X (m * up e * q) (t * down e) (down e * q)) v.0 n)))))

  within→near : (s u : Bool) (y : Float) (Y : ℕ) → HasValue y u Y d → Within (beq s u) X (Y * q) (t * d) (d * q) → Near s X y t q
  within→near s u nan Y v n = absurd v
  within→near s u (inf w) Y v n = absurd v
  within→near s u (fin w m e) Y v n =
      subst (λ (b : Bool). Within (beq s b) X (m * up e * q) (t * down e) (down e * q)) (sym v.0)
      (within_unscale X (m * up e * q) (t * down e) (down e * q) d D (beq s u)
      (subst (λ (a : ℕ). Within (beq s u) X a (t * down e * d) (down e * q * d)) (sym (sizes m e Y v.1))
      (subst (λ (a : ℕ). Within (beq s u) X (Y * q * down e) a (down e * q * d)) (mul_right_comm t d (down e))
      (subst (λ (a : ℕ). Within (beq s u) X (Y * q * down e) (t * d * down e) a) (sym (dens e))
      (within_scale X (Y * q) (t * d) (d * q) (down e) (beq s u) n)))))

same_sign : (s : Bool) → beq s s ≡ true
same_sign true = refl
same_sign false = refl

middle_scale : (X : Exact) (d R Y q : ℕ) → Middle X d R Y → Middle X (d * q) (R * q) (Y * q)
middle_scale X d R Y q M = (
  λ l. subst (λ (a : ℕ). AtMost X (R * q + Y * q) a) (mul_right_comm d 2 q) (subst (λ (a : ℕ). AtMost X a (d * 2 * q)) (add-mul R Y q) (most_scale (R + Y) (d * 2) q X (M.0 (lt_of_mul-lt-mul_right q l)))),
  λ l. subst (λ (a : ℕ). AtLeast X (R * q + Y * q) a) (mul_right_comm d 2 q) (subst (λ (a : ℕ). AtLeast X a (d * 2 * q)) (add-mul R Y q) (least_scale (R + Y) (d * 2) q X (M.1 (lt_of_mul-lt-mul_right q l)))),
)

least_zero : (X : Exact) (t d : ℕ) → AtLeast X (0 - t) d
least_zero (fraction num den) t d = rw (nought t, zero-mul den) (omega arith)
  where
    nought : (t : ℕ) → 0 - t ≡ 0
    nought t = omega arith
least_zero (root_of num den) t d = rw (nought t, zero-mul den) (omega arith)
  where
    nought : (t : ℕ) → 0 - t ≡ 0
    nought t = omega arith

-- what is as far off with the other sign is at least as far off as zero
zero_within : (X : Exact) (n t d : ℕ) → Within false X n t d → Within true X 0 t d
zero_within X n t d w = (least_zero X t d, most_up X d (omega arith) w.1)

module _ (s : Bool) (X : Exact) (P : Proper X) (d : ℕ) (D : 0 < d) (r y : Float) (R Y : ℕ) (v : HasValue r s R d) where
  as_near_by : (q t Z : ℕ) → Middle X d R Z → Within true X (Z * q) (t * d) (d * q) → Near s X r t q
  as_near_by q t Z M w =
      within→near X d D t q s s r R v
      (subst (λ (b : Bool). Within b X (R * q) (t * d) (d * q)) (sym (same_sign s)) (within_of_middle X P (d * q) (R * q) (Z * q) (t * d) (middle_scale X d R Z q M) w))

  -- r is as near as y, by the middle of the two, or by that of r and zero where the signs differ
  pub as_near : (u : Bool) → HasValue y u Y d → Middle X d R Y → Middle X d R 0 → AsNear s X r y
  as_near u w M Z t q Q n = go (beq s u) (near→within X d D t q s u y Y w n)
    where
      go : (b : Bool) → Within b X (Y * q) (t * d) (d * q) → Near s X r t q
      go true h = as_near_by q t Y M h
      go false h = as_near_by q t 0 Z (subst (λ (a : ℕ). Within true X a (t * d) (d * q)) (sym (zero-mul q)) (zero_within X (Y * q) (t * d) (d * q) h))

  -- and back
  middle_by : (Z : ℕ) → ((t q : ℕ) → 0 < q → Within true X (R * q) (t * d) (d * q) → Within true X (Z * q) (t * d) (d * q)) → Middle X d Z R
  middle_by Z H = (above X P d Z R turned, below X P d Z R turned)
    where
      turned : (t : ℕ) → Within true X (R * 2) t (d * 2) → Within true X (Z * 2) t (d * 2)
      turned t w =
          within_unscale X (Z * 2) t (d * 2) d D true
          (subst (λ (a : ℕ). Within true X a (t * d) (d * 2 * d)) (other Z)
          (subst (λ (a : ℕ). Within true X (Z * (d * 2)) (t * d) a) (other d)
          (H t (d * 2) (mul-pos D (lit< tt))
          (subst (λ (a : ℕ). Within true X a (t * d) (d * (d * 2))) (sym (other R))
          (subst (λ (a : ℕ). Within true X (R * 2 * d) (t * d) a) (sym (other d)) (within_scale X (R * 2) t (d * 2) d true w))))))
        where
          other : (n : ℕ) → n * (d * 2) ≡ n * 2 * d
          other n = simp (mul_assoc, mul_comm, mul_left_comm)

  module _ (A : AsNear s X y r) where
    nearer : (u : Bool) → HasValue y u Y d → (t q : ℕ) → 0 < q → Within true X (R * q) (t * d) (d * q) → Within (beq s u) X (Y * q) (t * d) (d * q)
    nearer u w t q Q h = near→within X d D t q s u y Y w (A t q Q (within→near X d D t q s s r R v (subst (λ (b : Bool). Within b X (R * q) (t * d) (d * q)) (sym (same_sign s)) h)))

    pub middle_same : HasValue y s Y d → Middle X d Y R
    middle_same w = middle_by Y (λ t q Q h. subst (λ (b : Bool). Within b X (Y * q) (t * d) (d * q)) (same_sign s) (nearer s w t q Q h))

    pub middle_other : (u : Bool) → beq s u ≡ false → HasValue y u Y d → Middle X d 0 R
    middle_other u e w =
        middle_by 0
        (λ t q Q h. subst (λ (a : ℕ). Within true X a (t * d) (d * q)) (sym (zero-mul q)) (zero_within X (Y * q) (t * d) (d * q) (subst (λ (b : Bool). Within b X (Y * q) (t * d) (d * q)) e (nearer u w t q Q h))))
