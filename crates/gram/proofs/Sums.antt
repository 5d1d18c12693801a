-- A loop that adds a gradient's products a turn: what it holds after n turns is `along` of n. Assumes nothing.
use mathlib.Core.Path.{◌≡◌, refl, sym, ap, ◌∙◌, subst}
use mathlib.Core.Bool.{Bool, cond}
use mathlib.Core.List.{List, [], ◌∷◌}
use mathlib.Core.Logic.{inl, inr}
use Prim.Native.Nat.{ℕ, zero, suc, ◌+◌, ◌*◌, ◌/◌, ◌%◌, ◌≤◌, ◌<◌}
use native.Mathlib.Numerals.{add-one}
use native.Mathlib.Omega.{arith}
use lib.Dec.{ltb}
use lib.Ieee
use lib.Ieee.{Float, binary32, binary64}
use lib.ListN.{length, get_or, set, length-set}
use lib.Seq.{get_or-set_same, get_or-set_other}
use borrow.Author.Tests.{lt-ltb, le-ltb}
use Rattle.std.proofs.lemmas.List.{get_or_default}
use Rattle.laws.proofs.Choice.{chosen, passed}
use Rattle.std.proofs.lemmas.Bool.{cases_order}
use Rattle.ieee.specs.Convert.{convert}
use Rattle.refine.specs.Covariance.{covariance}
use Rattle.refine.specs.declared.PositionCovariance.{PositionCovariance}
use Rattle.gram.specs.declared.Three.{Three}
use Rattle.gram.specs.Gram.{product, along, partial, product_sum, gram}
use Rattle.gram.specs.Loops.{Added, FourSums, none}

module _ (a b : List Float) where
  along_more : (step k : ℕ) (s₀ : Float) (n i : ℕ) {s r : Float} → s ≡ along a b step k s₀ n → i ≡ n * step + k → r ≡ along a b 1 i s 1
      → r ≡ along a b step k s₀ (n + 1)
  along_more step k s₀ n i {s} {r} h e q =
      q ∙ ap (λ (x : Float). Ieee.add binary64 x (product a b (0 * 1 + i))) h
      ∙ ap (λ (j : ℕ). Ieee.add binary64 (along a b step k s₀ n) (product a b j)) (omega (arith, e))
      ∙ sym (ap (λ (m : ℕ). along a b step k s₀ m) (add-one n))

  pub product_sum_is : (n : ℕ) → n ≡ length a → {p0 p1 p2 p3 q r : Float} → p0 ≡ partial a b 0 (n / 4) → p1 ≡ partial a b 1 (n / 4) → p2 ≡ partial a b 2 (n / 4) → p3 ≡ partial a b 3 (n / 4)
      → q ≡ along a b 1 (n / 4 * 4) p0 (n % 4) → r ≡ convert binary32 (Ieee.add binary64 (Ieee.add binary64 q p1) (Ieee.add binary64 p2 p3)) → r ≡ product_sum a b
  unfolding product_sum
  product_sum_is n l e0 e1 e2 e3 e h =
      h ∙ joined (e ∙ ap (λ (x : Float). along a b 1 (n / 4 * 4) x (n % 4)) e0) e1 e2 e3
      ∙ ap (λ (n : ℕ). convert binary32 (Ieee.add binary64 (Ieee.add binary64 (along a b 1 (n / 4 * 4) (partial a b 0 (n / 4)) (n % 4)) (partial a b 1 (n / 4))) (Ieee.add binary64 (partial a b 2 (n / 4)) (partial a b 3 (n / 4))))) l
    where
      joined : {x y z w x' y' z' w' : Float} → x ≡ x' → y ≡ y' → z ≡ z' → w ≡ w'
          → convert binary32 (Ieee.add binary64 (Ieee.add binary64 x y) (Ieee.add binary64 z w)) ≡ convert binary32 (Ieee.add binary64 (Ieee.add binary64 x' y') (Ieee.add binary64 z' w'))
      joined e f g h = cc

  pub gram_is : {xx xy yy : Float} {c : PositionCovariance} → xx ≡ product_sum a a → xy ≡ product_sum a b → yy ≡ product_sum b b → c ≡ covariance xx xy yy → c ≡ gram a b
  gram_is e f g h = h ∙ same e f g
    where
      same : {x y z x' y' z' : Float} → x ≡ x' → y ≡ y' → z ≡ z' → covariance x y z ≡ covariance x' y' z'
      same e f g = λ i. record { xx = e i; xy = f i; yy = g i }

module _ (gx gy : List Float) where
  pub added_more : (step k : ℕ) (s₀ : Three) (n i : ℕ) {s r : Three} → Added gx gy step k s₀ n s → i ≡ n * step + k → Added gx gy 1 i s 1 r
      → Added gx gy step k s₀ (n + 1) r
  added_more step k s₀ n i h e q =
      record {
        of_xx = along_more gx gx step k s₀.xx n i h.of_xx e q.of_xx;
        of_xy = along_more gx gy step k s₀.xy n i h.of_xy e q.of_xy;
        of_yy = along_more gy gy step k s₀.yy n i h.of_yy e q.of_yy;
      }

  -- ---- the four sums

  -- before a turn
  started : (l : ℕ) → get_or (none ∷ none ∷ none ∷ none ∷ []) l none ≡ none
  started zero = refl
  started (suc zero) = refl
  started (suc (suc zero)) = refl
  started (suc (suc (suc zero))) = refl
  started (suc (suc (suc (suc l)))) = refl

  pub fours_start : (x : Three) → x ≡ none → FourSums gx gy 0 (x ∷ x ∷ x ∷ x ∷ [])
  fours_start x e = subst (λ (x : Three). FourSums gx gy 0 (x ∷ x ∷ x ∷ x ∷ [])) (sym e) (record {
    four = refl;
    each = λ l h. subst (Added gx gy 4 l none 0) (sym (started l)) (record { of_xx = refl; of_xy = refl; of_yy = refl });
  })

  -- within turn k: the sums below lane l have taken it
  pub record Turning (k l : ℕ) (p : List Three) : Type 0 where
    pub four : length p ≡ 4
    pub each : (j : ℕ) → j < 4 → Added gx gy 4 j none (cond (ltb j l) (k + 1) k) (get_or p j none)

  pub turning_start : {k : ℕ} {p : List Three} → FourSums gx gy k p → Turning k 0 p
  turning_start {k} {p} f = record {
    four = f.four;
    each = λ j h. subst (λ (n : ℕ). Added gx gy 4 j none n (get_or p j none)) (passed (ltb j 0) (k + 1) k (le-ltb j 0 (omega arith))) (f.each j h);
  }

  pub turning_more : {k l i : ℕ} {p : List Three} (d : Three) {r : Three} → Turning k l p → l < 4 → i ≡ k * 4 + l → Added gx gy 1 i (get_or p l d) 1 r
      → Turning k (l + 1) (set p l r)
  turning_more {k} {l} {i} {p} d {r} t h e q = record {
    four = length-set p l r ∙ t.four;
    each = λ j m. elim (cases_order j l) [
      | inl q ↦ subst (λ (j : ℕ). Added gx gy 4 j none (cond (ltb j (l + 1)) (k + 1) k) (get_or (set p l r) j none)) (sym q) here
      | inr q ↦ elim q [
        | inl b ↦ there j m (λ n. omega arith) (lt-ltb j l b) (lt-ltb j (l + 1) (omega arith))
        | inr b ↦ there j m (λ n. omega arith) (le-ltb j l (omega arith)) (le-ltb j (l + 1) (omega arith))
      ]
    ];
  }
    where
      there : (j : ℕ) → j < 4 → (j ≡ l → ⊥) → {b : Bool} → ltb j l ≡ b → ltb j (l + 1) ≡ b → Added gx gy 4 j none (cond (ltb j (l + 1)) (k + 1) k) (get_or (set p l r) j none)
      there j m n x y =
          subst (Added gx gy 4 j none (cond (ltb j (l + 1)) (k + 1) k)) (sym (get_or-set_other p l j r none n))
          (subst (λ (b : Bool). Added gx gy 4 j none (cond b (k + 1) k) (get_or p j none)) (x ∙ sym y) (t.each j m))

      taken : Added gx gy 4 l none (k + 1) r
      taken = added_more 4 l none k i
          (subst (λ (n : ℕ). Added gx gy 4 l none n (get_or p l none)) (sym (passed (ltb l l) (k + 1) k (le-ltb l l (omega arith)))) (t.each l h)) e
          (subst (λ (s : Three). Added gx gy 1 i s 1 r) (get_or_default p l d none (omega (arith, t.four))) q)

      here : Added gx gy 4 l none (cond (ltb l (l + 1)) (k + 1) k) (get_or (set p l r) l none)
      here =
          subst (Added gx gy 4 l none (cond (ltb l (l + 1)) (k + 1) k)) (sym (get_or-set_same p l r none (omega (arith, t.four))))
          (subst (λ (n : ℕ). Added gx gy 4 l none n r) (chosen (ltb l (l + 1)) (k + 1) k (lt-ltb l (l + 1) (omega arith))) taken)

  pub turning_end : {k l : ℕ} {p : List Three} → 4 ≤ l → Turning k l p → FourSums gx gy (k + 1) p
  turning_end {k} {l} {p} f t = record {
    four = t.four;
    each = λ j h. subst (λ (n : ℕ). Added gx gy 4 j none n (get_or p j none)) (sym (chosen (ltb j l) (k + 1) k (lt-ltb j l (omega arith)))) (t.each j h);
  }

  -- the partial sums, the rest in the first, joined
  pub sums_are : {p : List Three} (d : Three) {q : Three} {x y z : Float} {c : PositionCovariance} → length gx ≡ length gy → FourSums gx gy (length gx / 4) p
      → Added gx gy 1 (length gx / 4 * 4) (get_or p 0 d) (length gx % 4) q
      → x ≡ convert binary32 (Ieee.add binary64 (Ieee.add binary64 q.xx (get_or p 1 d).xx) (Ieee.add binary64 (get_or p 2 d).xx (get_or p 3 d).xx))
      → y ≡ convert binary32 (Ieee.add binary64 (Ieee.add binary64 q.xy (get_or p 1 d).xy) (Ieee.add binary64 (get_or p 2 d).xy (get_or p 3 d).xy))
      → z ≡ convert binary32 (Ieee.add binary64 (Ieee.add binary64 q.yy (get_or p 1 d).yy) (Ieee.add binary64 (get_or p 2 d).yy (get_or p 3 d).yy))
      → c ≡ covariance x y z → c ≡ gram gx gy
  sums_are {p} d l f q x y z h =
      gram_is gx gy
      (product_sum_is gx gx (length gx) refl (lane 0 (omega arith)).of_xx (lane 1 (omega arith)).of_xx (lane 2 (omega arith)).of_xx (lane 3 (omega arith)).of_xx q.of_xx x)
      (product_sum_is gx gy (length gx) refl (lane 0 (omega arith)).of_xy (lane 1 (omega arith)).of_xy (lane 2 (omega arith)).of_xy (lane 3 (omega arith)).of_xy q.of_xy y)
      (product_sum_is gy gy (length gx) l (lane 0 (omega arith)).of_yy (lane 1 (omega arith)).of_yy (lane 2 (omega arith)).of_yy (lane 3 (omega arith)).of_yy q.of_yy z)
      h
    where
      lane : (l : ℕ) → l < 4 → Added gx gy 4 l none (length gx / 4) (get_or p l d)
      lane l h = subst (Added gx gy 4 l none (length gx / 4)) (get_or_default p l none d (omega (arith, f.four))) (f.each l h)

-- what a turn of `partials` begins and ends with
pub ruleset turning = (turning_start, turning_end)
