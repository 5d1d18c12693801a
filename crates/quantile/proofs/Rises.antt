-- `rising` is right: its numbers rise, they are those it was given, and the one at place p is the only one that can stand there. Assumes nothing.
use mathlib.Core.Path.{◌≡◌, refl, sym, ap, ◌∙◌, subst}
use mathlib.Core.Bool.{Bool, true, false, not, cond, true≢false}
use mathlib.Core.List.{List, [], ◌∷◌}
use mathlib.Core.Logic.{⊎_elim}
use Prim.Native.Nat.{ℕ, zero, suc, ◌+◌, ◌≤◌, ◌<◌}
use native.Mathlib.Omega.{arith}
use native.Mathlib.Nat.{eq-or-lt_of_le}
use lib.Dec.{T}
use borrow.Author.Tests.{not-true}
use lib.ListN.{length}
use lib.Ieee.{Float, nan, inf, fin, Format, fits, is_nan}
use Rattle.ieee.specs.Order.{total_less}
use Rattle.ieee.proofs.TotalOrder.{irreflexive}
use Rattle.laws.proofs.Choice.{chosen, passed, cond_both}
use Rattle.quantile.specs.Tally.{tally}
use Rattle.quantile.specs.Rising.{at, inserted, rising, Rises}
use Rattle.quantile.proofs.Orders.{asymmetric, upto, below_upto, total}

-- ---- a number put into a rising list, place by place

-- the lesser of v and x; and what follows x, where y followed it
abbrev pub first : Float → Float → Float
first v x = cond (total_less v x) v x

abbrev pub after : Float → Float → Float → Float
after v x y = cond (total_less v x) x (first v y)

abbrev pub slot : Float → List Float → ℕ → Float
slot v l zero = first v (at l 0)
slot v l (suc i) = after v (at l i) (at l (suc i))

pub rises_upto : (l : List Float) → Rises l → (j i : ℕ) → i ≤ j → total_less (at l j) (at l i) ≡ false
rises_upto l R zero i h = subst (λ (k : ℕ). total_less (at l 0) (at l k) ≡ false) (none i h) (irreflexive (at l 0))
  where
    none : (i : ℕ) → i ≤ 0 → 0 ≡ i
    none i h = omega arith
rises_upto l R (suc j) i h =
    ⊎_elim (λ (e : i ≡ suc j). subst (λ (k : ℕ). total_less (at l (suc j)) (at l k) ≡ false) (sym e) (irreflexive (at l (suc j))))
    (λ (g : i < suc j). upto (at l i) (at l j) (at l (suc j)) (rises_upto l R j i (omega arith)) (R j)) (eq-or-lt_of_le h)

empty_first : (v : Float) → v ≡ first v nan
unfolding total_less is_nan
empty_first nan = refl
empty_first (inf s) = refl
empty_first (fin s m e) = refl

empty_after : (v : Float) → nan ≡ after v nan nan
unfolding total_less is_nan
empty_after nan = refl
empty_after (inf s) = refl
empty_after (fin s m e) = refl

pub slot_is : (v : Float) (l : List Float) → Rises l → (i : ℕ) → at (inserted v l) i ≡ slot v l i
slot_is v [] R zero = empty_first v
slot_is v [] R (suc i) = empty_after v
slot_is v (x ∷ l) R i = go (total_less v x) refl (slot_is v l (λ (k : ℕ). R (suc k))) i
  where
    go : (b : Bool) → total_less v x ≡ b → ((i : ℕ) → at (inserted v l) i ≡ slot v l i) → (i : ℕ) → at (cond b (v ∷ x ∷ l) (x ∷ inserted v l)) i ≡ slot v (x ∷ l) i
    go true e rest zero = chosen (total_less v x) v x e
    go true e rest (suc i) =
        chosen (total_less v (at (x ∷ l) i)) (at (x ∷ l) i) (first v (at l i)) (below_upto v x (at (x ∷ l) i) e (rises_upto (x ∷ l) R i 0 (omega arith)))
    go false e rest zero = passed (total_less v x) v x e
    go false e rest (suc zero) = rest zero ∙ passed (total_less v x) x (first v (at l 0)) e
    go false e rest (suc (suc i)) = rest (suc i)

-- ---- the list rises

first_rises : (v x y : Float) → total_less y x ≡ false → total_less (after v x y) (first v x) ≡ false
first_rises v x y h = go (total_less v x) refl
  where
    go : (b : Bool) → total_less v x ≡ b → total_less (cond b x (first v y)) (cond b v x) ≡ false
    go true e = asymmetric v x e
    go false e = cond_both (λ (z : Float). total_less z x ≡ false) (total_less v y) v y e h

after_rises : (v x y z : Float) → total_less y x ≡ false → total_less z y ≡ false → total_less (after v y z) (after v x y) ≡ false
after_rises v x y z h k = go (total_less v x) refl
  where
    go : (b : Bool) → total_less v x ≡ b → total_less (after v y z) (cond b x (first v y)) ≡ false
    go true e = subst (λ (w : Float). total_less w x ≡ false) (chosen (total_less v y) y (first v z) (below_upto v x y e h)) h
    go false e = first_rises v y z k

inserted_rises : (v : Float) (l : List Float) → Rises l → Rises (inserted v l)
inserted_rises v l R zero = rw (slot_is v l R 1, slot_is v l R 0) (first_rises v (at l 0) (at l 1) (R 0))
inserted_rises v l R (suc i) = rw (slot_is v l R (suc (suc i)), slot_is v l R (suc i)) (after_rises v (at l i) (at l (suc i)) (at l (suc (suc i))) (R i) (R (suc i)))

pub rising_rises : (f : ℕ → Float) (n : ℕ) → Rises (rising f n)
rising_rises f zero i = irreflexive nan
rising_rises f (suc n) i = inserted_rises (f n) (rising f n) (rising_rises f n) i

-- ---- it has the numbers that it was given: as many pass any test

abbrev pub count : (Float → Bool) → List Float → ℕ
count q [] = 0
count q (x ∷ l) = count q l + cond (q x) 1 0

inserted_count : (q : Float → Bool) (v : Float) (l : List Float) → count q (inserted v l) ≡ count q l + cond (q v) 1 0
inserted_count q v [] = refl
inserted_count q v (x ∷ l) = go (total_less v x) (inserted_count q v l)
  where
    swap : (a b c d : ℕ) → a ≡ b + c → a + d ≡ b + d + c
    swap a b c d h = omega arith

    go : (b : Bool) → count q (inserted v l) ≡ count q l + cond (q v) 1 0 → count q (cond b (v ∷ x ∷ l) (x ∷ inserted v l)) ≡ count q (x ∷ l) + cond (q v) 1 0
    go true h = refl
    go false h = swap (count q (inserted v l)) (count q l) (cond (q v) 1 0) (cond (q x) 1 0) h

pub rising_count : (q : Float → Bool) (f : ℕ → Float) (n : ℕ) → count q (rising f n) ≡ tally (λ (i : ℕ). q (f i)) n
rising_count q f zero = refl
rising_count q f (suc n) = inserted_count q (f n) (rising f n) ∙ ap (λ (k : ℕ). k + cond (q (f n)) 1 0) (rising_count q f n)

pub length_inserted : (v : Float) (l : List Float) → length (inserted v l) ≡ suc (length l)
length_inserted v [] = refl
length_inserted v (x ∷ l) = go (total_less v x) (length_inserted v l)
  where
    go : (b : Bool) → length (inserted v l) ≡ suc (length l) → length (cond b (v ∷ x ∷ l) (x ∷ inserted v l)) ≡ suc (suc (length l))
    go true h = refl
    go false h = ap suc h

length_rising : (f : ℕ → Float) (n : ℕ) → length (rising f n) ≡ n
length_rising f zero = refl
length_rising f (suc n) = length_inserted (f n) (rising f n) ∙ ap suc (length_rising f n)

-- ---- v stands at place p among f 0, f 1, .. , n of them: at most p of them are below v, and more than p are not above it

pub record Stands (f : ℕ → Float) (n p : ℕ) (v : Float) : Type 0 where
  pub few : tally (λ (i : ℕ). total_less (f i) v) n ≤ p
  pub many : p < tally (λ (i : ℕ). not (total_less v (f i))) n

abbrev one : Bool → ℕ
one b = cond b 1 0

one_at_most : (b : Bool) → cond b 1 0 ≤ 1
one_at_most b = cond_both (λ (k : ℕ). k ≤ 1) b 1 0 (omega arith) (omega arith)

count_few : (q : Float → Bool) (l : List Float) (p : ℕ) → ((i : ℕ) → p ≤ i → q (at l i) ≡ false) → count q l ≤ p
count_few q [] p h = omega arith
count_few q (x ∷ l) zero h =
    omega (arith, count_few q l zero (λ i g. h (suc i) (omega arith)), ap one (h 0 (omega arith)))
count_few q (x ∷ l) (suc p) h = omega (arith, count_few q l p (λ i g. h (suc i) (omega arith)), one_at_most (q x))

count_many : (q : Float → Bool) (l : List Float) (p : ℕ) → p < length l → ((i : ℕ) → i ≤ p → q (at l i) ≡ true) → p < count q l
count_many q [] p g h = omega arith
count_many q (x ∷ l) zero g h = omega (arith, ap one (h 0 (omega arith)))
count_many q (x ∷ l) (suc p) g h =
    omega (arith, count_many q l p (omega arith) (λ i k. h (suc i) (omega arith)), ap one (h 0 (omega arith)))

-- the number at place p < n stands there
pub place_stands : (f : ℕ → Float) (n p : ℕ) → p < n → Stands f n p (at (rising f n) p)
place_stands f n p h =
    record {
      few = subst (λ (k : ℕ). k ≤ p) (rising_count (λ (x : Float). total_less x v) f n) (count_few (λ (x : Float). total_less x v) l p (λ i g. rises_upto l R i p g));
      many = subst (λ (k : ℕ). p < k) (rising_count (λ (x : Float). not (total_less v x)) f n)
          (count_many (λ (x : Float). not (total_less v x)) l p (omega (arith, length_rising f n)) (λ i g. ap not (rises_upto l R p i g)));
    }
  where
    l : List Float
    l = rising f n

    v : Float
    v = at (rising f n) p

    R : Rises (rising f n)
    R = rising_rises f n

-- and no other number of the format does

implied : (a b : Bool) → (a ≡ true → b ≡ true) → cond a 1 0 ≤ cond b 1 0
implied true b h = omega (arith, ap one (h refl))
implied false b h = omega arith

tally_mono : (a b : ℕ → Bool) → ((i : ℕ) → a i ≡ true → b i ≡ true) → (n : ℕ) → tally a n ≤ tally b n
tally_mono a b h zero = omega arith
tally_mono a b h (suc n) = omega (arith, tally_mono a b h n, implied (a n) (b n) (h n))

not_below : (f : ℕ → Float) (n p : ℕ) (v w : Float) → Stands f n p v → Stands f n p w → total_less v w ≡ false
not_below f n p v w s t = go (total_less v w) refl
  where
    less : (x : Float) → total_less v w ≡ true → not (total_less v x) ≡ true → total_less x w ≡ true
    less x e h = step (total_less x w) refl
      where
        step : (b : Bool) → total_less x w ≡ b → b ≡ true
        step true g = refl
        step false g = absurd (true≢false (sym e ∙ upto w x v g (not-true (total_less v x) h)))

    go : (b : Bool) → total_less v w ≡ b → b ≡ false
    go true e = absurd (crowded (tally_mono (λ (i : ℕ). not (total_less v (f i))) (λ (i : ℕ). total_less (f i) w) (λ i h. less (f i) e h) n) s.many t.few)
      where
        crowded : {a b : ℕ} → a ≤ b → p < a → b ≤ p → ⊥
        crowded h k g = omega arith
    go false e = refl

pub stands_alone : (F : Format) (f : ℕ → Float) (n p : ℕ) (v w : Float) → T (fits F v) → T (fits F w) → Stands f n p v → Stands f n p w → v ≡ w
stands_alone F f n p v w v-fits w_Fits s t = total F v w v-fits w_Fits (not_below f n p v w s t) (not_below f n p w v t s)
