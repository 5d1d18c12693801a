-- Keeping the eight largest by insertion gives the last eight of all in rising order.
use mathlib.Core.Path.{◌≡◌, refl, sym, ap, ◌∙◌, subst}
use mathlib.Core.Bool.{Bool, true, false, cond, ◌&&◌, ◌||◌}
use mathlib.Core.List.{List, [], ◌∷◌, ◌++◌, append-nil}
use Prim.Native.Nat.{ℕ, zero, suc, ◌+◌, ◌-◌, ◌*◌, ◌≤◌, ◌<◌}
use native.Mathlib.Numerals.{add-one}
use native.Mathlib.Omega.{arith}
use lib.Dec.{T}
use borrow.Author.Tests.{le-ltb}
use lib.ListN.{length, get_or, take, drop, set, replicate, length-set, length-drop, drop_of_length-le}
use lib.Seq.{drop-cons, get_or-drop, take-suc-set, drop-set-lt, append_snoc, set_split, drop-append-add}
use lib.Ieee.{Float, nan, inf, fin, lt, eq, is_nan, level, up, down}
use lib.IntN.{pos}
use lib.Ieee.{binary32, of_bits}
use Rattle.ieee.specs.Order.{total_less, negative}
use Rattle.quantile.specs.Rising.{at, inserted, rising, Rises}
use Rattle.quantile.proofs.Orders.{below_upto}
use Rattle.laws.proofs.Choice.{chosen, passed}
use Rattle.ieee.proofs.TotalOrder.{irreflexive}
use Rattle.quantile.proofs.Rises.{rises_upto, rising_rises, length_inserted}
use Rattle.levels.specs.Clear.{clear, AllClear}
use Rattle.levels.proofs.Clears.{clear_at}
use Rattle.steepness.specs.Slide.{greater, middle}
use Rattle.steepness.specs.Steepness.{largest}

-- ---- on clear numbers `<` is the order

or_no : (a b : Bool) → (a || (b && false)) ≡ a
or_no true b = refl
or_no false true = refl
or_no false false = refl

pub less_is : (x y : Float) → T (clear x) → T (clear y) → total_less x y ≡ lt x y
unfolding total_less lt eq is_nan negative
less_is nan y p q = absurd p
less_is (inf true) y p q = absurd p
less_is (inf false) nan p q = absurd q
less_is (inf false) (inf true) p q = absurd q
less_is (inf false) (inf false) p q = refl
less_is (inf false) (fin true n d) p q = absurd q
less_is (inf false) (fin false n d) p q = refl
less_is (fin true m e) y p q = absurd p
less_is (fin false m e) nan p q = absurd q
less_is (fin false m e) (inf true) p q = absurd q
less_is (fin false m e) (inf false) p q = refl
less_is (fin false m e) (fin true n d) p q = absurd q
less_is (fin false m e) (fin false n d) p q = or_no (lt (fin false m e) (fin false n d)) (level false (m * up e * down d) false (n * up d * down e))

clear_inserted : (v : Float) (l : List Float) → T (clear v) → AllClear l → AllClear (inserted v l)
clear_inserted v [] p c = (p, tt)
clear_inserted v (x ∷ l) p c = go (total_less v x) (clear_inserted v l p c.1)
  where
    go : (b : Bool) → AllClear (inserted v l) → AllClear (cond b (v ∷ x ∷ l) (x ∷ inserted v l))
    go true h = (p, c)
    go false h = (c.0, h)

clear_rest : (l : List Float) → AllClear l → AllClear (drop 1 l)
clear_rest [] c = tt
clear_rest (x ∷ l) c = c.1

-- ---- insert: each place takes the middle one of v, what it holds and what the next one holds

less_first : (v x : Float) (l : List Float) → total_less v x ≡ true → inserted v (x ∷ l) ≡ v ∷ x ∷ l
less_first v x l h = sym (chosen (total_less v x) (v ∷ x ∷ l) (x ∷ inserted v l) h)

less_later : (v x : Float) (l : List Float) → total_less v x ≡ false → inserted v (x ∷ l) ≡ x ∷ inserted v l
less_later v x l h = sym (passed (total_less v x) (v ∷ x ∷ l) (x ∷ inserted v l) h)

-- v below the first of all changes nothing
pub stay : (v : Float) (l : List Float) → length l ≡ 8 → T (clear v) → AllClear l → lt v (get_or l 0 nan) ≡ true → l ≡ drop 1 (inserted v l)
stay v [] e p c h = absurd (none e)
  where
    none : ◌≡◌ {A = ℕ} 0 8 → ⊥
    none e = omega arith
stay v (x ∷ l) e p c h = sym (ap (drop 1) (less_first v x l (less_is v x p c.0 ∙ h)))

-- the places from the one that holds y on, of which l are the later ones
abbrev slide : Float → Float → List Float → List Float
slide v y [] = greater v y ∷ []
slide v y (x ∷ l) = middle v y x ∷ slide v x l

between_both : (v y x : Float) → lt v x ≡ true → middle v y x ≡ greater v y
between_both v y x h = sym (chosen (lt v x) (greater v y) x h)

between_past : (v y x : Float) → lt v x ≡ false → middle v y x ≡ x
between_past v y x h = sym (passed (lt v x) (greater v y) x h)

-- v below the first changes nothing
slid_below : (v y : Float) (l : List Float) → T (clear v) → AllClear (y ∷ l) → Rises (y ∷ l) → lt v y ≡ true → slide v y l ≡ y ∷ l
slid_below v y [] p c R h = ap (λ (z : Float). z ∷ []) (sym (chosen (lt v y) y v h))
slid_below v y (x ∷ l) p c R h =
    λ i. (between_both v y x next ∙ sym (chosen (lt v y) y v h)) i ∷ slid_below v x l p c.1 (λ (k : ℕ). R (suc k)) next i
  where
    next : lt v x ≡ true
    next = sym (less_is v x p c.1.0) ∙ below_upto v y x (less_is v y p c.0 ∙ h) (R 0)

slid_past : (v y : Float) (l : List Float) → T (clear v) → AllClear (y ∷ l) → Rises (y ∷ l) → lt v y ≡ false → slide v y l ≡ inserted v l
slid_past v y [] p c R h = ap (λ (z : Float). z ∷ []) (sym (passed (lt v y) y v h))
slid_past v y (x ∷ l) p c R h = go (lt v x) refl (λ t. slid_past v x l p c.1 (λ (k : ℕ). R (suc k)) t)
  where
    rest : Rises (x ∷ l)
    rest k = R (suc k)

    go : (b : Bool) → lt v x ≡ b → (lt v x ≡ false → slide v x l ≡ inserted v l) → slide v y (x ∷ l) ≡ inserted v (x ∷ l)
    go true t later =
        (λ i. (between_both v y x t ∙ sym (passed (lt v y) y v h)) i ∷ slid_below v x l p c.1 rest t i)
        ∙ sym (less_first v x l (less_is v x p c.1.0 ∙ t))
    go false t later = (λ i. between_past v y x t i ∷ later t i) ∙ sym (less_later v x l (less_is v x p c.1.0 ∙ t))

slid : (v y : Float) (l : List Float) → T (clear v) → AllClear (y ∷ l) → Rises (y ∷ l) → slide v y l ≡ drop 1 (inserted v (y ∷ l))
slid v y l p c R = go (lt v y) refl
  where
    go : (b : Bool) → lt v y ≡ b → slide v y l ≡ drop 1 (inserted v (y ∷ l))
    go true t = slid_below v y l p c R t ∙ sym (ap (drop 1) (less_first v y l (less_is v y p c.0 ∙ t)))
    go false t = slid_past v y l p c R t ∙ sym (ap (drop 1) (less_later v y l (less_is v y p c.0 ∙ t)))

-- the places before j are done
pub record Sliding (goal : List Float) (v : Float) (j : ℕ) (top : List Float) : Type 0 where
  pub low : j ≤ 7
  pub long : length top ≡ 8
  pub same : take j top ++ slide v (get_or top j nan) (drop (j + 1) top) ≡ goal

pub slide_start : (v : Float) (l : List Float) → length l ≡ 8 → T (clear v) → AllClear l → Rises l → Sliding (drop 1 (inserted v l)) v 0 l
slide_start v [] e p c R = absurd (none e)
  where
    none : ◌≡◌ {A = ℕ} 0 8 → ⊥
    none e = omega arith
slide_start v (y ∷ l) e p c R = record { low = omega arith; long = e; same = slid v y l p c R }

module _ {goal top : List Float} {v : Float} {j : ℕ} (c : Sliding goal v j top) where
  rest_is : j < 7 → drop (j + 1) top ≡ get_or top (j + 1) nan ∷ drop (j + 1 + 1) top
  rest_is h = rw (add-one (j + 1)) (drop-cons top (j + 1) nan (omega (arith, c.long)))

  pub slide_more : j < 7 → {b : Float} → b ≡ middle v (get_or top j nan) (get_or top (j + 1) nan) → Sliding goal v (j + 1) (set top j b)
  slide_more h {b} e = record {
    low = omega arith;
    long = length-set top j b ∙ c.long;
    same = (λ i. taken i ++ slide v (next_is i) (drop-set-lt (j + 1 + 1) top j b (omega arith) i))
        ∙ append_snoc (take j top) b (slide v (get_or top (j + 1) nan) (drop (j + 1 + 1) top))
        ∙ ap (λ (z : Float). take j top ++ (z ∷ slide v (get_or top (j + 1) nan) (drop (j + 1 + 1) top))) e
        ∙ ap (λ (l : List Float). take j top ++ slide v (get_or top j nan) l) (sym (rest_is h))
        ∙ c.same;
  }
    where
      taken : take (j + 1) (set top j b) ≡ take j top ++ (b ∷ [])
      taken = rw (add-one j) (take-suc-set top j b (omega (arith, c.long, h)))

      first : (l : List Float) → get_or (drop (j + 1) l) 0 nan ≡ get_or l (j + 1) nan
      first l = get_or-drop (j + 1) l 0 nan ∙ ap (λ (i : ℕ). get_or l i nan) (go j)
        where
          go : (j : ℕ) → j + 1 + 0 ≡ j + 1
          go j = omega arith

      next_is : get_or (set top j b) (j + 1) nan ≡ get_or top (j + 1) nan
      next_is = sym (first (set top j b)) ∙ ap (λ (l : List Float). get_or l 0 nan) (drop-set-lt (j + 1) top j b (omega arith)) ∙ first top

  pub slide_end : 7 ≤ j → {b : Float} → b ≡ greater v (get_or top 7 nan) → set top 7 b ≡ goal
  slide_end h {b} e =
      set_split top 7 b (omega (arith, c.long))
      ∙ ap (λ (l : List Float). take 7 top ++ (b ∷ l)) nothing
      ∙ ap (λ (z : Float). take 7 top ++ (z ∷ [])) e
      ∙ ap (λ (l : List Float). take 7 top ++ slide v (get_or top 7 nan) l) (sym nothing)
      ∙ ap (λ (i : ℕ). take i top ++ slide v (get_or top i nan) (drop (i + 1) top)) (seven j c.low h)
      ∙ c.same
    where
      nothing : drop 8 top ≡ []
      nothing = drop_of_length-le top {i = 8} (omega (arith, c.long))

      seven : (j : ℕ) → j ≤ 7 → 7 ≤ j → 7 ≡ j
      seven j a b = omega arith

-- ---- dropping the smallest as one goes is dropping them all at the end

before_all : (v : Float) (m : List Float) → total_less v (at m 0) ≡ true → drop 1 (inserted v m) ≡ m
before_all v [] h = refl
before_all v (x ∷ m) h = ap (drop 1) (less_first v x m h)

at_drop : (l : List Float) (k : ℕ) → at (drop k l) 0 ≡ at l k
at_drop l k = get_or-drop k l 0 nan ∙ ap (at l) (go k)
  where
    go : (k : ℕ) → k + 0 ≡ k
    go k = omega arith

drop_inserted : (v : Float) (l : List Float) → Rises l → (k : ℕ) → drop (suc k) (inserted v l) ≡ drop 1 (inserted v (drop k l))
drop_inserted v l R zero = refl
drop_inserted v [] R (suc k) = refl
drop_inserted v (x ∷ l) R (suc k) = go (total_less v x) refl (drop_inserted v l (λ (i : ℕ). R (suc i)) k)
  where
    go : (b : Bool) → total_less v x ≡ b → drop (suc k) (inserted v l) ≡ drop 1 (inserted v (drop k l)) → drop (suc (suc k)) (cond b (v ∷ x ∷ l) (x ∷ inserted v l)) ≡ drop 1 (inserted v (drop k l))
    go true e h =
        sym (before_all v (drop k l) (subst (λ (z : Float). total_less v z ≡ true) (sym (at_drop l k)) (below_upto v x (at l k) e (rises_upto (x ∷ l) R (suc k) 0 (omega arith)))))
    go false e h = h

-- ---- eight zeros, then all so far in rising order

abbrev none : Float
none = of_bits binary32 0

none_is : none ≡ fin false 0 (pos 0)
unfolding of_bits
none_is = refl

not_less : (x : Float) → T (clear x) → lt x (fin false 0 (pos 0)) ≡ false
unfolding lt
not_less nan p = absurd p
not_less (inf true) p = absurd p
not_less (inf false) p = refl
not_less (fin true m e) p = absurd p
not_less (fin false m e) p = le-ltb (m * up e * 1) (0 * 1 * down e) (omega arith)

not_below : (x : Float) → T (clear x) → total_less x none ≡ false
not_below x p = ap (total_less x) none_is ∙ less_is x (fin false 0 (pos 0)) p tt ∙ not_less x p

after_zeros : (v : Float) → T (clear v) → (n : ℕ) (l : List Float) → inserted v (replicate n none ++ l) ≡ replicate n none ++ inserted v l
after_zeros v p zero l = refl
after_zeros v p (suc n) l = less_later v none (replicate n none ++ l) (not_below v p) ∙ ap (λ (m : List Float). none ∷ m) (after_zeros v p n l)

head_clear : (l : List Float) → AllClear l → total_less (at l 0) none ≡ false
unfolding total_less is_nan
head_clear [] c = refl
head_clear (x ∷ l) c = not_below x c.0

zeros_rise : (n : ℕ) (l : List Float) → AllClear l → Rises l → Rises (replicate n none ++ l)
zeros_rise zero l c R i = R i
zeros_rise (suc n) l c R zero = head n
  where
    head : (n : ℕ) → total_less (at (replicate n none ++ l) 0) none ≡ false
    head zero = head_clear l c
    head (suc n) = irreflexive none
zeros_rise (suc n) l c R (suc i) = zeros_rise n l c R i

pub record Kept (g : List Float) (m : ℕ) (top : List Float) : Type 0 where
  pub low : m ≤ 81
  pub long : length top ≡ 8
  pub all : AllClear top
  pub same : top ≡ drop m (replicate 8 none ++ rising (at g) m)

clear_rising : (g : List Float) → AllClear g → (m : ℕ) → m ≤ length g → AllClear (rising (at g) m)
clear_rising g c zero h = tt
clear_rising g c (suc m) h = clear_inserted (at g m) (rising (at g) m) (clear_at g c m (omega arith)) (clear_rising g c m (omega arith))

pub keep_start : (g : List Float) → Kept g 0 (replicate 8 none)
unfolding of_bits
keep_start g = record { low = omega arith; long = refl; all = (tt, (tt, (tt, (tt, (tt, (tt, (tt, (tt, tt)))))))); same = sym (append-nil (replicate 8 none)) }

all_rise : (g : List Float) → AllClear g → (m : ℕ) → m ≤ length g → Rises (replicate 8 none ++ rising (at g) m)
all_rise g c m h = zeros_rise 8 (rising (at g) m) (clear_rising g c m h) (rising_rises (at g) m)

drop_rises : (l : List Float) → Rises l → (k : ℕ) → Rises (drop k l)
drop_rises l R zero = R
drop_rises [] R (suc k) = R
drop_rises (x ∷ l) R (suc k) = drop_rises l (λ (i : ℕ). R (suc i)) k

pub kept_rises : {g top : List Float} {m : ℕ} → length g ≡ 81 → AllClear g → Kept g m top → Rises top
kept_rises {g} {top} {m} long c k = subst Rises (sym k.same) (drop_rises (replicate 8 none ++ rising (at g) m) (all_rise g c m (omega (arith, long, k.low))) m)

pub keep_put : {g top top' : List Float} {m : ℕ} → length g ≡ 81 → AllClear g → Kept g m top → m < 81 → top' ≡ drop 1 (inserted (get_or g m nan) top) → Kept g (m + 1) top'
keep_put {g} {top} {top'} {m} long c k h e = record {
  low = omega arith;
  long = ap length e ∙ length-drop 1 (inserted v top) ∙ go (length (inserted v top)) (length_inserted v top ∙ ap suc k.long);
  all = subst AllClear (sym e) (clear_rest (inserted v top) (clear_inserted v top v_clear k.all));
  same = e ∙ ap (λ (l : List Float). drop 1 (inserted v l)) k.same ∙ sym (drop_inserted v all_so_far rises m)
      ∙ ap (drop (suc m)) (after_zeros v v_clear 8 (rising (at g) m)) ∙ sym (ap (λ (i : ℕ). drop i (replicate 8 none ++ rising (at g) i)) (add-one m));
}
  where
    v : Float
    v = get_or g m nan

    v_clear : T (clear (get_or g m nan))
    v_clear = clear_at g c m (omega (arith, long, h))

    all_so_far : List Float
    all_so_far = replicate 8 none ++ rising (at g) m

    rises : Rises (replicate 8 none ++ rising (at g) m)
    rises = all_rise g c m (omega (arith, long, h))

    go : (n : ℕ) → n ≡ suc 8 → n - 1 ≡ 8
    go n e = omega arith

pub keep_end : {g top : List Float} {m : ℕ} → Kept g m top → 81 ≤ m → top ≡ largest g
unfolding largest
keep_end {g} {top} {m} k h =
    k.same ∙ ap (λ (i : ℕ). drop i (replicate 8 none ++ rising (at g) i)) (go m k.low h) ∙ drop-append-add (replicate 8 none) (rising (at g) 81) 73
  where
    go : (m : ℕ) → m ≤ 81 → 81 ≤ m → m ≡ 81
    go m a b = omega arith
