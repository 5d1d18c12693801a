-- Columns of equal length in one slice: a store changes one column at one place. Assumes nothing.
use mathlib.Core.Path.{◌≡◌, refl, sym, ap, ◌∙◌, subst}
use mathlib.Core.List.{List, ◌++◌, append_assoc, map}
use Prim.Native.Nat.{ℕ, zero, suc, ◌+◌, ◌-◌, ◌*◌, ◌≤◌, ◌<◌}
use native.Mathlib.Nat.{mul-le-mul_right}
use native.Mathlib.Omega.{arith}
use lib.Dec.{lit<}
use lib.ListN.{length, get_or, take, drop, set, length-append, length-map, get_or-append, get_or-map, length-set, length-take, length-drop, take-append-drop}
use lib.Seq.{get_or-append-add, take-set-lt, take-set-le, drop-set-lt, drop-set-add, drop-drop}
use lib.IntN.{ℤ, pos}
use Rattle.laws.specs.Lists.{joined}
use Rattle.laws.proofs.Fill.{from_get}
use Rattle.measure.proofs.Rows.{from_same}
use Rattle.window.specs.declared.WindowStats.{WindowStats}
use Rattle.measure.specs.Columns.{column_count, field, columns, columns_in, figure_in, figures_in}
use Rattle.measure.specs.Loops.{column}

-- f stands at place i of each column
pub record Stored (t i : ℕ) (f : WindowStats) (old new : List ℤ) : Type 0 where
  pub each : (c : ℕ) → c < column_count → column t c new ≡ set (column t c old) i (field c f)
  pub beyond : drop (column_count * t) new ≡ drop (column_count * t) old
  pub long : length new ≡ length old

-- ---- a store at place i of column d

module _ (t c : ℕ) (l : List ℤ) (i : ℕ) (v : ℤ) (h : i < t) where
  column_same : column t c (set l (c * t + i) v) ≡ set (column t c l) i v
  column_same = ap (λ (m : List ℤ). take t m) (drop-set-add (c * t) l i v) ∙ take-set-lt t (drop (c * t) l) i v h

  column_before : (d : ℕ) → d < c → column t c (set l (d * t + i) v) ≡ column t c l
  column_before d g = ap (λ (m : List ℤ). take t m) (drop-set-lt (c * t) l (d * t + i) v (omega (arith, mul-le-mul_right t g)))

  column_after : (d : ℕ) → c < d → column t c (set l (d * t + i) v) ≡ column t c l
  column_after d g =
      ap (λ (n : ℕ). take t (drop (c * t) (set l n v))) (past (mul-le-mul_right t g))
      ∙ ap (λ (m : List ℤ). take t m) (drop-set-add (c * t) l (d * t + i - c * t) v)
      ∙ take-set-le t (drop (c * t) l) (d * t + i - c * t) v (omega (arith, mul-le-mul_right t g))
    where
      past : suc c * t ≤ d * t → d * t + i ≡ c * t + (d * t + i - c * t)
      past g = omega arith

-- what lies beyond the columns is not touched
beyond_set : (t d : ℕ) (l : List ℤ) (i : ℕ) (v : ℤ) → i < t → d < column_count → drop (column_count * t) (set l (d * t + i) v) ≡ drop (column_count * t) l
beyond_set t d l i v h g = drop-set-lt (column_count * t) l (d * t + i) v (omega (arith, mul-le-mul_right t g))

-- the stores of one window's figures
module _ (t i : ℕ) (l : List ℤ) (f : WindowStats) (h : i < t) where
  abbrev one : List ℤ
  one = set l (0 * t + i) f.sum

  abbrev two : List ℤ
  two = set one (1 * t + i) f.gate

  abbrev three : List ℤ
  three = set two (2 * t + i) f.op

  each : (c : ℕ) → c < column_count → column t c three ≡ set (column t c l) i (field c f)
  each zero g = column_after t 0 two i f.op h 2 (lit< tt) ∙ column_after t 0 one i f.gate h 1 (lit< tt) ∙ column_same t 0 l i f.sum h
  each (suc zero) g =
      column_after t 1 two i f.op h 2 (lit< tt) ∙ column_same t 1 one i f.gate h
      ∙ ap (λ (m : List ℤ). set m i f.gate) (column_before t 1 l i f.sum h 0 (lit< tt))
  each (suc (suc zero)) g =
      column_same t 2 two i f.op h
      ∙ ap (λ (m : List ℤ). set m i f.op) (column_before t 2 one i f.gate h 1 (lit< tt) ∙ column_before t 2 l i f.sum h 0 (lit< tt))
  each (suc (suc (suc c))) g = absurd (none c g)
    where
      none : (c : ℕ) → suc (suc (suc c)) < 3 → ⊥
      none c g = omega arith

  all_three : Stored t i f l three
  all_three = record {
    each = each;
    beyond = beyond_set t 2 two i f.op h (lit< tt) ∙ beyond_set t 1 one i f.gate h (lit< tt) ∙ beyond_set t 0 l i f.sum h (lit< tt);
    long = length-set two (2 * t + i) f.op ∙ length-set one (1 * t + i) f.gate ∙ length-set l (0 * t + i) f.sum;
  }

  -- as the code writes them
  pub stored : {a b d : ℤ} → a ≡ f.sum → b ≡ f.gate → d ≡ f.op → Stored t i f l (set (set (set l i a) (t + i) b) (2 * t + i) d)
  stored {a} {b} {d} p q r = subst (λ (m : List ℤ). Stored t i f l m) (sym same) all_three
    where
      zeroth : i ≡ 0 * t + i
      zeroth = omega arith

      first : t + i ≡ 1 * t + i
      first = omega arith

      same : set (set (set l i a) (t + i) b) (2 * t + i) d ≡ three
      same =
          ap (λ (z : ℤ). set (set (set l i a) (t + i) b) (2 * t + i) z) r
          ∙ ap (λ (z : ℤ). set (set (set l i a) (t + i) z) (2 * t + i) f.op) q
          ∙ ap (λ (z : ℤ). set (set (set l i z) (t + i) f.gate) (2 * t + i) f.op) p
          ∙ ap (λ (n : ℕ). set (set (set l i f.sum) n f.gate) (2 * t + i) f.op) first
          ∙ ap (λ (n : ℕ). set (set (set l n f.sum) (1 * t + i) f.gate) (2 * t + i) f.op) zeroth

-- ---- a slice is its columns and what lies beyond

pub column_long : (t c : ℕ) (l : List ℤ) → c < column_count → column_count * t ≤ length l → length (column t c l) ≡ t
column_long t c l g h = omega (arith, length-take t (drop (c * t) l), length-drop (c * t) l, mul-le-mul_right t g)

from_column : (t k n : ℕ) (l : List ℤ) → joined (λ c. column t c l) k n ++ drop ((k + n) * t) l ≡ drop (k * t) l
from_column t k zero l = ap (λ (m : ℕ). drop (m * t) l) (none k)
  where
    none : (k : ℕ) → k + zero ≡ k
    none k = omega arith
from_column t k (suc n) l =
    append_assoc (column t k l) (joined (λ c. column t c l) (suc k) n) (drop ((k + suc n) * t) l)
    ∙ ap (λ (m : ℕ). column t k l ++ (joined (λ c. column t c l) (suc k) n ++ drop (m * t) l)) (over k n)
    ∙ ap (λ (m : List ℤ). column t k l ++ m) (from_column t (suc k) n l)
    ∙ ap (λ (m : ℕ). column t k l ++ drop m l) (next k t)
    ∙ ap (λ (m : List ℤ). column t k l ++ m) (sym (drop-drop t (k * t) l))
    ∙ take-append-drop t (drop (k * t) l)
  where
    over : (k n : ℕ) → k + suc n ≡ suc k + n
    over k n = omega arith

    next : (k t : ℕ) → suc k * t ≡ k * t + t
    next k t = omega arith

pub whole : (t : ℕ) (l : List ℤ) → joined (λ c. column t c l) 0 column_count ++ drop (column_count * t) l ≡ l
whole t l = from_column t 0 column_count l ∙ ap (λ (n : ℕ). drop n l) (none t)
  where
    none : (t : ℕ) → 0 * t ≡ 0
    none t = omega arith

-- ---- figures laid in columns are read back

-- element k of row c, the rows being t long
joined_at : (rows : ℕ → List ℤ) (t : ℕ) → ((i : ℕ) → length (rows i) ≡ t) → (j n c k : ℕ) → c < n → k < t → get_or (joined rows j n) (c * t + k) (pos 0) ≡ get_or (rows (j + c)) k (pos 0)
joined_at rows t e j zero c k h g = absurd (none c h)
  where
    none : (c : ℕ) → c < 0 → ⊥
    none c h = omega arith
joined_at rows t e j (suc n) zero k h g =
    ap (λ (i : ℕ). get_or (rows j ++ joined rows (suc j) n) i (pos 0)) (first t k)
    ∙ get_or-append (rows j) (joined rows (suc j) n) (pos 0) k (omega (arith, e j))
    ∙ ap (λ (i : ℕ). get_or (rows i) k (pos 0)) (same j)
  where
    first : (t k : ℕ) → 0 * t + k ≡ k
    first t k = omega arith

    same : (j : ℕ) → j ≡ j + 0
    same j = omega arith
joined_at rows t e j (suc n) (suc c) k h g =
    ap (λ (i : ℕ). get_or (rows j ++ joined rows (suc j) n) i (pos 0)) (past (length (rows j)) (e j))
    ∙ get_or-append-add (rows j) (joined rows (suc j) n) (c * t + k) (pos 0)
    ∙ joined_at rows t e (suc j) n c k (omega arith) g
    ∙ ap (λ (i : ℕ). get_or (rows i) k (pos 0)) (over j c)
  where
    past : (m : ℕ) → m ≡ t → suc c * t + k ≡ m + (c * t + k)
    past m p = omega arith

    over : (j c : ℕ) → suc j + c ≡ j + suc c
    over j c = omega arith

joined_long : (rows : ℕ → List ℤ) (t : ℕ) → ((i : ℕ) → length (rows i) ≡ t) → (j n : ℕ) → length (joined rows j n) ≡ n * t
joined_long rows t e j zero = omega arith
joined_long rows t e j (suc n) = omega (arith, length-append (rows j) (joined rows (suc j) n), e j, joined_long rows t e (suc j) n)

pub columns_count : (fs : List WindowStats) → length (columns fs) ≡ column_count * length fs
columns_count fs = joined_long (λ c. map (field c) fs) (length fs) (λ c. length-map fs (field c)) 0 column_count

-- no figures
none : WindowStats
none = record { sum = pos 0; gate = pos 0; op = pos 0 }

made : (f : WindowStats) {a b d : ℤ} → a ≡ f.sum → b ≡ f.gate → d ≡ f.op → record { sum = a; gate = b; op = d } ≡ f
made f {a} {b} {d} p q r =
    ap (λ (z : ℤ). record { sum = z; gate = b; op = d }) p ∙ ap (λ (z : ℤ). record { sum = f.sum; gate = z; op = d }) q
    ∙ ap (λ (z : ℤ). record { sum = f.sum; gate = f.gate; op = z }) r

module _ (fs : List WindowStats) (old : List ℤ) where
  field_at : (c : ℕ) → c < column_count → field c none ≡ pos 0 → (k : ℕ) → k < length fs → get_or (columns_in fs old) (c * length fs + k) (pos 0) ≡ field c (get_or fs k none)
  unfolding columns_in
  field_at c h z k g =
      let t = length fs in
      let rows : ℕ → List ℤ = λ c. map (field c) fs in
      let long : (i : ℕ) → length (rows i) ≡ t = λ i. length-map fs (field i) in
      get_or-append (columns fs) (drop (column_count * t) old) (pos 0) (c * t + k) (omega (arith, joined_long rows t long 0 column_count, mul-le-mul_right t h))
      ∙ joined_at rows t long 0 column_count c k h g
      ∙ ap (λ (i : ℕ). get_or (rows i) k (pos 0)) (zeroth c)
      ∙ ap (λ (d : ℤ). get_or (rows c) k d) (sym z)
      ∙ get_or-map (field c) fs k none
    where
      zeroth : (c : ℕ) → 0 + c ≡ c
      zeroth c = omega arith

  one_back : (k : ℕ) → k < length fs → figure_in (length fs) (columns_in fs old) k ≡ get_or fs k none
  unfolding none
  one_back k g =
      made (get_or fs k none)
      (ap (λ (i : ℕ). get_or (columns_in fs old) i (pos 0)) (first (length fs) k) ∙ field_at 0 (lit< tt) refl k g)
      (ap (λ (i : ℕ). get_or (columns_in fs old) i (pos 0)) (second (length fs) k) ∙ field_at 1 (lit< tt) refl k g)
      (field_at 2 (lit< tt) refl k g)
    where
      first : (t k : ℕ) → k ≡ 0 * t + k
      first t k = omega arith

      second : (t k : ℕ) → t + k ≡ 1 * t + k
      second t k = omega arith

  figures_back : figures_in (length fs) (columns_in fs old) ≡ fs
  unfolding figures_in
  figures_back = from_same (figure_in (length fs) (columns_in fs old)) (λ k. get_or fs k none) 0 (length fs) (λ k a b. one_back k (omega arith)) ∙ from_get none fs

  pub read_back : {t : ℕ} {l : List ℤ} → t ≡ length fs → l ≡ columns_in fs old → figures_in t l ≡ fs
  read_back {t} {l} e f = ap (λ (n : ℕ). figures_in n l) e ∙ ap (figures_in (length fs)) f ∙ figures_back
