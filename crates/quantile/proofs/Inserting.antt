-- What the loops of `insert`, `place` and `quantile` keep. Assumes nothing.
use mathlib.Core.Path.{◌≡◌, refl, sym, ap, ◌∙◌, subst}
use mathlib.Core.Bool.{true, false}
use mathlib.Core.List.{List}
use mathlib.Core.Logic.{inl, inr}
use Prim.Native.Nat.{ℕ, zero, suc, ◌+◌, ◌-◌, ◌*◌, ◌/◌, ◌≤◌, ◌<◌, min}
use native.Mathlib.Omega.{arith}
use native.Mathlib.Numerals.{add-one}
use native.Mathlib.Nat.{le_antisymm, le-div_iff_mul-le, div-lt_iff_lt-mul, lt_of_mul-lt-mul_right}
use lib.ListN.{length, get_or, set, take, length-set, length-take, replicate, length-replicate, get_or-replicate, get_or-eq_default}
use lib.Seq.{get_or-set_same, get_or-set_other, get_or-take, length-take-le, ext_get_or}
use Rattle.std.proofs.Common.{map}
use Rattle.std.proofs.lemmas.List.{get_or-map, map-id}
use Rattle.std.proofs.lemmas.Grind.{div_ceil_times}
use Rattle.std.specs.Int.{div_ceil}
use lib.Ieee.{Float, nan, binary32, binary64, of_bits, is_nan}
use Rattle.ieee.specs.Order.{total_less}
use Rattle.laws.proofs.Choice.{chosen, passed}
use Rattle.quantile.specs.Rising.{at, inserted, rising, Rises}
use Rattle.quantile.specs.Quantile.{stride, quiet}
use Rattle.quantile.proofs.Orders.{upto}
use Rattle.ieee.proofs.Naturals.{trichotomy}
use Rattle.quantile.proofs.Rises.{first, slot, slot_is, rises_upto, rising_rises, length_inserted}

one_more : (j : ℕ) → 0 < j → suc (j - 1) ≡ j
one_more j h = omega arith

-- ---- insert: what stands from place j of N on is moved up by one, to make room for v

pub record Sliding (N : ℕ) (old : List Float) (v : Float) (j : ℕ) (new : List Float) : Type 0 where
  pub low : j < N
  pub long : length new ≡ N
  pub above : total_less v (at old j) ≡ true
  pub done : (i : ℕ) → j < i → i < N → at new i ≡ slot v old i
  pub todo : (i : ℕ) → i ≤ j → at new i ≡ at old i

-- a number at or below v stays where it is
stays : (v : Float) (l : List Float) → Rises l → (j : ℕ) → total_less v (at l j) ≡ false → (i : ℕ) → i ≤ j → at l i ≡ slot v l i
stays v l R j h i g = go i g
  where
    over : (i : ℕ) → i ≤ j → total_less v (at l i) ≡ false
    over i g = upto (at l i) (at l j) v (rises_upto l R j i g) h

    go : (i : ℕ) → i ≤ j → at l i ≡ slot v l i
    go zero g = passed (total_less v (at l 0)) v (at l 0) (over 0 g)
    go (suc i) g =
        passed (total_less v (at l (suc i))) v (at l (suc i)) (over (suc i) g)
        ∙ passed (total_less v (at l i)) (at l i) (first v (at l (suc i))) (over i (omega arith))

-- N numbers that are those of `inserted` place by place are the first N of it
first_of : (N : ℕ) (v : Float) (old new : List Float) → Rises old → length old ≡ N → length new ≡ N → ((i : ℕ) → i < N → at new i ≡ slot v old i)
    → new ≡ take N (inserted v old)
first_of N v old new R e g h =
    ext_get_or nan new (take N (inserted v old)) (g ∙ sym long)
    (λ i k. h i (omega arith) ∙ sym (slot_is v old R i) ∙ sym (get_or-take N (inserted v old) i nan (omega arith)))
  where
    long : length (take N (inserted v old)) ≡ N
    long = length-take N (inserted v old) ∙ go (length (inserted v old)) (length_inserted v old)
      where
        go : (k : ℕ) → k ≡ suc (length old) → min N k ≡ N
        go k q = omega arith

-- a list by the floats that its elements are
pub at_map : {A : Type 0} (f : A → Float) (l : List A) (i : ℕ) (d : A) → i < length l → at (map f l) i ≡ f (get_or l i d)
at_map f l i d h = get_or-map f l i d nan h

module _ (N : ℕ) (old : List Float) (v : Float) (R : Rises old) (g : length old ≡ N) where
  pub slide_start : (j : ℕ) → suc j ≡ N → total_less v (at old j) ≡ true → Sliding N old v j old
  slide_start j e h =
      record { low = omega arith; long = g; above = h; done = λ i p q. absurd (past j i e p q); todo = λ i p. refl }
    where
      past : (j i : ℕ) → suc j ≡ N → j < i → i < N → ⊥
      past j i e p q = omega arith

  pub slide_none : (j : ℕ) → suc j ≡ N → total_less v (at old j) ≡ false → old ≡ take N (inserted v old)
  slide_none j e h = first_of N v old old R g g (λ i k. stays v old R j h i (omega arith))

  module _ {j : ℕ} {new : List Float} (s : Sliding N old v j new) where
    -- place j takes x
    put_same : (x : Float) → at (set new j x) j ≡ x
    put_same x = get_or-set_same new j x nan (omega (arith, s.low, s.long))

    put_other : (x : Float) (i : ℕ) → (i ≡ j → ⊥) → at (set new j x) i ≡ at new i
    put_other x i h = get_or-set_other new j i x nan h

    -- place j takes v
    placed : v ≡ slot v old j → ((i : ℕ) → i < j → at old i ≡ slot v old i) → set new j v ≡ take N (inserted v old)
    placed here below =
        first_of N v old (set new j v) R g (length-set new j v ∙ s.long)
        (λ i k. elim (trichotomy i j) [
          | inl q ↦ put_other v i (omega arith) ∙ s.todo i (omega arith) ∙ below i q
          | inr (inl q) ↦ subst (λ (y : ℕ). at (set new j v) y ≡ slot v old y) (sym q) (put_same v ∙ here)
          | inr (inr q) ↦ put_other v i (omega arith) ∙ s.done i q k
        ])

    -- v itself goes to place j, which it is the first to be above
    lowest : v ≡ first v (at old j)
    lowest = chosen (total_less v (at old j)) v (at old j) s.above

    -- the number before place j moves up to it
    pub slide_more : 0 < j → {x : Float} → x ≡ at new (j - 1) → total_less v x ≡ true → Sliding N old v (j - 1) (set new j x)
    slide_more h {x} e t =
        record {
          low = omega (arith, s.low);
          long = length-set new j x ∙ s.long;
          above = high;
          done = λ i p q. elim (trichotomy i j) [
            | inl l ↦ absurd (between i l p)
            | inr (inl z) ↦ subst (λ (y : ℕ). at (set new j x) y ≡ slot v old y) (sym z) (put_same x ∙ moved)
            | inr (inr l) ↦ put_other x i (omega arith) ∙ s.done i l q
          ];
          todo = λ i p. put_other x i (omega arith) ∙ s.todo i (omega arith);
        }
      where
        there : x ≡ at old (j - 1)
        there = e ∙ s.todo (j - 1) (omega arith)

        high : total_less v (at old (j - 1)) ≡ true
        high = subst (λ (y : Float). total_less v y ≡ true) there t

        between : (i : ℕ) → i < j → j - 1 < i → ⊥
        between i l p = omega arith

        moved : x ≡ slot v old j
        moved =
            there ∙ chosen (total_less v (at old (j - 1))) (at old (j - 1)) (first v (at old (suc (j - 1)))) high
            ∙ ap (slot v old) (one_more j h)

    pub slide_stop : 0 < j → {x : Float} → x ≡ at new (j - 1) → total_less v x ≡ false → set new j v ≡ take N (inserted v old)
    slide_stop h {x} e t =
        placed
        (lowest ∙ ap (λ (k : ℕ). first v (at old k)) (sym (one_more j h)) ∙ passed (total_less v (at old (j - 1))) (at old (j - 1)) (first v (at old (suc (j - 1)))) low
        ∙ ap (slot v old) (one_more j h))
        (λ i k. stays v old R (j - 1) low i (omega arith))
      where
        low : total_less v (at old (j - 1)) ≡ false
        low = subst (λ (y : Float). total_less v y ≡ false) (e ∙ s.todo (j - 1) (omega arith)) t

    pub slide_end : j ≤ 0 → set new 0 v ≡ take N (inserted v old)
    slide_end h =
        ap (λ (k : ℕ). set new k v) zero_is
        ∙ placed (lowest ∙ ap (λ (k : ℕ). first v (at old k)) (sym zero_is) ∙ ap (slot v old) zero_is) (λ i k. absurd (none i k))
      where
        zero_is : 0 ≡ j
        zero_is = omega arith

        none : (i : ℕ) → i < j → ⊥
        none i k = omega arith

-- ---- equal numbers have equal order

pub rising_same : (f g : ℕ → Float) (n : ℕ) → ((i : ℕ) → i < n → f i ≡ g i) → rising f n ≡ rising g n
rising_same f g zero h = refl
rising_same f g (suc n) h =
    ap (λ (x : Float). inserted x (rising f n)) (h n (omega arith)) ∙ ap (inserted (g n)) (rising_same f g n (λ i l. h i (omega arith)))

-- ---- place: the N least of the first k, and no number past them

pub record Held (N : ℕ) (f : ℕ → Float) (n k : ℕ) (least : List Float) : Type 0 where
  pub low : k ≤ n
  pub long : length least ≡ N
  pub same : (i : ℕ) → i < N → at least i ≡ at (rising f k) i

-- f32::NAN and f64::NAN
pub no_number : (of_bits binary32 0x7FC0_0000 ≡ nan) × (of_bits binary64 0x7FF8_0000_0000_0000 ≡ nan)
unfolding of_bits
no_number = (refl, refl)

nothing_below : (x y : Float) → x ≡ nan → total_less x y ≡ false
unfolding total_less is_nan
nothing_below x y e = ap (λ (z : Float). total_less z y) e

pub held_start : (N : ℕ) (f : ℕ → Float) (n : ℕ) (x : Float) → x ≡ nan → Held N f n 0 (replicate N x)
held_start N f n x e = record { low = omega arith; long = length-replicate N x; same = λ i h. get_or-replicate N i x nan h ∙ e }

module _ {N : ℕ} {f : ℕ → Float} {n k : ℕ} {least : List Float} (h : Held N f n k least) where
  pub held_rises : Rises least
  held_rises i = elim (trichotomy (suc i) N) [
    | inl l ↦ rw (h.same (suc i) l, h.same i (omega arith)) (rising_rises f k i)
    | inr (inl e) ↦ past (omega arith)
    | inr (inr l) ↦ past (omega arith)
  ]
    where
      past : N ≤ suc i → total_less (at least (suc i)) (at least i) ≡ false
      past g = nothing_below (at least (suc i)) (at least i) (get_or-eq_default least nan (omega (arith, h.long)))

  slot_same : (v : Float) (i : ℕ) → i < N → slot v least i ≡ slot v (rising f k) i
  slot_same v zero l = ap (first v) (h.same 0 l)
  slot_same v (suc i) l = rw (h.same i (omega arith), h.same (suc i) l)

  pub held_more : k < n → {v : Float} {least' : List Float} → v ≡ f k → least' ≡ take N (inserted v least) → Held N f n (k + 1) least'
  held_more l {v} {least'} e q =
      record {
        low = omega arith;
        long = ap length q ∙ length-take N (inserted v least) ∙ full (length (inserted v least)) (length_inserted v least ∙ ap suc h.long);
        same = λ i g. ap (λ (z : List Float). at z i) q ∙ get_or-take N (inserted v least) i nan g ∙ slot_is v least held_rises i ∙ slot_same v i g
            ∙ sym (slot_is v (rising f k) (rising_rises f k) i) ∙ ap (λ (z : Float). at (inserted z (rising f k)) i) e ∙ sym (ap (λ (z : ℕ). at (rising f z) i) (add-one k));
      }
    where
      full : (a : ℕ) → a ≡ suc N → min N a ≡ N
      full a q = omega arith

-- what `insert` says of f32 and of f64, which are floats themselves
pub insert_asks : (least : List Float) → Rises least → Rises (map (λ (x : Float). x) least)
insert_asks least R = subst Rises (sym (map-id least)) R

pub insert_gives : (N : ℕ) (v : Float) (old : List Float) {new : List Float} → map (λ (x : Float). x) new ≡ take N (inserted v (map (λ (x : Float). x) old)) → new ≡ take N (inserted v old)
insert_gives N v old {new} e = sym (map-id new) ∙ e ∙ ap (λ (l : List Float). take N (inserted v l)) (map-id old)

-- ---- quantile: of len values those at multiples of s are taken

-- as many as the rule takes
counted : (len s n : ℕ) → 0 < s → len ≤ n * s → n * s < len + s → n ≡ (len + (s - 1)) / s
counted len s n h p q =
    le_antisymm ((le-div_iff_mul-le {k = s} {x = n} {y = len + (s - 1)} h).1 (omega arith))
    (one_less ((len + (s - 1)) / s) ((div-lt_iff_lt-mul {k = s} {x = len + (s - 1)} {y = n + 1} h).1 (omega arith)))
  where
    one_less : (x : ℕ) → x < n + 1 → x ≤ n
    one_less x h = omega arith

module _ (len : ℕ) {s : ℕ} (e : s ≡ stride len) where
  pub stride_pos : 0 < s
  stride_pos = omega arith

  module _ {n : ℕ} (d : n ≡ div_ceil len s) where
    whole : (len ≤ n * s) × (n * s < len + s)
    whole = subst (λ (m : ℕ). (len ≤ m * s) × (m * s < len + s)) (sym d) (div_ceil_times len s stride_pos)

    pub taken_is : n ≡ (len + (s - 1)) / s
    taken_is = counted len s n stride_pos whole.0 whole.1

    -- at most 255
    pub taken_few : n ≤ 255
    taken_few = omega (arith, lt_of_mul-lt-mul_right s {m = n} {n = 256} (omega (arith, whole.1)))

-- the first k of them stand in buf
pub record Taken (g : List Float) (s : ℕ) (buf : List Float) (k : ℕ) : Type 0 where
  pub long : length buf ≡ 255
  pub same : (i : ℕ) → i < k → at buf i ≡ at g (i * s)

pub taken_end : {g : List Float} {s : ℕ} {buf : List Float} {n k : ℕ} → Taken g s buf k → n ≤ k → s ≡ stride (length g) → n ≡ div_ceil (length g) s
    → {r : Float} → r ≡ at (rising (at (take n buf)) (length (take n buf))) (n / 16) → r ≡ quiet g
unfolding quiet
taken_end {g} {s} {buf} {n} {k} t m e d {r} q =
    q ∙ ap (λ (x : ℕ). at (rising (at (take n buf)) x) (n / 16)) (length-take-le n buf (omega (arith, t.long, taken_few (length g) e d)))
    ∙ ap (λ (l : List Float). at l (n / 16)) (rising_same (at (take n buf)) (λ (j : ℕ). at g (j * s)) n (λ i h. get_or-take n buf i nan h ∙ t.same i (omega arith)))
    ∙ ap (λ (x : ℕ). at (rising (λ (j : ℕ). at g (j * s)) x) (x / 16)) (taken_is (length g) e d)
    ∙ ap (λ (x : ℕ). at (rising (λ (j : ℕ). at g (j * x)) ((length g + (x - 1)) / x)) ((length g + (x - 1)) / x / 16)) e
