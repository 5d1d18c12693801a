-- The kept windows laid band after band in one pass: each band has its own place for the next window. Assumes nothing.
use Rattle.std.proofs.Common.{◌≡◌, ℕ, zero, suc, ◌+◌, ◌-◌, ◌*◌, ◌<◌, ◌≤◌, Bool, true, false, cond, eqb, ltb, ◌⊎◌, List, [], ◌∷◌, ◌++◌, map, length, get_or, take, drop, set, ℤ, pos, sym, refl, ap, ◌∙◌, subst, inl, inr, arith, length-append, length-set, take-append-drop, get_or-set_other, get_or-set_same, drop-drop, drop-set-lt, take-add, ltb-false, ltb-true, eq-eqb, ne_eqb, eqb-true}
use borrow.Author.Tests.{eqb-false}
use lib.ListN.{length-map}
use lib.Seq.{drop-set-add, take-set-le}
use lib.Ieee.{Float}
use Rattle.laws.specs.Lists.{from, joined}
use Rattle.laws.proofs.Fill.{from_more, from_none, length_from}
use Rattle.window.specs.declared.WindowStats.{WindowStats}
use Rattle.measure.specs.Columns.{figure_in, figures_in}
use Rattle.band.specs.Bands.{rail, band_of, of_band, count_of, banded, kept_of}
use Rattle.band.specs.declared.Sample.{Sample}
use Rattle.sample.specs.Laid.{gate32, square32, laid_in}
use Rattle.sample.specs.Loops.{Layable}
use Rattle.std.proofs.lemmas.List.{map-append}
use Rattle.band.proofs.Counting.{kept_sum, kept_most, Counts, counts}
use Rattle.sample.proofs.Segments.{Segment, segment_start, segment_put, segment_keep, segment_end}

-- ---- the windows of a band, one window at a time

pub of_hit : (b : ℕ) (f : WindowStats) (fs : List WindowStats) → band_of f.sum ≡ b → of_band b (f ∷ fs) ≡ f ∷ of_band b fs
of_hit b f fs e = ap (λ (t : Bool). cond t (f ∷ of_band b fs) (of_band b fs)) (eq-eqb (band_of f.sum) b e)

pub of_miss : (b : ℕ) (f : WindowStats) (fs : List WindowStats) → (band_of f.sum ≡ b → ⊥) → of_band b (f ∷ fs) ≡ of_band b fs
of_miss b f fs n = ap (λ (t : Bool). cond t (f ∷ of_band b fs) (of_band b fs)) (ne_eqb (band_of f.sum) b n)

-- the windows from the k-th on
abbrev rest : ℕ → List ℤ → ℕ → List WindowStats
rest t l k = from (figure_in t l) k (t - k)

-- at first these are all
all : (t : ℕ) (l : List ℤ) → figures_in t l ≡ rest t l 0
unfolding figures_in
all t l = ap (λ (n : ℕ). from (figure_in t l) 0 n) (whole t)
  where
    whole : (n : ℕ) → n ≡ n - 0
    whole n = omega arith

-- ---- where a band starts

abbrev pub start_of : List WindowStats → ℕ → ℕ
start_of fs zero = 0
start_of fs (suc b) = start_of fs b + count_of b fs

start_next : (fs : List WindowStats) (b c : ℕ) → b < c → start_of fs b + count_of b fs ≤ start_of fs c
start_next fs b zero h = absurd (none b h)
  where
    none : (b : ℕ) → b < 0 → ⊥
    none b h = omega arith
start_next fs b (suc c) h = go (eqb b c) refl (start_next fs b c)
  where
    go : (t : Bool) → eqb b c ≡ t → (b < c → start_of fs b + count_of b fs ≤ start_of fs c) → start_of fs b + count_of b fs ≤ start_of fs c + count_of c fs
    go true e n = subst (λ (d : ℕ). start_of fs b + count_of b fs ≤ start_of fs d + count_of d fs) (eqb-true b c e) (omega arith)
    go false e n = omega (arith, n (less (eqb-false b c e)))
      where
        less : (b ≡ c → ⊥) → b < c
        less n = omega arith

start_kept : (fs : List WindowStats) → start_of fs rail ≡ kept_of fs
start_kept fs = omega (arith, kept_sum fs)

-- by the counts of a sample
pub starts : (s : Sample) (fs : List WindowStats) → Counts s fs → (b : ℕ) → b < rail → get_or (0 ∷ s.b0 ∷ (s.b0 + s.b1) ∷ (s.b0 + s.b1 + s.b2) ∷ (s.b0 + s.b1 + s.b2 + s.b3) ∷ []) b 0 ≡ start_of fs b
starts s fs n zero h = refl
starts s fs n (suc zero) h = omega (arith, n.c0)
starts s fs n (suc (suc zero)) h = omega (arith, n.c0, n.c1)
starts s fs n (suc (suc (suc zero))) h = omega (arith, n.c0, n.c1, n.c2)
starts s fs n (suc (suc (suc (suc b)))) h = absurd (none b h)
  where
    none : (b : ℕ) → suc (suc (suc (suc b))) < 4 → ⊥
    none b h = omega arith

pub kept_by_lem : (s : Sample) (fs : List WindowStats) → Counts s fs → s.b0 + s.b1 + s.b2 + s.b3 ≡ kept_of fs
kept_by_lem s fs n = omega (arith, n.c0, n.c1, n.c2, n.c3, kept_sum fs)

-- ---- one half of the slice, from place a on: band b is written up to next[b]

-- band b, written up to place m before the k-th window is looked at
abbrev Written : (WindowStats → Float) → ℕ → ℕ → List ℤ → List Float → ℕ → ℕ → ℕ → Type 0
Written φ a t l out k b m = Segment out (a + start_of (figures_in t l) b) m (map φ (of_band b (figures_in t l))) (map φ (of_band b (rest t l k)))

pub record Half (φ : WindowStats → Float) (a t : ℕ) (l : List ℤ) (out : List Float) (next : List ℕ) (k : ℕ) : Type 0 where
  pub each : (b : ℕ) → b < rail → Written φ a t l out k b (a + get_or next b 0)

module _ {φ : WindowStats → Float} {a t : ℕ} {l : List ℤ} {out : List Float} {next : List ℕ} {k : ℕ} (i : Half φ a t l out next k) where
  -- where band b stands
  within : (b : ℕ) → b < rail → (start_of (figures_in t l) b ≤ get_or next b 0) × (get_or next b 0 + count_of b (rest t l k) ≡ start_of (figures_in t l) b + count_of b (figures_in t l))
  within b h =
      let s = i.each b h in
      (omega (arith, s.low), omega (arith, s.ends, length-map (of_band b (rest t l k)) φ, length-map (of_band b (figures_in t l)) φ))

  -- the place for a window of band b is before the next band's start
  pub place_in : (b : ℕ) → b < rail → k < t → band_of (get_or l k (pos 0)) ≡ b → get_or next b 0 < start_of (figures_in t l) b + count_of b (figures_in t l)
  place_in b h g e =
      omega (arith, (within b h).1, ap length (ap (of_band b) (from_more (figure_in t l) k t g) ∙ of_hit b (figure_in t l k) (rest t l (k + 1)) e))

  pub place_kept : (b : ℕ) → b < rail → k < t → band_of (get_or l k (pos 0)) ≡ b → get_or next b 0 < kept_of (figures_in t l)
  place_kept b h g e = omega (arith, place_in b h g e, start_next (figures_in t l) b rail h, start_kept (figures_in t l))

  -- a store outside this half
  pub half_keep : (j : ℕ) (v : Float) → (j < a) ⊎ (a + kept_of (figures_in t l) ≤ j) → Half φ a t l (set out j v) next k
  half_keep j v w = record { each = λ b h. segment_keep j v (where_to b h w) (i.each b h) }
    where
      where_to : (b : ℕ) → b < rail → (j < a) ⊎ (a + kept_of (figures_in t l) ≤ j) → (j < a + start_of (figures_in t l) b) ⊎ (a + get_or next b 0 ≤ j)
      where_to b h (inl p) = inl (omega arith)
      where_to b h (inr p) = inr (omega (arith, (within b h).1, start_next (figures_in t l) b rail h, start_kept (figures_in t l)))

  -- a window of another band, or of none: what is left of band b is the same
  same_rest : (b : ℕ) → k < t → (band_of (get_or l k (pos 0)) ≡ b → ⊥) → map φ (of_band b (rest t l k)) ≡ map φ (of_band b (rest t l (k + 1)))
  same_rest b g n = ap (λ (m : List WindowStats). map φ (of_band b m)) (from_more (figure_in t l) k t g) ∙ ap (map φ) (of_miss b (figure_in t l k) (rest t l (k + 1)) n)

  pub half_miss : k < t → ((b : ℕ) → b < rail → band_of (get_or l k (pos 0)) ≡ b → ⊥) → Half φ a t l out next (k + 1)
  half_miss g n =
      record { each = λ b h. subst (λ (m : List Float). Segment out (a + start_of (figures_in t l) b) (a + get_or next b 0) (map φ (of_band b (figures_in t l))) m) (same_rest b g (n b h)) (i.each b h) }

  -- a window of band b: its place is stored, and the band's next place moves on
  pub half_hit : {v : Float} (b : ℕ) → b < rail → k < t → band_of (get_or l k (pos 0)) ≡ b → v ≡ φ (figure_in t l k)
      → rail ≤ length next → a + get_or next b 0 < length out → Half φ a t l (set out (a + get_or next b 0) v) (set next b (get_or next b 0 + 1)) (k + 1)
  half_hit {v} b h g e q four room = record { each = λ c w. go c w (eqb c b) refl }
    where
      over : (a n : ℕ) → a + n + 1 ≡ a + (n + 1)
      over a n = omega arith

      own : Written φ a t l (set out (a + get_or next b 0) v) (k + 1) b (a + get_or (set next b (get_or next b 0 + 1)) b 0)
      own =
          subst (λ (m : ℕ). Written φ a t l (set out (a + get_or next b 0) v) (k + 1) b m)
          (over a (get_or next b 0) ∙ ap (λ (m : ℕ). a + m) (sym (get_or-set_same next b (get_or next b 0 + 1) 0 (omega (arith, four)))))
          (segment_put room
          (subst (λ (m : List Float). Segment out (a + start_of (figures_in t l) b) (a + get_or next b 0) (map φ (of_band b (figures_in t l))) m)
          (ap (λ (m : List WindowStats). map φ (of_band b m)) (from_more (figure_in t l) k t g) ∙ ap (map φ) (of_hit b (figure_in t l k) (rest t l (k + 1)) e)
          ∙ ap (λ (x : Float). x ∷ map φ (of_band b (rest t l (k + 1)))) (sym q))
          (i.each b h)))

      -- the place lies outside every other band's
      apart : (c : ℕ) → c < rail → (c ≡ b → ⊥) → (a + get_or next b 0 < a + start_of (figures_in t l) c) ⊎ (a + get_or next c 0 ≤ a + get_or next b 0)
      apart c w n = side (ltb b c) refl
        where
          side : (x : Bool) → ltb b c ≡ x → (a + get_or next b 0 < a + start_of (figures_in t l) c) ⊎ (a + get_or next c 0 ≤ a + get_or next b 0)
          side true x = inl (omega (arith, place_in b h g e, start_next (figures_in t l) b c (ltb-true b c x)))
          side false x = inr (omega (arith, (within c w).1, (within b h).0, start_next (figures_in t l) c b (less (ltb-false b c x) n)))
            where
              less : c ≤ b → (c ≡ b → ⊥) → c < b
              less p n = omega arith

      other : (c : ℕ) → c < rail → (c ≡ b → ⊥) → Written φ a t l (set out (a + get_or next b 0) v) (k + 1) c (a + get_or (set next b (get_or next b 0 + 1)) c 0)
      other c w n =
          subst (λ (m : ℕ). Written φ a t l (set out (a + get_or next b 0) v) (k + 1) c m)
          (ap (λ (m : ℕ). a + m) (sym (get_or-set_other next b c (get_or next b 0 + 1) 0 n)))
          (segment_keep (a + get_or next b 0) v (apart c w n)
          (subst (λ (m : List Float). Segment out (a + start_of (figures_in t l) c) (a + get_or next c 0) (map φ (of_band c (figures_in t l))) m) (same_rest c g (λ x. n (sym x ∙ e))) (i.each c w)))

      go : (c : ℕ) → c < rail → (x : Bool) → eqb c b ≡ x → Written φ a t l (set out (a + get_or next b 0) v) (k + 1) c (a + get_or (set next b (get_or next b 0 + 1)) c 0)
      go c w true x =
          subst (λ (d : ℕ). Written φ a t l (set out (a + get_or next b 0) v) (k + 1) d (a + get_or (set next b (get_or next b 0 + 1)) d 0)) (sym (eqb-true c b x)) own
      go c w false x = other c w (eqb-false c b x)

  -- at the end the half holds the bands one after the other
  ended : t ≤ k → (b : ℕ) → b < rail → take (count_of b (figures_in t l)) (drop (a + start_of (figures_in t l) b) out) ≡ map φ (of_band b (figures_in t l))
  ended g b h =
      ap (λ (n : ℕ). take n (drop (a + start_of (figures_in t l) b) out)) (sym (length-map (of_band b (figures_in t l)) φ))
      ∙ segment_end (subst (λ (m : List Float). Segment out (a + start_of (figures_in t l) b) (a + get_or next b 0) (map φ (of_band b (figures_in t l))) m)
      (ap (λ (m : List WindowStats). map φ (of_band b m)) (from_none (figure_in t l) k t g)) (i.each b h))

  bands : t ≤ k → (b n : ℕ) → b + n ≡ rail
      → take (length (joined (λ c. of_band c (figures_in t l)) b n)) (drop (a + start_of (figures_in t l) b) out) ≡ map φ (joined (λ c. of_band c (figures_in t l)) b n)
  bands g b zero e = refl
  bands g b (suc n) e =
      let fs = figures_in t l in
      let later = joined (λ c. of_band c fs) (suc b) n in
      let from-b = drop (a + start_of fs b) out in
      ap (λ (m : ℕ). take m from-b) (length-append (of_band b fs) later)
      ∙ take-add (count_of b fs) (length later) from-b
      ∙ ap (λ (x : List Float). x ++ take (length later) (drop (count_of b fs) from-b)) (ended g b (omega arith))
      ∙ ap (λ (x : List Float). map φ (of_band b fs) ++ take (length later) x) (drop-drop (count_of b fs) (a + start_of fs b) out)
      ∙ ap (λ (m : ℕ). map φ (of_band b fs) ++ take (length later) (drop m out)) (over a (start_of fs b) (count_of b fs))
      ∙ ap (λ (x : List Float). map φ (of_band b fs) ++ x) (bands g (suc b) n (omega arith))
      ∙ sym (map-append φ (of_band b fs) later)
    where
      over : (a b c : ℕ) → a + b + c ≡ a + (b + c)
      over a b c = omega arith

  pub half_end : t ≤ k → take (kept_of (figures_in t l)) (drop a out) ≡ map φ (banded (figures_in t l))
  half_end g = ap (λ (m : ℕ). take (kept_of (figures_in t l)) (drop m out)) (none a) ∙ bands g 0 rail refl
    where
      none : (a : ℕ) → a ≡ a + 0
      none a = omega arith

pub half_start : (φ : WindowStats → Float) (a t : ℕ) (l : List ℤ) (out : List Float) (next : List ℕ)
    → ((b : ℕ) → b < rail → get_or next b 0 ≡ start_of (figures_in t l) b) → Half φ a t l out next 0
half_start φ a t l out next e =
    record {
      each = λ b h. subst (λ (m : ℕ). Written φ a t l out 0 b (a + m)) (sym (e b h))
          (subst (λ (m : List WindowStats). Segment out (a + start_of (figures_in t l) b) (a + start_of (figures_in t l) b) (map φ (of_band b (figures_in t l))) (map φ (of_band b m))) (all t l)
          (segment_start out (a + start_of (figures_in t l) b) (map φ (of_band b (figures_in t l)))));
    }

-- ---- both halves, with the spare place between them and what lies beyond

pub record Scattering (t : ℕ) (l : List ℤ) (old new : List Float) (next : List ℕ) (k : ℕ) : Type 0 where
  pub low : k ≤ t
  pub four : rail ≤ length next
  pub long : length new ≡ length old
  pub gates : Half gate32 0 t l new next k
  pub squares : Half square32 (kept_of (figures_in t l) + 1) t l new next k
  pub spare : take 1 (drop (kept_of (figures_in t l)) new) ≡ take 1 (drop (kept_of (figures_in t l)) old)
  pub beyond : drop (2 * kept_of (figures_in t l) + 1) new ≡ drop (2 * kept_of (figures_in t l) + 1) old

pub scatter_start : (t : ℕ) (l : List ℤ) (old : List Float) (next : List ℕ) → rail ≤ length next
    → ((b : ℕ) → b < rail → get_or next b 0 ≡ start_of (figures_in t l) b) → Scattering t l old old next 0
scatter_start t l old next f e =
    record { low = omega arith; four = f; long = refl; gates = half_start gate32 0 t l old next e; squares = half_start square32 (kept_of (figures_in t l) + 1) t l old next e; spare = refl; beyond = refl }

-- a store in the second half leaves the spare place alone
spare_kept : (m n : ℕ) (x : List Float) (u : Float) → take 1 (drop m (set x (m + 1 + n) u)) ≡ take 1 (drop m x)
spare_kept m n x u =
    ap (λ (j : ℕ). take 1 (drop m (set x j u))) (over m n)
    ∙ ap (λ (y : List Float). take 1 y) (drop-set-add m x (1 + n) u)
    ∙ take-set-le 1 (drop m x) (1 + n) u (omega arith)
  where
    over : (m n : ℕ) → m + 1 + n ≡ m + (1 + n)
    over m n = omega arith

-- a slice is its two halves, the place between them and what lies beyond
halves : (n : ℕ) (x : List Float) → x ≡ take n (drop 0 x) ++ (take 1 (drop n x) ++ (take n (drop (n + 1) x) ++ drop (2 * n + 1) x))
halves n x =
    sym (take-append-drop n x)
    ∙ ap (λ (y : List Float). take n x ++ y)
    (sym (take-append-drop 1 (drop n x))
    ∙ ap (λ (y : List Float). take 1 (drop n x) ++ y)
    (drop-drop 1 n x ∙ sym (take-append-drop n (drop (n + 1) x))
    ∙ ap (λ (y : List Float). take n (drop (n + 1) x) ++ y) (drop-drop n (n + 1) x ∙ ap (λ (m : ℕ). drop m x) (twice n))))
  where
    twice : (n : ℕ) → n + 1 + n ≡ 2 * n + 1
    twice n = omega arith

module _ {t : ℕ} {l : List ℤ} {old new : List Float} {next : List ℕ} {k : ℕ} (i : Scattering t l old new next k) (g : k < t) where
  pub scatter_miss : rail ≤ band_of (get_or l k (pos 0)) → Scattering t l old new next (k + 1)
  scatter_miss h =
      record { low = omega arith; four = i.four; long = i.long; gates = half_miss i.gates g none; squares = half_miss i.squares g none; spare = i.spare; beyond = i.beyond }
    where
      none : (b : ℕ) → b < rail → band_of (get_or l k (pos 0)) ≡ b → ⊥
      none b w e = omega arith

  pub scatter_hit : {v u : Float} (b : ℕ) → b < rail → band_of (get_or l k (pos 0)) ≡ b → 2 * kept_of (figures_in t l) + 1 ≤ length old
      → v ≡ gate32 (figure_in t l k) → u ≡ square32 (figure_in t l k)
      → Scattering t l old (set (set new (get_or next b 0) v) (kept_of (figures_in t l) + 1 + get_or next b 0) u) (set next b (get_or next b 0 + 1)) (k + 1)
  scatter_hit {v} {u} b h e room p q =
      record {
        low = omega arith;
        four = omega (arith, length-set next b (get_or next b 0 + 1), i.four);
        long = length-set (set new n v) (kept + 1 + n) u ∙ length-set new n v ∙ i.long;
        gates = half_keep
            (subst (λ (m : ℕ). Half gate32 0 t l (set new m v) (set next b (n + 1)) (k + 1)) (none n) (half_hit i.gates b h g e p i.four (omega (arith, i.long, place))))
            (kept + 1 + n) u (inr (omega arith));
        squares = half_hit (half_keep i.squares n v (inl (omega (arith, place)))) b h g e q i.four (omega (arith, length-set new n v, i.long, place));
        spare =
            spare_kept kept n (set new n v) u ∙ ap (λ (x : List Float). take 1 x) (drop-set-lt kept new n v place) ∙ i.spare;
        beyond =
            drop-set-lt (2 * kept + 1) (set new n v) (kept + 1 + n) u (omega (arith, place)) ∙ drop-set-lt (2 * kept + 1) new n v (omega (arith, place)) ∙ i.beyond;
      }
    where
      kept : ℕ
      kept = kept_of (figures_in t l)

      n : ℕ
      n = get_or next b 0

      place : get_or next b 0 < kept_of (figures_in t l)
      place = place_kept i.gates b h g e

      none : (n : ℕ) → 0 + n ≡ n
      none n = omega arith

pub scatter_end : {t : ℕ} {l : List ℤ} {old new : List Float} {next : List ℕ} {k : ℕ} → Scattering t l old new next k → t ≤ k → new ≡ laid_in (figures_in t l) old
unfolding laid_in
scatter_end {t} {l} {old} {new} {next} {k} i g =
    let fs = figures_in t l in
    let n = kept_of fs in
    halves n new
    ∙ ap (λ (x : List Float). x ++ (take 1 (drop n new) ++ (take n (drop (n + 1) new) ++ drop (2 * n + 1) new))) (half_end i.gates g)
    ∙ ap (λ (x : List Float). map gate32 (banded fs) ++ (x ++ (take n (drop (n + 1) new) ++ drop (2 * n + 1) new))) i.spare
    ∙ ap (λ (x : List Float). map gate32 (banded fs) ++ (take 1 (drop n old) ++ (x ++ drop (2 * n + 1) new))) (half_end i.squares g)
    ∙ ap (λ (x : List Float). map gate32 (banded fs) ++ (take 1 (drop n old) ++ (map square32 (banded fs) ++ x))) i.beyond

-- there is room for what is kept, the sum of a sample's counts
pub kept_room : (t : ℕ) (l : List ℤ) (s : Sample) (old : List Float) → Layable t l s old
    → (s.b0 + s.b1 + s.b2 + s.b3 ≡ kept_of (figures_in t l)) × (kept_of (figures_in t l) ≤ t) × (2 * kept_of (figures_in t l) + 2 ≤ length old)
unfolding figures_in
kept_room t l s old r =
    let fs = figures_in t l in
    (kept_by_lem s fs (counts s fs r.counted), omega (arith, kept_most fs, length_from (figure_in t l) 0 t), omega (arith, r.room, kept_most fs, length_from (figure_in t l) 0 t))
