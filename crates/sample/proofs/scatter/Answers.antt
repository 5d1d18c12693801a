use Rattle.std.proofs.Common.{rules, ◌≡◌, ℕ, ◌+◌, ◌≤◌, ◌<◌, List, [], ◌∷◌, length, Option, Some, None, get_or, set, ℤ, pos, sym, refl, ap, ◌∙◌, subst, arith}
use lib.Ieee.{Float}
use Rattle.laws.proofs.Machine.{held, held_of}
use Rattle.measure.specs.Columns.{figure_in, figures_in}
use Rattle.band.specs.Bands.{rail, band_of, kept_band, kept_of}
use Rattle.band.specs.declared.Sample.{Sample}
use Rattle.sample.specs.Loops.{Layable}
use Rattle.sample.specs.Laid.{gate32, square32}
use Rattle.band.proofs.Counting.{counts, kept_some, kept_none}
use Rattle.sample.proofs.Scattering.{Scattering, starts, kept_room, place_kept, scatter_start, scatter_hit, scatter_miss, scatter_end}
use Rattle.sample.proofs.scatter.Goals.{in-Some, in_default}
use Rattle.sample.proofs.scatter.Goals as goal

moved : {t k : ℕ} {l : List ℤ} {old a b : List Float} {m n : List ℕ} → a ≡ b → m ≡ n → Scattering t l old b n k → Scattering t l old a m k
moved {t} {k} {l} {old} {a} {b} {m} {n} p q i =
    subst (λ (x : List Float). Scattering t l old x m k) (sym p) (subst (λ (x : List ℕ). Scattering t l old b x k) (sym q) i)

-- what `band` says of window k, by its sum
seen : (l : List ℤ) (k b : ℕ) {o : Option ℕ} → o ≡ kept_band (band_of (held (get_or l k (pos 0)))) → held (get_or l k (pos 0)) ≡ get_or l k (pos 0)
    → o ≡ Some b → (band_of (get_or l k (pos 0)) ≡ b) × (b < rail)
seen l k b e f g = kept_some (band_of (get_or l k (pos 0))) b (ap (λ (z : ℤ). kept_band (band_of z)) (sym f) ∙ sym e ∙ g)

unseen : (l : List ℤ) (k : ℕ) {o : Option ℕ} → o ≡ kept_band (band_of (held (get_or l k (pos 0)))) → held (get_or l k (pos 0)) ≡ get_or l k (pos 0)
    → o ≡ None → rail ≤ band_of (get_or l k (pos 0))
unseen l k e f g = kept_none (band_of (get_or l k (pos 0))) (ap (λ (z : ℤ). kept_band (band_of z)) (sym f) ∙ sym e ∙ g)

-- what `starts` answers: its last place is how many windows are kept
kept : {t : ℕ} {l : List ℤ} {s : Sample} {old : List Float} {n : List ℕ} → Layable t l s old
    → n ≡ 0 ∷ s.b0 ∷ (s.b0 + s.b1) ∷ (s.b0 + s.b1 + s.b2) ∷ (s.b0 + s.b1 + s.b2 + s.b3) ∷ [] → get_or n 4 0 ≡ kept_of (figures_in t l)
kept {t} {l} {s} {old} r e = ap (λ (n : List ℕ). get_or n 4 0) e ∙ (kept_room t l s old r).0

pub starts-next-requires : goal.starts-next-requires
starts-next-requires c = let a = c.args in omega (arith, kept_room a.t a.ints.now a.s a.floats.now c.requires)

pub loop-k-init : goal.loop-k-init
loop-k-init c =
    let a = c.args in
    let fs = figures_in a.t a.ints.now in
    let e = c.starts-next.ensures in
    scatter_start a.t a.ints.now a.floats.now c.starts-next.result (omega (arith, ap length e))
    (λ b h. ap (λ (n : List ℕ). get_or n b 0) e ∙ starts a.s fs (counts a.s fs c.requires.counted) b h)

pub overflow_add-kept : goal.overflow_add-kept
overflow_add-kept c =
    let a = c.args in
    omega (arith, kept c.requires c.starts-next.ensures, kept_room a.t a.ints.now a.s a.floats.now c.requires)

pub lay-requires : goal.lay-requires
lay-requires c =
    let a = c.args in
    let i = c.loop-k.invariant in
    let h = c.loop-k-test.true in
    let e = seen a.ints.now c.loop-k.k c.in-Some.b c.band.ensures (held_of (search rules)) c.in-Some.is in (
      c.requires.columns,
      h,
      omega (arith, kept c.requires c.starts-next.ensures, kept_room a.t a.ints.now a.s a.floats.now c.requires, place_kept i.gates c.in-Some.b e.1 h e.0, i.long),
    )

pub overflow_add-next : goal.overflow_add-next
overflow_add-next c =
    let a = c.args in
    let e = seen a.ints.now c.loop-k.k c.in-Some.b c.band.ensures (held_of (search rules)) c.in-Some.is in
    omega (
      arith,
      place_kept c.loop-k.invariant.gates c.in-Some.b e.1 c.loop-k-test.true e.0,
      kept_room a.t a.ints.now a.s a.floats.now c.requires,
    )

pub loop-k-preserved : goal.loop-k-preserved
loop-k-preserved c =
    let a = c.args in
    let i = c.loop-k.invariant in
    let h = c.loop-k-test.true in
    let r = kept_room a.t a.ints.now a.s a.floats.now c.requires in
    let f = figure_in a.t a.ints.now c.loop-k.k in
    elim c.match-band.branch [
      | in-Some w ↦
          let e = seen a.ints.now c.loop-k.k w.in-Some.b c.band.ensures (held_of (search rules)) w.in-Some.is in
          let n = get_or c.loop-k.next w.in-Some.b 0 in
          moved
          (w.floats-is ∙ w.lay.ensures ∙ ap (λ (m : ℕ). set (set c.loop-k.floats n (gate32 f)) (m + 1 + n) (square32 f)) (kept c.requires c.starts-next.ensures)) w.next-is
          (scatter_hit i h w.in-Some.b e.1 e.0 (omega (arith, r)) refl refl)
      | in_default w ↦ moved w.floats-is w.next-is
          (scatter_miss i h (unseen a.ints.now c.loop-k.k c.band.ensures (held_of (search rules)) w.in_default.is))
    ]

pub returns : goal.returns
returns c = scatter_end c.loop-k.invariant c.loop-k-test.false
