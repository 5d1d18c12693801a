-- What the loops of the rounds keep, for any windows and any number of rounds. Assumes nothing.
use mathlib.Core.Path.{◌≡◌, refl, sym, ap, ◌∙◌, subst}
use mathlib.Core.Bool.{Bool, true, false, ◌||◌}
use Prim.Native.Nat.{ℕ, suc, ◌+◌, ◌-◌, ◌≤◌, ◌<◌}
use native.Mathlib.Omega.{arith}
use lib.Dec.{eqb}
use Rattle.std.specs.declared.ops.ControlFlow.TheVariants.{Break, Continue}
use lib.Ieee.{Float, binary64, sub, mul, le}
use borrow.Author.Tests.{eq-eqb, ne_eqb}
use Rattle.laws.proofs.Choice.{cond_both}
use Rattle.ieee.specs.Order.{magnitude}
use Rattle.sums.specs.declared.Total.{Total}
use Rattle.rounds.specs.Numbers.{settled_fraction}
use Rattle.rounds.specs.Rounds.{next, near, settled_at, Round, round_of, ended, one_round, followed, rounds_from, max_rounds, start_at, settle}
use Rattle.rounds.specs.declared.Settled.{Settled}

-- at most 12
pub max_rounds_is : max_rounds ≡ 12
unfolding max_rounds
max_rounds_is = refl

-- ---- one round

-- the rounds are settled where as many windows are admitted as before, and else by how far the variance moves
module _ (n prev : ℕ) (new var : Float) where
  abbrev moved : Bool
  moved = le (magnitude (sub binary64 new var)) (mul binary64 settled_fraction var)

  pub near_same : n ≡ prev → true ≡ near n prev new var
  unfolding near
  near_same h = sym (ap (λ (x : Bool). x || moved) (eq-eqb n prev h))

  pub near_moved : (n ≡ prev → ⊥) → moved ≡ near n prev new var
  unfolding near
  near_moved h = sym (ap (λ (x : Bool). x || moved) (ne_eqb n prev h))

pub ended_is : (s : Settled) (last : Bool) → ended (round_of s last) ≡ s
ended_is s true = refl
ended_is s false = refl

module _ (k : Total) (s : Settled) where
  abbrev none : Round
  none = Break (settled_at 0 s.var (s.rounds + 1))

  abbrev some : Round
  some = round_of (settled_at k.n (next k) (s.rounds + 1)) (near k.n s.n (next k) s.var)

  -- what holds of a round that admits none, and of one that admits some
  pub round_both : (P : Round → Type 0) → P none → P some → P (one_round k s)
  unfolding one_round
  round_both P x y = cond_both P (eqb k.n 0) none some x y

  -- each round is counted
  pub round_counted : (ended (one_round k s)).rounds ≡ s.rounds + 1
  round_counted =
      round_both (λ (t : Round). (ended t).rounds ≡ s.rounds + 1) refl
      (ap (λ (x : Settled). x.rounds) (ended_is (settled_at k.n (next k) (s.rounds + 1)) (near k.n s.n (next k) s.var)))

-- where one more round follows, it is counted too
pub counted : (k : Total) (s : Settled) {t : Round} {x : Settled} → t ≡ Continue x → t ≡ one_round k s → x.rounds ≡ s.rounds + 1
counted k s l w = ap (λ (r : Round). (ended r).rounds) (sym l ∙ w) ∙ round_counted k s

-- ---- the loop: of N rounds at most, those that ended at s are evaluated and the others still to come

pub record Turning (N : ℕ) (f : Float → Total) (start : Float) (s : Settled) : Type 0 where
  pub low : s.rounds ≤ N
  pub left : rounds_from f (N - s.rounds) s ≡ rounds_from f N (start_at start)

module _ {N : ℕ} {f : Float → Total} {start : Float} {s : Settled} (i : Turning N f start s) (h : s.rounds < N)
    {k : Total} (e : k ≡ f s.var) {t : Round} (w : t ≡ one_round k s) where
  abbrev after : Round → Settled
  after x = followed (rounds_from f (N - (s.rounds + 1))) x

  this_round : after t ≡ rounds_from f N (start_at start)
  this_round =
      ap after (w ∙ ap (λ (x : Total). one_round x s) e) ∙ ap (λ (x : ℕ). rounds_from f x s) (fewer N s.rounds h) ∙ i.left
    where
      fewer : (N r : ℕ) → r < N → suc (N - (r + 1)) ≡ N - r
      fewer N r h = omega arith

  pub turning_last : {x : Settled} → t ≡ Break x → x ≡ rounds_from f N (start_at start)
  turning_last l = ap after (sym l) ∙ this_round

  pub turning_more : {x : Settled} → t ≡ Continue x → Turning N f start x
  turning_more {x} l =
      record {
        low = omega (arith, counted k s l w);
        left = ap (λ (r : ℕ). rounds_from f (N - r) x) (counted k s l w) ∙ ap after (sym l) ∙ this_round;
      }

pub turning_end : {N : ℕ} {f : Float → Total} {start : Float} {s : Settled} → Turning N f start s → N ≤ s.rounds → s ≡ rounds_from f N (start_at start)
turning_end {N} {f} {start} {s} i h = ap (λ (x : ℕ). rounds_from f x s) (none N s.rounds h) ∙ i.left
  where
    none : (N r : ℕ) → N ≤ r → 0 ≡ N - r
    none N r h = omega arith

-- N is the rule's
pub settle_is : (f : Float → Total) (start : Float) {s : Settled} → s ≡ rounds_from f max_rounds (start_at start) → s ≡ settle f start
unfolding settle
settle_is f start e = e

pub under : {r : ℕ} → r < 12 → r < max_rounds
under {r} h = subst (λ (k : ℕ). r < k) (sym max_rounds_is) h

pub used : {r : ℕ} → 12 ≤ r → max_rounds ≤ r
used {r} h = subst (λ (k : ℕ). k ≤ r) (sym max_rounds_is) h
