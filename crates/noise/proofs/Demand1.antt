-- Demand 1 at the noise call. Assumes nothing.
use mathlib.Core.Path.{◌≡◌, refl, sym, ap, subst}
use mathlib.Core.Bool.{Bool, true, false, cond}
use mathlib.Core.Logic.{◌↔◌, inl, inr}
use mathlib.Core.List.{List}
use Prim.Native.Nat.{ℕ, suc, ◌≤◌}
use native.Mathlib.Omega.{arith}
use lib.ListN.{length}
use Rattle.ieee.proofs.Naturals.{le_or_lt}
use Rattle.limits.specs.Limits.{too_large, other_length, too_small}
use Rattle.window.specs.declared.WindowStats.{WindowStats}
use Rattle.answer.specs.declared.Answer.{Answer}
use Rattle.noise.specs.Refusals.{first_of, refusal_of}
use Rattle.noise.specs.Call.{refused, measured}
use Rattle.noise.specs.Demand1.{deciding, Taken, Demand1, Meets, NoiseMeets}
use Rattle.noise.proofs.Causes.{refusal_most}
use Rattle.noise.proofs.Numbers.{Ends, one_of, measured_ends}
use Rattle.noise.proofs.Leaving.{noise_refused, noise_measured}

-- the first cause as the number of a refusal, 0 for none
record First (large other small short : Bool) (r : ℕ) : Type 0 where
  none : (r ≡ 0) ↔ Taken large other small short
  one : (r ≡ 1) ↔ (large ≡ true)
  two : (r ≡ 2) ↔ ((large ≡ false) × (other ≡ true))
  three : (r ≡ 3) ↔ ((large ≡ false) × (other ≡ false) × (small ≡ true))
  four : (r ≡ 4) ↔ ((large ≡ false) × (other ≡ false) × (small ≡ false) × (short ≡ true))

never : true ≡ false → ⊥
never e = let q : ◌≡◌ {A = ℕ} 1 0 = ap (λ (b : Bool). cond b 1 0) e in omega arith

neither : {P Q : Type 0} → (P → ⊥) → (Q → ⊥) → P ↔ Q
neither p q = (λ x. absurd (p x), λ y. absurd (q y))

first : (large other small short : Bool) → First large other small short (first_of (cond large 1 (cond other 2 0)) small short)
first true other small short = record {
  none = neither (λ e. omega arith) (λ p. never p.0);
  one = (λ _. refl, λ _. refl);
  two = neither (λ e. omega arith) (λ p. never p.0);
  three = neither (λ e. omega arith) (λ p. never p.0);
  four = neither (λ e. omega arith) (λ p. never p.0);
}
first false true small short = record {
  none = neither (λ e. omega arith) (λ p. never p.1);
  one = neither (λ e. omega arith) (λ p. never (sym p));
  two = (λ _. (refl, refl), λ _. refl);
  three = neither (λ e. omega arith) (λ p. never p.1);
  four = neither (λ e. omega arith) (λ p. never p.1);
}
first false false true short = record {
  none = neither (λ e. omega arith) (λ p. never p.2);
  one = neither (λ e. omega arith) (λ p. never (sym p));
  two = neither (λ e. omega arith) (λ p. never (sym p.1));
  three = (λ _. (refl, refl, refl), λ _. refl);
  four = neither (λ e. omega arith) (λ p. never p.2);
}
first false false false true = record {
  none = neither (λ e. omega arith) (λ p. never p.3);
  one = neither (λ e. omega arith) (λ p. never (sym p));
  two = neither (λ e. omega arith) (λ p. never (sym p.1));
  three = neither (λ e. omega arith) (λ p. never (sym p.2));
  four = (λ _. (refl, refl, refl, refl), λ _. refl);
}
first false false false false = record {
  none = (λ _. (refl, refl, refl, refl), λ _. refl);
  one = neither (λ e. omega arith) (λ p. never (sym p));
  two = neither (λ e. omega arith) (λ p. never (sym p.1));
  three = neither (λ e. omega arith) (λ p. never (sym p.2));
  four = neither (λ e. omega arith) (λ p. never (sym p.3));
}

module _ {large other small short : Bool} (fs : List WindowStats) where
  -- a refused call
  refusing : (r : ℕ) → First large other small short r → (r ≡ 0 → ⊥) → r ≤ 4 → Demand1 large other small short fs (refused r)
  refusing r c z m =
      record {
        most = omega arith;
        one = c.one;
        two = c.two;
        three = c.three;
        four = c.four;
        zeros = λ _ _. refl;
        five = (λ e. absurd (omega arith), λ e. absurd (z (c.none.1 e.0)));
        six = (λ e. absurd (omega arith), λ e. absurd (z (c.none.1 e.0)));
        seven = (λ e. absurd (omega arith), λ e. absurd (z (c.none.1 e.0)));
        figure = (λ e. absurd (z e), λ e. absurd (z (c.none.1 e.0)));
        unless = λ _. (refl, refl);
      }

  -- a call that measures
  measuring : (a : Answer) → First large other small short 0 → Ends fs a → Demand1 large other small short fs a
  measuring a c d =
      record {
        most = one_of d.exactly (λ n. n ≤ 7) (omega arith) (omega arith) (omega arith) (omega arith);
        one = neither (other_than 1 (omega arith) (omega arith)) (λ p. unequal 0 (c.one.1 p));
        two = neither (other_than 2 (omega arith) (omega arith)) (λ p. unequal 1 (c.two.1 p));
        three = neither (other_than 3 (omega arith) (omega arith)) (λ p. unequal 2 (c.three.1 p));
        four = neither (other_than 4 (omega arith) (omega arith)) (λ p. unequal 3 (c.four.1 p));
        zeros = λ l m. absurd (other_than a.number l m refl);
        five = (λ e. (taken, d.exactly.five.0 e), λ e. d.exactly.five.1 e.1);
        six = (λ e. let k = d.exactly.six.0 e in (taken, k.0, k.1), λ e. d.exactly.six.1 (e.1, e.2));
        seven = (λ e. let k = d.exactly.seven.0 e in (taken, k.0, k.1, k.2), λ e. d.exactly.seven.1 (e.1, e.2, e.3));
        figure = (λ e. let k = d.exactly.zero.0 e in (taken, k.0, k.1, k.2), λ e. d.exactly.zero.1 (e.1, e.2, e.3));
        unless = d.unless;
      }
    where
      taken : Taken large other small short
      taken = c.none.0 refl

      unequal : (n : ℕ) → 0 ≡ suc n → ⊥
      unequal n e = omega arith

      other_than : (n : ℕ) → 1 ≤ n → n ≤ 4 → a.number ≡ n → ⊥
      other_than n l m e = one_of d.exactly (λ k. k ≡ n → ⊥) (λ g. omega arith) (λ g. omega arith) (λ g. omega arith) (λ g. omega arith) e

pub demand1 : (img : List ℕ) (w h : ℕ) (short : Bool) → NoiseMeets img w h short
unfolding refusal_of
demand1 img w h short = elim (le_or_lt 1 r) [
  | inl k ↦ let no : r ≡ 0 → ⊥ = λ z. omega arith in
      subst (Meets img w h short) (sym (noise_refused img w h short no)) (refusing (deciding img w h) r cause no (refusal_most (length img) w h short))
  | inr k ↦ let z : r ≡ 0 = omega arith in
      subst (Meets img w h short) (sym (noise_measured img w h short z))
      (measuring (deciding img w h) (measured img w h) (subst (First (too_large w h) (other_length (length img) w h) (too_small w h) short) z cause) (measured_ends img w h))
]
  where
    r : ℕ
    r = refusal_of (length img) w h short

    cause : First (too_large w h) (other_length (length img) w h) (too_small w h) short r
    cause = first (too_large w h) (other_length (length img) w h) (too_small w h) short
