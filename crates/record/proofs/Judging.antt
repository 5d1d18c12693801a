-- The rule as a test is the rule in words.
use mathlib.Core.Path.{◌≡◌, refl, sym, ◌∙◌}
use mathlib.Core.Bool.{Bool, true, false, cond, not, ◌&&◌, ◌||◌, true≢false, false≢true}
use mathlib.Core.Logic.{◌↔◌, ◌⊎◌, inl, inr}
use Prim.Native.Nat.{ℕ, ◌+◌, ◌≤◌}
use lib.Dec.{leb, eqb}
use borrow.Author.Tests.{not-true, leb-true, le-leb, eq-eqb, eqb-true}
use Rattle.laws.proofs.Refusing.{and, and_left, and_right}
use Rattle.limits.specs.Limits.{too_large, too_small}
use Rattle.grid.specs.Grid.{total_of}
use Rattle.grid.specs.Needed.{first_w, second_w}
use Rattle.grid.proofs.Memory.{sides_taken}
use Rattle.record.specs.declared.Record.{Record}
use Rattle.record.specs.Rule.{band_sum, thousand_bits, AnswerStored, Allowed, stored_answer, sigma_taken, counts_taken, allowed}

-- ---- the parts

stored_is : (a : ℕ) → (stored_answer a ≡ true) ↔ AnswerStored a
unfolding stored_answer
stored_is a = (λ e. by (eqb a 0) (eqb a 5) (eqb a 6) (eqb a 7) refl refl refl refl e, back)
  where
    by : (p q r s : Bool) → eqb a 0 ≡ p → eqb a 5 ≡ q → eqb a 6 ≡ r → eqb a 7 ≡ s → (p || q || r || s) ≡ true → AnswerStored a
    by true q r s e f g i h = inl (eqb-true a 0 e)
    by false true r s e f g i h = inr (inl (eqb-true a 5 f))
    by false false true s e f g i h = inr (inr (inl (eqb-true a 6 g)))
    by false false false true e f g i h = inr (inr (inr (eqb-true a 7 i)))
    by false false false false e f g i h = absurd (false≢true h)

    back : AnswerStored a → (eqb a 0 || eqb a 5 || eqb a 6 || eqb a 7) ≡ true
    back (inl e) = rw e refl
    back (inr (inl e)) = rw e refl
    back (inr (inr (inl e))) = rw e refl
    back (inr (inr (inr e))) = rw e refl

-- what the rule says of sigma
abbrev SigmaIs : ℕ → ℕ → ℕ → Type 0
SigmaIs a bits kept = (a ≡ 0 → (bits ≤ thousand_bits) × (512 ≤ kept)) × ((a ≡ 0 → ⊥) → bits ≡ 0)

sigma_is : (a bits kept : ℕ) → (sigma_taken a bits kept ≡ true) ↔ SigmaIs a bits kept
unfolding sigma_taken
sigma_is a bits kept = (λ e. there (eqb a 0) refl e, λ s. back s (eqb a 0) refl)
  where
    there : (b : Bool) → eqb a 0 ≡ b → cond b (leb bits thousand_bits && leb 512 kept) (eqb bits 0) ≡ true → SigmaIs a bits kept
    there true q e = (
      λ _. (leb-true bits thousand_bits (and_left _ (leb 512 kept) e), leb-true 512 kept (and_right (leb bits thousand_bits) _ e)),
      λ n. absurd (n (eqb-true a 0 q)),
    )
    there false q e = (λ z. absurd (true≢false (sym (eq-eqb a 0 z) ∙ q)), λ _. eqb-true bits 0 e)

    back : SigmaIs a bits kept → (b : Bool) → eqb a 0 ≡ b → cond b (leb bits thousand_bits && leb 512 kept) (eqb bits 0) ≡ true
    back s true q = let k = s.0 (eqb-true a 0 q) in and (le-leb bits thousand_bits k.0) (le-leb 512 kept k.1)
    back s false q = eq-eqb bits 0 (s.1 (λ z. absurd (true≢false (sym (eq-eqb a 0 z) ∙ q))))

-- n is T of one of the two passes
abbrev CountsAre : ℕ → ℕ → ℕ → Type 0
CountsAre w h n = (n ≡ total_of w h first_w) ⊎ (n ≡ total_of w h second_w)

one_of_two : (n a b : ℕ) → ((eqb n a || eqb n b) ≡ true) ↔ ((n ≡ a) ⊎ (n ≡ b))
one_of_two n a b = (λ e. there (eqb n a) (eqb n b) refl refl e, back)
  where
    there : (p q : Bool) → eqb n a ≡ p → eqb n b ≡ q → (p || q) ≡ true → (n ≡ a) ⊎ (n ≡ b)
    there true q e f h = inl (eqb-true n a e)
    there false true e f h = inr (eqb-true n b f)
    there false false e f h = absurd (false≢true h)

    back : (n ≡ a) ⊎ (n ≡ b) → (eqb n a || eqb n b) ≡ true
    back (inl e) = rw (eq-eqb n a e) refl
    back (inr e) = second (eqb n a) (eqb n b) (eq-eqb n b e)
      where
        second : (p q : Bool) → q ≡ true → (p || q) ≡ true
        second true q e = refl
        second false q e = e

counts_are : (w h n : ℕ) → (counts_taken w h n ≡ true) ↔ CountsAre w h n
unfolding counts_taken
counts_are w h n = one_of_two n (total_of w h first_w) (total_of w h second_w)

-- ---- the whole

pub allowed_iff : (r : Record) → (allowed r ≡ true) ↔ Allowed r
unfolding allowed
allowed_iff r = (there, back)
  where
    large : Bool
    large = too_large r.width r.height

    small : Bool
    small = too_small r.width r.height

    sigma : Bool
    sigma = sigma_taken r.answer r.sigma (band_sum r)

    counts : Bool
    counts = counts_taken r.width r.height (band_sum r + r.rail)

    there : (not large && (not small && (stored_answer r.answer && (sigma && counts)))) ≡ true → Allowed r
    there e =
        let a = and_right (not large) _ e in
        let b = and_right (not small) _ a in
        let c = and_right (stored_answer r.answer) _ b in
        let s = (sigma_is r.answer r.sigma (band_sum r)).0 (and_left sigma counts c) in
        record {
          sides = (sides_taken r.width r.height).1 (not-true large (and_left (not large) _ e), not-true small (and_left (not small) _ a));
          answer = (stored_is r.answer).0 (and_left (stored_answer r.answer) _ b);
          figure = s.0;
          no_figure = s.1;
          counts = (counts_are r.width r.height (band_sum r + r.rail)).0 (and_right sigma counts c);
        }

    back : Allowed r → (not large && (not small && (stored_answer r.answer && (sigma && counts)))) ≡ true
    back a =
        let s = (sides_taken r.width r.height).0 a.sides in
        rw (
          s.0,
          s.1,
          (stored_is r.answer).1 a.answer,
          (sigma_is r.answer r.sigma (band_sum r)).1 (a.figure, a.no_figure),
          (counts_are r.width r.height (band_sum r + r.rail)).1 a.counts,
        ) refl
