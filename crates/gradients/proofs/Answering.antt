-- Each call's number is that of the first cause that applies, and a refusal changes nothing. Assumes nothing.
use mathlib.Core.Path.{◌≡◌, refl, ap, ◌∙◌, subst}
use mathlib.Core.Bool.{Bool, true, false, cond, not}
use mathlib.Core.List.{List, [], ◌∷◌}
use mathlib.Core.Logic.{◌↔◌, inl, inr}
use Prim.Native.Nat.{ℕ, ◌<◌}
use native.Mathlib.Omega.{arith}
use lib.Dec.{ltb}
use lib.IntN.{ℤ}
use lib.Ieee.{Float}
use Rattle.std.specs.Prelude.{Result, Ok, Err}
use Rattle.numbers.specs.declared.Number.{Number}
use Rattle.numbers.specs.declared.Number.TheVariants.{Far, Support, NotFinite, FloatRange, Outside}
use Rattle.numbers.specs.Numbers.{number_in}
use Rattle.laws.proofs.Choice.{cond_both}
use Rattle.limits.specs.Limits.{far_place}
use Rattle.refine.specs.Numbers.{OneOf}
use Rattle.refine.specs.Covariance.{zeros, all_finite, judged, figures}
use Rattle.refine.specs.declared.PositionCovariance.{PositionCovariance}
use Rattle.refine.proofs.Numbers.{not_0}
use Rattle.laws.proofs.Refusing.{Says, plainly, unless, above, its_own, otherwise, another, neither}
use Rattle.support.specs.Support.{after_state, state_judged}
use Rattle.gradients.specs.declared.PixelGradients.{PixelGradients}
use Rattle.gradients.specs.Gradients.{handed, handed_number, handed_state, cleared_state, reset_of, in_support, cell, both_finite, place_of, added, add_of, support_gram, covariance_of}
use Rattle.gradients.specs.Answers.{Taken, ResetAnswers, AddAnswers, CovarianceAnswers}

-- what is handed back
module _ {A : Type 0} (old : PixelGradients) (new : A → PixelGradients) where
  same_number : (r : Result A Number) → number_in r ≡ handed_number (handed r old new)
  same_number (Ok a) = refl
  same_number (Err why) = refl

  old_back : (r : Result A Number) → (handed_number (handed r old new) ≡ 0 → ⊥) → handed_state (handed r old new) ≡ old
  old_back (Ok a) h = absurd (h refl)
  old_back (Err why) h = refl

  new_back : (r : Result A Number) → handed_number (handed r old new) ≡ 0 → {n : PixelGradients} → ((a : A) → r ≡ Ok a → new a ≡ n) → handed_state (handed r old new) ≡ n
  new_back (Ok a) h g = g a refl
  new_back (Err why) h g = absurd (not_0 why h)

-- ---- numbers, cause by cause

-- 8, 10, or else n
abbrev after_number : List ℤ → ℕ → ℕ → ℕ
after_number o side n = cond (far_place o) 8 (cond (ltb 32 side) 10 n)

after_is : {A : Type 0} (o : List ℤ) (side : ℕ) (next : Result A Number) → after_number o side (number_in next) ≡ number_in (after_state o side next)
unfolding after_state
after_is {A} o side next = by (far_place o) (ltb 32 side)
  where
    by : (f l : Bool) → cond f 8 (cond l 10 (number_in next)) ≡ number_in (cond f (Err Far) (cond l (Err Support) next))
    by true l = refl
    by false true = refl
    by false false = refl

pub reset_answers : (s : PixelGradients) (o : List ℤ) (side : ℕ) → ResetAnswers s o side (reset_of s o side)
unfolding reset_of
reset_answers s o side = record {
  is_8 = turn 8 (its_own near (neither (ltb 32 side) (λ q. omega arith) (λ q. omega arith)));
  is_10 = turn 10 (another near (λ q. omega arith) (its_own (above 32 side) (λ q. omega arith)));
  is_0 = turn 0 (another near (λ q. omega arith) (otherwise (above 32 side) (λ q. omega arith)));
  no_other = subst (OneOf all) e (cond_both (OneOf all) (far_place o) 8 _ (inl refl) (cond_both (OneOf all) (ltb 32 side) 10 0 (inr (inl refl)) (inr (inr (inl refl)))));
  refused = old_back s new (state_judged o side);
  done = λ h. new_back s new (state_judged o side) h (λ a q. refl);
}
  where
    near : Says (far_place o) (far_place o ≡ true) (far_place o ≡ false)
    near = plainly (far_place o)

    all : List ℕ
    all = 8 ∷ 10 ∷ 0 ∷ []

    new : Unit {0} → PixelGradients
    new t = cleared_state o side

    e : after_number o side 0 ≡ handed_number (reset_of s o side)
    e = after_is o side (Ok tt) ∙ same_number s new (state_judged o side)

    turn : (k : ℕ) {X : Type 0} → (after_number o side 0 ≡ k) ↔ X → (handed_number (reset_of s o side) ≡ k) ↔ X
    turn k {X} t = subst (λ (m : ℕ). (m ≡ k) ↔ X) e t

-- the number of a call that is refused by 8 and 10 of the state, and then otherwise
module _ (s : PixelGradients) (next : ℕ) where
  after_8 : (next ≡ 8 → ⊥) → (after_number s.origin s.side next ≡ 8) ↔ (far_place s.origin ≡ true)
  after_8 h = its_own (plainly (far_place s.origin)) (neither (ltb 32 s.side) (λ q. omega arith) h)

  after_10 : (next ≡ 10 → ⊥) → (after_number s.origin s.side next ≡ 10) ↔ ((far_place s.origin ≡ false) × (32 < s.side))
  after_10 h = another (plainly (far_place s.origin)) (λ q. omega arith) (its_own (above 32 s.side) h)

  after : {k : ℕ} {X : Type 0} → (8 ≡ k → ⊥) → (10 ≡ k → ⊥) → (next ≡ k) ↔ X
      → (after_number s.origin s.side next ≡ k) ↔ (Taken s × X)
  after h g x =
      let t = another (plainly (far_place s.origin)) h (another (above 32 s.side) g x) in
      (λ e. let q = t.0 e in ((q.0, q.1.0), q.1.1), λ q. t.1 (q.0.0, (q.0.1, q.1)))

  after_one_of : (l : List ℕ) → OneOf l 8 → OneOf l 10 → OneOf l next → OneOf l (after_number s.origin s.side next)
  after_one_of l a b d = cond_both (OneOf l) (far_place s.origin) 8 _ a (cond_both (OneOf l) (ltb 32 s.side) 10 next b d)

pub add_answers : (s : PixelGradients) (x y : ℤ) (v : List Float) → AddAnswers s x y v (add_of s x y v)
unfolding add_of place_of
add_answers s x y v = record {
  is_8 = turn 8 (after_8 s next (neither (not a) (λ q. omega arith) (neither (not b) (λ q. omega arith) (λ q. omega arith))));
  is_10 = turn 10 (after_10 s next (neither (not a) (λ q. omega arith) (neither (not b) (λ q. omega arith) (λ q. omega arith))));
  is_12 = turn 12 (after s next (λ q. omega arith) (λ q. omega arith) (its_own (unless a) (neither (not b) (λ q. omega arith) (λ q. omega arith))));
  is_11 = turn 11 (after s next (λ q. omega arith) (λ q. omega arith) (another (unless a) (λ q. omega arith) (its_own (unless b) (λ q. omega arith))));
  is_0 = turn 0 (after s next (λ q. omega arith) (λ q. omega arith) (another (unless a) (λ q. omega arith) (otherwise (unless b) (λ q. omega arith))));
  no_other = subst (OneOf all) e (after_one_of s next all (inl refl) (inr (inl refl))
      (cond_both (OneOf all) (not a) 12 _ (inr (inr (inl refl))) (cond_both (OneOf all) (not b) 11 0 (inr (inr (inr (inl refl)))) (inr (inr (inr (inr (inl refl))))))));
  refused = old_back s new (place_of s x y v);
  done = λ h. new_back s new (place_of s x y v) h (λ k q. ap new (its_cell (far_place s.origin) (ltb 32 s.side) a b k q));
}
  where
    a : Bool
    a = both_finite v

    b : Bool
    b = in_support s x y

    next : ℕ
    next = cond (not a) 12 (cond (not b) 11 0)

    all : List ℕ
    all = 8 ∷ 10 ∷ 12 ∷ 11 ∷ 0 ∷ []

    new : ℕ → PixelGradients
    new k = added s k v

    -- by the two tests
    by : Bool → Bool → Result ℕ Number
    by a b = cond (not a) (Err FloatRange) (cond (not b) (Err Outside) (Ok (cell s x y)))

    next_is : (a b : Bool) → cond (not a) 12 (cond (not b) 11 0) ≡ number_in (by a b)
    next_is true true = refl
    next_is true false = refl
    next_is false b = refl

    its_cell : (f l a b : Bool) (k : ℕ) → cond f (Err Far) (cond l (Err Support) (by a b)) ≡ Ok k → k ≡ cell s x y
    its_cell true l a b k q = cc
    its_cell false true a b k q = cc
    its_cell false false false b k q = cc
    its_cell false false true false k q = cc
    its_cell false false true true k q = cc

    e : after_number s.origin s.side next ≡ handed_number (add_of s x y v)
    e = ap (after_number s.origin s.side) (next_is a b) ∙ after_is s.origin s.side (by a b) ∙ same_number s new (place_of s x y v)

    turn : (k : ℕ) {X : Type 0} → (after_number s.origin s.side next ≡ k) ↔ X → (handed_number (add_of s x y v) ≡ k) ↔ X
    turn k {X} t = subst (λ (m : ℕ). (m ≡ k) ↔ X) e t

-- ---- covariance

-- an answer without a figure has zeros
no_figure_lem : (j : Result PositionCovariance Number) → (number_in j ≡ 0 → ⊥) → figures j ≡ zeros
no_figure_lem (Ok c) h = absurd (h refl)
no_figure_lem (Err why) h = refl

pub covariance_answers : (s : PixelGradients) → CovarianceAnswers s (covariance_of s)
unfolding covariance_of after_state
covariance_answers s = record {
  is_8 = turn 8 (after_8 s next (neither (not b) (λ q. omega arith) (λ q. omega arith)));
  is_10 = turn 10 (after_10 s next (neither (not b) (λ q. omega arith) (λ q. omega arith)));
  is_13 = turn 13 (after s next (λ q. omega arith) (λ q. omega arith) (its_own (unless b) (λ q. omega arith)));
  is_0 = turn 0 (after s next (λ q. omega arith) (λ q. omega arith) (otherwise (unless b) (λ q. omega arith)));
  no_other = subst (OneOf all) e (after_one_of s next all (inl refl) (inr (inl refl)) (cond_both (OneOf all) (not b) 13 0 (inr (inr (inl refl))) (inr (inr (inr (inl refl))))));
  refused = no_figure_lem (covariance_of s);
  done = figures_are (far_place s.origin) (ltb 32 s.side) b;
}
  where
    b : Bool
    b = all_finite (support_gram s)

    next : ℕ
    next = cond (not b) 13 0

    all : List ℕ
    all = 8 ∷ 10 ∷ 13 ∷ 0 ∷ []

    by : Bool → Result PositionCovariance Number
    by b = cond b (Ok (support_gram s)) (Err NotFinite)

    next_is : (b : Bool) → cond (not b) 13 0 ≡ number_in (by b)
    next_is true = refl
    next_is false = refl

    e : after_number s.origin s.side next ≡ number_in (covariance_of s)
    e = ap (after_number s.origin s.side) (next_is b) ∙ after_is s.origin s.side (judged (support_gram s))

    turn : (k : ℕ) {X : Type 0} → (after_number s.origin s.side next ≡ k) ↔ X → (number_in (covariance_of s) ≡ k) ↔ X
    turn k {X} t = subst (λ (m : ℕ). (m ≡ k) ↔ X) e t

    figures_are : (f l b : Bool) → number_in (cond f (Err Far) (cond l (Err Support) (by b))) ≡ 0 → figures (cond f (Err Far) (cond l (Err Support) (by b))) ≡ support_gram s
    figures_are true l b h = absurd (omega arith)
    figures_are false true b h = absurd (omega arith)
    figures_are false false true h = refl
    figures_are false false false h = absurd (omega arith)
