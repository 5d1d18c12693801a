-- What a refused call leaves, and what one that measures does.
use mathlib.Core.Path.{◌≡◌, sym, ap, ◌∙◌}
use mathlib.Core.Bool.{Bool, cond}
use mathlib.Core.List.{List}
use Prim.Native.Nat.{ℕ}
use lib.ListN.{length}
use lib.IntN.{ℤ}
use lib.Ieee.{Float}
use borrow.Author.Tests.{eq-eqb, ne_eqb}
use Rattle.std.specs.Prelude.{Result, Ok, Err}
use Rattle.numbers.specs.declared.Number.{Number}
use Rattle.numbers.specs.Numbers.{number_of, number_in}
use Rattle.grid.specs.Needed.{needed_of}
use Rattle.answer.specs.declared.Answer.{Answer}
use Rattle.noise.specs.Refusals.{short_of, refusal_of}
use Rattle.noise.specs.Call.{refused, measured, noise_of, ran, cleared_ints, cleared_floats, left_ints, left_floats}
use Rattle.noise.specs.Steps.{verdict_of, verdict_number, Ready}
use Rattle.noise.proofs.Causes.{accepted, some_number, verdict_windows}
use Rattle.noise.proofs.Numbers.{measured_ran, refusal_stays}

-- ---- by the number of a refusal

module _ (img : List ℕ) (w h : ℕ) (short : Bool) where
  abbrev number : ℕ
  number = refusal_of (length img) w h short

  pub noise_refused : (number ≡ 0 → ⊥) → noise_of img w h short ≡ refused number
  unfolding noise_of
  noise_refused n = ap (λ (b : Bool). cond b (measured img w h) (refused number)) (ne_eqb number 0 n)

  pub noise_measured : number ≡ 0 → noise_of img w h short ≡ measured img w h
  unfolding noise_of
  noise_measured z = ap (λ (b : Bool). cond b (measured img w h) (refused number)) (eq-eqb number 0 z)

  -- what a call with such an answer leaves
  module _ (a : Answer) where
    pub all_stays : {A : Type 0} (new old : A) → a ≡ refused number → (number ≡ 0 → ⊥) → old ≡ cond (ran a.number) new old
    all_stays {A} new old e n = sym (ap (λ (x : Answer). cond (ran x.number) new old) e ∙ ap (λ (b : Bool). cond b new old) (refusal_stays (length img) w h short n))

    pub all_changes : {A : Type 0} (new old : A) → a ≡ measured img w h → new ≡ cond (ran a.number) new old
    all_changes {A} new old e = sym (ap (λ (x : Answer). cond (ran x.number) new old) e ∙ ap (λ (b : Bool). cond b new old) (measured_ran img w h))

-- ---- by the verdict on its arguments

module _ (img : List ℕ) (w h : ℕ) (ints : List ℤ) (floats : List Float) (v : Result ℕ Number)
    (is : v ≡ verdict_of (length img) w h (length ints) (length floats)) where
  abbrev short : Bool
  short = short_of w h (length ints) (length floats)

  pub number_is : number_in v ≡ refusal_of (length img) w h short
  number_is = ap (λ (x : Result ℕ Number). number_in x) is ∙ verdict_number (length img) w h (length ints) (length floats)

  -- the three parts of the contract
  abbrev Parts : Answer → List ℤ → List Float → Type 0
  Parts a i f = (a ≡ noise_of img w h short) × (i ≡ left_ints a.number w h ints) × (f ≡ left_floats a.number w h floats)

  module _ (why : Number) (e : v ≡ Err why) where
    refused_is : number_of why ≡ refusal_of (length img) w h short
    refused_is = sym (ap (λ (x : Result ℕ Number). number_in x) e) ∙ number_is

    pub leaves_all : (a : Answer) → a ≡ refused (number_of why) → Parts a ints floats
    leaves_all a p =
        let no : refusal_of (length img) w h short ≡ 0 → ⊥ = λ z. some_number why (refused_is ∙ z) in
        let same = p ∙ ap refused refused_is in
        (same ∙ sym (noise_refused img w h short no), all_stays img w h short a (cleared_ints (needed_of w h) ints) ints same no, all_stays img w h short a (cleared_floats (needed_of w h) floats) floats same no)

  module _ (m : ℕ) (e : v ≡ Ok m) where
    none : refusal_of (length img) w h short ≡ 0
    none = sym number_is ∙ ap (λ (x : Result ℕ Number). number_in x) e

    pub windows_is : m ≡ needed_of w h
    windows_is = verdict_windows (length img) w h (length ints) (length floats) m (sym is ∙ e)

    pub ready : Ready img w h m ints floats
    ready = accepted img w h ints floats m windows_is none

    pub clears : (a : Answer) (i : List ℤ) (f : List Float) → a ≡ measured img w h → i ≡ cleared_ints m ints → f ≡ cleared_floats m floats → Parts a i f
    clears a i f p q r = (
      p ∙ sym (noise_measured img w h short none),
      q ∙ ap (λ (n : ℕ). cleared_ints n ints) windows_is ∙ all_changes img w h short a (cleared_ints (needed_of w h) ints) ints p,
      r ∙ ap (λ (n : ℕ). cleared_floats n floats) windows_is ∙ all_changes img w h short a (cleared_floats (needed_of w h) floats) floats p,
    )
