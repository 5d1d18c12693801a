-- What a call from C leaves: all as it was under a refusal, else the answer's bytes and cleared memory.
use mathlib.Core.Path.{◌≡◌, sym, ap, ◌∙◌}
use mathlib.Core.Bool.{Bool, cond, ◌||◌}
use mathlib.Core.List.{List, ◌++◌}
use Prim.Native.Nat.{ℕ, ◌≤◌, ◌<◌}
use native.Mathlib.Omega.{arith}
use lib.Dec.{ltb}
use lib.ListN.{length, drop}
use lib.IntN.{ℤ}
use lib.Ieee.{Float}
use borrow.Author.Tests.{lt-ltb, le-ltb}
use Rattle.grid.specs.Needed.{needed_of}
use Rattle.answer.specs.declared.Answer.{Answer}
use Rattle.answer.specs.Fields.{answer_bytes}
use Rattle.std.specs.Prelude.{Result, Ok, Err}
use Rattle.numbers.specs.declared.Number.{Number}
use Rattle.numbers.specs.Numbers.{number_of, number_in}
use Rattle.noise.specs.Refusals.{short_of, refusal_of}
use Rattle.noise.specs.Call.{refused, measured, cleared_ints, cleared_floats, left_ints, left_floats}
use Rattle.noise.specs.Steps.{verdict_of}
use Rattle.noise.proofs.Causes.{same_cause, only_cause, some_number}
use Rattle.noise.proofs.Leaving.{number_is, windows_is, noise_refused, noise_measured, all_stays, all_changes}
use Rattle.vuzgari.specs.Noise.{noise_for, left_bytes}

module _ (img : List ℕ) (w h : ℕ) (ints : List ℤ) (floats : List Float) (out : List ℕ) (v : Result ℕ Number)
    (is : v ≡ verdict_of (length img) w h (length ints) (length floats)) where
  abbrev short : Bool
  short = short_of w h (length ints) (length floats)

  -- with the answer slice judged too
  abbrev shorter : Bool
  shorter = short || ltb (length out) 40

  abbrev number : ℕ
  number = refusal_of (length img) w h shorter

  refusal_is : number_in v ≡ refusal_of (length img) w h short
  refusal_is = number_is img w h ints floats v is

  -- the four parts of the contract
  abbrev Parts : ℕ → List ℤ → List Float → List ℕ → Type 0
  Parts n i f o =
      (n ≡ (noise_for img w h ints floats out).number) × (i ≡ left_ints n w h ints) × (f ≡ left_floats n w h floats)
      × (o ≡ left_bytes out (noise_for img w h ints floats out))

  -- by an answer that the call gives
  parts : (a : Answer) {i : List ℤ} {f : List Float} {o : List ℕ} → noise_for img w h ints floats out ≡ a
      → i ≡ left_ints a.number w h ints → f ≡ left_floats a.number w h floats → o ≡ left_bytes out a → Parts a.number i f o
  parts a e p q r = (ap (λ (x : Answer). x.number) (sym e), p, q, r ∙ ap (λ (x : Answer). left_bytes out x) (sym e))

  stays : (k : ℕ) → number ≡ k → (k ≡ 0 → ⊥) → Parts k ints floats out
  stays k e n =
      let no : number ≡ 0 → ⊥ = λ z. n (sym e ∙ z) in
      let same : refused k ≡ refused number = ap refused (sym e) in
      parts (refused k) (noise_refused img w h shorter no ∙ sym same)
      (all_stays img w h shorter (refused k) (cleared_ints (needed_of w h) ints) ints same no)
      (all_stays img w h shorter (refused k) (cleared_floats (needed_of w h) floats) floats same no)
      (all_stays img w h shorter (refused k) (answer_bytes (refused k) ++ drop 40 out) out same no)

  pub refused_all : (why : Number) → v ≡ Err why → Parts (number_of why) ints floats out
  refused_all why e =
      let is = sym (ap (λ (x : Result ℕ Number). number_in x) e) ∙ refusal_is in
      stays (number_of why) (same_cause (length img) w h short (ltb (length out) 40) (λ z. some_number why (is ∙ z)) ∙ sym is) (some_number why)

  module _ (m : ℕ) (e : v ≡ Ok m) where
    none : refusal_of (length img) w h short ≡ 0
    none = sym refusal_is ∙ ap (λ (x : Result ℕ Number). number_in x) e

    left : number ≡ cond (ltb (length out) 40) 4 0
    left = only_cause (length img) w h short (ltb (length out) 40) none

    pub too_short : length out < 40 → Parts 4 ints floats out
    too_short s = stays 4 (left ∙ ap (λ (b : Bool). cond b 4 0) (lt-ltb (length out) 40 s)) (λ z. omega arith)

    pub written : 40 ≤ length out → (a : Answer) {i : List ℤ} {f : List Float} {o : List ℕ} → a ≡ measured img w h → i ≡ cleared_ints m ints
        → f ≡ cleared_floats m floats → o ≡ answer_bytes a ++ drop 40 out → Parts a.number i f o
    written s a p q r t =
        let needed = windows_is img w h ints floats v is m e in
        parts a (noise_measured img w h shorter (left ∙ ap (λ (b : Bool). cond b 4 0) (le-ltb (length out) 40 s)) ∙ sym p)
        (q ∙ ap (λ (n : ℕ). cleared_ints n ints) needed ∙ all_changes img w h shorter a (cleared_ints (needed_of w h) ints) ints p)
        (r ∙ ap (λ (n : ℕ). cleared_floats n floats) needed ∙ all_changes img w h shorter a (cleared_floats (needed_of w h) floats) floats p)
        (t ∙ all_changes img w h shorter a (answer_bytes a ++ drop 40 out) out p)
