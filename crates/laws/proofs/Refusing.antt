-- Tests joined; numbers that refuse, and when each of them comes. Assumes nothing.
use mathlib.Core.Path.{◌≡◌, refl, ap, ◌∙◌}
use mathlib.Core.Bool.{Bool, true, false, cond, not, ◌&&◌, false≢true}
use mathlib.Core.Logic.{◌↔◌}
use Prim.Native.Nat.{ℕ, ◌≤◌, ◌<◌}
use borrow.Author.Tests.{not-true, not-false, lt-ltb, le-ltb, ltb-true, ltb-false}
use lib.Dec.{ltb}

pub and : {a b p q : Bool} → a ≡ p → b ≡ q → a && b ≡ p && q
and e f = cc

pub and_left : (a b : Bool) → a && b ≡ true → a ≡ true
and_left true b h = refl
and_left false b h = h

pub and_right : (a b : Bool) → a && b ≡ true → b ≡ true
and_right true b h = h
and_right false b h = absurd (false≢true h)

-- ---- `cond a p r` is the number p of a cause a, or else r: which it is, and exactly when

-- what a test says where it holds, and where it fails
pub record Says (a : Bool) (Yes No : Type 0) : Type 0 where
  pub yes : (a ≡ true) ↔ Yes
  pub no : (a ≡ false) ↔ No

pub plainly : (a : Bool) → Says a (a ≡ true) (a ≡ false)
plainly a = record { yes = (λ h. h, λ h. h); no = (λ h. h, λ h. h) }

pub unless : (a : Bool) → Says (not a) (a ≡ false) (a ≡ true)
unless a = record { yes = (λ h. not-true a h, λ h. ap not h); no = (λ h. not-false a h, λ h. ap not h) }

pub above : (m n : ℕ) → Says (ltb m n) (m < n) (n ≤ m)
above m n = record { yes = (ltb-true m n, lt-ltb m n); no = (ltb-false m n, le-ltb m n) }

module _ {a : Bool} {Yes No : Type 0} (s : Says a Yes No) {p r : ℕ} where
  -- the cause's own number, which doesn't come otherwise
  pub its_own : (r ≡ p → ⊥) → (cond a p r ≡ p) ↔ Yes
  its_own h = (λ e. s.yes.0 (holds a e), λ y. ap (λ (b : Bool). cond b p r) (s.yes.1 y))
    where
      holds : (b : Bool) → cond b p r ≡ p → b ≡ true
      holds true e = refl
      holds false e = absurd (h e)

  -- what comes last comes where it doesn't apply
  pub otherwise : (p ≡ r → ⊥) → (cond a p r ≡ r) ↔ No
  otherwise h = (λ e. s.no.0 (fails a e), λ n. ap (λ (b : Bool). cond b p r) (s.no.1 n))
    where
      fails : (b : Bool) → cond b p r ≡ r → b ≡ false
      fails true e = absurd (h e)
      fails false e = refl

  -- another number comes where the cause doesn't apply
  pub another : {k : ℕ} {X : Type 0} → (p ≡ k → ⊥) → (r ≡ k) ↔ X → (cond a p r ≡ k) ↔ (No × X)
  another {k} h x = (λ e. (s.no.0 (fails a e), x.0 (rest a e)), λ q. ap (λ (b : Bool). cond b p r) (s.no.1 q.0) ∙ x.1 q.1)
    where
      fails : (b : Bool) → cond b p r ≡ k → b ≡ false
      fails true e = absurd (h e)
      fails false e = refl

      rest : (b : Bool) → cond b p r ≡ k → r ≡ k
      rest true e = absurd (h e)
      rest false e = e

-- a number that is neither doesn't come
pub neither : (a : Bool) {p r k : ℕ} → (p ≡ k → ⊥) → (r ≡ k → ⊥) → cond a p r ≡ k → ⊥
neither true h g = h
neither false h g = g
