-- A number's reason is found among all, and of a number that no reason has none is.
use Rattle.std.proofs.Common.{◌≡◌, refl, ap, ℕ, List, [], ◌∷◌, rules}
use borrow.Author.Tests.{ne_eqb}
use Rattle.std.specs.Prelude.{◌==◌, None}
use Rattle.std.specs.List.{find}
use Rattle.numbers.specs.declared.Number.{Number}
use Rattle.numbers.specs.Numbers.{number_of, all}
use Rattle.reasons.specs.Reasons.{sentence_of, reason_at, told_by, reason_of}

pub found : (n : ℕ) (why : Number) → number_of why ≡ n → reason_of n ≡ sentence_of why
unfolding reason_of reason_at
found n why e = search rules

module _ (n : ℕ) (none : (why : Number) → number_of why ≡ n → ⊥) where
  missing_in : (l : List Number) → find (λ why. number_of why == n) l ≡ None
  missing_in [] = refl
  missing_in (why ∷ l) = rw (ne_eqb (number_of why) n (none why)) (missing_in l)

  pub missing : reason_of n ≡ told_by n None
  unfolding reason_of reason_at
  missing = ap (told_by n) (missing_in all)
